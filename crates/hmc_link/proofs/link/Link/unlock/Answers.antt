use Rattle.std.proofs.Common.{refl}
use Rattle.hmc_link.proofs.Numbers.{numbers-kept}
use Rattle.hmc_send.specs.LinkCalls.{LinkCall}
use Rattle.hmc_send.specs.declared.toward.Toward.{Toward}
use Rattle.hmc_send.specs.declared.toward.Toward.TheVariants.{Forth, Back}
use Rattle.hmc_ends.proofs.Calls.{unlock-steps}
use Rattle.hmc_link.proofs.Joins.{step-forth, step-back, keep-forth, keep-back}
use Rattle.hmc_link_laws.proofs.CallLists.{other-list, unlocked-list}
use Rattle.hmc_link.proofs.link.Link.unlock.Goals as goal

pub invariant_of-self : goal.invariant_of-self
invariant_of-self g c = keep-forth (LinkCall.unlock Forth) _ _ (unlock-steps Forth c.self.inside.a c.self.inside.b c.unlock.new.self c.unlock.ensures) (numbers-kept (LinkCall.unlock Forth) _ _ refl refl refl) c.self.invariant

pub invariant_of-self-in-Back : goal.invariant_of-self-in-Back
invariant_of-self-in-Back g c = keep-back (LinkCall.unlock Back) _ _ (unlock-steps Back c.self.inside.b c.self.inside.a c.unlock-in-Back.new.self c.unlock-in-Back.ensures) (numbers-kept (LinkCall.unlock Back) _ _ refl refl refl) c.self.invariant

pub returns-in-Forth-clause-stands : goal.returns-in-Forth-clause-stands
returns-in-Forth-clause-stands g c = step-forth (λ (d : Toward). LinkCall.unlock d) c.args.toward c.args.self.now _ _ c.in-Forth.is c.self.view_is
    (unlock-steps Forth c.self.inside.a c.self.inside.b c.unlock.new.self c.unlock.ensures)
    (numbers-kept (LinkCall.unlock Forth) _ _ refl refl refl)

pub returns-in-Back-clause-stands : goal.returns-in-Back-clause-stands
returns-in-Back-clause-stands g c = step-back (λ (d : Toward). LinkCall.unlock d) c.args.toward c.args.self.now _ _ c.in-Back.is c.self.view_is
    (unlock-steps Back c.self.inside.b c.self.inside.a c.unlock-in-Back.new.self c.unlock-in-Back.ensures)
    (numbers-kept (LinkCall.unlock Back) _ _ refl refl refl)

pub returns-in-Forth-clause-list : goal.returns-in-Forth-clause-list
returns-in-Forth-clause-list g c link past s = unlocked-list link past c.args.toward

pub returns-in-Forth-clause-other : goal.returns-in-Forth-clause-other
returns-in-Forth-clause-other g c link past s = other-list link past (LinkCall.unlock c.args.toward)

pub returns-in-Back-clause-list : goal.returns-in-Back-clause-list
returns-in-Back-clause-list g c link past s = unlocked-list link past c.args.toward

pub returns-in-Back-clause-other : goal.returns-in-Back-clause-other
returns-in-Back-clause-other g c link past s = other-list link past (LinkCall.unlock c.args.toward)
