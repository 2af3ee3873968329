use Rattle.std.proofs.Common.{refl, ◌∙◌, ap}
use Rattle.hmc_link.proofs.Numbers.{numbers-kept}
use Rattle.hmc_send.specs.LinkCalls.{LinkCall}
use Rattle.hmc_send.specs.declared.toward.Toward.{Toward}
use Rattle.hmc_send.specs.declared.toward.Toward.TheVariants.{Forth, Back}
use Rattle.hmc_link.specs.Held.{LinkHeld}
use Rattle.hmc_ends.proofs.Calls.{take-from, due-few}
use Rattle.hmc_link.proofs.Joins.{forth-both, back-both, step-forth, step-back, keep-forth, keep-back}
use Rattle.hmc_link_laws.proofs.CallLists.{other-list, taken-list}
use Rattle.hmc_link.proofs.link.Link.drop_front.Goals as goal

pub drop_front-requires : goal.drop_front-requires
drop_front-requires g c =
    let some = c.self.invariant (ap (λ (h : LinkHeld). h.going) c.self.view_is ∙ c.requires) in
    due-few Forth c.self.inside.a c.self.inside.b some.link some.past (forth-both some.link _ some.past some.stands)

pub drop_front-requires-in-Back : goal.drop_front-requires-in-Back
drop_front-requires-in-Back g c =
    let some = c.self.invariant (ap (λ (h : LinkHeld). h.going) c.self.view_is ∙ c.requires) in
    due-few Back c.self.inside.b c.self.inside.a some.link some.past (back-both some.link _ some.past some.stands)

pub invariant_of-self : goal.invariant_of-self
invariant_of-self g c = keep-forth (LinkCall.take Forth) _ _ (take-from Forth c.self.inside.a c.self.inside.b c.drop_front.new.self _ refl c.drop_front.ensures) (numbers-kept (LinkCall.take Forth) _ _ refl refl refl) c.self.invariant

pub invariant_of-self-in-Back : goal.invariant_of-self-in-Back
invariant_of-self-in-Back g c = keep-back (LinkCall.take Back) _ _ (take-from Back c.self.inside.b c.self.inside.a c.drop_front-in-Back.new.self _ refl c.drop_front-in-Back.ensures) (numbers-kept (LinkCall.take Back) _ _ refl refl refl) c.self.invariant

pub returns-in-Forth-clause-stands : goal.returns-in-Forth-clause-stands
returns-in-Forth-clause-stands g c = step-forth (λ (d : Toward). LinkCall.take d) c.args.toward c.args.self.now _ _ c.in-Forth.is c.self.view_is
    (take-from Forth c.self.inside.a c.self.inside.b c.drop_front.new.self _ refl c.drop_front.ensures)
    (numbers-kept (LinkCall.take Forth) _ _ refl refl refl)

pub returns-in-Back-clause-stands : goal.returns-in-Back-clause-stands
returns-in-Back-clause-stands g c = step-back (λ (d : Toward). LinkCall.take d) c.args.toward c.args.self.now _ _ c.in-Back.is c.self.view_is
    (take-from Back c.self.inside.b c.self.inside.a c.drop_front-in-Back.new.self _ refl c.drop_front-in-Back.ensures)
    (numbers-kept (LinkCall.take Back) _ _ refl refl refl)

pub returns-in-Forth-clause-list : goal.returns-in-Forth-clause-list
returns-in-Forth-clause-list g c link past s = taken-list link past c.args.toward

pub returns-in-Forth-clause-other : goal.returns-in-Forth-clause-other
returns-in-Forth-clause-other g c link past s = other-list link past (LinkCall.take c.args.toward)

pub returns-in-Back-clause-list : goal.returns-in-Back-clause-list
returns-in-Back-clause-list g c link past s = taken-list link past c.args.toward

pub returns-in-Back-clause-other : goal.returns-in-Back-clause-other
returns-in-Back-clause-other g c link past s = other-list link past (LinkCall.take c.args.toward)
