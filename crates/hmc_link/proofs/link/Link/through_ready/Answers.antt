use Rattle.std.proofs.Common.{◌≡◌, ◌∙◌, sym, subst}
use Rattle.hmc_packet.specs.declared.feed.Feed.TheVariants.{Waiting}
use Rattle.hmc_send.specs.LinkCalls.{may_pass_on, view_in}
use Rattle.hmc_send.specs.declared.toward.Toward.{Toward}
use Rattle.hmc_send.specs.declared.toward.Toward.TheVariants.{Forth, Back}
use Rattle.hmc_link.specs.Held.{LinkHeld}
use Rattle.hmc_ends.specs.Parts.{parts_of}
use Rattle.hmc_link.specs.StandsFor.{LinkStandsFor}
use Rattle.hmc_link.proofs.Joins.{sends-forth, sends-back}
use Rattle.hmc_ends.proofs.Begins.{may-in}
use Rattle.hmc_link.proofs.LinkThroughs.{ready-forth, ready-back}
use Rattle.hmc_link.proofs.link.Link.through_ready.Goals as goal

pub returns-in-Forth-clause-by_list : goal.returns-in-Forth-clause-by_list
returns-in-Forth-clause-by_list g c link past s =
    let old = subst (λ (h : LinkHeld). LinkStandsFor link h past) (sym c.self.view_is) s in
    subst (λ (d : Toward). c.through_ready.result ≡ may_pass_on (view_in link d past Waiting) c.args.flits) (sym c.in-Forth.is) (c.through_ready.ensures link (parts_of link Forth past) old.a ∙ may-in link Forth past c.args.flits)

pub returns-in-Back-clause-by_list : goal.returns-in-Back-clause-by_list
returns-in-Back-clause-by_list g c link past s =
    let old = subst (λ (h : LinkHeld). LinkStandsFor link h past) (sym c.self.view_is) s in
    subst (λ (d : Toward). c.through_ready-in-Back.result ≡ may_pass_on (view_in link d past Waiting) c.args.flits) (sym c.in-Back.is) (c.through_ready-in-Back.ensures link (parts_of link Back past) old.b ∙ may-in link Back past c.args.flits)

pub returns-in-Forth-clause-value : goal.returns-in-Forth-clause-value
returns-in-Forth-clause-value g c = ready-forth c.args.toward c.args.self.now _ c.args.flits c.through_ready.result (sends-forth c.args.toward _ c.args.self.now c.in-Forth.is c.self.view_is) c.self.view_is c.self.invariant c.through_ready.ensures

pub returns-in-Back-clause-value : goal.returns-in-Back-clause-value
returns-in-Back-clause-value g c = ready-back c.args.toward c.args.self.now _ c.args.flits c.through_ready-in-Back.result (sends-back c.args.toward _ c.args.self.now c.in-Back.is c.self.view_is) c.self.view_is c.self.invariant c.through_ready-in-Back.ensures
