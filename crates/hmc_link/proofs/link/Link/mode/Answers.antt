use Rattle.std.proofs.Common.{◌≡◌, ◌∙◌, ap, subst, sym}
use Rattle.hmc_packet.specs.Landings.{mode}
use Rattle.hmc_send.specs.LinkEntries.{receiver_entries}
use Rattle.hmc_send.specs.declared.toward.Toward.{Toward}
use Rattle.hmc_send.specs.declared.toward.Toward.TheVariants.{Forth, Back}
use Rattle.hmc_link.specs.Held.{LinkHeld, landing_end}
use Rattle.hmc_ends.specs.Parts.{parts_of}
use Rattle.hmc_link.specs.StandsFor.{LinkStandsFor}
use Rattle.hmc_link.proofs.link.Link.mode.Goals as goal

pub returns-in-Forth-clause-value : goal.returns-in-Forth-clause-value
returns-in-Forth-clause-value g c going =
    let some = c.self.invariant (ap (λ (h : LinkHeld). h.going) c.self.view_is ∙ going) in
    let here = c.mode.ensures some.link (parts_of some.link Back some.past) some.stands.b ∙ sym some.stands.b.receiver.mode in
    here ∙ ap (λ (h : LinkHeld). h.b.receiver.mode) c.self.view_is ∙ ap (λ (d : Toward). (landing_end d c.args.self.now).receiver.mode) (sym c.in-Forth.is)

pub returns-in-Back-clause-value : goal.returns-in-Back-clause-value
returns-in-Back-clause-value g c going =
    let some = c.self.invariant (ap (λ (h : LinkHeld). h.going) c.self.view_is ∙ going) in
    let here = c.mode-in-Back.ensures some.link (parts_of some.link Forth some.past) some.stands.a ∙ sym some.stands.a.receiver.mode in
    here ∙ ap (λ (h : LinkHeld). h.a.receiver.mode) c.self.view_is ∙ ap (λ (d : Toward). (landing_end d c.args.self.now).receiver.mode) (sym c.in-Back.is)

pub returns-in-Forth-clause-by_list : goal.returns-in-Forth-clause-by_list
returns-in-Forth-clause-by_list g c link past s =
    let old = subst (λ (h : LinkHeld). LinkStandsFor link h past) (sym c.self.view_is) s in
    subst (λ (d : Toward). c.mode.result ≡ mode (receiver_entries d past)) (sym c.in-Forth.is) (c.mode.ensures link (parts_of link Back past) old.b)

pub returns-in-Back-clause-by_list : goal.returns-in-Back-clause-by_list
returns-in-Back-clause-by_list g c link past s =
    let old = subst (λ (h : LinkHeld). LinkStandsFor link h past) (sym c.self.view_is) s in
    subst (λ (d : Toward). c.mode-in-Back.result ≡ mode (receiver_entries d past)) (sym c.in-Back.is) (c.mode-in-Back.ensures link (parts_of link Forth past) old.a)
