use Rattle.std.proofs.Common.{◌∙◌, ap, subst, sym}
use Rattle.hmc_packet.specs.Landings.{mode, pending}
use Rattle.hmc_send.specs.LinkEntries.{receiver_entries}
use Rattle.hmc_send.specs.declared.toward.Toward.{Toward}
use Rattle.hmc_send.specs.declared.toward.Toward.TheVariants.{Forth, Back}
use Rattle.hmc_link.specs.Held.{LinkHeld}
use Rattle.hmc_ends.specs.End.{flits_seen}
use Rattle.hmc_ends.specs.Parts.{parts_of}
use Rattle.hmc_link.specs.StandsFor.{LinkStandsFor}
use Rattle.hmc_link.proofs.link.Link.through_view.Goals as goal

pub returns-in-Forth : goal.returns-in-Forth
returns-in-Forth g c link past s =
    let old = subst (λ (h : LinkHeld). LinkStandsFor link h past) (sym c.self.view_is) s in
    c.through_view.ensures link (parts_of link Back past) old.b ∙ ap (λ (d : Toward). flits_seen (mode (receiver_entries d past)) (pending (receiver_entries d past))) (sym c.in-Forth.is)

pub returns-in-Back : goal.returns-in-Back
returns-in-Back g c link past s =
    let old = subst (λ (h : LinkHeld). LinkStandsFor link h past) (sym c.self.view_is) s in
    c.through_view-in-Back.ensures link (parts_of link Forth past) old.a ∙ ap (λ (d : Toward). flits_seen (mode (receiver_entries d past)) (pending (receiver_entries d past))) (sym c.in-Back.is)
