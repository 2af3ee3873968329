use Rattle.std.proofs.Common.{◌∙◌, ap, subst, sym, length}
use Rattle.hmc_send.specs.declared.toward.Toward.{Toward}
use Rattle.hmc_link.specs.Held.{LinkHeld}
use Rattle.hmc_ends.specs.List.{handed_list}
use Rattle.hmc_link.specs.StandsFor.{LinkStandsFor}
use Rattle.hmc_link.proofs.link.Link.handed.Goals as goal

pub returns-in-Forth : goal.returns-in-Forth
returns-in-Forth g c link past s =
    let old = subst (λ (h : LinkHeld). LinkStandsFor link h past) (sym c.self.view_is) s in
    old.lengths.forth ∙ ap (λ (d : Toward). length (handed_list link d past)) (sym c.in-Forth.is)

pub returns-in-Back : goal.returns-in-Back
returns-in-Back g c link past s =
    let old = subst (λ (h : LinkHeld). LinkStandsFor link h past) (sym c.self.view_is) s in
    old.lengths.back ∙ ap (λ (d : Toward). length (handed_list link d past)) (sym c.in-Back.is)
