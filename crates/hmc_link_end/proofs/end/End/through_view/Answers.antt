use Rattle.std.proofs.Common.{◌∙◌, subst, sym}
use Rattle.hmc_ends.specs.End.{EndFields, flits_seen}
use Rattle.hmc_ends.specs.StandsFor.{EndStandsFor}
use Rattle.hmc_link_end.proofs.end.End.through_view.Goals as goal

pub returns : goal.returns
returns g c link p s0 =
    let s = subst (λ (e : EndFields). EndStandsFor link e p) (sym c.self.view_is) s0 in
    let view = c.view.ensures link.profile p.received s.receiver in
    let gathered = c.gathered.ensures link.profile p.received s.receiver in
    c.flits_seen.ensures ∙ (λ i. flits_seen (view i).mode (gathered i))
