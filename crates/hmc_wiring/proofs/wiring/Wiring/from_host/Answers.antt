-- The direction of a host is kept.
use Rattle.std.proofs.Common.{◌<◌, ◌∙◌, ℕ, None, refl, sym, ap, subst, arith}
use Rattle.std.specs.Prelude.{slice_index_or}
use Rattle.std.specs.Option.{IsSome}
use Rattle.hmc_journal.specs.Setup.{Topology, hosts_in, direction_from}
use Rattle.hmc_codes.specs.declared.place.Place.TheVariants as places
use Rattle.hmc_wiring.proofs.Places.{host_start}
use Rattle.hmc_journal.proofs.DirectionEnds.{starts_there}
use Rattle.hmc_wiring.proofs.wiring.Wiring.from_host.Goals as goal

pub bounds-self-inside-from : goal.bounds-self-inside-from
bounds-self-inside-from c =
    let less = subst (λ (t : Topology). c.args.host < hosts_in t) (sym c.self.view_is) c.requires in
    let start = host_start _ c.self.inside.hosts c.args.host c.self.invariant.laid_out c.self.invariant.host_starts less in
    omega (arith, start.few, c.from.ensures)

pub unwrap-requires : goal.unwrap-requires
unwrap-requires c =
    let less = subst (λ (t : Topology). c.args.host < hosts_in t) (sym c.self.view_is) c.requires in
    let start = host_start _ c.self.inside.hosts c.args.host c.self.invariant.laid_out c.self.invariant.host_starts less in
    subst IsSome (sym (ap (λ (n : ℕ). slice_index_or c.self.inside.hosts n None) c.from.ensures ∙ start.kept)) refl

pub returns-clause-from : goal.returns-clause-from
returns-clause-from c =
    let less = subst (λ (t : Topology). c.args.host < hosts_in t) (sym c.self.view_is) c.requires in
    let start = host_start _ c.self.inside.hosts c.args.host c.self.invariant.laid_out c.self.invariant.host_starts less in
    ap (λ (t : Topology). direction_from t (places.Host c.args.host)) (sym c.self.view_is) ∙ start.from ∙ sym start.kept ∙ ap (λ (n : ℕ). slice_index_or c.self.inside.hosts n None) (sym c.from.ensures) ∙ c.unwrap.ensures

pub returns-clause-there : goal.returns-clause-there
returns-clause-there c = starts_there c.args.self.now (places.Host c.args.host) c.unwrap.result (returns-clause-from c)
