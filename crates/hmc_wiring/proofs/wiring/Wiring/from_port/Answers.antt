-- The direction of a port is kept, and no port is numbered above 3.
use Rattle.std.proofs.Common.{◌≤◌, ◌<◌, ◌*◌, ◌∙◌, None, length, sym, ap, subst, arith}
use Rattle.std.specs.Prelude.{slice_index_or, IfSome}
use Rattle.hmc_codes.specs.declared.place.Place.TheVariants as places
use Rattle.hmc_journal.specs.Setup.{Topology, cubes_in, direction_from}
use Rattle.hmc_wiring.proofs.Places.{cube_few, no_port, port_start, some_inside}
use Rattle.hmc_wiring.proofs.wiring.Wiring.from_port.Goals as goal

pub returns-then-port-ge-PORTS-clause-from : goal.returns-then-port-ge-PORTS-clause-from
returns-then-port-ge-PORTS-clause-from c =
    let more : 4 ≤ c.args.port = omega arith in
    no_port _ c.args.cube c.args.port c.self.invariant.laid_out more ∙ ap (λ (t : Topology). direction_from t (places.Port c.args.cube c.args.port)) c.self.view_is

pub overflow_mul-cube : goal.overflow_mul-cube
overflow_mul-cube c =
    let few = cube_few _ c.args.cube c.self.invariant.laid_out (subst (λ (t : Topology). c.args.cube < cubes_in t) (sym c.self.view_is) c.requires) in
    omega (arith, few)

pub overflow_add-cube : goal.overflow_add-cube
overflow_add-cube c =
    let few = cube_few _ c.args.cube c.self.invariant.laid_out (subst (λ (t : Topology). c.args.cube < cubes_in t) (sym c.self.view_is) c.requires) in
    omega (arith, few)

pub returns-clause-there : goal.returns-clause-there
returns-clause-there c =
    let own : Topology = record { cubes = c.self.inside.cubes.items; links = c.self.inside.links.items } in
    let less : c.args.cube < cubes_in own = subst (λ (t : Topology). c.args.cube < cubes_in t) (sym c.self.view_is) c.requires in
    let few = cube_few own c.args.cube c.self.invariant.laid_out less in
    let low : c.args.port < 4 = omega arith in
    let start = port_start own c.self.inside.ports c.args.cube c.args.port c.from.result c.self.invariant.port_starts few low c.from.ensures in
    subst (λ (t : Topology). IfSome (slice_index_or c.self.inside.ports c.from.result None) (λ direction. direction < 2 * length t.links)) c.self.view_is
    (some_inside own (places.Port c.args.cube c.args.port) (slice_index_or c.self.inside.ports c.from.result None) (sym start))
