-- Whether the direction that starts at a port has room.
use Rattle.std.proofs.Common.{◌≡◌, ◌∙◌, Some, None, sym, subst}
use Rattle.hmc_codes.specs.declared.place.Place.TheVariants as places
use Rattle.hmc_journal.specs.Setup.{direction_from}
use Rattle.hmc_directions.specs.Ends.{EndsHold}
use Rattle.hmc_kept.specs.ByDirection.{HasRoom}
use Rattle.hmc_check.specs.Moving.{IsWayOut}
use Rattle.hmc_check.specs.Past.{PastFields, PastParts, past_of}
use Rattle.hmc_check.proofs.Lifting.{way_some, way_none}
use Rattle.hmc_check.proofs.past.Past.way_out.Goals as goal

pub returns-then-has_room : goal.returns-then-has_room
returns-then-has_room g c =
    let i = c.self.inside in
    let old : PastFields = record { topology = i.wiring; queues = i.queues; cubes = i.plain; slots = g.B.Workbench.slots i.bench; hosts = i.hosts.items; ends = i.ends; piped = i.piped; tally = i.tally; last = i.last } in
    let d = c.in_ok-direction.direction in
    let from : direction_from i.wiring (places.Port c.args.cube c.args.port) ≡ Some d = sym c.from_port.ensures.from ∙ c.in_ok-direction.was in
    subst (λ (v : PastParts _). IsWayOut (past_of g.B.Workbench.slots v) c.args.cube c.args.port (Some d)) c.self.view_is
    (way_some old c.args.cube c.args.port d from (subst (HasRoom EndsHold i.ends d) c.if-has_room.true c.has_room.ensures))

pub returns-else-has_room : goal.returns-else-has_room
returns-else-has_room g c =
    let i = c.self.inside in
    let old : PastFields = record { topology = i.wiring; queues = i.queues; cubes = i.plain; slots = g.B.Workbench.slots i.bench; hosts = i.hosts.items; ends = i.ends; piped = i.piped; tally = i.tally; last = i.last } in
    let d = c.in_ok-direction.direction in
    let from : direction_from i.wiring (places.Port c.args.cube c.args.port) ≡ Some d = sym c.from_port.ensures.from ∙ c.in_ok-direction.was in
    subst (λ (v : PastParts _). IsWayOut (past_of g.B.Workbench.slots v) c.args.cube c.args.port None) c.self.view_is
    (way_none old c.args.cube c.args.port d from (subst (HasRoom EndsHold i.ends d) c.if-has_room.false c.has_room.ensures))
