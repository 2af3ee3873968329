-- The front of a port has a way, or is dropped.
use Rattle.std.proofs.Common.{◌≡◌, Some, sym, ap, subst}
use Rattle.hmc_codes.specs.declared.place.Place.TheVariants as places
use Rattle.hmc_entries.specs.declared.entry.Entry.{Entry}
use Rattle.hmc_journal.specs.Links.{direction_to}
use Rattle.hmc_schedule.specs.declared.step.Step.TheVariants as steps
use Rattle.hmc_directions.specs.Ends.{EndsHold}
use Rattle.hmc_kept.specs.ByDirection.{IsFrontAt}
use Rattle.hmc_check.specs.Past.{PastFields, PastParts}
use Rattle.hmc_check.proofs.Holding.{of_parts, some_of}
use Rattle.hmc_check.proofs.Shifting.{ends_in, front_way, shift_none, dropped_takes}
use Rattle.hmc_check.proofs.Spreading.{some_there}
use Rattle.hmc_check.proofs.past.Past.shift_front.Goals as goal

pub front-requires-clause-there : goal.front-requires-clause-there
front-requires-clause-there g c =
    let i = c.self.inside in
    let old : PastFields = record { topology = i.wiring; queues = i.queues; cubes = i.plain; slots = g.B.Workbench.slots i.bench; hosts = i.hosts.items; ends = i.ends; piped = i.piped; tally = i.tally; last = i.last } in
    let some = some_of g.B.Workbench.slots _ c.args.self.now (steps.Shift c.args.cube c.args.port) c.self.view_is c.requires.next in
    let to : direction_to i.wiring (places.Port c.args.cube c.args.port) ≡ Some c.args.direction = subst (λ (v : PastParts _). direction_to v.topology (places.Port c.args.cube c.args.port) ≡ Some c.args.direction) (sym c.self.view_is) c.requires.to in
    ends_in old (steps.Shift c.args.cube c.args.port) c.args.cube c.args.port c.args.direction some to

pub returns-in_default : goal.returns-in_default
returns-in_default g c =
    let i = c.self.inside in
    let old : PastFields = record { topology = i.wiring; queues = i.queues; cubes = i.plain; slots = g.B.Workbench.slots i.bench; hosts = i.hosts.items; ends = i.ends; piped = i.piped; tally = i.tally; last = i.last } in
    let some = some_of g.B.Workbench.slots _ c.args.self.now (steps.Shift c.args.cube c.args.port) c.self.view_is c.requires.next in
    let to : direction_to i.wiring (places.Port c.args.cube c.args.port) ≡ Some c.args.direction = subst (λ (v : PastParts _). direction_to v.topology (places.Port c.args.cube c.args.port) ≡ Some c.args.direction) (sym c.self.view_is) c.requires.to in
    of_parts g.B.Workbench.slots _ c.args.self.now _ (steps.Shift c.args.cube c.args.port) c.self.view_is
    (shift_none old _ c.args.cube c.args.port c.args.direction to (subst (IsFrontAt EndsHold i.ends c.args.direction) c.in_default.is c.front.ensures) (ap (λ (e : Entry). record old { last = e }) c.idle.ensures))

pub goal-requires-clause-cube : goal.goal-requires-clause-cube
goal-requires-clause-cube g c =
    let i = c.self.inside in
    let old : PastFields = record { topology = i.wiring; queues = i.queues; cubes = i.plain; slots = g.B.Workbench.slots i.bench; hosts = i.hosts.items; ends = i.ends; piped = i.piped; tally = i.tally; last = i.last } in
    let some = some_of g.B.Workbench.slots _ c.args.self.now (steps.Shift c.args.cube c.args.port) c.self.view_is c.requires.next in
    (some_there old (steps.Shift c.args.cube c.args.port) some).some_cube

pub goal-requires-clause-way : goal.goal-requires-clause-way
goal-requires-clause-way g c =
    let i = c.self.inside in
    let old : PastFields = record { topology = i.wiring; queues = i.queues; cubes = i.plain; slots = g.B.Workbench.slots i.bench; hosts = i.hosts.items; ends = i.ends; piped = i.piped; tally = i.tally; last = i.last } in
    let some = some_of g.B.Workbench.slots _ c.args.self.now (steps.Shift c.args.cube c.args.port) c.self.view_is c.requires.next in
    let to : direction_to i.wiring (places.Port c.args.cube c.args.port) ≡ Some c.args.direction = subst (λ (v : PastParts _). direction_to v.topology (places.Port c.args.cube c.args.port) ≡ Some c.args.direction) (sym c.self.view_is) c.requires.to in
    let front : IsFrontAt EndsHold i.ends c.args.direction (Some c.in-Some.front) = subst (IsFrontAt EndsHold i.ends c.args.direction) c.in-Some.is c.front.ensures in
    front_way old c.args.cube c.args.port c.args.direction c.in-Some.front some to front

pub take-requires-clause-there : goal.take-requires-clause-there
take-requires-clause-there g c =
    let i = c.self.inside in
    let old : PastFields = record { topology = i.wiring; queues = i.queues; cubes = i.plain; slots = g.B.Workbench.slots i.bench; hosts = i.hosts.items; ends = i.ends; piped = i.piped; tally = i.tally; last = i.last } in
    let some = some_of g.B.Workbench.slots _ c.args.self.now (steps.Shift c.args.cube c.args.port) c.self.view_is c.requires.next in
    let to : direction_to i.wiring (places.Port c.args.cube c.args.port) ≡ Some c.args.direction = subst (λ (v : PastParts _). direction_to v.topology (places.Port c.args.cube c.args.port) ≡ Some c.args.direction) (sym c.self.view_is) c.requires.to in
    ends_in old (steps.Shift c.args.cube c.args.port) c.args.cube c.args.port c.args.direction some to

pub returns-in-Nowhere : goal.returns-in-Nowhere
returns-in-Nowhere g c =
    let i = c.self.inside in
    let old : PastFields = record { topology = i.wiring; queues = i.queues; cubes = i.plain; slots = g.B.Workbench.slots i.bench; hosts = i.hosts.items; ends = i.ends; piped = i.piped; tally = i.tally; last = i.last } in
    let some = some_of g.B.Workbench.slots _ c.args.self.now (steps.Shift c.args.cube c.args.port) c.self.view_is c.requires.next in
    let to : direction_to i.wiring (places.Port c.args.cube c.args.port) ≡ Some c.args.direction = subst (λ (v : PastParts _). direction_to v.topology (places.Port c.args.cube c.args.port) ≡ Some c.args.direction) (sym c.self.view_is) c.requires.to in
    let front : IsFrontAt EndsHold i.ends c.args.direction (Some c.in-Some.front) = subst (IsFrontAt EndsHold i.ends c.args.direction) c.in-Some.is c.front.ensures in
    of_parts g.B.Workbench.slots _ c.args.self.now _ (steps.Shift c.args.cube c.args.port) c.self.view_is
    (dropped_takes old _ c.args.cube c.args.port c.args.direction c.in-Some.front c.goal.result c.take.new.self to front c.goal.ensures c.in-Nowhere.is c.take.ensures
    (ap (λ (e : Entry). record old { ends = c.take.new.self; last = e }) c.dropped.ensures))
