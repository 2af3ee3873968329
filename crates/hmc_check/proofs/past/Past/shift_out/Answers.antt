-- The front of a port goes on through another port, or waits.
use Rattle.std.proofs.Common.{Some, ap}
use Rattle.hmc_entries.specs.declared.entry.Entry.{Entry}
use Rattle.hmc_entries.specs.declared.outcome.Goal.TheVariants as goals
use Rattle.hmc_schedule.specs.declared.step.Step.TheVariants as steps
use Rattle.hmc_check.specs.Moving.{IsShifting, IsWayOut}
use Rattle.hmc_check.specs.Past.{PastFields, past_of}
use Rattle.hmc_check.proofs.Holding.{of_parts, some_of}
use Rattle.hmc_check.proofs.Lifting.{way_in}
use Rattle.hmc_check.proofs.Shifting.{ends_in, shift_out_may, onward_after, shift_out_full, shift_out_takes, shifting_in}
use Rattle.hmc_check.proofs.Spreading.{some_there}
use Rattle.hmc_check.proofs.Sending.{hold_some}
use Rattle.hmc_check.proofs.past.Past.shift_out.Goals as goal

pub returns-in_default : goal.returns-in_default
returns-in_default g c =
    let i = c.self.inside in
    let old : PastFields = record { topology = i.wiring; queues = i.queues; cubes = i.plain; slots = g.B.Workbench.slots i.bench; hosts = i.hosts.items; ends = i.ends; piped = i.piped; tally = i.tally; last = i.last } in
    let some = some_of g.B.Workbench.slots _ c.args.self.now (steps.Shift c.args.cube c.args.port) c.self.view_is c.requires.next in
    let shifts : IsShifting old c.args.cube c.args.port c.args.direction c.args.front (goals.Port c.args.out) = shifting_in g.B.Workbench.slots _ c.args.self.now c.args.cube c.args.port c.args.direction c.args.front (goals.Port c.args.out) c.self.view_is c.requires.front in
    of_parts g.B.Workbench.slots _ c.args.self.now _ (steps.Shift c.args.cube c.args.port) c.self.view_is
    (shift_out_full old _ c.args.cube c.args.port c.args.direction c.args.out c.args.front shifts (way_in g.B.Workbench.slots _ c.args.self.now c.args.cube c.args.out _ _ c.self.view_is c.in_default.is c.way_out.ensures) (ap (λ (e : Entry). record old { last = e }) c.idle.ensures))

pub take-requires-clause-there : goal.take-requires-clause-there
take-requires-clause-there g c =
    let i = c.self.inside in
    let old : PastFields = record { topology = i.wiring; queues = i.queues; cubes = i.plain; slots = g.B.Workbench.slots i.bench; hosts = i.hosts.items; ends = i.ends; piped = i.piped; tally = i.tally; last = i.last } in
    let some = some_of g.B.Workbench.slots _ c.args.self.now (steps.Shift c.args.cube c.args.port) c.self.view_is c.requires.next in
    let shifts : IsShifting old c.args.cube c.args.port c.args.direction c.args.front (goals.Port c.args.out) = shifting_in g.B.Workbench.slots _ c.args.self.now c.args.cube c.args.port c.args.direction c.args.front (goals.Port c.args.out) c.self.view_is c.requires.front in
    ends_in old (steps.Shift c.args.cube c.args.port) c.args.cube c.args.port c.args.direction some shifts.ends

pub hand-requires-clause-there : goal.hand-requires-clause-there
hand-requires-clause-there g c =
    let i = c.self.inside in
    let old : PastFields = record { topology = i.wiring; queues = i.queues; cubes = i.plain; slots = g.B.Workbench.slots i.bench; hosts = i.hosts.items; ends = i.ends; piped = i.piped; tally = i.tally; last = i.last } in
    let some = some_of g.B.Workbench.slots _ c.args.self.now (steps.Shift c.args.cube c.args.port) c.self.view_is c.requires.next in
    let way : IsWayOut old c.args.cube c.args.out (Some c.in-Some.onward) = way_in g.B.Workbench.slots _ c.args.self.now c.args.cube c.args.out _ _ c.self.view_is c.in-Some.is c.way_out.ensures in
    onward_after old c.args.cube c.args.port c.args.direction c.args.out c.in-Some.onward c.take.new.self some way c.take.ensures

pub hand-requires-clause-may : goal.hand-requires-clause-may
hand-requires-clause-may g c =
    let i = c.self.inside in
    let old : PastFields = record { topology = i.wiring; queues = i.queues; cubes = i.plain; slots = g.B.Workbench.slots i.bench; hosts = i.hosts.items; ends = i.ends; piped = i.piped; tally = i.tally; last = i.last } in
    let some = some_of g.B.Workbench.slots _ c.args.self.now (steps.Shift c.args.cube c.args.port) c.self.view_is c.requires.next in
    let shifts : IsShifting old c.args.cube c.args.port c.args.direction c.args.front (goals.Port c.args.out) = shifting_in g.B.Workbench.slots _ c.args.self.now c.args.cube c.args.port c.args.direction c.args.front (goals.Port c.args.out) c.self.view_is c.requires.front in
    let way : IsWayOut old c.args.cube c.args.out (Some c.in-Some.onward) = way_in g.B.Workbench.slots _ c.args.self.now c.args.cube c.args.out _ _ c.self.view_is c.in-Some.is c.way_out.ensures in
    shift_out_may old c.args.cube c.args.port c.args.direction c.args.out c.in-Some.onward c.args.front c.take.new.self some shifts way c.take.ensures

pub returns : goal.returns
returns g c =
    let i = c.self.inside in
    let old : PastFields = record { topology = i.wiring; queues = i.queues; cubes = i.plain; slots = g.B.Workbench.slots i.bench; hosts = i.hosts.items; ends = i.ends; piped = i.piped; tally = i.tally; last = i.last } in
    let some = some_of g.B.Workbench.slots _ c.args.self.now (steps.Shift c.args.cube c.args.port) c.self.view_is c.requires.next in
    let shifts : IsShifting old c.args.cube c.args.port c.args.direction c.args.front (goals.Port c.args.out) = shifting_in g.B.Workbench.slots _ c.args.self.now c.args.cube c.args.port c.args.direction c.args.front (goals.Port c.args.out) c.self.view_is c.requires.front in
    let way : IsWayOut old c.args.cube c.args.out (Some c.in-Some.onward) = way_in g.B.Workbench.slots _ c.args.self.now c.args.cube c.args.out _ _ c.self.view_is c.in-Some.is c.way_out.ensures in
    of_parts g.B.Workbench.slots _ c.args.self.now _ (steps.Shift c.args.cube c.args.port) c.self.view_is
    (shift_out_takes old _ c.args.cube c.args.port c.args.direction c.args.out c.in-Some.onward c.args.front c.take.new.self c.hand.new.self shifts way c.take.ensures c.hand.ensures
    (ap (λ (e : Entry). record old { ends = c.hand.new.self; last = e }) c.shifted.ensures))

pub way_out-requires-clause-there : goal.way_out-requires-clause-there
way_out-requires-clause-there g c = (some_there (past_of g.B.Workbench.slots c.args.self.now) (steps.Shift c.args.cube c.args.port) c.requires.next).some_cube

pub way_out-requires-clause-some : goal.way_out-requires-clause-some
way_out-requires-clause-some g c = (steps.Shift c.args.cube c.args.port, c.requires.next)

pub take-requires-clause-some : goal.take-requires-clause-some
take-requires-clause-some g c =
    let i = c.self.inside in
    let old : PastFields = record { topology = i.wiring; queues = i.queues; cubes = i.plain; slots = g.B.Workbench.slots i.bench; hosts = i.hosts.items; ends = i.ends; piped = i.piped; tally = i.tally; last = i.last } in
    let some = some_of g.B.Workbench.slots _ c.args.self.now (steps.Shift c.args.cube c.args.port) c.self.view_is c.requires.next in
    hold_some old (steps.Shift c.args.cube c.args.port) some
