-- The front of a port goes into a queue of the cube, or waits.
use Rattle.std.proofs.Common.{◌∙◌, List, sym, ap, ap₂}
use Rattle.hmc_entries.specs.declared.entry.Entry.{Entry}
use Rattle.hmc_schedule.specs.declared.step.Step.TheVariants as steps
use Rattle.hmc_queues.specs.Queues.{CubeQueuesFields, IsQueue}
use Rattle.hmc_check.specs.Moving.{IsShifting}
use Rattle.hmc_check.specs.Past.{PastFields}
use Rattle.hmc_check.proofs.Holding.{of_parts, some_of}
use Rattle.hmc_check.proofs.Shifting.{ends_in, goal_there, shift_in_full, shift_in_takes, shifting_in}
use Rattle.hmc_check.proofs.Spreading.{some_there}
use Rattle.hmc_check.proofs.past.Past.shift_in.Goals as goal

pub has_room-requires : goal.has_room-requires
has_room-requires g c =
    let i = c.self.inside in
    let old : PastFields = record { topology = i.wiring; queues = i.queues; cubes = i.plain; slots = g.B.Workbench.slots i.bench; hosts = i.hosts.items; ends = i.ends; piped = i.piped; tally = i.tally; last = i.last } in
    let some = some_of g.B.Workbench.slots _ c.args.self.now (steps.Shift c.args.cube c.args.port) c.self.view_is c.requires.next in
    let shifts : IsShifting old c.args.cube c.args.port c.args.direction c.args.front c.args.goal = shifting_in g.B.Workbench.slots _ c.args.self.now c.args.cube c.args.port c.args.direction c.args.front c.args.goal c.self.view_is c.requires.front in
    let there = some_there old (steps.Shift c.args.cube c.args.port) some in
    let room : IsQueue i.queues c.args.cube c.args.room = goal_there old c.args.cube c.args.front c.args.goal c.args.room some.is.holds.sized there.some_cube shifts.goes c.requires.room in
    room

pub returns-then-not-has_room : goal.returns-then-not-has_room
returns-then-not-has_room g c =
    let i = c.self.inside in
    let old : PastFields = record { topology = i.wiring; queues = i.queues; cubes = i.plain; slots = g.B.Workbench.slots i.bench; hosts = i.hosts.items; ends = i.ends; piped = i.piped; tally = i.tally; last = i.last } in
    let some = some_of g.B.Workbench.slots _ c.args.self.now (steps.Shift c.args.cube c.args.port) c.self.view_is c.requires.next in
    let shifts : IsShifting old c.args.cube c.args.port c.args.direction c.args.front c.args.goal = shifting_in g.B.Workbench.slots _ c.args.self.now c.args.cube c.args.port c.args.direction c.args.front c.args.goal c.self.view_is c.requires.front in
    let there = some_there old (steps.Shift c.args.cube c.args.port) some in
    let room : IsQueue i.queues c.args.cube c.args.room = goal_there old c.args.cube c.args.front c.args.goal c.args.room some.is.holds.sized there.some_cube shifts.goes c.requires.room in
    of_parts g.B.Workbench.slots _ c.args.self.now _ (steps.Shift c.args.cube c.args.port) c.self.view_is
    (shift_in_full old _ c.args.cube c.args.port c.args.direction c.args.front c.args.goal c.args.room room.some_cube shifts c.requires.room (sym c.has_room.ensures ∙ c.if-not-has_room.true) (ap (λ (e : Entry). record old { last = e }) c.idle.ensures))

pub take-requires-clause-there : goal.take-requires-clause-there
take-requires-clause-there g c =
    let i = c.self.inside in
    let old : PastFields = record { topology = i.wiring; queues = i.queues; cubes = i.plain; slots = g.B.Workbench.slots i.bench; hosts = i.hosts.items; ends = i.ends; piped = i.piped; tally = i.tally; last = i.last } in
    let some = some_of g.B.Workbench.slots _ c.args.self.now (steps.Shift c.args.cube c.args.port) c.self.view_is c.requires.next in
    let shifts : IsShifting old c.args.cube c.args.port c.args.direction c.args.front c.args.goal = shifting_in g.B.Workbench.slots _ c.args.self.now c.args.cube c.args.port c.args.direction c.args.front c.args.goal c.self.view_is c.requires.front in
    ends_in old (steps.Shift c.args.cube c.args.port) c.args.cube c.args.port c.args.direction some shifts.ends

pub push-requires-clause-there : goal.push-requires-clause-there
push-requires-clause-there g c =
    let i = c.self.inside in
    let old : PastFields = record { topology = i.wiring; queues = i.queues; cubes = i.plain; slots = g.B.Workbench.slots i.bench; hosts = i.hosts.items; ends = i.ends; piped = i.piped; tally = i.tally; last = i.last } in
    let some = some_of g.B.Workbench.slots _ c.args.self.now (steps.Shift c.args.cube c.args.port) c.self.view_is c.requires.next in
    let shifts : IsShifting old c.args.cube c.args.port c.args.direction c.args.front c.args.goal = shifting_in g.B.Workbench.slots _ c.args.self.now c.args.cube c.args.port c.args.direction c.args.front c.args.goal c.self.view_is c.requires.front in
    let there = some_there old (steps.Shift c.args.cube c.args.port) some in
    let room : IsQueue i.queues c.args.cube c.args.room = goal_there old c.args.cube c.args.front c.args.goal c.args.room some.is.holds.sized there.some_cube shifts.goes c.requires.room in
    room

pub returns : goal.returns
returns g c =
    let i = c.self.inside in
    let old : PastFields = record { topology = i.wiring; queues = i.queues; cubes = i.plain; slots = g.B.Workbench.slots i.bench; hosts = i.hosts.items; ends = i.ends; piped = i.piped; tally = i.tally; last = i.last } in
    let some = some_of g.B.Workbench.slots _ c.args.self.now (steps.Shift c.args.cube c.args.port) c.self.view_is c.requires.next in
    let shifts : IsShifting old c.args.cube c.args.port c.args.direction c.args.front c.args.goal = shifting_in g.B.Workbench.slots _ c.args.self.now c.args.cube c.args.port c.args.direction c.args.front c.args.goal c.self.view_is c.requires.front in
    let there = some_there old (steps.Shift c.args.cube c.args.port) some in
    let room : IsQueue i.queues c.args.cube c.args.room = goal_there old c.args.cube c.args.front c.args.goal c.args.room some.is.holds.sized there.some_cube shifts.goes c.requires.room in
    of_parts g.B.Workbench.slots _ c.args.self.now _ (steps.Shift c.args.cube c.args.port) c.self.view_is
    (shift_in_takes old _ c.args.cube c.args.port c.args.direction c.args.front c.args.goal c.args.room c.take.new.self room shifts c.requires.room (sym c.has_room.ensures ∙ c.if-not-has_room.false) c.take.ensures
    (ap₂ (λ (r : List CubeQueuesFields) (e : Entry). record old { queues = r; ends = c.take.new.self; last = e }) c.push.ensures c.shifted.ensures))
