-- The next flit of a direction lands.
use Rattle.std.proofs.Common.{ap, arith}
use Rattle.hmc_codes.specs.Flit.{zero_flit}
use Rattle.hmc_ends.specs.declared.link_outcome.LinkOutcome.TheVariants as lands
use Rattle.hmc_schedule.specs.declared.step.Step.TheVariants as steps
use Rattle.hmc_entries.specs.declared.entry.Entry.{Entry}
use Rattle.hmc_check.specs.Past.{PastFields}
use Rattle.hmc_check.proofs.Holding.{of_parts, some_of}
use Rattle.hmc_check.proofs.Landing.{hold_between, last_landing, land_takes}
use Rattle.hmc_check.proofs.Sending.{gathering, hold_some}
use Rattle.hmc_check.proofs.Spreading.{some_there}
use Rattle.hmc_check.proofs.past.Past.land.Goals as goal

pub landed-requires-clause-taken : goal.landed-requires-clause-taken
landed-requires-clause-taken g c =
    let i = c.self.inside in
    let old : PastFields = record { topology = i.wiring; queues = i.queues; cubes = i.plain; slots = g.B.Workbench.slots i.bench; hosts = i.hosts.items; ends = i.ends; piped = i.piped; tally = i.tally; last = i.last } in
    let step = steps.Land c.args.direction c.args.mask.now in
    let some = some_of g.B.Workbench.slots _ c.args.self.now step c.self.view_is c.requires in
    hold_between old step c.args.direction c.args.mask.now c.in-Came.flit c.in-Came.outcome c.land.new.self some c.in-Came.ensures.stand

pub landed-requires-clause-gathering : goal.landed-requires-clause-gathering
landed-requires-clause-gathering g c =
    let i = c.self.inside in
    let old : PastFields = record { topology = i.wiring; queues = i.queues; cubes = i.plain; slots = g.B.Workbench.slots i.bench; hosts = i.hosts.items; ends = i.ends; piped = i.piped; tally = i.tally; last = i.last } in
    let step = steps.Land c.args.direction c.args.mask.now in
    let some = some_of g.B.Workbench.slots _ c.args.self.now step c.self.view_is c.requires in
    gathering old step c.args.direction some (some_there old step some).some_direction

pub landed-requires-clause-last : goal.landed-requires-clause-last
landed-requires-clause-last g c =
    let i = c.self.inside in
    let old : PastFields = record { topology = i.wiring; queues = i.queues; cubes = i.plain; slots = g.B.Workbench.slots i.bench; hosts = i.hosts.items; ends = i.ends; piped = i.piped; tally = i.tally; last = i.last } in
    let step = steps.Land c.args.direction c.args.mask.now in
    let some = some_of g.B.Workbench.slots _ c.args.self.now step c.self.view_is c.requires in
    last_landing old step c.args.direction c.args.mask.now c.in-Came.flit c.in-Came.outcome some (some_there old step some).some_direction c.in-Came.ensures.answer

pub returns-in-Empty : goal.returns-in-Empty
unfolding zero_flit
returns-in-Empty g c =
    let i = c.self.inside in
    let old : PastFields = record { topology = i.wiring; queues = i.queues; cubes = i.plain; slots = g.B.Workbench.slots i.bench; hosts = i.hosts.items; ends = i.ends; piped = i.piped; tally = i.tally; last = i.last } in
    let step = steps.Land c.args.direction c.args.mask.now in
    of_parts g.B.Workbench.slots _ c.args.self.now _ step c.self.view_is
    (land_takes old _ c.args.direction c.args.mask.now lands.Empty c.land.new.self c.land.new.self tt c.in-Empty.ensures.answer c.in-Empty.ensures.stand (λ rows entries hold. hold) (λ is. absurd (cc))
    (ap (λ (e : Entry). record old { ends = c.land.new.self; last = e }) c.idle.ensures))

pub returns-in-Passed : goal.returns-in-Passed
returns-in-Passed g c =
    let i = c.self.inside in
    let old : PastFields = record { topology = i.wiring; queues = i.queues; cubes = i.plain; slots = g.B.Workbench.slots i.bench; hosts = i.hosts.items; ends = i.ends; piped = i.piped; tally = i.tally; last = i.last } in
    let step = steps.Land c.args.direction c.args.mask.now in
    of_parts g.B.Workbench.slots _ c.args.self.now _ step c.self.view_is
    (land_takes old _ c.args.direction c.args.mask.now (lands.Passed c.in-Passed.flit) c.land.new.self c.land.new.self tt c.in-Passed.ensures.answer c.in-Passed.ensures.stand (λ rows entries hold. hold) (λ is. c.land.ensures.count)
    (ap (λ (e : Entry). record old { ends = c.land.new.self; last = e }) c.passed.ensures))

pub returns-in-Came : goal.returns-in-Came
returns-in-Came g c =
    let i = c.self.inside in
    let old : PastFields = record { topology = i.wiring; queues = i.queues; cubes = i.plain; slots = g.B.Workbench.slots i.bench; hosts = i.hosts.items; ends = i.ends; piped = i.piped; tally = i.tally; last = i.last } in
    let step = steps.Land c.args.direction c.args.mask.now in
    of_parts g.B.Workbench.slots _ c.args.self.now _ step c.self.view_is
    (land_takes old _ c.args.direction c.args.mask.now (lands.Came c.in-Came.flit c.in-Came.outcome) c.land.new.self c.landed.new.self.ends c.flit_is_bytes.ensures c.in-Came.ensures.answer c.in-Came.ensures.stand c.landed.ensures.ends (λ is. absurd (cc))
    c.landed.ensures.parts)

pub land-requires-clause-there : goal.land-requires-clause-there
land-requires-clause-there g c =
    let i = c.self.inside in
    let old : PastFields = record { topology = i.wiring; queues = i.queues; cubes = i.plain; slots = g.B.Workbench.slots i.bench; hosts = i.hosts.items; ends = i.ends; piped = i.piped; tally = i.tally; last = i.last } in
    let some = some_of g.B.Workbench.slots _ c.args.self.now (steps.Land c.args.direction c.args.mask.now) c.self.view_is c.requires in
    let sized = some.is.holds.sized in
    let there = some_there old (steps.Land c.args.direction c.args.mask.now) some in
    let inside = there.some_direction in
    omega (arith, inside, sized.ends)

pub land-requires-clause-some : goal.land-requires-clause-some
land-requires-clause-some g c =
    let i = c.self.inside in
    let old : PastFields = record { topology = i.wiring; queues = i.queues; cubes = i.plain; slots = g.B.Workbench.slots i.bench; hosts = i.hosts.items; ends = i.ends; piped = i.piped; tally = i.tally; last = i.last } in
    let some = some_of g.B.Workbench.slots _ c.args.self.now (steps.Land c.args.direction c.args.mask.now) c.self.view_is c.requires in
    hold_some old (steps.Land c.args.direction c.args.mask.now) some

pub landed-requires-clause-there : goal.landed-requires-clause-there
landed-requires-clause-there g c =
    let i = c.self.inside in
    let old : PastFields = record { topology = i.wiring; queues = i.queues; cubes = i.plain; slots = g.B.Workbench.slots i.bench; hosts = i.hosts.items; ends = i.ends; piped = i.piped; tally = i.tally; last = i.last } in
    let some = some_of g.B.Workbench.slots _ c.args.self.now (steps.Land c.args.direction c.args.mask.now) c.self.view_is c.requires in
    let sized = some.is.holds.sized in
    let there = some_there old (steps.Land c.args.direction c.args.mask.now) some in
    let inside = there.some_direction in
    omega (arith, inside, sized.piped.forwarded)

pub landed-requires-clause-ends : goal.landed-requires-clause-ends
landed-requires-clause-ends g c =
    let i = c.self.inside in
    let old : PastFields = record { topology = i.wiring; queues = i.queues; cubes = i.plain; slots = g.B.Workbench.slots i.bench; hosts = i.hosts.items; ends = i.ends; piped = i.piped; tally = i.tally; last = i.last } in
    let some = some_of g.B.Workbench.slots _ c.args.self.now (steps.Land c.args.direction c.args.mask.now) c.self.view_is c.requires in
    let sized = some.is.holds.sized in
    let there = some_there old (steps.Land c.args.direction c.args.mask.now) some in
    let inside = there.some_direction in
    omega (arith, inside, sized.ends, c.land.ensures.count)
