-- The receiver of a direction loses its framing.
use Rattle.std.proofs.Common.{ap₂, arith}
use Rattle.hmc_entries.specs.declared.entry.Entry.{Entry}
use Rattle.hmc_kept.specs.Pipes.{PipesHeld}
use Rattle.hmc_schedule.specs.declared.step.Step.TheVariants as steps
use Rattle.hmc_check.specs.Past.{PastFields}
use Rattle.hmc_check.proofs.Holding.{of_parts, some_of}
use Rattle.hmc_check.proofs.Sending.{hold_some, gathering, unlock_takes}
use Rattle.hmc_check.proofs.Spreading.{some_there}
use Rattle.hmc_check.proofs.past.Past.unlock.Goals as goal

pub unlock-requires-clause-there : goal.unlock-requires-clause-there
unlock-requires-clause-there g c =
    let i = c.self.inside in
    let old : PastFields = record { topology = i.wiring; queues = i.queues; cubes = i.plain; slots = g.B.Workbench.slots i.bench; hosts = i.hosts.items; ends = i.ends; piped = i.piped; tally = i.tally; last = i.last } in
    let some = some_of g.B.Workbench.slots _ c.args.self.now (steps.Unlock c.args.direction) c.self.view_is c.requires in
    omega (arith, some_there old (steps.Unlock c.args.direction) some, some.is.holds.sized.ends)

pub unlock-requires-clause-some : goal.unlock-requires-clause-some
unlock-requires-clause-some g c =
    let i = c.self.inside in
    let old : PastFields = record { topology = i.wiring; queues = i.queues; cubes = i.plain; slots = g.B.Workbench.slots i.bench; hosts = i.hosts.items; ends = i.ends; piped = i.piped; tally = i.tally; last = i.last } in
    hold_some old (steps.Unlock c.args.direction) (some_of g.B.Workbench.slots _ c.args.self.now (steps.Unlock c.args.direction) c.self.view_is c.requires)

pub lose-requires-clause-there : goal.lose-requires-clause-there
lose-requires-clause-there g c =
    let i = c.self.inside in
    let old : PastFields = record { topology = i.wiring; queues = i.queues; cubes = i.plain; slots = g.B.Workbench.slots i.bench; hosts = i.hosts.items; ends = i.ends; piped = i.piped; tally = i.tally; last = i.last } in
    let some = some_of g.B.Workbench.slots _ c.args.self.now (steps.Unlock c.args.direction) c.self.view_is c.requires in
    omega (arith, some_there old (steps.Unlock c.args.direction) some, some.is.holds.sized.piped.forwarded)

pub lose-requires-clause-gathering : goal.lose-requires-clause-gathering
lose-requires-clause-gathering g c =
    let i = c.self.inside in
    let old : PastFields = record { topology = i.wiring; queues = i.queues; cubes = i.plain; slots = g.B.Workbench.slots i.bench; hosts = i.hosts.items; ends = i.ends; piped = i.piped; tally = i.tally; last = i.last } in
    let some = some_of g.B.Workbench.slots _ c.args.self.now (steps.Unlock c.args.direction) c.self.view_is c.requires in
    gathering old (steps.Unlock c.args.direction) c.args.direction some (some_there old (steps.Unlock c.args.direction) some)

pub returns : goal.returns
returns g c =
    let i = c.self.inside in
    let old : PastFields = record { topology = i.wiring; queues = i.queues; cubes = i.plain; slots = g.B.Workbench.slots i.bench; hosts = i.hosts.items; ends = i.ends; piped = i.piped; tally = i.tally; last = i.last } in
    of_parts g.B.Workbench.slots _ c.args.self.now _ (steps.Unlock c.args.direction) c.self.view_is
    (unlock_takes old _ c.args.direction c.unlock.new.self c.unlock.ensures (ap₂ (λ (h : PipesHeld) (e : Entry). record old { ends = c.unlock.new.self; piped = h; last = e }) c.lose.ensures c.unlocked.ensures))
