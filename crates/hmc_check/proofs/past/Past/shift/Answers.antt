-- No packet came to the port.
use Rattle.std.proofs.Common.{ap}
use Rattle.hmc_entries.specs.declared.entry.Entry.{Entry}
use Rattle.hmc_schedule.specs.declared.step.Step.TheVariants as steps
use Rattle.hmc_check.specs.Past.{PastFields}
use Rattle.hmc_check.proofs.Holding.{of_parts, some_of}
use Rattle.hmc_check.proofs.Shifting.{shift_none}
use Rattle.hmc_check.proofs.Taking.{none_arrived}
use Rattle.hmc_check.proofs.past.Past.shift.Goals as goal

pub returns-then-not-has_arrived : goal.returns-then-not-has_arrived
returns-then-not-has_arrived g c =
    let i = c.self.inside in
    let old : PastFields = record { topology = i.wiring; queues = i.queues; cubes = i.plain; slots = g.B.Workbench.slots i.bench; hosts = i.hosts.items; ends = i.ends; piped = i.piped; tally = i.tally; last = i.last } in
    let some = some_of g.B.Workbench.slots _ c.args.self.now (steps.Shift c.args.cube c.args.port) c.self.view_is c.requires in
    of_parts g.B.Workbench.slots _ c.args.self.now _ (steps.Shift c.args.cube c.args.port) c.self.view_is
    (shift_none old _ c.args.cube c.args.port c.to_port-direction.result c.to_port-direction.ensures.to (none_arrived i.ends c.to_port-direction.result c.has_arrived.result c.if-not-has_arrived.true c.has_arrived.ensures) (ap (λ (e : Entry). record old { last = e }) c.idle.ensures))
