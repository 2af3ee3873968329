-- A slot loses its unit, or has none.
use Rattle.std.proofs.Common.{◌∙◌, Option, List, sym, ap₂}
use Rattle.hmc_units.specs.Unit.{UnitFields}
use Rattle.hmc_entries.specs.declared.entry.Entry.{Entry}
use Rattle.hmc_schedule.specs.declared.step.Step.TheVariants as steps
use Rattle.hmc_check.specs.Past.{PastFields}
use Rattle.hmc_check.proofs.Executing.{retire_takes, retire_none}
use Rattle.hmc_check.proofs.Holding.{of_parts}
use Rattle.hmc_check.proofs.past.Past.retire.Goals as goal

pub returns-then-retire : goal.returns-then-retire
returns-then-retire g c =
    let i = c.self.inside in
    let old : PastFields = record { topology = i.wiring; queues = i.queues; cubes = i.plain; slots = g.B.Workbench.slots i.bench; hosts = i.hosts.items; ends = i.ends; piped = i.piped; tally = i.tally; last = i.last } in
    of_parts g.B.Workbench.slots _ c.args.self.now _ (steps.Retire c.args.slot) c.self.view_is
    (retire_takes old _ c.args.slot (sym c.retire.ensures.live ∙ c.if-retire.true) (ap₂ (λ (s : List (Option UnitFields)) (e : Entry). record old { slots = s; last = e }) c.retire.ensures.slots c.retired.ensures))

pub returns-else-retire : goal.returns-else-retire
returns-else-retire g c =
    let i = c.self.inside in
    let old : PastFields = record { topology = i.wiring; queues = i.queues; cubes = i.plain; slots = g.B.Workbench.slots i.bench; hosts = i.hosts.items; ends = i.ends; piped = i.piped; tally = i.tally; last = i.last } in
    of_parts g.B.Workbench.slots _ c.args.self.now _ (steps.Retire c.args.slot) c.self.view_is
    (retire_none old _ c.args.slot (sym c.retire.ensures.live ∙ c.if-retire.false) (ap₂ (λ (s : List (Option UnitFields)) (e : Entry). record old { slots = s; last = e }) c.retire.ensures.slots c.idle.ensures))
