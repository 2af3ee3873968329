-- The queue of the unit is empty.
use Rattle.std.proofs.Common.{◌≡◌, ◌∙◌, [], ℕ, sym, ap, ap₂, subst}
use Rattle.hmc_queues.specs.Queues.{IsQueue, packets_at}
use Rattle.hmc_queues.specs.declared.queue_name.QueueName.{QueueName}
use Rattle.hmc_queues.specs.declared.queue_name.QueueName.TheVariants as names
use Rattle.hmc_schedule.specs.declared.step.Step.{Step}
use Rattle.hmc_schedule.specs.declared.step.Step.TheVariants as steps
use Rattle.hmc_entries.specs.declared.outcome.Cause.TheVariants as causes
use Rattle.hmc_entries.specs.declared.entry.Entry.{Entry}
use Rattle.hmc_entries.specs.declared.entry.Entry.TheVariants.{Idle}
use Rattle.hmc_journal.specs.Setup.{unit_cube}
use Rattle.hmc_kept.proofs.Fronts.{no_front}
use Rattle.hmc_check.specs.Past.{PastFields}
use Rattle.hmc_check.specs.Units.{step_of, queue_name}
use Rattle.hmc_check.proofs.Holding.{of_parts, some_of, idle_takes}
use Rattle.hmc_check.proofs.Spreading.{some_there}
use Rattle.hmc_check.proofs.Executing.{queue_there, unit_empty}
use Rattle.hmc_check.proofs.past.Past.execute.Goals as goal

pub returns-then-is_empty : goal.returns-then-is_empty
returns-then-is_empty g c =
    let i = c.self.inside in
    let old : PastFields = record { topology = i.wiring; queues = i.queues; cubes = i.plain; slots = g.B.Workbench.slots i.bench; hosts = i.hosts.items; ends = i.ends; piped = i.piped; tally = i.tally; last = i.last } in
    let unit = c.args.unit in
    let none : packets_at i.queues (unit_cube unit) (queue_name unit) ≡ [] =
    ap₂ (λ (n : ℕ) (r : QueueName). packets_at i.queues n r) (sym c.cube_of-cube.ensures) (sym c.queue_of.ensures) ∙ c.is_empty.ensures.0 c.if-is_empty.true in
    of_parts g.B.Workbench.slots _ c.args.self.now _ (step_of c.args.unit) c.self.view_is
    (idle_takes old _ (step_of unit) (step_of unit) causes.Empty (ap (λ (e : Entry). record old { last = e }) (c.idle.ensures ∙ ap (λ (s : Step). Idle s causes.Empty) c.step_of.ensures))
    (λ setup past is. unit_empty setup past old unit is (no_front (packets_at i.queues (unit_cube unit) (queue_name unit)) none)))

pub is_empty-requires : goal.is_empty-requires
is_empty-requires g c =
    let i = c.self.inside in
    let old : PastFields = record { topology = i.wiring; queues = i.queues; cubes = i.plain; slots = g.B.Workbench.slots i.bench; hosts = i.hosts.items; ends = i.ends; piped = i.piped; tally = i.tally; last = i.last } in
    let some = some_of g.B.Workbench.slots _ c.args.self.now (step_of c.args.unit) c.self.view_is c.requires in
    let sized = some.is.holds.sized in
    let there = some_there old (step_of c.args.unit) some in
    subst (λ (n : ℕ). IsQueue i.queues n c.queue_of.result) (sym c.cube_of-cube.ensures)
    (subst (λ (r : QueueName). IsQueue i.queues (unit_cube c.args.unit) r) (sym c.queue_of.ensures) (queue_there old c.args.unit sized there))

pub execute_front-requires : goal.execute_front-requires
execute_front-requires g c = record { next = c.requires; cube = c.cube_of-cube.ensures }
