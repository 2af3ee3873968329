-- The queue of the vault is empty.
use Rattle.std.proofs.Common.{ap}
use Rattle.hmc_queues.specs.Queues.{packets_at}
use Rattle.hmc_queues.specs.declared.queue_name.QueueName.TheVariants as names
use Rattle.hmc_schedule.specs.declared.step.Step.TheVariants as steps
use Rattle.hmc_entries.specs.declared.outcome.Cause.TheVariants as causes
use Rattle.hmc_entries.specs.declared.entry.Entry.{Entry}
use Rattle.hmc_kept.proofs.Fronts.{no_front}
use Rattle.hmc_check.specs.Past.{PastFields}
use Rattle.hmc_check.proofs.Holding.{of_parts, some_of}
use Rattle.hmc_check.proofs.Spreading.{some_there, spread_empty, vault_queue}
use Rattle.hmc_check.proofs.past.Past.spread.Goals as goal

pub returns-then-is_empty : goal.returns-then-is_empty
returns-then-is_empty g c =
    let i = c.self.inside in
    let old : PastFields = record { topology = i.wiring; queues = i.queues; cubes = i.plain; slots = g.B.Workbench.slots i.bench; hosts = i.hosts.items; ends = i.ends; piped = i.piped; tally = i.tally; last = i.last } in
    of_parts g.B.Workbench.slots _ c.args.self.now _ (steps.Spread c.args.cube c.args.vault) c.self.view_is
    (spread_empty old _ c.args.cube c.args.vault (no_front (packets_at i.queues c.args.cube (names.Vault c.args.vault)) (c.is_empty.ensures.0 c.if-is_empty.true)) (ap (λ (e : Entry). record old { last = e }) c.idle.ensures))

pub is_empty-requires : goal.is_empty-requires
is_empty-requires g c =
    let i = c.self.inside in
    let old : PastFields = record { topology = i.wiring; queues = i.queues; cubes = i.plain; slots = g.B.Workbench.slots i.bench; hosts = i.hosts.items; ends = i.ends; piped = i.piped; tally = i.tally; last = i.last } in
    let some = some_of g.B.Workbench.slots _ c.args.self.now (steps.Spread c.args.cube c.args.vault) c.self.view_is c.requires in
    let sized = some.is.holds.sized in
    let there = some_there old (steps.Spread c.args.cube c.args.vault) some in
    vault_queue old c.args.cube c.args.vault sized there

pub spread_front-requires : goal.spread_front-requires
spread_front-requires g c = c.requires
