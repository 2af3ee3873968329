-- The entries of the steps inside cubes, by what is kept.
use Rattle.std.specs.Prelude.{ℕ, if◌then◌else◌, length}
use Rattle.hmc_codes.specs.Shape.{bank_of}
use Rattle.hmc_codes.specs.declared.unit.Unit.{Unit as RequestUnit}
use Rattle.hmc_packet.specs.Transactions.{request_in}
use Rattle.hmc_schedule.specs.declared.step.Step.{Step}
use Rattle.hmc_schedule.specs.declared.step.Step.TheVariants as steps
use Rattle.hmc_units.specs.Bench.{is_live}
use Rattle.hmc_entries.specs.declared.outcome.Cause.TheVariants as causes
use Rattle.hmc_entries.specs.declared.entry.Entry.{Entry}
use Rattle.hmc_entries.specs.declared.entry.Entry.TheVariants.{Spread, Retired, Idle}
use Rattle.hmc_journal.specs.CubeSteps.{execution_entry}
use Rattle.hmc_journal.specs.Queues.{queue_of, answers_of}
use Rattle.hmc_journal.specs.Queues.QueueId.{Vault, Bank}
use Rattle.hmc_journal.specs.Setup.{Topology, shape_of}
use Rattle.hmc_journal.specs.Waiting.{is_filled, size_of, queue_size, with_front, unless_full}
use Rattle.hmc_check.specs.Kept.{InnerKept}

-- spread: the front of a vault's queue goes to the bank of its address, where there is room
abbrev pub spread_by : Topology → InnerKept → (cube vault : ℕ) → Entry
spread_by topology kept cube vault =
    with_front (steps.Spread cube vault) (kept.inside (Vault cube vault))
    (λ front. let bank = bank_of (shape_of topology cube) front.address in
    unless_full (steps.Spread cube vault)
    (is_filled (size_of topology (Bank cube vault bank))
    (length (kept.inside (Bank cube vault bank))))
    (Spread cube vault bank))

-- bank and registers: the front of a unit's queue is executed, where its answer has room
abbrev pub executed_by : Topology → InnerKept → RequestUnit → Step → Entry
executed_by topology kept unit step =
    with_front step (kept.inside (queue_of unit))
    (λ front. execution_entry unit step front (kept.inside (answers_of unit))
    (queue_size topology unit) kept.state (request_in front))

-- retire: the unit of a slot goes, if there is one
abbrev pub retired_by : InnerKept → (slot : ℕ) → Entry
retired_by kept slot =
    (if is_live kept.state.slots slot then Retired slot else Idle (steps.Retire slot) causes.Empty)
