-- What the answers of hosts, vaults and units are as entries.
use Rattle.std.specs.Prelude.{ℕ, Bool, true, false, Option, Some, None}
use Rattle.hmc_codes.specs.Commands.{is_posted}
use Rattle.hmc_codes.specs.declared.unit.Unit.{Unit as RequestUnit}
use Rattle.hmc_schedule.specs.declared.step.Step.{Step}
use Rattle.hmc_schedule.specs.declared.step.Step.TheVariants as steps
use Rattle.hmc_host.specs.declared.given.Given.{Given}
use Rattle.hmc_host.specs.declared.given.Given.TheVariants as givens
use Rattle.hmc_host.specs.declared.settled.Settled.{Settled}
use Rattle.hmc_host.specs.declared.settled.Settled.TheVariants as settles
use Rattle.hmc_vault.specs.declared.execute.Executed.{Executed as Execution}
use Rattle.hmc_vault.specs.declared.execute.Executed.TheVariants as executions
use Rattle.hmc_vault.specs.declared.spread.Spread.{Spread as Spreading}
use Rattle.hmc_vault.specs.declared.spread.Spread.TheVariants as spreads
use Rattle.hmc_entries.specs.declared.outcome.Cause.TheVariants as causes
use Rattle.hmc_entries.specs.declared.entry.Entry.{Entry}
use Rattle.hmc_entries.specs.declared.entry.Entry.TheVariants.{Gave, Spread, Executed, Took, Discarded, Idle}

-- a host gave its next request, or says why it gave none
abbrev pub gave_entry : (host : ℕ) → Given → Entry
gave_entry host givens.Ended = Idle (steps.Give host) causes.Ended
gave_entry host givens.Fence = Idle (steps.Give host) causes.Fence
gave_entry host givens.Tags = Idle (steps.Give host) causes.Tags
gave_entry host givens.Full = Idle (steps.Give host) causes.Full
gave_entry host (givens.Gave packet request tag poisoned) = Gave host tag poisoned request

-- a host took the answer of a packet, or discarded a poisoned one
abbrev pub took_entry : (host : ℕ) → Settled → Entry
took_entry host settles.Discarded = Discarded host
took_entry host (settles.Took tag answer) = Took host tag answer

-- the front of a vault's queue went to a bank, or waits
abbrev pub spread_entry : (cube vault : ℕ) → Spreading → Entry
spread_entry cube vault spreads.Empty = Idle (steps.Spread cube vault) causes.Empty
spread_entry cube vault spreads.Full = Idle (steps.Spread cube vault) causes.Full
spread_entry cube vault (spreads.Moved bank) = Spread cube vault bank

-- a posted request has no tag
abbrev pub tag_of : (posted : Bool) → (tag : ℕ) → Option ℕ
tag_of true tag = None
tag_of false tag = Some tag

-- a unit executed the front of its queue, or it waits
abbrev pub ran_entry : RequestUnit → Step → Execution → Entry
ran_entry unit step executions.Empty = Idle step causes.Empty
ran_entry unit step executions.Full = Idle step causes.Full
ran_entry unit step (executions.Ran host tag request answer) =
    Executed unit host (tag_of (is_posted request.command) tag) request answer
