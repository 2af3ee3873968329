-- The entries that the answers of a link, and of a bench of logic units, are.
use Rattle.std.specs.Prelude.{ℕ, Bool, true, false, List}
use Rattle.hmc_ends.specs.declared.link_outcome.LinkOutcome.{LinkOutcome}
use Rattle.hmc_ends.specs.declared.link_outcome.LinkOutcome.TheVariants as landings
use Rattle.hmc_schedule.specs.declared.step.Step.TheVariants as steps
use Rattle.hmc_link.specs.Held.{LinkHeld}
use Rattle.hmc_entries.specs.declared.outcome.Cause.TheVariants as causes
use Rattle.hmc_entries.specs.declared.entry.Entry.{Entry}
use Rattle.hmc_entries.specs.declared.entry.Entry.TheVariants.{Retired, Idle}
use Rattle.hmc_links.specs.LinkList.{AreGoing, IsDirection}
use Rattle.hmc_kept.specs.Pipes.{PipesHeld, AreGathering, IsLastOf}

-- the entry of a retirement, by whether the slot had a unit
abbrev pub retired_by : (slot : ℕ) → (live : Bool) → Entry
retired_by slot true = Retired slot
retired_by slot false = Idle (steps.Retire slot) causes.Empty

-- what a landing rests on: the direction is there, no landing has passed, flits are still to come
-- of what is forwarded, and none is missing of a packet that came whole
abbrev pub MayForward : List LinkHeld → PipesHeld → (direction : ℕ) → LinkOutcome → Type 0
MayForward links held direction (landings.Came flit outcome) =
    IsDirection links direction × AreGoing links × AreGathering held direction
    × IsLastOf held direction outcome
MayForward links held direction _ = Unit {0}
