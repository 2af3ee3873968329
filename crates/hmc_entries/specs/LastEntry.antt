-- The entry that a LastEntry has.
use Rattle.std.specs.Prelude.{ℕ, List, Option}
use Rattle.hmc_codes.specs.Request.{RequestFields}
use Rattle.hmc_codes.specs.declared.answer.Answer.{Answer}
use Rattle.hmc_codes.specs.declared.lift.Lift.{Lift}
use Rattle.hmc_codes.specs.declared.unit.Unit.{Unit as UnitName}
use Rattle.hmc_schedule.specs.declared.step.Step.{Step}
use Rattle.hmc_entries.specs.declared.outcome.Goal.{Goal}
use Rattle.hmc_entries.specs.declared.last_entry.Short.{Short}
use Rattle.hmc_entries.specs.declared.last_entry.Short.TheVariants as shorts
use Rattle.hmc_entries.specs.declared.entry.Entry.{Entry}
use Rattle.hmc_entries.specs.declared.entry.Entry.TheVariants.{Gave, Sent, Landed, Shifted, Dropped, Spread, Executed, Lifted, Took, Discarded, Through, Unlocked, Retired, Passed, Idle}

-- the parts with a field of their own
pub record Parts : Type 0 where
  pub step : Step
  pub flit : List ℕ
  pub tag : Option ℕ
  pub taken : ℕ
  pub unit : UnitName
  pub goal : Goal
  pub from : Lift
  pub request : RequestFields
  pub answer : Answer

-- the short parts say which entry it is, and which of the other parts belong to it
abbrev pub entry_of : Short → Parts → Entry
entry_of (shorts.Gave host poisoned) p = Gave host p.tag poisoned p.request
entry_of (shorts.Sent direction what) p = Sent direction what p.flit
entry_of (shorts.Landed direction outcome) p = Landed direction p.flit outcome
entry_of (shorts.Shifted cube port) p = Shifted cube port p.goal
entry_of (shorts.Dropped cube port) p = Dropped cube port
entry_of (shorts.Spread cube vault bank) p = Spread cube vault bank
entry_of (shorts.Executed host) p = Executed p.unit host p.tag p.request p.answer
entry_of (shorts.Lifted cube port) p = Lifted cube p.from port
entry_of (shorts.Took host) p = Took host p.taken p.answer
entry_of (shorts.Discarded host) p = Discarded host
entry_of (shorts.Through cube port direction) p = Through cube port direction
entry_of (shorts.Unlocked direction) p = Unlocked direction
entry_of (shorts.Retired slot) p = Retired slot
entry_of (shorts.Passed direction) p = Passed direction p.flit
entry_of (shorts.Idle cause) p = Idle p.step cause
