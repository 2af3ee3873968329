-- The steps of a case are taken up to one that comes after so many others.
use Rattle.std.specs.Prelude.{◌≡◌, ◌<◌, ◌+◌, ℕ, Bool, true, List, length}
use Rattle.hmc_schedule.specs.declared.step.Step.{Step}
use Rattle.hmc_entries.specs.declared.entry.Entry.{Entry}
use Rattle.hmc_journal.specs.Setup.{Setup}
use Rattle.hmc_check.specs.Following.{IsBefore, IsAfter}
use Rattle.hmc_check.specs.Past.{PastFields}
use Rattle.hmc_check.specs.declared.due.Until.{Until}
use Rattle.hmc_check.specs.declared.due.Until.TheVariants.{Due, Passed, Later}

-- how far they were, by the number of the others and what is left of it
abbrev pub TakenUntil : Until → PastFields → Setup → (left : List Step) → (before more : ℕ) → Type 0
TakenUntil Due p setup left before more =
    (past : List Entry) × (passed : Bool) × IsAfter p setup past passed × (length past ≡ before)
TakenUntil Passed p setup left before more =
    (past : List Entry) × IsAfter p setup past true × (length past < before)
TakenUntil Later p setup left before more =
    (past : List Entry) × IsBefore p setup past left × (length past + more ≡ before)
