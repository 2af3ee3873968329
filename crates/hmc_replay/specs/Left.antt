-- The slots of a bench after a replay.
use Rattle.std.specs.Prelude.{◌≡◌, ◌⊎◌, Bool, List, [], Option, Result, Ok, Err}
use Rattle.hmc_entries.specs.declared.entry.Entry.{Entry}
use Rattle.hmc_journal.specs.Lawful.{Lawful, journal_of}
use Rattle.hmc_journal.specs.Setup.{Setup}
use Rattle.hmc_journal.specs.StepView.{state_of}
use Rattle.hmc_entries.specs.Text.{lines_of}
use Rattle.hmc_outside.specs.Lines.{BreaksOff}
use Rattle.hmc_outside.specs.Views.{SinkView}
use Rattle.hmc_outside.specs.declared.counts.Failed.{Failed}
use Rattle.hmc_units.specs.Unit.{UnitFields}
use Rattle.hmc_replay.specs.declared.extent.Extent.{Extent}
use Rattle.hmc_replay.specs.declared.extent.Extent.TheVariants.{Whole, Short, Bound}

-- the slots are those that a journal leaves
abbrev pub AreLeft : Setup → List Entry → List (Option UnitFields) → Type 0
AreLeft setup past slots = slots ≡ (state_of setup past).slots

-- They are those after the steps so far, whose lines were written; the last one broke off. So no
-- step is taken before the line of the step before it was written.
pub record AreLeftAt (setup : Setup) (slots : List (Option UnitFields)) (old new : SinkView) :
    Type 0 where
  pub past : List Entry
  pub lawful : Lawful setup past
  pub slots_are : AreLeft setup past slots
  pub broken : BreaksOff old new (lines_of past)
  pub last : broken.rest ≡ []

-- by the result: those of the whole journal, or a line of a step broke off
abbrev pub IsLeft : Result Bool Failed → Extent → Setup → List (Option UnitFields) →
    (old new : SinkView) → Type 0
IsLeft (Ok passed) extent setup slots old new = AreLeft setup (journal_of setup) slots
IsLeft (Err failed) Whole setup slots old new =
    AreLeft setup (journal_of setup) slots ⊎ AreLeftAt setup slots old new
IsLeft (Err failed) Short setup slots old new = AreLeft setup (journal_of setup) slots
IsLeft (Err failed) Bound setup slots old new = AreLeft setup (journal_of setup) slots
