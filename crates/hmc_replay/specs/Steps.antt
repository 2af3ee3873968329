-- Taking the steps of a case, one after another.
use Rattle.std.specs.Prelude.{◌≡◌, ◌⊎◌, ℕ, Bool, true, false, List, [], ◌∷◌, Result, Ok, Err}
use Rattle.hmc_schedule.specs.declared.step.Step.{Step}
use Rattle.hmc_entries.specs.declared.entry.Entry.{Entry}
use Rattle.hmc_entries.specs.Event.{is_passed}
use Rattle.hmc_journal.specs.Lawful.{journal_of}
use Rattle.hmc_journal.specs.Left.{LeavesSteps}
use Rattle.hmc_journal.specs.Setup.{Setup}
use Rattle.hmc_entries.specs.Text.{lines_of}
use Rattle.hmc_net.specs.NetState.{NetState}
use Rattle.hmc_net.specs.Stands.{StandsFor}
use Rattle.hmc_net.specs.declared.went.Went.{Went}
use Rattle.hmc_net.specs.declared.went.Went.TheVariants.{Passed}
use Rattle.hmc_outside.specs.Lines.{WritesLines, BreaksOff}
use Rattle.hmc_outside.specs.Views.{SinkView}
use Rattle.hmc_outside.specs.declared.counts.Failed.{Failed}
use Rattle.hmc_replay.specs.Output.{WritesReport}
use Rattle.hmc_replay.specs.Report.{passes}
use Rattle.hmc_replay.specs.declared.extent.Extent.{Extent}
use Rattle.hmc_replay.specs.declared.extent.Extent.TheVariants.{Whole, Short, Bound}

-- the network stands for these entries, and these steps are left
pub record IsBefore (net : NetState) (setup : Setup) (past : List Entry) (left : List Step)
    : Type 0 where
  pub stands : StandsFor net setup past
  pub leaves : LeavesSteps setup past left

-- in the network nothing happened yet, and these are its steps
abbrev pub IsUnstarted : NetState → List Step → Type 0
IsUnstarted net steps = (setup : Setup) × IsBefore net setup [] steps

-- a step is a landing that passed
abbrev pub step_passed : Went → Bool
step_passed Passed = true
step_passed _ = false

-- one more was taken, and the network's last entry is that of this step
pub record IsAfter (net : NetState) (setup : Setup) (past : List Entry)
    (passed : Bool) : Type 0 where
  pub stands : StandsFor net setup (net.last ∷ past)
  pub passed_is : passed ≡ is_passed net.last

-- no further one is taken: the network stands for the whole journal; where a landing passed, its
-- entry is the last one
pub record TookAll (net : NetState) (setup : Setup) (passed : Bool) : Type 0 where
  pub stands : StandsFor net setup (journal_of setup)
  pub passed_is : passed ≡ passes setup
  pub last : passed ≡ true → (before : List Entry) × (journal_of setup ≡ net.last ∷ before)

-- the steps of a round were taken, up to a landing that passed; where none did, these are left
abbrev pub TookRound : (passed : Bool) → NetState → Setup → (left : List Step) → Type 0
TookRound true net setup left = TookAll net setup true
TookRound false net setup left = (past : List Entry) × IsBefore net setup past left

-- Steps and writes go by turns: the network stands for the journal of the steps so far, and their
-- lines were written, of which the last one broke off.
pub record BreaksAt (net : NetState) (setup : Setup) (old new : SinkView) : Type 0 where
  pub past : List Entry
  pub stands : StandsFor net setup past
  pub broken : BreaksOff old new (lines_of past)
  pub last : broken.rest ≡ []

-- and the line of each was written, or they broke off
abbrev pub WroteAll : Result Bool Failed → NetState → Setup → (old new : SinkView) → Type 0
WroteAll (Ok passed) net setup old new =
    TookAll net setup passed × WritesLines old new (lines_of (journal_of setup))
WroteAll (Err failed) net setup old new = BreaksAt net setup old new

-- the same of a round, where the lines of all steps so far were written
abbrev pub WroteRound : Result Bool Failed → NetState → Setup → (left : List Step) →
    (old new : SinkView) → Type 0
WroteRound (Ok true) net setup left old new = WroteAll (Ok true) net setup old new
WroteRound (Ok false) net setup left old new =
    (past : List Entry) × IsBefore net setup past left × WritesLines old new (lines_of past)
WroteRound (Err failed) net setup left old new = BreaksAt net setup old new

-- How far the network came, by the result: it stands for the whole journal, or a line of a step
-- broke off. Only a whole report has lines of steps, beside that of a
-- landing that passed.
abbrev pub Stepped : Result Bool Failed → Extent → NetState → Setup → (old new : SinkView) → Type 0
Stepped (Ok passed) extent net setup old new = StandsFor net setup (journal_of setup)
Stepped (Err failed) Whole net setup old new =
    StandsFor net setup (journal_of setup) ⊎ BreaksAt net setup old new
Stepped (Err failed) Short net setup old new = StandsFor net setup (journal_of setup)
Stepped (Err failed) Bound net setup old new = StandsFor net setup (journal_of setup)

-- from such a network a report of these lines was written, or broke off
abbrev pub WritesFromStart : (lines : Setup → List (List ℕ)) → NetState → List Step →
    Result Bool Failed → (old new : SinkView) → Type 0
WritesFromStart lines net steps result old new =
    (setup : Setup) → IsBefore net setup [] steps →
    WritesReport result (lines setup) (passes setup) old new

-- and so far the network came
abbrev pub StepsFromStart : Extent → (net later : NetState) → List Step →
    Result Bool Failed → (old new : SinkView) → Type 0
StepsFromStart extent net later steps result old new =
    (setup : Setup) → IsBefore net setup [] steps → Stepped result extent later setup old new
