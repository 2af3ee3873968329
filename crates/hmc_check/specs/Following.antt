-- A report is followed by the steps of a case.
use Rattle.std.specs.Prelude.{◌≡◌, ℕ, Bool, true, false, List, [], ◌∷◌, ◌++◌, length, Some, Result, Ok, Err}
use Rattle.std.specs.Borrow.{Bor}
use Rattle.std.specs.List.{concat}
use Rattle.hmc_schedule.specs.declared.step.Step.{Step}
use Rattle.hmc_entries.specs.declared.entry.Entry.{Entry}
use Rattle.hmc_entries.specs.Event.{is_passed}
use Rattle.hmc_journal.specs.Lawful.{has_passed, journal_of}
use Rattle.hmc_journal.specs.Left.{LeavesSteps}
use Rattle.hmc_journal.specs.Setup.{Setup}
use Rattle.hmc_entries.specs.Text.{lines_of}
use Rattle.hmc_check.specs.Past.{PastFields, Keeps, Counts, IsNextStep}
use Rattle.hmc_check.specs.Differs.{Compares}
use Rattle.hmc_journal.specs.Report.{report_text}

-- this step comes next, and no landing passed
pub record IsDueStep (p : PastFields) (setup : Setup) (past : List Entry) (step : Step)
    : Type 0 where
  pub next : IsNextStep setup past p step
  pub counts : Counts setup past p.tally

-- the past is that of these entries, and these steps are left
pub record IsBefore (p : PastFields) (setup : Setup) (past : List Entry) (left : List Step)
    : Type 0 where
  pub stands : Keeps setup past p
  pub leaves : LeavesSteps setup past left

-- one more was taken, and the last entry is that of this step
pub record IsAfter (p : PastFields) (setup : Setup) (past : List Entry) (passed : Bool)
    : Type 0 where
  pub stands : Keeps setup (p.last ∷ past) p
  pub passed_is : passed ≡ is_passed p.last

-- A report begins with the lines of these entries, except this text, which ends them and wasn't
-- compared yet: this is left of the report.
pub record HasLines (past : List Entry) (report rest text : List ℕ) : Type 0 where
  pub came : List ℕ
  pub report_is : report ≡ came ++ rest
  pub lines_are : concat (lines_of past) ≡ came ++ text

-- these steps are left, and the report has the line of each that was taken, so many, except a text
pub record IsFollowing (p : PastFields) (setup : Setup) (past : List Entry) (left : List Step)
    (report rest text : List ℕ) (entries : ℕ) : Type 0 where
  pub before : IsBefore p setup past left
  pub lines : HasLines past report rest text
  pub entries_are : entries ≡ length past

-- all steps were taken, up to one that passed, and the report has the line of each, except a text
pub record FollowedAll (p : PastFields) (setup : Setup) (report rest text : List ℕ)
    (passed : Bool) (entries : ℕ) : Type 0 where
  pub stands : Keeps setup (journal_of setup) p
  pub passed_is : passed ≡ has_passed (journal_of setup)
  pub entries_are : entries ≡ length (journal_of setup)
  pub lines : HasLines (journal_of setup) report rest text

-- The steps of a round were taken, up to a landing that passed, and the report has the line of
-- each, except a text; where none passed, these are left. Or the report differs.
abbrev pub FollowsRound : Result Bool ℕ → PastFields → Setup → (left : List Step) →
    (report rest text : List ℕ) → (entries : ℕ) → Type 0
FollowsRound (Ok true) p setup left report rest text entries =
    FollowedAll p setup report rest text true entries
FollowsRound (Ok false) p setup left report rest text entries =
    (past : List Entry) × IsFollowing p setup past left report rest text entries
FollowsRound (Err line) p setup left report rest text entries =
    Compares (report_text setup (journal_of setup)) report (Some line)

-- so of all steps, and no text is left; or the report differs
abbrev pub FollowsSteps : PastFields → Setup → (report : List ℕ) →
    Result (Bor (List ℕ) × Bool × ℕ) ℕ → Type 0
FollowsSteps p setup report (Ok followed) =
    FollowedAll p setup report followed.0.now [] followed.1 followed.2
FollowsSteps p setup report (Err line) =
    Compares (report_text setup (journal_of setup)) report (Some line)
