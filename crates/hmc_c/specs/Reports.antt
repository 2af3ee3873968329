-- Reports of whole cases, and what a check says of a report.
use Rattle.std.specs.Prelude.{◌≡◌, ◌⊎◌, ℕ, if◌then◌else◌, Bool, true, false, List, Option, Result, Ok, Err}
use Rattle.std.specs.List.{concat}
use Rattle.hmc_units.specs.Unit.{UnitFields}
use Rattle.hmc_case.specs.Case.{CaseFields}
use Rattle.hmc_case.specs.Reading.{Fault}
use Rattle.hmc_journal.specs.Setup.{Setup, setup_of}
use Rattle.hmc_check.specs.Verdict.{IsVerdict}
use Rattle.hmc_check.specs.declared.checker.CheckFault.{CheckFault}
use Rattle.hmc_check.specs.declared.checker.CheckFault.TheVariants.{Memory, Unlawful}
use Rattle.hmc_replay.specs.Report.{passes, report_of}
use Rattle.hmc_c.specs.Lines.{TextShown}
use Rattle.hmc_c.specs.Status.{bad, memory, none, ok, passed, unlawful}

-- the status of a report: whether a landing passes
abbrev pub report_status : (passes : Bool) → ℕ
report_status passes = (if passes then passed else ok)

-- the report of a case is written, if there is room for it, or it is out of memory
abbrev pub CaseShown : (status length : ℕ) → Setup → (old new : List ℕ) → Type 0
CaseShown status length setup old new =
    TextShown (report_status (passes setup)) status length (concat (report_of setup)) old new
    ⊎ ((status ≡ memory) × (length ≡ 0) × (new ≡ old))

-- the same of the case that was read; where none was read, nothing is written
abbrev pub ReportShown : (status length : ℕ) → Result CaseFields Fault →
    (slots : List (Option UnitFields)) → (old new : List ℕ) → Type 0
ReportShown status length (Ok case) slots old new =
    CaseShown status length (setup_of case slots) old new
ReportShown status length (Err fault) slots old new =
    ((status ≡ bad) ⊎ (status ≡ memory)) × (length ≡ 0) × (new ≡ old)

-- the same with units, or they are none
abbrev pub ReportedWith : (are : Bool) → (status length : ℕ) → Result CaseFields Fault →
    (slots : List (Option UnitFields)) → (old new : List ℕ) → Type 0
ReportedWith true status length read slots old new = ReportShown status length read slots old new
ReportedWith false status length read slots old new =
    ((status ≡ none) ⊎ (status ≡ memory)) × (length ≡ 0) × (new ≡ old)

-- a verdict is shown by a status and a number
abbrev pub VerdictShown : Result ℕ CheckFault → (status old new : ℕ) → Type 0
VerdictShown (Ok entries) status old new = (status ≡ ok) × (new ≡ entries)
VerdictShown (Err (Unlawful line)) status old new = (status ≡ unlawful) × (new ≡ line)
VerdictShown (Err Memory) status old new = (status ≡ memory) × (new ≡ old)

-- the verdict on a report by a case and its logic units is shown
pub record IsChecked (status : ℕ) (setup : Setup) (report : List ℕ) (old new : ℕ) : Type 0 where
  pub result : Result ℕ CheckFault
  pub verdict : IsVerdict setup report result
  pub shown : VerdictShown result status old new

-- the same by the case that was read, or it is out of memory; where none was read, nothing is shown
abbrev pub CheckedBy : (status : ℕ) → Result CaseFields Fault →
    (slots : List (Option UnitFields)) → (report : List ℕ) → (old new : ℕ) → Type 0
CheckedBy status (Ok case) slots report old new =
    IsChecked status (setup_of case slots) report old new
    ⊎ ((status ≡ memory) × (new ≡ old))
CheckedBy status (Err fault) slots report old new =
    ((status ≡ bad) ⊎ (status ≡ memory)) × (new ≡ old)

-- the same with units, or they are none
abbrev pub CheckedWith : (are : Bool) → (status : ℕ) → Result CaseFields Fault →
    (slots : List (Option UnitFields)) → (report : List ℕ) → (old new : ℕ) → Type 0
CheckedWith true status read slots report old new = CheckedBy status read slots report old new
CheckedWith false status read slots report old new =
    ((status ≡ none) ⊎ (status ≡ memory)) × (new ≡ old)
