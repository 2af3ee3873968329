-- What `run` answers.
use Rattle.std.specs.Prelude.{◌≡◌, ◌⊎◌, ℕ, List, Option, Ok, Err}
use Rattle.hmc_units.specs.Unit.{UnitFields}
use Rattle.hmc_case.specs.Case.{CaseFields, case_of}
use Rattle.hmc_case.specs.Line.{bad_line}
use Rattle.hmc_case.specs.Reading.{Fault}
use Rattle.hmc_journal.specs.Setup.{setup_of}
use Rattle.hmc_replay.specs.Answered.{IsLine}
use Rattle.hmc_replay.specs.Report.{report_of}
use Rattle.hmc_replay.specs.Reported.{IsReport}

-- the line of a fault is due, with 6
abbrev pub IsRefusal : Fault → (status : ℕ) → List (List ℕ) → Type 0
IsRefusal fault status lines = IsLine 6 (bad_line fault) status lines

-- the input is a case, and its whole report is due
pub record IsReported (slots : List (Option UnitFields)) (input : List ℕ) (status : ℕ)
    (lines : List (List ℕ)) : Type 0 where
  pub case : CaseFields
  pub is_case : case_of input ≡ Ok case
  pub report : IsReport (setup_of case slots) (report_of (setup_of case slots)) status lines

-- the input isn't a case, and the line of its first fault is due
pub record IsRefused (input : List ℕ) (status : ℕ) (lines : List (List ℕ)) : Type 0 where
  pub fault : Fault
  pub is_fault : case_of input ≡ Err fault
  pub refusal : IsRefusal fault status lines

-- this status and these lines are due for this input
abbrev pub IsRunAnswer : (slots : List (Option UnitFields)) → (input : List ℕ) → (status : ℕ) →
    List (List ℕ) → Type 0
IsRunAnswer slots input status lines =
    IsReported slots input status lines ⊎ IsRefused input status lines
