-- What `bound` answers.
use Rattle.std.specs.Prelude.{◌≡◌, ◌⊎◌, ℕ, List, [], ◌∷◌, codes, Option, Ok}
use Rattle.hmc_bound.specs.Appended.{BoundDrains}
use Rattle.hmc_codes.specs.Text.{line}
use Rattle.hmc_units.specs.Unit.{UnitFields}
use Rattle.hmc_case.specs.Case.{CaseFields, case_of}
use Rattle.hmc_journal.specs.Setup.{Setup, setup_of}
use Rattle.hmc_rounds.specs.Single.{IsSingle}
use Rattle.hmc_replay.specs.Report.{bound_report_of}
use Rattle.hmc_replay.specs.Reported.{IsReport}
use Rattle.hmc_replay.specs.RunAnswer.{IsRefused}

-- There are one cube and one link, and what is under way at the end is due. So many whole rounds
-- after the schedule would drain it.
pub record IsBounded (setup : Setup) (status : ℕ) (lines : List (List ℕ)) : Type 0 where
  pub single : IsSingle setup.topology
  pub report : IsReport setup (bound_report_of setup) status lines
  pub drains : BoundDrains setup

-- the fault of a case that has more
abbrev pub single_fault : List ℕ
single_fault = line (codes "bad" ∷ codes "net" ∷ codes "0" ∷ codes "single" ∷ [])

-- it has more, and this fault is due, with 6
pub record IsNotSingle (setup : Setup) (status : ℕ) (lines : List (List ℕ)) : Type 0 where
  pub more : IsSingle setup.topology → ⊥
  pub status_is : status ≡ 6
  pub lines_are : lines ≡ single_fault ∷ []

-- one or the other
abbrev pub IsCaseBounded : Setup → (status : ℕ) → List (List ℕ) → Type 0
IsCaseBounded setup status lines = IsBounded setup status lines ⊎ IsNotSingle setup status lines

-- the input is a case, and this is due for it
pub record IsBoundOfCase (slots : List (Option UnitFields)) (input : List ℕ) (status : ℕ)
    (lines : List (List ℕ)) : Type 0 where
  pub case : CaseFields
  pub is_case : case_of input ≡ Ok case
  pub answer : IsCaseBounded (setup_of case slots) status lines

-- This status and these lines are due for this input. What is not a case is refused as by `run`; so
-- the fault of a case that is not single comes after all others.
abbrev pub IsBoundAnswer : (slots : List (Option UnitFields)) → (input : List ℕ) →
    (status : ℕ) → List (List ℕ) → Type 0
IsBoundAnswer slots input status lines =
    IsBoundOfCase slots input status lines ⊎ IsRefused input status lines
