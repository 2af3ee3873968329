-- What `check` answers: whether a report is lawful, or its first line that isn't.
use Rattle.std.specs.Prelude.{◌≡◌, ◌⊎◌, ℕ, List, [], ◌∷◌, codes, Option, None, Some, Ok}
use Rattle.hmc_codes.specs.Text.{line}
use Rattle.hmc_units.specs.Unit.{UnitFields}
use Rattle.hmc_case.specs.Case.{CaseFields, case_of}
use Rattle.hmc_check.specs.Verdict.{IsLawfulReport, IsLeastUnfit}
use Rattle.hmc_journal.specs.Setup.{Setup, setup_of}
use Rattle.hmc_replay.specs.Answered.{IsLine}
use Rattle.hmc_replay.specs.CheckInput.{CheckInput, check_input}
use Rattle.hmc_replay.specs.Output.{number_line}
use Rattle.hmc_replay.specs.RunAnswer.{IsRefused}

-- the line of an input without the length of a case, or with fewer bytes than that
unfoldable pub no_head_line : List ℕ
no_head_line = line (codes "bad" ∷ codes "check" ∷ codes "0" ∷ codes "head" ∷ [])

-- the report is lawful, with so many entries
abbrev pub lawful_line : (entries : ℕ) → List ℕ
lawful_line entries = number_line (codes "lawful") entries

-- it isn't, and this is its first line that shows it
abbrev pub unlawful_line : (number : ℕ) → List ℕ
unlawful_line number = number_line (codes "unlawful") number

-- The report is the text of a whole lawful journal. The number of its entries is due, with 0.
pub record IsLawful (setup : Setup) (report : List ℕ) (status : ℕ)
    (lines : List (List ℕ)) : Type 0 where
  pub entries : ℕ
  pub lawful : IsLawfulReport setup report entries
  pub answer : IsLine 0 (lawful_line entries) status lines

-- It is the text of none. The number of the first line that fits none is due, with 8.
pub record IsUnlawful (setup : Setup) (report : List ℕ) (status : ℕ)
    (lines : List (List ℕ)) : Type 0 where
  pub number : ℕ
  pub unfit : IsLeastUnfit setup report number
  pub answer : IsLine 8 (unlawful_line number) status lines

-- one or the other
abbrev pub IsJudged : Setup → (report : List ℕ) → (status : ℕ) → List (List ℕ) → Type 0
IsJudged setup report status lines =
    IsLawful setup report status lines ⊎ IsUnlawful setup report status lines

-- the first part is a case, and the report is judged by it
pub record IsOfCase (slots : List (Option UnitFields)) (parts : CheckInput) (status : ℕ)
    (lines : List (List ℕ)) : Type 0 where
  pub case : CaseFields
  pub is_case : case_of parts.case ≡ Ok case
  pub judged : IsJudged (setup_of case slots) parts.report status lines

-- or it isn't, and is refused as by `run`
abbrev pub IsOfParts : (slots : List (Option UnitFields)) → CheckInput → (status : ℕ) →
    List (List ℕ) → Type 0
IsOfParts slots parts status lines =
    IsOfCase slots parts status lines ⊎ IsRefused parts.case status lines

-- the input has both parts, and this is due for them
pub record IsChecked (slots : List (Option UnitFields)) (input : List ℕ) (status : ℕ)
    (lines : List (List ℕ)) : Type 0 where
  pub parts : CheckInput
  pub are_parts : check_input input ≡ Some parts
  pub answer : IsOfParts slots parts status lines

-- it hasn't
pub record IsHeadless (input : List ℕ) (status : ℕ) (lines : List (List ℕ)) : Type 0 where
  pub no_parts : check_input input ≡ None
  pub answer : IsLine 6 no_head_line status lines

-- this status and these lines are due for this input
abbrev pub IsCheckAnswer : (slots : List (Option UnitFields)) → (input : List ℕ) →
    (status : ℕ) → List (List ℕ) → Type 0
IsCheckAnswer slots input status lines =
    IsHeadless input status lines ⊎ IsChecked slots input status lines
