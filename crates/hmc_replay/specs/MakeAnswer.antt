-- What `make` answers.
use Rattle.std.specs.Prelude.{ℕ, List, Option}
use Rattle.hmc_units.specs.Unit.{UnitFields}
use Rattle.hmc_make.specs.Numbered.{case_of_number}
use Rattle.hmc_journal.specs.Setup.{Setup, setup_of}
use Rattle.hmc_replay.specs.Report.{short_report_of}
use Rattle.hmc_replay.specs.Reported.{IsReport}

-- the setup of the case of a number
abbrev pub made_setup : (slots : List (Option UnitFields)) → (number : ℕ) → Setup
made_setup slots number = setup_of (case_of_number number) slots

-- the short report of the case of this number is due
abbrev pub IsMakeAnswer : (number : ℕ) → (slots : List (Option UnitFields)) → (status : ℕ) →
    List (List ℕ) → Type 0
IsMakeAnswer number slots status lines =
    IsReport (made_setup slots number) (short_report_of (made_setup slots number)) status lines
