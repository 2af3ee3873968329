-- What a verdict on a log says.
use Rattle.std.specs.Prelude.{◌<◌, ℕ, suc, List, length}
use Rattle.hmc_codes.specs.Shape.{ShapeFields}
use Rattle.hmc_serial.specs.Machine.{State}
use Rattle.hmc_entries.specs.declared.entry.Entry.{Entry}
use Rattle.hmc_seen.specs.Explained.{IsExplained}
use Rattle.hmc_search.specs.Alone.{alone}
use Rattle.hmc_search.specs.Kept.{kept}
use Rattle.hmc_judge.specs.Explaining.{first_entries}

-- the first so many entries are explained
abbrev pub IsExplainedUpTo : List ShapeFields → State → List Entry → ℕ → Type 0
IsExplainedUpTo shapes opening log count =
    IsExplained (alone shapes) opening (first_entries count log)

-- this is the first entry that can't be
pub record IsFirstImpossible (shapes : List ShapeFields) (opening : State) (log : List Entry)
    (at : ℕ) : Type 0 where
  pub there : at < length log
  pub before : IsExplainedUpTo shapes opening log at
  pub impossible : IsExplainedUpTo shapes opening log (suc at) → ⊥

-- at this entry the simplest search keeps more states than a limit
pub record IsTooMany (shapes : List ShapeFields) (opening : State) (log : List Entry)
    (limit at : ℕ) : Type 0 where
  pub there : at < length log
  pub many : limit < length (kept (alone shapes) opening (first_entries (suc at) log))
