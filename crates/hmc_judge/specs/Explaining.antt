-- What a checked explanation is.
use Rattle.std.specs.Prelude.{◌≡◌, ◌<◌, ℕ, suc, Bool, true, false, List, [], ◌∷◌, length, take, reverse, Option, None}
use Rattle.hmc_codes.specs.Shape.{ShapeFields}
use Rattle.hmc_serial.specs.Machine.{State}
use Rattle.hmc_entries.specs.declared.entry.Entry.{Entry}
use Rattle.hmc_entries.specs.declared.entry.Entry.TheVariants.{Gave, Executed}
use Rattle.hmc_seen.specs.Explained.{IsExplainedBy}
use Rattle.hmc_seen.specs.Seen.{seen_of}
use Rattle.hmc_search.specs.Alone.{alone}

-- the first so many of these entries, the oldest first, as a journal
abbrev pub first_entries : ℕ → List Entry → List Entry
first_entries count entries = reverse (take count entries)

-- no poisoned request has a tag, and the cubes of all that were executed are there
abbrev pub IsFit : (cubes : ℕ) → List Entry → Type 0
IsFit cubes [] = Unit {0}
IsFit cubes (Gave host tag true request ∷ past) = (tag ≡ None) × IsFit cubes past
IsFit cubes (Executed unit host tag request answer ∷ past) =
    (request.cube < cubes) × IsFit cubes past
IsFit cubes (_ ∷ past) = IsFit cubes past

-- A journal explains what hosts see of it: its executions, one at a time on a plain machine, give
-- every answer, and at each moment they are the first that hosts gave.
pub record IsExplanation (shapes : List ShapeFields) (opening : State) (journal : List Entry)
    : Type 0 where
  pub fit : IsFit (length opening.cubes) journal
  pub explains : IsExplainedBy (alone shapes) opening (seen_of journal) journal

-- the first so many entries explain what hosts see of them, and one more does not
pub record IsFirstWrong (shapes : List ShapeFields) (opening : State) (entries : List Entry)
    (at : ℕ) : Type 0 where
  pub there : at < length entries
  pub before : IsExplanation shapes opening (first_entries at entries)
  pub wrong : IsExplanation shapes opening (first_entries (suc at) entries) → ⊥
