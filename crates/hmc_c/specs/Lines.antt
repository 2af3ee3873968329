-- Lines, in a room for them.
use Rattle.std.specs.Prelude.{◌≡◌, ◌≤◌, ◌<◌, ℕ, List, ◌++◌, length, drop, Bool, true, false, Option, Some, None}
use Rattle.hmc_c.specs.Status.{none, ok}

-- these are written to the front of a room for them, if it is long enough; else nothing is
pub record IsWritten {X : Type 0} (status written : ℕ) (these old new : List X) : Type 0 where
  pub fits : length these ≤ length old →
      (status ≡ ok) × (written ≡ length these) × (new ≡ these ++ drop (length these) old)
  pub short : length old < length these → (status ≡ none) × (written ≡ 0) × (new ≡ old)

-- a line, if there is one
abbrev pub LineShown : (status written : ℕ) → Option (List ℕ) → (old new : List ℕ) → Type 0
LineShown status written None old new = (status ≡ none) × (written ≡ 0) × (new ≡ old)
LineShown status written (Some line) old new = IsWritten status written line old new

-- A text is written to the front of a room for it, if it is long enough, with the status that is
-- due; else nothing is. Its length is said in either case.
pub record TextShown (due status count : ℕ) (text old new : List ℕ) : Type 0 where
  pub count_is : count ≡ length text
  pub fits : length text ≤ length old → (status ≡ due) × (new ≡ text ++ drop (length text) old)
  pub short : length old < length text → (status ≡ none) × (new ≡ old)

-- the same of a text of a tape, if there is one
abbrev pub TapeShown : (status count : ℕ) → (tape : Bool) → (text old new : List ℕ) → Type 0
TapeShown status count true text old new = TextShown ok status count text old new
TapeShown status count false text old new = (status ≡ none) × (count ≡ 0) × (new ≡ old)
