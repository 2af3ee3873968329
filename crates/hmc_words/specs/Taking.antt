-- Steps that take words from the front of a line, or find something else there.
use Rattle.std.specs.Prelude.{◌≡◌, ℕ, Bool, true, false, List, Option, Some, None, if◌then◌else◌}
use Rattle.std.specs.Str.{bytes_eq}
use Rattle.hmc_text.specs.Number.{below, number_of}
use Rattle.hmc_text.specs.Words.{first_word}

-- the second step, if the first took something
infixl 10 ◌>>=◌
abbrev pub ◌>>=◌ : {A B : Type 0} → Option A → (A → Option B) → Option B
None >>= f = None
(Some x) >>= f = f x

-- a number below the limit, and the words after it
unfoldable pub take_number : ℕ → List (List ℕ) → Option (ℕ × List (List ℕ))
take_number limit words = do
  first ← first_word words
  number ← below limit (number_of first.0)
  Some (number, first.1)

-- the first word, if there is one, is this one, which is taken then
abbrev pub taken_if : List ℕ → Option (List ℕ × List (List ℕ)) → List (List ℕ)
    → (Bool × List (List ℕ))
taken_if word None words = (false, words)
taken_if word (Some first) words =
    if bytes_eq first.0 word then (true, first.1) else (false, words)

-- whether this word comes next, and the words that are left
abbrev pub take_this : List ℕ → List (List ℕ) → (Bool × List (List ℕ))
take_this word words = taken_if word (first_word words) words

-- a call took what reading gives, and these words are left; or there is nothing that it reads
abbrev pub Takes : {X Y : Type 0} → (X → Y) → Option X → List (List ℕ)
    → Option (Y × List (List ℕ)) → Type 0
Takes view None left read = read ≡ None
Takes view (Some x) left read = read ≡ Some (view x, left)
