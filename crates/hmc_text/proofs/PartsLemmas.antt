-- The parts of a list between separators, one after another.
use Rattle.std.proofs.Common.{◌≡◌, ◌∙◌, ◌<◌, ◌≤◌, ℕ, zero, suc, Bool, true, false, Option, Some, None, List, [], ◌∷◌, length, take, drop, refl, sym, ap, arith}
use Rattle.std.specs.Prelude.{slice_index}
use Rattle.std.specs.Option.{unwrap_or}
use Rattle.memchr.specs.Find.{IsFirstByte}
use Rattle.std.specs.List.{slice_split, onto_first, prefix_len, position_or_len}

pub prefix_len-yes : (p : ℕ → Bool) (x : ℕ) (xs : List ℕ) → p x ≡ true → prefix_len p (x ∷ xs) ≡ suc (prefix_len p xs)
prefix_len-yes p x xs holds = rw holds (omega arith)

pub prefix_len-no : (p : ℕ → Bool) (x : ℕ) (xs : List ℕ) → p x ≡ false → prefix_len p (x ∷ xs) ≡ 0
prefix_len-no p x xs fails = rw fails refl

pub position-yes : (p : ℕ → Bool) (x : ℕ) (xs : List ℕ) → p x ≡ true → position_or_len p (x ∷ xs) ≡ 0
position-yes p x xs holds = rw holds refl

pub position-no : (p : ℕ → Bool) (x : ℕ) (xs : List ℕ) → p x ≡ false → position_or_len p (x ∷ xs) ≡ suc (position_or_len p xs)
position-no p x xs fails = rw fails (omega arith)

-- the parts of a list that begins with a separator, except the empty one in front
abbrev pub parts_after : (ℕ → Bool) → List ℕ → List (List ℕ)
parts_after p [] = []
parts_after p (x ∷ xs) = slice_split p xs

-- the first part of a list and the parts after it
pub slice_split-first : (p : ℕ → Bool) (xs : List ℕ) → slice_split p xs ≡ take (position_or_len p xs) xs ∷ parts_after p (drop (position_or_len p xs) xs)
slice_split-first p [] = refl
slice_split-first p (x ∷ xs) = by_first (p x) refl (slice_split-first p xs) where
  by_first : (first : Bool) → p x ≡ first → slice_split p xs ≡ take (position_or_len p xs) xs ∷ parts_after p (drop (position_or_len p xs) xs) → slice_split p (x ∷ xs) ≡ take (position_or_len p (x ∷ xs)) (x ∷ xs) ∷ parts_after p (drop (position_or_len p (x ∷ xs)) (x ∷ xs))
  by_first true holds later = rw holds refl
  by_first false fails later =
      rw (position-no p x xs fails) (rw fails (ap (onto_first x) later))

-- p passes no element before k
abbrev pub NoneUpTo : (ℕ → Bool) → List ℕ → ℕ → Type 0
NoneUpTo p xs k = (j : ℕ) → 0 ≤ j → j < k → p (slice_index xs j) ≡ true → ⊥

none_later : (p : ℕ → Bool) (x : ℕ) (xs : List ℕ) (k : ℕ) → NoneUpTo p (x ∷ xs) (suc k) → NoneUpTo p xs k
none_later p x xs k none j low below passes = none (suc j) (omega arith) (omega arith) passes

-- the place of the first element that passes
pub position-found : (p : ℕ → Bool) (xs : List ℕ) (k : ℕ) → k < length xs → NoneUpTo p xs k → p (slice_index xs k) ≡ true → k ≡ position_or_len p xs
position-found p [] k inside none passes = absurd (omega arith)
position-found p (x ∷ xs) zero inside none passes = sym (position-yes p x xs passes)
position-found p (x ∷ xs) (suc k) inside none passes = by_first (p x) refl (position-found p xs k (omega arith) (none_later p x xs k none) passes) where
  by_first : (first : Bool) → p x ≡ first → k ≡ position_or_len p xs → suc k ≡ position_or_len p (x ∷ xs)
  by_first true holds later = absurd (none 0 (omega arith) (omega arith) holds)
  by_first false fails later = ap suc later ∙ sym (position-no p x xs fails)

-- no element passes
pub position-none : (p : ℕ → Bool) (xs : List ℕ) → NoneUpTo p xs (length xs) → length xs ≡ position_or_len p xs
position-none p [] none = refl
position-none p (x ∷ xs) none = by_first (p x) refl (position-none p xs (none_later p x xs (length xs) none)) where
  by_first : (first : Bool) → p x ≡ first → length xs ≡ position_or_len p xs → suc (length xs) ≡ position_or_len p (x ∷ xs)
  by_first true holds later = absurd (none 0 (omega arith) (omega arith) holds)
  by_first false fails later = ap suc later ∙ sym (position-no p x xs fails)

-- what a search found, or the length
pub position-searched : (p : ℕ → Bool) (xs : List ℕ) (found : Option ℕ) → IsFirstByte p xs found → unwrap_or found (length xs) ≡ position_or_len p xs
position-searched p xs None none = position-none p xs none
position-searched p xs (Some k) is = position-found p xs k is.0.high is.0.before is.1

-- it is not behind the end
pub searched-few : (p : ℕ → Bool) (xs : List ℕ) (found : Option ℕ) → IsFirstByte p xs found → unwrap_or found (length xs) ≤ length xs
searched-few p xs None none = omega arith
searched-few p xs (Some k) is = omega (arith, is.0.high)
