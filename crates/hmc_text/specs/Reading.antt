-- Steps that may fail, with any kind of fault.
use Rattle.std.specs.Prelude.{◌≡◌, List, [], ◌∷◌, ℕ, Option, Some, None, Result, Ok, Err}
use Rattle.hmc_text.specs.Number.{below, number_of}
use Rattle.hmc_text.specs.Words.{first_word}

-- the second step, if the first gave a value
infixl 10 ◌>>=◌
abbrev pub ◌>>=◌ : {A B K : Type 0} → Result A K → (A → Result B K) → Result B K
(Ok x) >>= f = f x
(Err kind) >>= f = Err kind

-- the value, or else this kind of fault
abbrev pub or_fault : {A K : Type 0} → K → Option A → Result A K
or_fault kind None = Err kind
or_fault kind (Some x) = Ok x

-- the first word and the words after it, or else this kind of fault
abbrev pub next_word : {K : Type 0} → K → List (List ℕ) → Result (List ℕ × List (List ℕ)) K
next_word missing words = or_fault missing (first_word words)

-- no word is left, or else this kind of fault
abbrev pub no_word : {K : Type 0} → K → List (List ℕ) → Result (Unit {0}) K
no_word left_over [] = Ok tt
no_word left_over (w ∷ ws) = Err left_over

-- a number below the limit and the words after it; a kind of fault for each thing that can be wrong
unfoldable pub number_word : {K : Type 0} → K → K → K → ℕ → List (List ℕ)
    → Result (ℕ × List (List ℕ)) K
number_word missing unread beyond limit words = do
  first ← next_word missing words
  number ← or_fault unread (number_of first.0)
  small ← or_fault beyond (below limit (Some number))
  Ok (small, first.1)

-- what a function returned, seen by view, is what reading gives
abbrev pub Gives : {X Y K : Type 0} → (X → Y) → Result X K → Result Y K → Type 0
Gives view (Ok x) read = read ≡ Ok (view x)
Gives view (Err kind) read = read ≡ Err kind
