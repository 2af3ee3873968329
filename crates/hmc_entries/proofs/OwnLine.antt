-- A line that is appended to an empty text.
use Rattle.std.proofs.Common.{◌≡◌, ◌∙◌, ◌+◌, ◌<◌, ℕ, List, [], ◌++◌, length, ap, arith}

pub whole : (old new text : List ℕ) → old ≡ [] → new ≡ old ++ text → new ≡ text
whole old new text empty is = is ∙ ap (λ (l : List ℕ). l ++ text) empty

pub short : (old new text : List ℕ) → old ≡ [] → new ≡ old ++ text → length new < length old + 2048 → length text < 2048
short old new text empty is few = omega (arith, ap length (whole old new text empty is), ap length empty, few)
