use Rattle.std.proofs.Common.{◌≡◌, ◌≤◌, ◌∙◌, ℕ, List, [], ◌∷◌, length, get_or, take, refl, ap}
use Rattle.std.proofs.Common.{arith}
use Rattle.std.specs.Int.{w32, from_le_bytes}
use Rattle.hmc_codes.proofs.payload.Payload.value.Goals as goal

four_bytes : (xs : List ℕ) → 4 ≤ length xs →
    get_or xs 0 0 ∷ get_or xs 1 0 ∷ get_or xs 2 0 ∷ get_or xs 3 0 ∷ [] ≡ take 4 xs
four_bytes [] h = absurd (omega (arith, h))
four_bytes (a ∷ []) h = absurd (omega (arith, h))
four_bytes (a ∷ b ∷ []) h = absurd (omega (arith, h))
four_bytes (a ∷ b ∷ c ∷ []) h = absurd (omega (arith, h))
four_bytes (a ∷ b ∷ c ∷ d ∷ xs) h = refl

pub returns : goal.returns
returns c =
    c.from_le_bytes.ensures ∙ ap (from_le_bytes w32)
    (four_bytes c.as_slice-bytes.result.now (rw c.as_slice-bytes.ensures.bytes c.requires)
    ∙ ap (take 4) c.as_slice-bytes.ensures.bytes)
