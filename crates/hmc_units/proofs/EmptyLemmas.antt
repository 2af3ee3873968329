-- Empty slots stay empty.
use Rattle.std.proofs.Common.{◌≡◌, ℕ, zero, suc, true, false, cond, List, [], ◌∷◌, get_or, refl, Option, Some, None}
use Rattle.std.specs.Prelude.{is_some}
use Rattle.hmc_units.specs.Unit.{UnitFields}
use Rattle.hmc_units.specs.Bench.{serves, worked_slot, worked_slots, is_live, retired_slots}

pub retired_empty : (slots : List (Option UnitFields)) (slot : ℕ) → is_live (retired_slots slots slot) slot ≡ false
retired_empty [] slot = refl
retired_empty (first ∷ slots) zero = refl
retired_empty (first ∷ slots) (suc slot) = retired_empty slots slot

pub worked_empty : (slots : List (Option UnitFields)) (slot cube code : ℕ) (block operand : List ℕ) → is_live slots slot ≡ false → is_live (worked_slots slots cube code block operand) slot ≡ false
worked_empty [] slot cube code block operand is = refl
worked_empty (None ∷ slots) zero cube code block operand is = refl
worked_empty (Some unit ∷ slots) zero cube code block operand is = absurd (cc)
worked_empty (first ∷ slots) (suc slot) cube code block operand is =
    elim (serves cube code first) as (λ b. is_some (get_or (cond b (worked_slot first block operand ∷ slots) (first ∷ worked_slots slots cube code block operand)) (suc slot) None) ≡ false) [
      | true ↦ is
      | false ↦ worked_empty slots slot cube code block operand is
    ]

pub others_empty : (slots : List (Option UnitFields)) (slot other : ℕ) → is_live slots slot ≡ false → is_live (retired_slots slots other) slot ≡ false
others_empty [] slot other is = refl
others_empty (first ∷ slots) zero zero is = refl
others_empty (first ∷ slots) zero (suc other) is = is
others_empty (first ∷ slots) (suc slot) zero is = is
others_empty (first ∷ slots) (suc slot) (suc other) is = others_empty slots slot other is
