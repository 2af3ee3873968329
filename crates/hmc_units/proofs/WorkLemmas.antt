-- The work of the first slot that has a unit of a cube and a code.
use Rattle.std.proofs.Common.{◌≡◌, ◌∙◌, ◌≤◌, ◌<◌, ◌↔◌, ℕ, zero, suc, Bool, true, false, cond, List, [], ◌∷◌, length, get_or, set, ap, sym, subst, refl, arith, Option, Some, None}
use Rattle.std.specs.Prelude.{map, find, ◌==◌, ◌&&◌, ◌||◌, IsNone, IfNone, option_and_then}
use Rattle.std.specs.List.{list_any, position, position_or_len}
use Rattle.std.proofs.lemmas.Grind.{common_steps}
use Rattle.std.proofs.lemmas.List.Sums.{fails_before_first}
use Rattle.hmc_codes.specs.declared.answer.Acted.{Acted}
use Rattle.hmc_units.specs.Unit.{UnitFields}
use Rattle.hmc_units.specs.Bench.{serves, acted_in, worked_slot, bench_acted, worked_slots}

-- a bench gives no answer exactly where no slot serves
none_serves : (cube code : ℕ) (block operand : List ℕ) (slots : List (Option UnitFields)) → IsNone (bench_acted slots cube code block operand) ↔ (list_any (serves cube code) slots ≡ false)
none_serves cube code block operand [] = (λ _. refl, λ _. refl)
none_serves cube code block operand (None ∷ slots) = none_serves cube code block operand slots
none_serves cube code block operand (Some unit ∷ slots) =
    elim (unit.cube == cube && unit.code == code) as (λ b. IsNone (option_and_then (λ slot. acted_in slot block operand) (cond b (Some (Some unit)) (find (serves cube code) slots))) ↔ ((b || list_any (serves cube code) slots) ≡ false)) [
      | true ↦ (λ none. none, λ none. none)
      | false ↦ none_serves cube code block operand slots
    ]

pub none_serves_at : (cube code : ℕ) (block operand : List ℕ) (slots : List (Option UnitFields)) (acted : Option Acted) → acted ≡ bench_acted slots cube code block operand → IsNone acted ↔ (list_any (serves cube code) slots ≡ false)
none_serves_at cube code block operand slots acted is =
    subst (λ (answer : Option Acted). IsNone answer ↔ (list_any (serves cube code) slots ≡ false)) (sym is) (none_serves cube code block operand slots)

-- and then nothing changes
unchanged : (cube code : ℕ) (block operand : List ℕ) (slots : List (Option UnitFields)) → bench_acted slots cube code block operand ≡ None → worked_slots slots cube code block operand ≡ slots
unchanged cube code block operand [] none = refl
unchanged cube code block operand (None ∷ slots) none = ap (λ (rest : List (Option UnitFields)). None ∷ rest) (unchanged cube code block operand slots none)
unchanged cube code block operand (Some unit ∷ slots) none =
    (elim (unit.cube == cube && unit.code == code) as (λ b. option_and_then (λ slot. acted_in slot block operand) (cond b (Some (Some unit)) (find (serves cube code) slots)) ≡ None
    → cond b (worked_slot (Some unit) block operand ∷ slots) (Some unit ∷ worked_slots slots cube code block operand) ≡ Some unit ∷ slots) [
      | true ↦ λ some. absurd (cc)
      | false ↦ λ rest. ap (λ (others : List (Option UnitFields)). Some unit ∷ others) (unchanged cube code block operand slots rest)
    ]) none

pub unchanged_by_none : (cube code : ℕ) (block operand : List ℕ) (slots new : List (Option UnitFields)) (acted : Option Acted) → acted ≡ bench_acted slots cube code block operand → new ≡ worked_slots slots cube code block operand
    → IfNone acted (new ≡ slots)
unchanged_by_none cube code block operand slots new None is new_is = new_is ∙ unchanged cube code block operand slots (sym is)
unchanged_by_none cube code block operand slots new (Some acted) is new_is = tt

-- where a test has no position it fails everywhere
fails : {X : Type 0} → (test : X → Bool) (xs : List X) → position test xs ≡ None → (k : ℕ) (d : X) → k < length xs → test (get_or xs k d) ≡ false
fails test xs none k d inside =
    let past : length xs ≤ position_or_len test xs = grind (arith, common_steps) in
    fails_before_first test xs k d (omega arith)

module _ {X : Type 0} (view : X → Option UnitFields) (cube code : ℕ) (block operand : List ℕ) where
  -- the first slot that serves is found
  pub found : (xs : List X) (k : ℕ) (d : X) → k < length xs → serves cube code (view (get_or xs k d)) ≡ true → ((j : ℕ) → j < k → serves cube code (view (get_or xs j d)) ≡ false)
      → bench_acted (map view xs) cube code block operand ≡ acted_in (view (get_or xs k d)) block operand
  found [] k d inside here before = absurd (omega arith)
  found (x ∷ xs) zero d inside here before =
      ap (λ (b : Bool). option_and_then (λ slot. acted_in slot block operand) (cond b (Some (view x)) (find (serves cube code) (map view xs)))) here
  found (x ∷ xs) (suc k) d inside here before =
      ap (λ (b : Bool). option_and_then (λ slot. acted_in slot block operand) (cond b (Some (view x)) (find (serves cube code) (map view xs)))) (before 0 (omega arith))
      ∙ found xs k d (omega arith) here (λ j lt. before (suc j) (omega arith))

  -- and it alone has worked
  pub found_worked : (xs : List X) (k : ℕ) (d y : X) → k < length xs → serves cube code (view (get_or xs k d)) ≡ true → ((j : ℕ) → j < k → serves cube code (view (get_or xs j d)) ≡ false)
      → view y ≡ worked_slot (view (get_or xs k d)) block operand
      → map view (set xs k y) ≡ worked_slots (map view xs) cube code block operand
  found_worked [] k d y inside here before is = absurd (omega arith)
  found_worked (x ∷ xs) zero d y inside here before is =
      ap (λ (slot : Option UnitFields). slot ∷ map view xs) is
      ∙ sym (ap (λ (b : Bool). cond b (worked_slot (view x) block operand ∷ map view xs) (view x ∷ worked_slots (map view xs) cube code block operand)) here)
  found_worked (x ∷ xs) (suc k) d y inside here before is =
      ap (λ (rest : List (Option UnitFields)). view x ∷ rest) (found_worked xs k d y (omega arith) here (λ j lt. before (suc j) (omega arith)) is)
      ∙ sym (ap (λ (b : Bool). cond b (worked_slot (view x) block operand ∷ map view xs) (view x ∷ worked_slots (map view xs) cube code block operand)) (before 0 (omega arith)))

  -- where none serves there is no answer
  not_found : (xs : List X) → ((k : ℕ) (d : X) → k < length xs → serves cube code (view (get_or xs k d)) ≡ false) → bench_acted (map view xs) cube code block operand ≡ None
  not_found [] none = refl
  not_found (x ∷ xs) none =
      ap (λ (b : Bool). option_and_then (λ slot. acted_in slot block operand) (cond b (Some (view x)) (find (serves cube code) (map view xs)))) (none 0 x (omega arith))
      ∙ not_found xs (λ k d lt. none (suc k) d (omega arith))

  pub none_acted : (xs : List X) → position (λ x. serves cube code (view x)) xs ≡ None → bench_acted (map view xs) cube code block operand ≡ None
  none_acted xs none = not_found xs (fails (λ x. serves cube code (view x)) xs none)

  -- and nothing changes
  pub none_worked : (xs : List X) → position (λ x. serves cube code (view x)) xs ≡ None → map view xs ≡ worked_slots (map view xs) cube code block operand
  none_worked xs none = sym (unchanged cube code block operand (map view xs) (none_acted xs none))
