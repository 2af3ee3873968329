-- Where there is no such cube there is no such part of it.
use Rattle.std.proofs.Common.{◌≡◌, ◌≤◌, ◌^◌, ℕ, zero, suc, Bool, true, false, List, [], ◌∷◌, length, slice_get, Option, None, inl, inr, refl, ap, arith}
use Rattle.std.specs.Prelude.{◌&&◌, nat_lt, slice_index_or}
use Rattle.std.specs.Option.{option_map_or}
use Rattle.std.proofs.lemmas.Bool.{cases_lt}
use Rattle.std.proofs.lemmas.Bool.Decides.{nat_tests}
use Rattle.hmc_codes.specs.Limits.{ports}
use Rattle.hmc_schedule.specs.Plan.{PlanFields, CubePlanFields, is_joined, vaults_at}
use Rattle.hmc_session.specs.Refusals.{has_cube, has_port, has_vault}

-- past the end of a list there is nothing
nothing : {X : Type 0} (xs : List X) (n : ℕ) → length xs ≤ n → slice_get xs n ≡ None
nothing [] n over = refl
nothing (x ∷ xs) zero over = absurd (omega (arith, over))
nothing (x ∷ xs) (suc n) over = nothing xs n (omega (arith, over))

-- a vault that a cube has is one of a cube that is there
pub vault_there : (plan : PlanFields) (cube vault : ℕ) → nat_lt vault (vaults_at plan cube) ≡ has_vault plan cube vault
vault_there plan cube vault = elim (cases_lt cube (length plan.cubes)) [
  | inl there ↦ let yes : has_cube plan cube ≡ true = grind (arith, nat_tests, there) in rw yes refl
  | inr over ↦
      let none : vaults_at plan cube ≡ 0 = ap (λ (o : Option CubePlanFields). option_map_or (λ (fields : CubePlanFields). 2 ^ fields.shape.vault_bits) o 0) (nothing plan.cubes cube over) in
      let no : has_cube plan cube ≡ false = grind (arith, nat_tests, over) in
      rw none (rw no (grind (arith, nat_tests)))
]

and_false : (b : Bool) → (b && false) ≡ false
and_false true = refl
and_false false = refl

-- a joined port that a cube has is one of a cube that is there
pub port_there : (plan : PlanFields) (cube port : ℕ) → (nat_lt port ports && is_joined plan cube port) ≡ has_port plan cube port
port_there plan cube port = elim (cases_lt cube (length plan.cubes)) [
  | inl there ↦ let yes : has_cube plan cube ≡ true = grind (arith, nat_tests, there) in rw yes refl
  | inr over ↦
      let none : is_joined plan cube port ≡ false = ap (λ (o : Option CubePlanFields). option_map_or (λ (fields : CubePlanFields). slice_index_or fields.ports port false) o false) (nothing plan.cubes cube over) in
      let no : has_cube plan cube ≡ false = grind (arith, nat_tests, over) in
      rw none (rw no (and_false (nat_lt port ports)))
]
