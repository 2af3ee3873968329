use Rattle.std.proofs.Common.{◌≡◌, ◌<◌, ◌+◌, ℕ, zero, suc, Bool, true, false, nat_lt, ltb-true, List, [], ◌∷◌, length, refl, sym, subst, arith}
use Rattle.std.proofs.lemmas.Grind.{common_steps}
use Rattle.std.specs.Prelude.{slice_index_or}
use Rattle.hmc_cube.specs.Cube.{CubeFields}
use Rattle.hmc_cube.specs.Parts.{AreParts}
use Rattle.hmc_net.proofs.network.are_cubes.Goals as goal

at_place : (l : List CubeFields) (k : ℕ) (x d : CubeFields) → k < length l →
    x ≡ slice_index_or l k x → slice_index_or l k d ≡ x
at_place [] k x d less is = absurd (omega (arith, less))
at_place (y ∷ l) zero x d less is = sym is
at_place (y ∷ l) (suc k) x d less is = at_place l k x d (omega (arith, less)) is

not_less : (k i : ℕ) → nat_lt k i ≡ false → k < i + 1 → k ≡ i
not_less k i e less = grind (arith, common_steps)

next_kept : (l : List CubeFields) (i : ℕ) (x : CubeFields) →
    ((k : ℕ) (d : CubeFields) → k < i → AreParts (slice_index_or l k d)) → i < length l →
    x ≡ slice_index_or l i x → AreParts x → (k : ℕ) (d : CubeFields) → k < i + 1 →
    AreParts (slice_index_or l k d)
next_kept l i x all inside is here k d less = by_last (nat_lt k i) refl
  where
    last : nat_lt k i ≡ false → k ≡ i
    last e = not_less k i e less

    by_last : (b : Bool) → nat_lt k i ≡ b → AreParts (slice_index_or l k d)
    by_last true e = all k d (ltb-true k i e)
    by_last false e =
        subst (λ (n : ℕ). AreParts (slice_index_or l n d)) (sym (last e))
        (subst AreParts (sym (at_place l i x d inside is)) here)

pub loop-cube-preserved : goal.loop-cube-preserved
loop-cube-preserved c =
    next_kept c.args.cubes.now c.loop-cube.cube-index c.cube-item.result c.loop-cube.invariant
    c.loop-cube-test.true c.cube-item.is c.invariant.ensures
