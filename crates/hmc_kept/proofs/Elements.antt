-- A list in which one element is changed.
use Rattle.std.proofs.Common.{◌≡◌, ◌≢◌, ◌<◌, ◌==◌, ◌∙◌, ℕ, zero, suc, Bool, true, false, List, [], ◌∷◌, length, refl, sym, ap, subst, arith, eqb-true, eq-eqb}
use Rattle.std.specs.Prelude.{slice_set, slice_index_or}
use Rattle.std.proofs.lemmas.List.{get_or-set_same, get_or-set_other, length-set}
use Rattle.hmc_journal.specs.Choice.{choose}

pub other_than : (i j : ℕ) → (i == j) ≡ false → j ≢ i
other_than i j is same = let clash : true ≡ false = sym (eq-eqb i j (sym same)) ∙ is in cc

-- within a list the value for what isn't there doesn't matter
pub default_same : {X : Type 0} (xs : List X) (i : ℕ) (d e : X) → i < length xs → slice_index_or xs i d ≡ slice_index_or xs i e
default_same [] i d e there = absurd (omega arith)
default_same (x ∷ xs) zero d e there = refl
default_same (x ∷ xs) (suc i) d e there = default_same xs i d e (omega arith)

-- an element of the list: the one that was changed, or as it was
pub changed_at : {X : Type 0} (xs : List X) (i j : ℕ) (x d : X) (test : Bool) → (i == j) ≡ test → i < length xs → slice_index_or (slice_set xs i x) j d ≡ choose test x (slice_index_or xs j d)
changed_at xs i j x d true is there = ap (λ (n : ℕ). slice_index_or (slice_set xs i x) n d) (sym (eqb-true i j is)) ∙ get_or-set_same xs i x d there
changed_at xs i j x d false is there = get_or-set_other xs i j x d (other_than i j is)

-- what holds of the changed element and held of the others holds of each
pub each_set : {X : Type 0} (P : ℕ → X → Type 0) (xs : List X) (i : ℕ) (x : X) → i < length xs → P i x → ((j : ℕ) (d : X) → (i == j) ≡ false → j < length xs → P j (slice_index_or xs j d))
    → (j : ℕ) (d : X) → j < length (slice_set xs i x) → P j (slice_index_or (slice_set xs i x) j d)
each_set P xs i x there here others j d less = by_test (i == j) refl
  where
    by_test : (test : Bool) → (i == j) ≡ test → P j (slice_index_or (slice_set xs i x) j d)
    by_test true is =
        subst (λ (n : ℕ). P n (slice_index_or (slice_set xs i x) n d)) (eqb-true i j is) (subst (P i) (sym (get_or-set_same xs i x d there)) here)
    by_test false is = subst (P j) (sym (get_or-set_other xs i j x d (other_than i j is))) (others j d is (omega (arith, length-set xs i x)))
