-- A list to which one element is added.
use Rattle.std.proofs.Common.{◌≡◌, ◌<◌, ◌==◌, ℕ, Bool, true, false, List, [], ◌∷◌, ◌++◌, length, refl, sym, subst, arith, eqb-true}
use Rattle.std.specs.Prelude.{slice_index_or}
use Rattle.std.proofs.lemmas.List.{get_or_push, length_push, get_or_append_left}
use Rattle.hmc_kept.proofs.Elements.{other_than}

-- what held of each element and holds of the one that is added holds of each
pub each_pushed : {X : Type 0} (P : ℕ → X → Type 0) (xs : List X) (x : X) → ((j : ℕ) (d : X) → j < length xs → P j (slice_index_or xs j d)) → P (length xs) x
    → (j : ℕ) (d : X) → j < length (xs ++ x ∷ []) → P j (slice_index_or (xs ++ x ∷ []) j d)
each_pushed P xs x before here j d less = by_test (length xs == j) refl
  where
    by_test : (test : Bool) → (length xs == j) ≡ test → P j (slice_index_or (xs ++ x ∷ []) j d)
    by_test true is =
        subst (λ (n : ℕ). P n (slice_index_or (xs ++ x ∷ []) n d)) (eqb-true (length xs) j is) (subst (P (length xs)) (sym (get_or_push xs x d (length xs) refl)) here)
    by_test false is =
        let other = other_than (length xs) j is in
        let long = length_push xs x in
        let inside : j < length xs = omega arith in
        subst (P j) (sym (get_or_append_left xs (x ∷ []) d j inside)) (before j d inside)
