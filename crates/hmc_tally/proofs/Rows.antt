-- Rows by number, one of which is changed.
use Rattle.std.proofs.Common.{◌≡◌, ◌∙◌, ◌<◌, ◌+◌, ◌==◌, ℕ, zero, suc, Bool, true, ◌∷◌, refl, sym, ap, arith}
use Rattle.std.specs.Prelude.{map, replicate, slice_set, slice_index_or}
use Rattle.std.specs.List.{range_with_len}
use Rattle.std.proofs.lemmas.Bool.{ne_eqb}
use Rattle.std.proofs.lemmas.Bool.Decides.{nat_tests}
use Rattle.std.proofs.lemmas.List.FromFn.{get_or-map-range_with_len}
use Rattle.hmc_codes.specs.Numbers.{upto}
use Rattle.hmc_journal.specs.Choice.{choose}
use Rattle.hmc_tally.specs.Tally.{with_row}

-- two functions that agree at these numbers have the same values there
map_alike : {X : Type 0} (f g : ℕ → X) (a n : ℕ) → ((k : ℕ) → g k ≡ f k) → map f (range_with_len a n) ≡ map g (range_with_len a n)
map_alike f g a zero same = refl
map_alike f g a (suc n) same =
    ap (λ x. x ∷ map f (range_with_len (a + 1) n)) (sym (same a)) ∙ ap (λ l. g a ∷ l) (map_alike f g (a + 1) n same)

-- one value is changed, and the others are as they were
one_changed : {X : Type 0} (f g : ℕ → X) (a n at j : ℕ) (x : X) → a + at ≡ j → (at < n → x ≡ g j) → ((k : ℕ) → (j ≡ k → ⊥) → g k ≡ f k) → slice_set (map f (range_with_len a n)) at x ≡ map g (range_with_len a n)
one_changed f g a zero at j x is here other = refl
one_changed f g a (suc n) zero j x is here other =
    let e : j ≡ a = omega (arith, is) in
    let first : x ≡ g a = here (omega arith) ∙ ap g e in
    ap (λ y. y ∷ map f (range_with_len (a + 1) n)) first
    ∙ ap (λ l. g a ∷ l) (later (a + 1) n (omega (arith, e)))
  where
    later : (b m : ℕ) → j < b → map f (range_with_len b m) ≡ map g (range_with_len b m)
    later b zero above = refl
    later b (suc m) above =
        ap (λ y. y ∷ map f (range_with_len (b + 1) m)) (sym (other b (λ same. omega (arith, above, same)))) ∙ ap (λ l. g b ∷ l) (later (b + 1) m (omega (arith, above)))
one_changed f g a (suc n) (suc at) j x is here other =
    let first : f a ≡ g a = sym (other a (λ same. omega (arith, is, same))) in
    ap (λ y. y ∷ slice_set (map f (range_with_len (a + 1) n)) at x) first
    ∙ ap (λ l. g a ∷ l) (one_changed f g (a + 1) n at j x (omega (arith, is)) (λ h. here (omega (arith, h))) other)

same_true : (n : ℕ) → (n == n) ≡ true
same_true n = grind (arith, nat_tests)

-- the value at a number
pub value_at : {X : Type 0} (f : ℕ → X) (n at : ℕ) (d : X) → at < n → slice_index_or (map f (upto n)) at d ≡ f at
value_at f n at d h = get_or-map-range_with_len f 0 n at at d h (omega arith)

pub rows_same : {X : Type 0} (f g : ℕ → X) (n : ℕ) → ((k : ℕ) → g k ≡ f k) → map f (upto n) ≡ map g (upto n)
rows_same f g n same = map_alike f g 0 n same

-- the row with this number is changed, and the others stay
pub rows_changed : {X : Type 0} (none : X) (changed : X → X) (f g : ℕ → X) (n at : ℕ) → ((k : ℕ) → g k ≡ choose (at == k) (changed (f k)) (f k)) → with_row none at changed (map f (upto n)) ≡ map g (upto n)
rows_changed none changed f g n at row =
    one_changed f g 0 n at at _ (omega arith)
    (λ there. ap changed (value_at f n at none there) ∙ sym (row at ∙ ap (λ (b : Bool). choose b (changed (f at)) (f at)) (same_true at)))
    (λ k other. row k ∙ ap (λ (b : Bool). choose b (changed (f k)) (f k)) (ne_eqb at k other))

-- at first all rows are alike
pub rows_opened : {X : Type 0} (f : ℕ → X) (none : X) (a n : ℕ) → ((k : ℕ) → f k ≡ none) → replicate n none ≡ map f (range_with_len a n)
rows_opened f none a zero same = refl
rows_opened f none a (suc n) same = ap (λ x. x ∷ replicate n none) (sym (same a)) ∙ ap (λ l. f a ∷ l) (rows_opened f none (a + 1) n same)
