-- The lines of a script, request by request.
use Rattle.std.proofs.Common.{◌≡◌, ◌≤◌, ◌∙◌, ℕ, zero, suc, List, [], ◌∷◌, length, drop, Some, sym, ap}
use Rattle.std.specs.Prelude.{map}
use Rattle.std.specs.List.{slice_get}
use Rattle.std.proofs.lemmas.List.{drop_all}

-- the next one
pub next_line : {X Y : Type 0} (f : X → Y) (xs : List X) (at next : ℕ) (x : X) →
    slice_get xs at ≡ Some x → next ≡ suc at →
    map f (drop at xs) ≡ f x ∷ map f (drop next xs)
next_line {X = X} f xs at next x is after = here xs at is ∙ ap (λ n. f x ∷ map f (drop n xs)) (sym after)
  where
    here : (ys : List X) (n : ℕ) → slice_get ys n ≡ Some x →
        map f (drop n ys) ≡ f x ∷ map f (drop (suc n) ys)
    here [] n is = absurd (cc)
    here (y ∷ ys) zero is = let same : y ≡ x = cc in ap (λ z. f z ∷ map f ys) same
    here (y ∷ ys) (suc n) is = here ys n is

-- none is left
pub no_line : {X Y : Type 0} (f : X → Y) (xs : List X) (at : ℕ) → length xs ≤ at →
    map f (drop at xs) ≡ []
no_line f xs at most = ap (map f) (drop_all at xs most)
