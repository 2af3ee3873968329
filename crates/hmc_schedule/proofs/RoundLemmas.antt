-- Steps at ascending indices.
use Rattle.std.proofs.Common.{◌≡◌, ◌∙◌, ℕ, ◌+◌, List, [], ◌∷◌, ◌++◌, map, refl, sym, ap, append-nil, zero-add, Result, Ok, Err, IfOk}
use Rattle.std.specs.List.{flat_map}
use Rattle.std.proofs.lemmas.Grind.{flat_map-append}
use Rattle.std.proofs.lemmas.List.FromFn.{map-range_with_len_more}
use Rattle.std.specs.Result.{IsOkAnd}
use Rattle.hmc_schedule.specs.declared.step.Step.{Step}
use Rattle.hmc_codes.specs.Numbers.{upto}

map-same : (xs : List ℕ) → map (λ x. x) xs ≡ xs
map-same [] = refl
map-same (x ∷ xs) = ap (λ l. x ∷ l) (map-same xs)

pub upto-more : (n : ℕ) → upto (n + 1) ≡ upto n ++ n ∷ []
upto-more n =
    sym (map-same (upto (n + 1))) ∙ map-range_with_len_more (λ x. x) 0 n n (zero-add n) ∙ ap (λ l. l ++ n ∷ []) (map-same (upto n))

-- what one index more gives
pub flat_map-upto_more : {X : Type 0} (f : ℕ → List X) (n : ℕ) → flat_map f (upto (n + 1)) ≡ flat_map f (upto n) ++ f n
flat_map-upto_more f n =
    ap (flat_map f) (upto-more n) ∙ flat_map-append f (upto n) (n ∷ []) ∙ ap (λ l. flat_map f (upto n) ++ l) (append-nil (f n))

-- steps that were put behind others are known
pub added : {V E : Type 0} (items : V → List Step) (more : Result V E) (old new steps : List Step) → IsOkAnd more (λ v. new ≡ old ++ items v) → IfOk more (λ v. items v ≡ steps) → new ≡ old ++ steps
added items (Ok v) old new steps is made = is ∙ ap (λ l. old ++ l) made
added items (Err e) old new steps is made = absurd is

-- the steps at one index more were put behind the others
pub one_more : {V E : Type 0} (items : V → List Step) (f : ℕ → List Step) (n : ℕ) (more : Result V E) (old new : List Step) → IsOkAnd more (λ v. new ≡ old ++ items v) → IfOk more (λ v. items v ≡ f n) → old ≡ flat_map f (upto n) → new ≡ flat_map f (upto (n + 1))
one_more items f n more old new is made so_far =
    added items more old new (f n) is made ∙ ap (λ l. l ++ f n) so_far ∙ sym (flat_map-upto_more f n)
