-- Facts of lists and of numbers.
use Rattle.std.proofs.Common.{◌≡◌, ◌∙◌, ◌≤◌, ◌<◌, ◌+◌, ◌-◌, ℕ, zero, suc, List, [], ◌∷◌, ◌++◌, length, take, drop, map, Some, None, refl, sym, ap, arith}
use Rattle.std.specs.Prelude.{slice_get}
use Rattle.std.proofs.lemmas.List.{length-map as length-map-of, length-drop, drop-append-le, drop-map}
use Rattle.hmc_codes.proofs.General.{drop-one_more}

pub drop-push : {X : Type 0} (n : ℕ) (l : List X) (x : X) → n ≤ length l → drop n (l ++ x ∷ []) ≡ drop n l ++ x ∷ []
drop-push n l x le = drop-append-le n l (x ∷ []) le

pub drop-add : {X : Type 0} (n m : ℕ) (l : List X) → drop n (drop m l) ≡ drop (n + m) l
drop-add zero m l = ap (λ (k : ℕ). drop k l) (let e : m ≡ 0 + m = omega arith in e)
drop-add (suc n) m l = drop-one_more n (drop m l) ∙ ap (drop 1) (drop-add n m l) ∙ sym (drop-one_more (n + m) l) ∙ ap (λ (k : ℕ). drop k l) (let e : suc (n + m) ≡ suc n + m = omega arith in e)

pub map-drop : {X Y : Type 0} (f : X → Y) (n : ℕ) (l : List X) → map f (drop n l) ≡ drop n (map f l)
map-drop f n l = sym (drop-map f n l)

pub length-map : {X Y : Type 0} (f : X → Y) (l : List X) → length (map f l) ≡ length l
length-map f l = length-map-of l f

-- the front of what is left is at the place up to which was dropped
pub front-some : {X : Type 0} (l : List X) (x : X) → slice_get l 0 ≡ Some x → l ≡ x ∷ drop 1 l
front-some [] x is = absurd cc
front-some {X = X} (y ∷ l) x is = let e : y ≡ x = cc in ap (λ (z : X). z ∷ l) e

pub front-longer : {X : Type 0} (n : ℕ) (l : List X) (x : X) → slice_get (drop n l) 0 ≡ Some x → n < length l
front-longer n l x is = let e = ap length (front-some (drop n l) x is) in let d = length-drop n l in omega arith

pub front-none : {X : Type 0} (l : List X) → slice_get l 0 ≡ None → l ≡ []
front-none [] is = refl
front-none (x ∷ l) is = absurd cc

-- one item more is taken
pub take-one_more : {X : Type 0} (n : ℕ) (l : List X) (x : X) → slice_get (drop n l) 0 ≡ Some x → take (suc n) l ≡ take n l ++ x ∷ []
take-one_more zero [] x is = absurd cc
take-one_more {X = X} zero (y ∷ l) x is = let e : y ≡ x = cc in ap (λ (z : X). z ∷ []) e
take-one_more (suc n) [] x is = absurd cc
take-one_more {X = X} (suc n) (y ∷ l) x is = ap (λ (t : List X). y ∷ t) (take-one_more n l x is)

-- what is taken before more is added may be taken after it
pub taken-then-added : (all taken more : ℕ) → taken ≤ all → (all - taken) + more ≡ (all + more) - taken
taken-then-added all taken more within = omega arith
