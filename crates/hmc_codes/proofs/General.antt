-- Facts of numbers, tests and lists that proofs of many crates cite.
use Rattle.std.proofs.Common.{◌≡◌, ◌∙◌, ◌≤◌, ◌<◌, ◌+◌, ◌-◌, ◌%◌, ◌^◌, ◌==◌, ◌&&◌, ℕ, zero, suc, Bool, true, false, not, nat_le, nat_lt, if◌then◌else◌, List, [], ◌∷◌, ◌++◌, drop, eqb-true, append-nil, refl, ap, arith}
use Rattle.std.specs.List.{concat}
use Rattle.std.proofs.lemmas.Bool.{and_parts}
use Rattle.std.proofs.lemmas.Bool.Decides.{nat_tests}
use Rattle.std.proofs.lemmas.Grind.{common_steps}
use Rattle.std.proofs.lemmas.List.Folds.{concat-append}
use Rattle.std.proofs.lemmas.Nat.{pow_pos}
use Rattle.hmc_codes.specs.Profile.{modulus_of}
use Rattle.hmc_codes.specs.declared.profile.Profile.{Profile}
use Rattle.hmc_codes.specs.declared.profile.Profile.TheVariants.{One, Two}

-- ---- remainders

pub below_power : (n bits : ℕ) → n % 2 ^ bits < 2 ^ bits
below_power n bits = let some : 0 < 2 ^ bits = pow_pos bits in omega arith

pub mod_small : (profile : Profile) (n : ℕ) → n % modulus_of profile < modulus_of profile
mod_small One n = omega arith
mod_small Two n = omega arith

pub mod_again : (profile : Profile) (a b : ℕ) → (a % modulus_of profile + b) % modulus_of profile ≡ (a + b) % modulus_of profile
mod_again One a b = omega arith
mod_again Two a b = omega arith

pub eight_again : (a b : ℕ) → (a % 8 + b) % 8 ≡ (a + b) % 8
eight_again a b = omega arith

-- ---- differences

pub less-more : (b a x : ℕ) → (b - a) - x ≡ b - (a + x)
less-more b a x = omega arith

-- ---- tests

pub suc-some : (n : ℕ) → (suc n == 0) ≡ false
suc-some n = grind (arith, common_steps)

pub is_zero : (n : ℕ) → n ≡ 0 → (n == 0) ≡ true
is_zero n is = ap (λ m. m == 0) is

pub two_equal : (a b c d : ℕ) → ((a == b) && (c == d)) ≡ true → (a ≡ b) × (c ≡ d)
two_equal a b c d is = let both = and_parts (a == b) (c == d) is in (eqb-true a b both.0, eqb-true c d both.1)

pub below_is_room : (used size : ℕ) → nat_lt used size ≡ not (nat_le size used)
below_is_room used size = grind (arith, nat_tests)

pub back-within : (b : Bool) (p n : ℕ) → p ≤ n → (if b then 0 else p) ≤ n
back-within true p n le = omega arith
back-within false p n le = le

-- ---- lists

pub drop-one_more : {X : Type 0} (n : ℕ) (l : List X) → drop (suc n) l ≡ drop 1 (drop n l)
drop-one_more zero l = refl
drop-one_more (suc n) [] = refl
drop-one_more (suc n) (x ∷ l) = drop-one_more n l

pub concat-more : (lines : List (List ℕ)) (line : List ℕ) → concat (lines ++ line ∷ []) ≡ concat lines ++ line
concat-more lines line = concat-append lines (line ∷ []) ∙ ap (λ t. concat lines ++ t) (append-nil line)
