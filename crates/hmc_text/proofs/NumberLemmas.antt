-- Numbers, digit by digit.
use Rattle.std.proofs.Common.{◌≡◌, ◌∙◌, ◌<◌, ◌≤◌, ℕ, ◌+◌, ◌*◌, ◌^◌, Option, Some, List, length, drop, get_or, drop-cons, add-one, option_and_then, refl, sym, ap, arith}
use Rattle.std.proofs.Math.Nat.{pow-le-pow_right, mul-le-mul_left, pow-suc}
use Rattle.std.proofs.Math.ListN.{drop_of_length-le}
use Rattle.hex.specs.Hex.{hex_digit_value}
use Rattle.hmc_text.specs.Number.{below, number_after}

-- a digit after some digits
pub one_more_digit : (base n digits d : ℕ) → base ≤ 16 → n < 16 ^ digits → d < base → n * base + d < 16 ^ (digits + 1)
one_more_digit base n digits d small few digit =
    let below_next : n * base + d < (n + 1) * 16 = grind (arith, mul-le-mul_left {m = base} {n = 16} n small) in
    let next : 16 ^ (digits + 1) ≡ 16 ^ digits * 16 = rw add-one (pow-suc 16 digits) in
    rw next (omega arith)

-- there is room for 20 digits
pub room_for_a_digit : (base n digits d : ℕ) → base ≤ 16 → n < 16 ^ digits → digits < 20 → d < base → n * base + d < 2 ^ 128
room_for_a_digit base n digits d small few more digit =
    let some : 0 < 16 = omega arith in
    let most : digits + 1 ≤ 20 = omega arith in
    omega (arith, one_more_digit base n digits d small few digit, pow-le-pow_right some most)

-- the next digit
pub number_after-drop : (base n i : ℕ) (xs : List ℕ) → i < length xs → number_after base n (drop i xs) ≡ option_and_then (λ d. number_after base (n * base + d) (drop (i + 1) xs)) (below base (hex_digit_value (get_or xs i 0)))
unfolding number_after
number_after-drop base n i xs within = rw (add-one, drop-cons xs i 0) refl

-- no digit is left
pub number_after-all : (base n i : ℕ) (xs : List ℕ) → length xs ≤ i → number_after base n (drop i xs) ≡ Some n
unfolding number_after
number_after-all base n i xs all = rw (drop_of_length-le xs all) refl

-- what reading the next digit gives
pub number_after-digit : (base n i : ℕ) (xs : List ℕ) (whole : Option ℕ) (digit : Option ℕ) → i < length xs → digit ≡ below base (hex_digit_value (get_or xs i 0)) → number_after base n (drop i xs) ≡ whole → option_and_then (λ d. number_after base (n * base + d) (drop (i + 1) xs)) digit ≡ whole
number_after-digit base n i xs whole digit within is so_far =
    ap (option_and_then (λ d. number_after base (n * base + d) (drop (i + 1) xs))) is ∙ sym (number_after-drop base n i xs within) ∙ so_far
