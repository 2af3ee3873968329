-- Numbers that are printed are read again.
use Rattle.std.proofs.Common.{◌≡◌, ◌∙◌, ◌<◌, ◌≤◌, ℕ, zero, suc, ◌+◌, ◌*◌, ◌/◌, ◌%◌, ◌^◌, Bool, true, false, Some, List, [], ◌∷◌, length, option_and_then, nat_le, nat_eq, ◌==◌, codes, refl, ap, arith, cond}
use mathlib.Core.Bool.{and-false}
use Rattle.std.specs.Char.{digit_value}
use Rattle.std.specs.Fmt.{decimal, digits, digits_onto, digit_glyph}
use Rattle.std.specs.List.{starts_with}
use Rattle.std.specs.Str.Parse.{AllDigits, IsNumeral, digits_value, digits_value_after}
use Rattle.std.proofs.lemmas.Bool.Decides.{nat_tests}
use Rattle.std.proofs.lemmas.Fmt.{digits_is_IsNumeral, decimal_is_IsNumeral, length-decimal-le}
use Rattle.std.proofs.Math.Nat.{pow-suc, pow-zero, div-eq_of_lt, div-lt_iff_lt-mul}
use Rattle.hex.specs.Hex.{hex_digit_value}
use Rattle.hmc_codes.specs.Text.{hex_number}
use Rattle.hmc_text.specs.Number.{below, number_after, number_in, number_of}

pub hex_digit_value-digit : (c : ℕ) → digit_value c < 16 → hex_digit_value c ≡ Some (digit_value c)
hex_digit_value-digit c small = grind (arith, nat_tests)

pub below-is : (limit n : ℕ) → n < limit → below limit (Some n) ≡ Some n
below-is limit n small = grind (arith, nat_tests)

pub number_after-digits : (base n : ℕ) (ds : List ℕ) → base ≤ 16 → AllDigits base ds → number_after base n ds ≡ Some (digits_value_after base n ds)
unfolding number_after
number_after-digits base n [] small all = refl
number_after-digits base n (c ∷ cs) small all =
    let digit : below base (hex_digit_value c) ≡ Some (digit_value c) = ap (below base) (hex_digit_value-digit c (omega (arith, all.0))) ∙ below-is base (digit_value c) all.0 in
    ap (option_and_then (λ d. number_after base (n * base + d) cs)) digit ∙ number_after-digits base (n * base + digit_value c) cs small all.1

pub number_in-numeral : (base n : ℕ) (ds : List ℕ) → base ≤ 16 → IsNumeral base ds → length ds ≤ 20 → digits_value base ds ≡ n → number_in base ds ≡ Some n
unfolding number_in
number_in-numeral base n ds small numeral few is =
    let some : nat_le 1 (length ds) ≡ true = let long = numeral.0 in grind (arith, nat_tests) in
    let fits : nat_le (length ds) 20 ≡ true = grind (arith, nat_tests) in
    rw (some, fits) (number_after-digits base 0 ds small numeral.1 ∙ ap Some is)

no_x : (d : ℕ) → digit_value d < 10 → nat_eq 120 d ≡ false
no_x d digit = grind (arith, nat_tests)

-- a decimal number doesn't begin with 0x
pub no_prefix : (ds : List ℕ) → AllDigits 10 ds → starts_with nat_eq ds (codes "0x") ≡ false
no_prefix [] all = refl
no_prefix (c ∷ []) all = and-false (nat_eq 48 c)
no_prefix (c ∷ d ∷ ds) all = rw (no_x d all.1.0) (and-false (nat_eq 48 c))

pub number_of-decimal : (n : ℕ) → n < 2 ^ 64 → number_of (decimal n) ≡ Some n
unfolding number_of
number_of-decimal n small =
    let numeral = decimal_is_IsNumeral n small in
    rw (no_prefix (decimal n) numeral.0.1) (number_in-numeral 10 n (decimal n) (omega arith) numeral.0 (length-decimal-le 20 n (omega arith) (omega arith) small) numeral.1)

to_one : (base : ℕ) → base ^ 1 ≡ base
to_one base = pow-suc base 0 ∙ ap (λ k. k * base) (pow-zero base) ∙ omega arith

-- a number with j + 1 digits at most
length-digits_onto : (k j base n : ℕ) (acc : List ℕ) → 2 ≤ base → n < base ^ suc j → length (digits_onto k base false n acc) ≤ suc j + length acc
length-digits_onto zero j base n acc low few = omega arith
length-digits_onto (suc k) zero base n acc low few =
    let one : n < base = omega (arith, few, to_one base) in
    let none : n / base ≡ 0 = div-eq_of_lt one in
    rw none (omega arith)
length-digits_onto (suc k) (suc j) base n acc low few = by_rest (n / base == 0) (length-digits_onto k j base (n / base) (digit_glyph false (n % base) ∷ acc) low front) where
  front : n / base < base ^ suc j
  front =
      let some : 0 < base = omega arith in
      (div-lt_iff_lt-mul {k = base} {x = n} {y = base ^ suc j} some).1 (rw (← pow-suc base (suc j)) few)

  by_rest : (last : Bool) → length (digits_onto k base false (n / base) (digit_glyph false (n % base) ∷ acc)) ≤ suc j + length (digit_glyph false (n % base) ∷ acc) → length (cond last (digit_glyph false (n % base) ∷ acc) (digits_onto k base false (n / base) (digit_glyph false (n % base) ∷ acc))) ≤ suc (suc j) + length acc
  by_rest true rest = omega arith
  by_rest false rest = omega arith

pub number_of-hex : (n : ℕ) → n < 2 ^ 34 → number_of (hex_number n) ≡ Some n
unfolding number_of digits
number_of-hex n small =
    let numeral = digits_is_IsNumeral 16 false (omega arith) (omega arith) n (omega arith) in
    let few : length (digits 16 false n) ≤ 20 = omega (arith, length-digits_onto 64 8 16 n [] (omega arith) (omega arith)) in
    number_in-numeral 16 n (digits 16 false n) (omega arith) numeral.0 few numeral.1
