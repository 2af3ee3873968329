-- The bits of a number: of a sum over two elements, of a shift, and back to the number.
use Rattle.std.proofs.Common.{◌≡◌, ℕ, zero, suc, ◌+◌, ◌-◌, ◌*◌, ◌/◌, ◌%◌, ◌^◌, ◌<◌, ◌≤◌, Bool, true, false, cond, eqb, List, [], ◌∷◌, ◌++◌, length, refl, sym, ap, ◌∙◌, arith, add-zero}
use Rattle.std.specs.Int.Bits.{bit_xor}
use Rattle.std.specs.Int.{bit_at}
use Rattle.std.proofs.lemmas.Nat.{shl-shr, shr-shr, field_of, mod-pow-add, div-mul-add, mod-mul-add}
use Rattle.std.proofs.lemmas.Nat.Bits.{bit_at_xor, bit_at-lt, bit_at_cat_low, bit_at-zero}
use Rattle.std.proofs.Math.Pow.{mod-mod-pow}
use Rattle.std.proofs.Math.Nat.{mod-eq_of_lt, mod-one, pow-suc}
use mathlib.Core.Bool.{xor}
use Rattle.hmc_crc.specs.Bits.{bits_below, number_of}
use Rattle.hmc_crc.specs.Remainder.{plus, zeros}

pub length-bits_below : (width n : ℕ) → length (bits_below width n) ≡ width
unfolding bits_below
length-bits_below zero n = refl
length-bits_below (suc width) n = ap suc (length-bits_below width n)

eqb-sum : (a b : ℕ) → a < 2 → b < 2 → eqb ((a + b) % 2) 1 ≡ xor (eqb a 1) (eqb b 1)
unfolding xor
eqb-sum zero zero h k = refl
eqb-sum zero (suc zero) h k = refl
eqb-sum (suc zero) zero h k = refl
eqb-sum (suc zero) (suc zero) h k = refl
eqb-sum (suc (suc a)) b h k = absurd (omega arith)
eqb-sum a (suc (suc b)) h k = absurd (omega arith)

pub bits_below-xor : (width a b : ℕ) → bits_below width (bit_xor a b) ≡ plus (bits_below width a) (bits_below width b)
unfolding bits_below plus
bits_below-xor zero a b = refl
bits_below-xor (suc width) a b =
    rw (bit_at_xor a b width, eqb-sum (bit_at a width) (bit_at b width) (bit_at-lt a width) (bit_at-lt b width), bits_below-xor width a b) refl

-- the bits below 2 ^ width do not see what is above
bit_at-mod : (n width i : ℕ) → i < width → bit_at (n % 2 ^ width) i ≡ bit_at n i
bit_at-mod n width i h =
    let e : width ≡ (width - i - 1 + 1) + i = omega arith in
    rw (ap (λ w. n % 2 ^ w / 2 ^ i % 2) e, field_of n (width - i - 1 + 1) i) (mod-mod-pow (n / 2 ^ i) (width - i - 1) 1)

pub bits_below-mod : (width top n : ℕ) → width ≤ top → bits_below width (n % 2 ^ top) ≡ bits_below width n
unfolding bits_below
bits_below-mod zero top n h = refl
bits_below-mod (suc width) top n h = rw (bit_at-mod n top width (omega arith), bits_below-mod width top n (omega arith)) refl

bit_at-shifted : (n shift i : ℕ) → i < shift → bit_at (n * 2 ^ shift) i ≡ 0
bit_at-shifted n shift i h = ap (λ m. bit_at m i) (sym (add-zero (n * 2 ^ shift))) ∙ bit_at_cat_low n shift 0 i h ∙ bit_at-zero i

bits_below-shifted_low : (width n shift : ℕ) → width ≤ shift → bits_below width (n * 2 ^ shift) ≡ zeros width
unfolding bits_below zeros
bits_below-shifted_low zero n shift h = refl
bits_below-shifted_low (suc width) n shift h = rw (bit_at-shifted n shift width (omega arith), bits_below-shifted_low width n shift (omega arith)) refl

-- a shift to the left puts zeros behind
pub bits_below-shifted : (width n shift : ℕ) → bits_below (width + shift) (n * 2 ^ shift) ≡ bits_below width n ++ zeros shift
unfolding bits_below
bits_below-shifted zero n shift = let e : zero + shift ≡ shift = omega arith in rw e (bits_below-shifted_low shift n shift (omega arith))
bits_below-shifted (suc width) n shift =
    let e : suc width + shift ≡ suc (width + shift) = omega arith in
    let swap : width + shift ≡ shift + width = omega arith in
    let head : bit_at (n * 2 ^ shift) (width + shift) ≡ bit_at n width =
    ap (λ w. n * 2 ^ shift / 2 ^ w % 2) swap
    ∙ ap (λ m. m % 2) (sym (shr-shr (n * 2 ^ shift) shift width) ∙ ap (λ m. m / 2 ^ width) (shl-shr n shift)) in
    rw (e, head, bits_below-shifted width n shift) refl

bit_value : (d p : ℕ) → d < 2 → cond (eqb d 1) p 0 ≡ d * p
bit_value zero p h = sym (omega arith)
bit_value (suc zero) p h = sym (omega arith)
bit_value (suc (suc d)) p h = absurd (omega arith)

-- a number's bits spell what of it is below 2 ^ width
pub number_of-bits_below : (width n : ℕ) → number_of (bits_below width n) ≡ n % 2 ^ width
unfolding bits_below number_of
number_of-bits_below zero n = sym (mod-one n)
number_of-bits_below (suc width) n =
    let split : n % 2 ^ (1 + width) ≡ bit_at n width * 2 ^ width + n % 2 ^ width = mod-pow-add n 1 width in
    let e : suc width ≡ 1 + width = omega arith in
    rw (length-bits_below width n, number_of-bits_below width n, bit_value (bit_at n width) (2 ^ width) (bit_at-lt n width), e) (sym split)

pub number_of-lt : (bits : List Bool) → number_of bits < 2 ^ length bits
unfolding number_of
number_of-lt [] = omega arith
number_of-lt (false ∷ rest) = rw (pow-suc 2 (length rest)) (omega (arith, number_of-lt rest))
number_of-lt (true ∷ rest) = rw (pow-suc 2 (length rest)) (omega (arith, number_of-lt rest))

-- a number is the one that its bits spell
pub number_from_bits : (width n : ℕ) (bits : List Bool) → n < 2 ^ width → bits_below width n ≡ bits → n ≡ number_of bits
number_from_bits width n bits fits same = sym (mod-eq_of_lt fits) ∙ sym (number_of-bits_below width n) ∙ ap number_of same

-- a highest bit and the number below it
bits_below-highest : (width d n : ℕ) → d < 2 → n < 2 ^ width → bits_below (suc width) (d * 2 ^ width + n) ≡ eqb d 1 ∷ bits_below width n
unfolding bits_below
bits_below-highest width d n small below =
    let head : (d * 2 ^ width + n) / 2 ^ width % 2 ≡ d = ap (λ m. m % 2) (div-mul-add d (2 ^ width) n below) ∙ omega arith in
    let rest : bits_below width (d * 2 ^ width + n) ≡ bits_below width n =
    sym (bits_below-mod width width (d * 2 ^ width + n) (omega arith)) ∙ ap (bits_below width) (mod-mul-add d (2 ^ width) n below) in
    λ i. eqb (head i) 1 ∷ rest i

bits_below-none : (n : ℕ) → bits_below 0 n ≡ []
unfolding bits_below
bits_below-none n = refl

-- bits are those of the number that they spell
pub bits_below-number_of : (bits : List Bool) → bits_below (length bits) (number_of bits) ≡ bits
unfolding number_of
bits_below-number_of [] = bits_below-none 0
bits_below-number_of (false ∷ rest) =
    let width = length rest in
    let e : 0 + number_of rest ≡ 0 * 2 ^ width + number_of rest = omega arith in
    ap (bits_below (suc width)) e ∙ bits_below-highest width 0 (number_of rest) (omega arith) (number_of-lt rest) ∙ ap (λ (l : List Bool). false ∷ l) (bits_below-number_of rest)
bits_below-number_of (true ∷ rest) =
    let width = length rest in
    let e : 2 ^ width + number_of rest ≡ 1 * 2 ^ width + number_of rest = omega arith in
    ap (bits_below (suc width)) e ∙ bits_below-highest width 1 (number_of rest) (omega arith) (number_of-lt rest) ∙ ap (λ (l : List Bool). true ∷ l) (bits_below-number_of rest)
