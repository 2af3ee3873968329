-- A check that goes on over more bytes is the check of all of them.
use Rattle.std.proofs.Common.{◌≡◌, ℕ, Bool, List, [], ◌∷◌, ◌++◌, length, refl, sym, ap, ◌∙◌, arith, length-append}
use Rattle.hmc_crc.specs.Bits.{bits_below, bits_of, number_of}
use Rattle.hmc_crc.specs.Remainder.{divisor, zeros, plus, divide, crc_of, crc_update}
use Rattle.hmc_crc.proofs.Plus.{plus_comm, length-plus, length-zeros, zeros-plus}
use Rattle.hmc_crc.proofs.Divide.{length-divide}
use Rattle.hmc_crc.proofs.Bits.{length-bits_below, bits_below-number_of}
use Rattle.hmc_crc.proofs.Check.{length-divisor, remainder_from, remainder_from-start, remainder_from-more}

bits_32 : (bits : List Bool) → length bits ≡ 32 → bits_below 32 (number_of bits) ≡ bits
bits_32 bits long = ap (λ (n : ℕ). bits_below n (number_of bits)) (sym long) ∙ bits_below-number_of bits

-- what eight steps make of the register's bits and a byte's
eight_steps : (register byte : ℕ) → List Bool
eight_steps register byte = divide divisor 8 (plus (bits_below 8 byte) (bits_below 32 register) ++ zeros 8)

length-eight_steps : (register byte : ℕ) → length (eight_steps register byte) ≡ 32
unfolding eight_steps
length-eight_steps register byte =
    let added = plus (bits_below 8 byte) (bits_below 32 register) in
    let sized : length added ≡ 32 = length-plus (bits_below 8 byte) (bits_below 32 register) (omega (arith, length-bits_below 8 byte, length-bits_below 32 register)) ∙ length-bits_below 32 register in
    let long : length (added ++ zeros 8) ≡ 40 = length-append added (zeros 8) ∙ omega (arith, sized, length-zeros 8) in
    omega (arith, long, length-divide divisor 8 (added ++ zeros 8) (omega (arith, long, length-divisor)))

-- the register after a byte
next : (register byte : ℕ) → ℕ
next register byte = number_of (eight_steps register byte)

remainder_from-next : (register byte : ℕ) (rest : List ℕ) → remainder_from (next register byte) rest ≡ remainder_from register (byte ∷ rest)
unfolding next eight_steps
remainder_from-next register byte rest =
    remainder_from-more register byte (next register byte) rest (bits_32 (eight_steps register byte) (length-eight_steps register byte))

pub crc_update-is : (check : ℕ) (bytes : List ℕ) → crc_update check bytes ≡ number_of (remainder_from check bytes)
unfolding crc_update
crc_update-is check bytes = refl

none_more : (register : ℕ) → bits_below 32 (number_of (remainder_from register [])) ≡ bits_below 32 register
unfolding divide bits_of
none_more register =
    let bits = bits_below 32 register in
    let long : length bits ≡ 32 = length-bits_below 32 register in
    let same : plus bits (zeros 32) ≡ bits = plus_comm bits (zeros 32) ∙ zeros-plus 32 bits (omega (arith, long)) in
    ap (λ (l : List Bool). bits_below 32 (number_of l)) same ∙ bits_32 bits long

-- a register that took the first bytes goes on over the others
remainder_from-join : (register : ℕ) (a b : List ℕ) → remainder_from (number_of (remainder_from register a)) b ≡ remainder_from register (a ++ b)
remainder_from-join register [] b =
    ap (λ (bits : List Bool). divide divisor (length (bits_of b)) (plus bits (bits_of b ++ zeros 32))) (none_more register)
remainder_from-join register (byte ∷ a) b =
    ap (λ (l : List Bool). remainder_from (number_of l) b) (sym (remainder_from-next register byte a))
    ∙ remainder_from-join (next register byte) a b
    ∙ remainder_from-next register byte (a ++ b)

-- the check of the first bytes, carried on, is that of all
pub crc_update-joined : (before more : List ℕ) → crc_update (crc_of before) more ≡ crc_of (before ++ more)
unfolding crc_of
crc_update-joined before more =
    crc_update-is (crc_of before) more
    ∙ ap (λ (l : List Bool). number_of (remainder_from (number_of l) more)) (sym (remainder_from-start before))
    ∙ ap number_of (remainder_from-join 0 before more ∙ remainder_from-start (before ++ more))
