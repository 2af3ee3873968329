-- The remainder: its divisor, its length, and how a register comes to hold it, byte by byte.
use Rattle.std.proofs.Common.{◌≡◌, ℕ, ◌+◌, ◌^◌, ◌<◌, ◌≤◌, Bool, List, [], ◌∷◌, ◌++◌, length, refl, sym, ap, ◌∙◌, arith, append_assoc, length-append}
use Rattle.hmc_crc.specs.declared.remainder.TheConstants.{POLYNOMIAL}
use Rattle.hmc_crc.specs.Bits.{bits_below, bits_of, number_of}
use Rattle.hmc_crc.specs.Remainder.{coefficients, divisor, zeros, plus, divide, remainder, crc_of}
use Rattle.hmc_crc.proofs.Plus.{plus_comm, length-zeros, zeros-plus}
use Rattle.hmc_crc.proofs.Divide.{length-divide, divide-front}
use Rattle.hmc_crc.proofs.Bits.{length-bits_below, number_of-lt, number_from_bits}

pub length-divisor : length divisor ≡ 32
unfolding divisor coefficients
length-divisor = refl

pub bits_below-polynomial : bits_below 32 POLYNOMIAL ≡ divisor
unfolding divisor coefficients bits_below
bits_below-polynomial = refl

-- the remainder has 32 bits
pub length-remainder : (bytes : List ℕ) → length (remainder bytes) ≡ 32
unfolding remainder
length-remainder bytes =
    let bits = bits_of bytes in
    let all : length (bits ++ zeros 32) ≡ length bits + 32 = length-append bits (zeros 32) ∙ ap (λ n. length bits + n) (length-zeros 32) in
    let left : length (divide divisor (length bits) (bits ++ zeros 32)) + length bits ≡ length (bits ++ zeros 32) =
    length-divide divisor (length bits) (bits ++ zeros 32) (omega (arith, length-divisor)) in
    omega arith

-- the check is a number of 32 bits
pub crc_of-lt : (bytes : List ℕ) → crc_of bytes < 2 ^ 32
unfolding crc_of
crc_of-lt bytes =
    let spelled : number_of (remainder bytes) < 2 ^ length (remainder bytes) = number_of-lt (remainder bytes) in
    rw (length-remainder bytes) at spelled

-- a zero byte in front changes nothing
pub crc_of-zero_first : (bytes : List ℕ) → crc_of (0 ∷ bytes) ≡ crc_of bytes
unfolding crc_of remainder divide bits_of bits_below
crc_of-zero_first bytes = refl

-- the remainder once the register's bits are added onto the bits that are still to come
abbrev pub remainder_from : ℕ → List ℕ → List Bool
remainder_from register rest = divide divisor (length (bits_of rest)) (plus (bits_below 32 register) (bits_of rest ++ zeros 32))

pub length-bits_with_zeros : (bytes : List ℕ) → 32 ≤ length (bits_of bytes ++ zeros 32)
length-bits_with_zeros bytes = omega (arith, length-append (bits_of bytes) (zeros 32), length-zeros 32)

bits_below-zero : bits_below 32 0 ≡ zeros 32
unfolding bits_below zeros
bits_below-zero = refl

-- before the first byte: a register of zeros adds nothing
pub remainder_from-start : (bytes : List ℕ) → remainder_from 0 bytes ≡ remainder bytes
unfolding remainder
remainder_from-start bytes =
    let bits = bits_of bytes ++ zeros 32 in
    rw (bits_below-zero, zeros-plus 32 bits (length-bits_with_zeros bytes)) refl

-- one byte on
pub remainder_from-more : (register byte next : ℕ) (rest : List ℕ) →
    bits_below 32 next ≡ divide divisor 8 (plus (bits_below 8 byte) (bits_below 32 register) ++ zeros 8) →
    remainder_from next rest ≡ remainder_from register (byte ∷ rest)
unfolding bits_of
remainder_from-more register byte next rest step =
    let eight : length (bits_below 8 byte) ≡ 8 = length-bits_below 8 byte in
    let sized : length (bits_below 32 register) ≡ length divisor = length-bits_below 32 register ∙ sym length-divisor in
    let long : length divisor ≤ length (bits_of rest ++ zeros 32) = omega (arith, length-divisor, length-bits_with_zeros rest) in
    let fed = divide-front divisor (bits_below 32 register) (bits_below 8 byte) (bits_of rest ++ zeros 32) (length (bits_of rest))
    sized (omega (arith, length-divisor)) long in
    rw (length-append (bits_below 8 byte) (bits_of rest), append_assoc (bits_below 8 byte) (bits_of rest) (zeros 32), fed, eight, step) refl

-- after the last byte the register holds these bits
pub remainder_from-last : (register : ℕ) (bits : List Bool) → register < 2 ^ 32 →
    remainder_from register [] ≡ bits → register ≡ number_of bits
unfolding bits_of divide
remainder_from-last register bits fits whole =
    let sized : 32 ≤ length (bits_below 32 register) = omega (arith, length-bits_below 32 register) in
    let same : bits_below 32 register ≡ plus (bits_below 32 register) (zeros 32) =
    sym (zeros-plus 32 (bits_below 32 register) sized) ∙ plus_comm (zeros 32) (bits_below 32 register) in
    number_from_bits 32 register bits fits (same ∙ whole)

-- and so the check, where they are the remainder's
pub remainder_from-end : (register : ℕ) (bytes : List ℕ) → register < 2 ^ 32 →
    remainder_from register [] ≡ remainder bytes → register ≡ crc_of bytes
unfolding crc_of
remainder_from-end register bytes = remainder_from-last register (remainder bytes)
