-- The table: each entry is what eight steps leave of its byte, and so eight steps of a register are one entry and a shift.
use Rattle.std.proofs.Common.{◌≡◌, ℕ, zero, suc, ◌+◌, ◌*◌, ◌/◌, ◌%◌, ◌^◌, ◌==◌, ◌<◌, ◌≤◌, Bool, List, [], ◌∷◌, ◌++◌, length, map, get_or, slice_index, refl, sym, ap, ap₂, ◌∙◌, arith, append_assoc, length-append}
use Rattle.std.specs.List.{range_with_len}
use Rattle.std.specs.Int.Bits.{bit_xor}
use Rattle.std.proofs.lemmas.List.{get_or-map}
use Rattle.std.proofs.lemmas.List.FromFn.{get_or-map-range_with_len}
use Rattle.std.proofs.lemmas.Nat.{shr-shr}
use mathlib.Core.Bool.{xor}
use Rattle.hmc_crc.specs.declared.table.TheConstants.{REMAINDERS}
use Rattle.hmc_crc.specs.Bits.{bits_below}
use Rattle.hmc_crc.specs.Remainder.{coefficients, plus, divide, divisor, zeros}
use Rattle.hmc_crc.proofs.Plus.{plus_comm, plus-append, plus-append_zeros, plus-zeros_append, length-zeros}
use Rattle.hmc_crc.proofs.Divide.{divide-plus, length-divide}
use Rattle.hmc_crc.proofs.Bits.{length-bits_below, bits_below-xor, bits_below-mod, bits_below-shifted}
use Rattle.hmc_crc.proofs.Check.{length-divisor}

-- what eight steps leave of a byte
abbrev pub steps_of_byte : ℕ → List Bool
steps_of_byte byte = divide divisor 8 (bits_below 8 byte ++ zeros 32)

pub length-steps_of_byte : (byte : ℕ) → length (steps_of_byte byte) ≡ 32
length-steps_of_byte byte =
    let bits : List Bool = bits_below 8 byte ++ zeros 32 in
    let long : length bits ≡ 40 = length-append (bits_below 8 byte) (zeros 32) ∙ omega (arith, length-bits_below 8 byte, length-zeros 32) in
    omega (arith, long, length-divide divisor 8 bits (omega (arith, long, length-divisor)))

-- every entry, computed
table_is_right : map (bits_below 32) REMAINDERS ≡ map steps_of_byte (range_with_len 0 256)
unfolding bits_below divide divisor coefficients plus zeros xor
table_is_right = refl

pub entry_is_right : (byte : ℕ) → byte < 256 → bits_below 32 (slice_index REMAINDERS byte) ≡ steps_of_byte byte
entry_is_right byte small =
    sym (get_or-map (bits_below 32) REMAINDERS byte 0 [] small)
    ∙ ap (λ (rows : List (List Bool)). get_or rows byte []) table_is_right
    ∙ get_or-map-range_with_len steps_of_byte 0 256 byte byte [] small (omega arith)

-- a number's highest bits, and the others
pub bits_below-split : (high low n : ℕ) → bits_below (high + low) n ≡ bits_below high (n / 2 ^ low) ++ bits_below low n
unfolding bits_below
bits_below-split zero low n = let e : zero + low ≡ low = omega arith in rw e refl
bits_below-split (suc high) low n =
    let e : suc high + low ≡ suc (high + low) = omega arith in
    let swap : high + low ≡ low + high = omega arith in
    let head : (n / 2 ^ (high + low) % 2 == 1) ≡ (n / 2 ^ low / 2 ^ high % 2 == 1) =
    ap (λ w. n / 2 ^ w % 2 == 1) swap ∙ ap (λ m. m % 2 == 1) (sym (shr-shr n low high)) in
    rw e (ap₂ (λ (b : Bool) (bits : List Bool). b ∷ bits) head (bits_below-split high low n))

-- a byte and the register's highest bits meet in one byte, and the others come after it
met : (register byte : ℕ) → plus (bits_below 8 byte) (bits_below 32 register) ≡ bits_below 8 (bit_xor (register / 2 ^ 24) byte) ++ bits_below 24 register
met register byte =
    let front = bits_below 8 (register / 2 ^ 24) in
    ap (plus (bits_below 8 byte)) (bits_below-split 8 24 register)
    ∙ plus-append (bits_below 8 byte) front (bits_below 24 register) (omega (arith, length-bits_below 8 byte, length-bits_below 8 (register / 2 ^ 24)))
    ∙ ap (λ (bits : List Bool). bits ++ bits_below 24 register) (plus_comm (bits_below 8 byte) front ∙ sym (bits_below-xor 8 (register / 2 ^ 24) byte))

more_zeros : (bits : List Bool) → (bits ++ zeros 24) ++ zeros 8 ≡ bits ++ zeros 32
unfolding zeros
more_zeros bits = append_assoc bits (zeros 24) (zeros 8)

-- eight steps of a byte with more bits after it
pub steps_with_more : (byte : ℕ) (more : List Bool) → 32 ≤ length more → divide divisor 8 (bits_below 8 byte ++ more) ≡ plus (steps_of_byte byte) more
steps_with_more byte more long =
    let eight : length (bits_below 8 byte) ≡ 8 = length-bits_below 8 byte in
    let sized : length (bits_below 8 byte ++ zeros 24) ≡ length divisor = length-append (bits_below 8 byte) (zeros 24) ∙ omega (arith, eight, length-zeros 24, length-divisor) in
    let apart : bits_below 8 byte ++ more ≡ plus (bits_below 8 byte ++ zeros 24) (zeros 8 ++ more) =
    sym (ap (λ (n : ℕ). plus (bits_below 8 byte) (zeros n ++ more)) (sym eight) ∙ plus-zeros_append (bits_below 8 byte) more)
    ∙ sym (plus-append_zeros (bits_below 8 byte) (zeros 8 ++ more) 24 (omega (arith, eight, length-append (zeros 8) more, length-zeros 8, long))) in
    ap (divide divisor 8) apart
    ∙ divide-plus divisor 8 (bits_below 8 byte ++ zeros 24) more sized (omega (arith, length-divisor, long))
    ∙ ap (λ (bits : List Bool). plus (divide divisor 8 bits) more) (more_zeros (bits_below 8 byte))

moved_up : (register : ℕ) → bits_below 32 (register * 256 % 4294967296) ≡ bits_below 24 register ++ zeros 8
moved_up register = bits_below-mod 32 32 (register * 256) (omega arith) ∙ bits_below-shifted 24 register 8

-- eight steps of a register with its next byte are a shift and an entry
pub eight_steps_at_once : (register byte highest entry : ℕ) → highest ≡ bit_xor (register / 2 ^ 24) byte → highest < 256 → entry ≡ slice_index REMAINDERS highest
    → bits_below 32 (bit_xor (register * 256 % 4294967296) entry) ≡ divide divisor 8 (plus (bits_below 8 byte) (bits_below 32 register) ++ zeros 8)
eight_steps_at_once register byte highest entry is small looked_up =
    let more = bits_below 24 register ++ zeros 8 in
    let long : length more ≡ 32 = length-append (bits_below 24 register) (zeros 8) ∙ omega (arith, length-bits_below 24 register, length-zeros 8) in
    bits_below-xor 32 (register * 256 % 4294967296) entry
    ∙ ap₂ plus (moved_up register) (ap (bits_below 32) looked_up ∙ entry_is_right highest small)
    ∙ plus_comm more (steps_of_byte highest)
    ∙ sym (steps_with_more highest more (omega (arith, long)))
    ∙ ap (λ (n : ℕ). divide divisor 8 (bits_below 8 n ++ more)) is
    ∙ ap (divide divisor 8) (sym (append_assoc (bits_below 8 (bit_xor (register / 2 ^ 24) byte)) (bits_below 24 register) (zeros 8)))
    ∙ ap (λ (bits : List Bool). divide divisor 8 (bits ++ zeros 8)) (sym (met register byte))
