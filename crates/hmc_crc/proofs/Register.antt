-- What shifts and sums do to the register's bits.
use Rattle.std.proofs.Common.{◌≡◌, ℕ, zero, suc, ◌+◌, ◌*◌, ◌/◌, ◌%◌, ◌^◌, ◌≤◌, Bool, false, List, [], ◌∷◌, ◌++◌, length, refl, ◌∙◌, arith, append_assoc, length-append}
use Rattle.std.specs.Int.Bits.{bit_xor}
use Rattle.hmc_crc.specs.Bits.{bits_below}
use Rattle.hmc_crc.specs.Remainder.{plus, zeros, divide}
use Rattle.hmc_crc.proofs.Plus.{plus_comm, plus-append_zeros, length-zeros}
use Rattle.hmc_crc.proofs.Divide.{divide-add, divide-append}
use Rattle.hmc_crc.proofs.Bits.{length-bits_below, bits_below-xor, bits_below-mod, bits_below-shifted}

-- a shift by one place drops the highest bit and puts a zero behind
pub bits_below-doubled : (width n : ℕ) → bits_below (suc width) (n * 2 % 2 ^ suc width) ≡ bits_below width n ++ false ∷ []
unfolding zeros
bits_below-doubled width n =
    let e : suc width ≡ width + 1 = omega arith in
    bits_below-mod (suc width) (suc width) (n * 2) (omega arith) ∙ (rw e (bits_below-shifted width n 1))

-- a step whose leading coefficient is one, and a step whose is zero
pub divide-one_set : (by : List Bool) (width n : ℕ) → n / 2 ^ width ≡ 1 →
    plus (bits_below (suc width) (n * 2 % 2 ^ suc width)) by ≡ divide by 1 (bits_below (suc width) n ++ false ∷ [])
unfolding divide bits_below
divide-one_set by width n set = rw (set, bits_below-doubled width n) (plus_comm (bits_below width n ++ false ∷ []) by)

pub divide-one_clear : (by : List Bool) (width n : ℕ) → n / 2 ^ width ≡ 0 →
    bits_below (suc width) (n * 2 % 2 ^ suc width) ≡ divide by 1 (bits_below (suc width) n ++ false ∷ [])
unfolding divide bits_below
divide-one_clear by width n clear = rw (clear, bits_below-doubled width n) refl

zeros-push : (n : ℕ) → zeros (n + 1) ≡ zeros n ++ false ∷ []
unfolding zeros
zeros-push zero = refl
zeros-push (suc n) = let e : suc n + 1 ≡ suc (n + 1) = omega arith in rw (e, zeros-push n) refl

-- n steps and one more
pub divide-push : (by xs : List Bool) (n : ℕ) → length by ≤ length xs →
    divide by (n + 1) (xs ++ zeros (n + 1)) ≡ divide by 1 (divide by n (xs ++ zeros n) ++ false ∷ [])
divide-push by xs n short =
    let long : n + length by ≤ length (xs ++ zeros n) = omega (arith, length-append xs (zeros n), length-zeros n) in
    rw (
      divide-add by n 1 (xs ++ zeros (n + 1)),
      zeros-push n,
      ← append_assoc xs (zeros n) (false ∷ []),
      divide-append by n (xs ++ zeros n) (false ∷ []) long,
    ) refl

-- a byte that is shifted to the top is added onto the register's front
pub bits_below-met : (low high n byte : ℕ) →
    bits_below (high + low) (bit_xor n (byte * 2 ^ low % 2 ^ (high + low))) ≡ plus (bits_below high byte) (bits_below (high + low) n)
bits_below-met low high n byte =
    let bits = bits_below (high + low) n in
    let fits : length (bits_below high byte) + low ≤ length bits = omega (arith, length-bits_below high byte, length-bits_below (high + low) n) in
    rw (
      bits_below-xor (high + low) n (byte * 2 ^ low % 2 ^ (high + low)),
      bits_below-mod (high + low) (high + low) (byte * 2 ^ low) (omega arith),
      bits_below-shifted high byte low,
      plus_comm bits (bits_below high byte ++ zeros low),
    ) (plus-append_zeros (bits_below high byte) bits low fits)
