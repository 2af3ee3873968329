-- What each operation does, in numbers: one line per operation.
use Rattle.std.specs.Prelude.{ℕ, ◌+◌, ◌-◌, ◌*◌, ◌/◌, ◌%◌, ◌^◌, Bool, false, ◌||◌, ◌==◌, if◌then◌else◌, pos, neg_ℤ, ◌+ℤ◌, int_lt, int_le, ℤ, bit_and, bit_or, bit_xor}
use Rattle.std.specs.Int.{Width, w64, w128, bit_not, byte_len, cast_signed}
use Rattle.hmc_atomics.specs.declared.atomic.Atomic.{Atomic}
use Rattle.hmc_atomics.specs.declared.atomic.Atomic.TheVariants.{
  Bwr,
  Inc8,
  TwoAdd8,
  Add16,
  Xor16,
  Or16,
  Nor16,
  And16,
  Nand16,
  Swap16,
  CasEq8,
  CasGt8,
  CasLt8,
  CasGt16,
  CasLt16,
  CasZero16,
  Eq8,
  Eq16,
}

-- a number's new value, and the flag
pub record Effect : Type 0 where
  pub value : ℕ
  pub flag : Bool

-- the number becomes this value, with this flag
abbrev pub becomes : ℕ → Bool → Effect
becomes value flag = record { value = value; flag = flag }

-- the first number is greater than the second, both as signed numbers in two's complement
abbrev pub is_greater : Width → ℕ → ℕ → Bool
is_greater width a b = int_lt (cast_signed width b) (cast_signed width a)

-- a number is not a signed number of the width: these are -2^(bits - 1) to 2^(bits - 1) - 1
abbrev pub is_out : Width → ℤ → Bool
is_out width z =
    int_lt z (neg_ℤ (pos (2 ^ (8 * byte_len width - 1))))
    || int_le (pos (2 ^ (8 * byte_len width - 1))) z

-- the sum of two numbers, both as signed numbers, is out of the width's range
abbrev pub overflows : Width → ℕ → ℕ → Bool
overflows width a b = is_out width (cast_signed width a +ℤ cast_signed width b)

-- the low half of a number of 128 bits
abbrev pub low : ℕ → ℕ
low m = m % 2 ^ 64

-- the high half
abbrev pub high : ℕ → ℕ
high m = m / 2 ^ 64

-- the number of two halves
abbrev pub number_of_halves : ℕ → ℕ → ℕ
number_of_halves low high = low + high * 2 ^ 64

-- In an operation on eight bytes h is the half that it acts on, in the others m is the block.
-- The operand is o, and lo and hi are its halves.
unfoldable pub effect_of : Atomic → (h m lo hi o : ℕ) → Effect
effect_of Bwr h m lo hi o = becomes (bit_or (bit_and h (bit_not w64 hi)) (bit_and lo hi)) false
effect_of Inc8 h m lo hi o = becomes ((h + 1) % 2 ^ 64) false
effect_of TwoAdd8 h m lo hi o =
    becomes (number_of_halves ((low m + lo) % 2 ^ 64) ((high m + hi) % 2 ^ 64))
    (overflows w64 (low m) lo || overflows w64 (high m) hi)
effect_of Add16 h m lo hi o = becomes ((m + o) % 2 ^ 128) (overflows w128 m o)
effect_of Xor16 h m lo hi o = becomes (bit_xor m o) false
effect_of Or16 h m lo hi o = becomes (bit_or m o) false
effect_of Nor16 h m lo hi o = becomes (bit_not w128 (bit_or m o)) false
effect_of And16 h m lo hi o = becomes (bit_and m o) false
effect_of Nand16 h m lo hi o = becomes (bit_not w128 (bit_and m o)) false
effect_of Swap16 h m lo hi o = becomes o false
effect_of CasEq8 h m lo hi o = becomes (if h == lo then hi else h) (h == lo)
effect_of CasGt8 h m lo hi o = becomes (if is_greater w64 lo h then lo else h) (is_greater w64 lo h)
effect_of CasLt8 h m lo hi o = becomes (if is_greater w64 h lo then lo else h) (is_greater w64 h lo)
effect_of CasGt16 h m lo hi o = becomes (if is_greater w128 o m then o else m) (is_greater w128 o m)
effect_of CasLt16 h m lo hi o = becomes (if is_greater w128 m o then o else m) (is_greater w128 m o)
effect_of CasZero16 h m lo hi o = becomes (if m == 0 then o else m) (m == 0)
effect_of Eq8 h m lo hi o = becomes h (h == lo)
effect_of Eq16 h m lo hi o = becomes m (m == o)
