-- Definitions computed: each operation at one value or more, and the flags at their edges.
use Rattle.std.proofs.Common.{◌≡◌, ℕ, Bool, List, [], ◌∷◌, ◌++◌, true, false, refl}
use Rattle.std.specs.Prelude.{map, replicate}
use Rattle.hmc_codes.specs.declared.answer.Acted.{Acted}
use Rattle.hmc_atomics.specs.declared.atomic.Atomic.{Atomic}
use Rattle.hmc_atomics.specs.declared.atomic.Atomic.TheVariants.{
  Bwr,
  Inc8,
  TwoAdd8,
  Add16,
  Xor16,
  Or16,
  Nor16,
  And16,
  Nand16,
  Swap16,
  CasEq8,
  CasGt8,
  CasLt8,
  CasGt16,
  CasLt16,
  CasZero16,
  Eq8,
  Eq16,
}
use Rattle.hmc_atomics.specs.Effects.{effect_of}
use Rattle.hmc_atomics.specs.Act.{acted_of}

-- Numbers as bytes, the lowest byte first.

-- eight bytes of a small number
abbrev small : ℕ → List ℕ
small n = n ∷ replicate 7 0

-- the half of -1, the least and the greatest signed number of 64 bits
abbrev ones : List ℕ
ones = replicate 8 0xff

abbrev least : List ℕ
least = replicate 7 0 ++ 0x80 ∷ []

abbrev greatest : List ℕ
greatest = replicate 7 0xff ++ 0x7f ∷ []

-- the block that an operation on eight bytes leaves of two halves, what it answers besides eight zero bytes, and its flag
abbrev half_acted : (first last answer : List ℕ) → Bool → Acted
half_acted first last answer flag = record { block = first ++ last; answer = answer ++ replicate 8 0; flag = flag }

-- the same of an operation on the block, which answers the old block
abbrev block_acted : (block answer : List ℕ) → Bool → Acted
block_acted block answer flag = record { block = block; answer = answer; flag = flag }

-- what an operation leaves of the low half 12 and the high half 9
abbrev acted : Atomic → (high : Bool) → (operand : List ℕ) → Acted
acted op high operand = acted_of op high (small 12 ++ small 9) operand

-- the flags of an operation on blocks, each with its operand
abbrev flag_of : Atomic → (block operand : List ℕ) → Bool
flag_of op block operand = (acted_of op false block operand).flag

-- 12 is 1100 and 10 is 1010: the bits that 6, 0110, has set are written
acted_of-bit_write : acted Bwr false (small 10 ++ small 6) ≡ half_acted (small 10) (small 9) (small 12) false
unfolding acted_of effect_of
acted_of-bit_write = refl

acted_of-bit_write_high : acted Bwr true (small 10 ++ small 6) ≡ half_acted (small 12) (small 11) (small 9) false
unfolding acted_of effect_of
acted_of-bit_write_high = refl

acted_of-increment : acted Inc8 false (replicate 16 0) ≡ half_acted (small 13) (small 9) (small 12) false
unfolding acted_of effect_of
acted_of-increment = refl

-- the high half wraps, without a flag, and the low half stays
acted_of-increment_wraps : acted_of Inc8 true (replicate 16 0xff) (replicate 16 0) ≡ half_acted ones (replicate 8 0) ones false
unfolding acted_of effect_of
acted_of-increment_wraps = refl

acted_of-two_sums : acted TwoAdd8 false (small 3 ++ small 4) ≡ block_acted (small 15 ++ small 13) (small 12 ++ small 9) false
unfolding acted_of effect_of
acted_of-two_sums = refl

-- no carry goes from the low half to the high one
acted_of-two_sums_apart : acted_of TwoAdd8 false (ones ++ small 9) (small 1 ++ small 4) ≡ block_acted (small 0 ++ small 13) (ones ++ small 9) false
unfolding acted_of effect_of
acted_of-two_sums_apart = refl

acted_of-sum : acted Add16 false (small 3 ++ small 4) ≡ block_acted (small 15 ++ small 13) (small 12 ++ small 9) false
unfolding acted_of effect_of
acted_of-sum = refl

-- here one does
acted_of-sum_carries : acted_of Add16 false (ones ++ small 9) (small 1 ++ small 4) ≡ block_acted (small 0 ++ small 14) (ones ++ small 9) false
unfolding acted_of effect_of
acted_of-sum_carries = refl

-- the greatest number and one is the least, and flagged
acted_of-sum_flagged : acted_of Add16 false (ones ++ greatest) (small 1 ++ small 0) ≡ block_acted (small 0 ++ least) (ones ++ greatest) true
unfolding acted_of effect_of
acted_of-sum_flagged = refl

-- A sum of exactly the greatest or the least number is not flagged; one past it is.
flag_of-sum_up : map (flag_of Add16 (ones ++ greatest)) ((small 0 ++ small 0) ∷ (small 1 ++ small 0) ∷ (ones ++ ones) ∷ []) ≡ false ∷ true ∷ false ∷ []
unfolding acted_of effect_of
flag_of-sum_up = refl

flag_of-sum_down : map (flag_of Add16 (small 0 ++ least)) ((small 0 ++ small 0) ∷ (ones ++ ones) ∷ (small 1 ++ small 0) ∷ []) ≡ false ∷ true ∷ false ∷ []
unfolding acted_of effect_of
flag_of-sum_down = refl

-- -1 and the least number but one is the least number
flag_of-sum_least : flag_of Add16 (ones ++ ones) (small 1 ++ least) ≡ false
unfolding acted_of effect_of
flag_of-sum_least = refl

-- the same of each half
flag_of-low_half_up : map (λ o. flag_of TwoAdd8 (greatest ++ small 0) (o ++ small 0)) (small 0 ∷ small 1 ∷ ones ∷ []) ≡ false ∷ true ∷ false ∷ []
unfolding acted_of effect_of
flag_of-low_half_up = refl

flag_of-low_half_down : map (λ o. flag_of TwoAdd8 (least ++ small 0) (o ++ small 0)) (small 0 ∷ ones ∷ small 1 ∷ []) ≡ false ∷ true ∷ false ∷ []
unfolding acted_of effect_of
flag_of-low_half_down = refl

flag_of-high_half_up : map (λ o. flag_of TwoAdd8 (small 0 ++ greatest) (small 0 ++ o)) (small 0 ∷ small 1 ∷ ones ∷ []) ≡ false ∷ true ∷ false ∷ []
unfolding acted_of effect_of
flag_of-high_half_up = refl

flag_of-high_half_down : map (λ o. flag_of TwoAdd8 (small 0 ++ least) (small 0 ++ o)) (small 0 ∷ ones ∷ small 1 ∷ []) ≡ false ∷ true ∷ false ∷ []
unfolding acted_of effect_of
flag_of-high_half_down = refl

-- 12 is 1100, 9 is 1001, 10 is 1010 and 5 is 0101
acted_of-xor : acted Xor16 false (small 10 ++ small 5) ≡ block_acted (small 6 ++ small 12) (small 12 ++ small 9) false
unfolding acted_of effect_of
acted_of-xor = refl

acted_of-or : acted Or16 false (small 10 ++ small 5) ≡ block_acted (small 14 ++ small 13) (small 12 ++ small 9) false
unfolding acted_of effect_of
acted_of-or = refl

acted_of-nor : acted Nor16 false (small 10 ++ small 5) ≡ block_acted ((0xf1 ∷ replicate 7 0xff) ++ 0xf2 ∷ replicate 7 0xff) (small 12 ++ small 9) false
unfolding acted_of effect_of
acted_of-nor = refl

acted_of-and : acted And16 false (small 10 ++ small 5) ≡ block_acted (small 8 ++ small 1) (small 12 ++ small 9) false
unfolding acted_of effect_of
acted_of-and = refl

acted_of-nand : acted Nand16 false (small 10 ++ small 5) ≡ block_acted ((0xf7 ∷ replicate 7 0xff) ++ 0xfe ∷ replicate 7 0xff) (small 12 ++ small 9) false
unfolding acted_of effect_of
acted_of-nand = refl

acted_of-swap : acted Swap16 false (small 10 ++ small 5) ≡ block_acted (small 10 ++ small 5) (small 12 ++ small 9) false
unfolding acted_of effect_of
acted_of-swap = refl

-- a half that equals the operand's low half becomes its high half
acted_of-equal_half : acted CasEq8 false (small 12 ++ small 7) ≡ half_acted (small 7) (small 9) (small 12) true
unfolding acted_of effect_of
acted_of-equal_half = refl

acted_of-unequal_half : acted CasEq8 true (small 12 ++ small 7) ≡ half_acted (small 12) (small 9) (small 9) false
unfolding acted_of effect_of
acted_of-unequal_half = refl

-- the flag is that of the comparison, also where nothing changes
acted_of-equal_halves : acted CasEq8 false (small 12 ++ small 12) ≡ half_acted (small 12) (small 9) (small 12) true
unfolding acted_of effect_of
acted_of-equal_halves = refl

-- the operand's low half replaces a half that is less; numbers are signed, so ones are less
acted_of-greater_half : acted CasGt8 true (small 10 ++ small 7) ≡ half_acted (small 12) (small 10) (small 9) true
unfolding acted_of effect_of
acted_of-greater_half = refl

acted_of-greater_half_not : map (acted CasGt8 false) ((small 12 ++ small 7) ∷ (ones ++ small 7) ∷ []) ≡
    half_acted (small 12) (small 9) (small 12) false ∷ half_acted (small 12) (small 9) (small 12) false ∷ []
unfolding acted_of effect_of
acted_of-greater_half_not = refl

acted_of-less_half : acted CasLt8 false (ones ++ small 7) ≡ half_acted ones (small 9) (small 12) true
unfolding acted_of effect_of
acted_of-less_half = refl

acted_of-less_half_not : acted CasLt8 true (small 9 ++ small 7) ≡ half_acted (small 12) (small 9) (small 9) false
unfolding acted_of effect_of
acted_of-less_half_not = refl

acted_of-greater_block : acted CasGt16 false (small 0 ++ small 10) ≡ block_acted (small 0 ++ small 10) (small 12 ++ small 9) true
unfolding acted_of effect_of
acted_of-greater_block = refl

acted_of-greater_block_not : acted CasGt16 false (ones ++ ones) ≡ block_acted (small 12 ++ small 9) (small 12 ++ small 9) false
unfolding acted_of effect_of
acted_of-greater_block_not = refl

-- ones are -1, and less than zero
acted_of-less_block : acted_of CasLt16 false (replicate 16 0) (replicate 16 0xff) ≡ block_acted (replicate 16 0xff) (replicate 16 0) true
unfolding acted_of effect_of
acted_of-less_block = refl

acted_of-less_block_not : acted CasLt16 false (small 12 ++ small 9) ≡ block_acted (small 12 ++ small 9) (small 12 ++ small 9) false
unfolding acted_of effect_of
acted_of-less_block_not = refl

acted_of-zero_block : acted_of CasZero16 false (replicate 16 0) (small 3 ++ small 4) ≡ block_acted (small 3 ++ small 4) (replicate 16 0) true
unfolding acted_of effect_of
acted_of-zero_block = refl

acted_of-zero_by_zero : acted_of CasZero16 false (replicate 16 0) (replicate 16 0) ≡ block_acted (replicate 16 0) (replicate 16 0) true
unfolding acted_of effect_of
acted_of-zero_by_zero = refl

acted_of-zero_block_not : acted CasZero16 false (small 3 ++ small 4) ≡ block_acted (small 12 ++ small 9) (small 12 ++ small 9) false
unfolding acted_of effect_of
acted_of-zero_block_not = refl

-- nothing changes, and the flag says whether they are equal
acted_of-half_test : map (λ high. acted Eq8 high (small 12 ++ small 7)) (false ∷ true ∷ []) ≡ half_acted (small 12) (small 9) (small 12) true ∷ half_acted (small 12) (small 9) (small 9) false ∷ []
unfolding acted_of effect_of
acted_of-half_test = refl

acted_of-block_test : map (acted Eq16 false) ((small 12 ++ small 9) ∷ (small 12 ++ small 8) ∷ []) ≡
    block_acted (small 12 ++ small 9) (small 12 ++ small 9) true ∷ block_acted (small 12 ++ small 9) (small 12 ++ small 9) false ∷ []
unfolding acted_of effect_of
acted_of-block_test = refl
