-- A masked write of eight bytes, byte by byte.
use Rattle.std.proofs.Common.{◌≡◌, ◌<◌, ◌∙◌, ◌-◌, ◌^◌, ◌/◌, ◌%◌, ℕ, zero, suc, List, length, refl, sym, ap, arith}
use Rattle.std.specs.Prelude.{slice_index, bit_and, bit_or}
use Rattle.std.specs.Int.{w64, from_le_bytes, to_le_bytes, bit_not}
use Rattle.std.proofs.lemmas.Nat.{and_shr, or_shr, and_mod, or_mod, le_bytes_8}
use Rattle.hmc_codes.specs.Bytes.{IsBytes}

-- eight bits of a number, from bit k on
abbrev pub part : ℕ → ℕ → ℕ
part k n = n / 2 ^ k % 2 ^ 8

-- the bits of the old byte stay where the mask has none
abbrev pub merged : (mask new old : ℕ) → ℕ
merged mask new old = bit_or (bit_and old (255 - mask)) (bit_and new mask)

part-and : (a b k : ℕ) → part k (bit_and a b) ≡ bit_and (part k a) (part k b)
part-and a b k = ap (λ n. n % 2 ^ 8) (and_shr a b k) ∙ and_mod (a / 2 ^ k) (b / 2 ^ k) 8

part-or : (a b k : ℕ) → part k (bit_or a b) ≡ bit_or (part k a) (part k b)
part-or a b k = ap (λ n. n % 2 ^ 8) (or_shr a b k) ∙ or_mod (a / 2 ^ k) (b / 2 ^ k) 8

-- what the number of a half becomes
abbrev pub merged_number : (half low high : ℕ) → ℕ
merged_number half low high = bit_or (bit_and half (bit_not w64 high)) (bit_and low high)

by_part : (half low high k : ℕ) → part k (bit_not w64 high) ≡ 255 - part k high →
    part k (merged_number half low high) ≡ merged (part k high) (part k low) (part k half)
by_part half low high k flipped =
    part-or (bit_and half (bit_not w64 high)) (bit_and low high) k
    ∙ ap (λ n. bit_or n (part k (bit_and low high))) (part-and half (bit_not w64 high) k
    ∙ ap (bit_and (part k half)) flipped)
    ∙ ap (bit_or (bit_and (part k half) (255 - part k high))) (part-and low high k)

-- the bytes of a number of eight bytes
number_of : (bytes : List ℕ) → length bytes ≡ 8 → IsBytes bytes →
    to_le_bytes w64 (from_le_bytes w64 bytes) ≡ bytes
number_of bytes eight are = le_bytes_8 bytes (from_le_bytes w64 bytes) eight are refl

small : (bytes : List ℕ) → IsBytes bytes → from_le_bytes w64 bytes < 2 ^ 64
small bytes are = omega (arith, are 0, are 1, are 2, are 3, are 4, are 5, are 6, are 7)

-- byte j, given how the number's part is read and flipped
at_byte : (half low high : List ℕ) (j k : ℕ) → length half ≡ 8 → length low ≡ 8 → length high ≡ 8 →
    IsBytes half → IsBytes low → IsBytes high
    → ((n : ℕ) → slice_index (to_le_bytes w64 n) j ≡ part k n) →
    ((n : ℕ) → n < 2 ^ 64 → part k (bit_not w64 n) ≡ 255 - part k n)
    → slice_index (to_le_bytes w64 (merged_number (from_le_bytes w64 half) (from_le_bytes w64 low)
    (from_le_bytes w64 high))) j ≡ merged (slice_index high j) (slice_index low j)
    (slice_index half j)
at_byte half low high j k eight_half eight_low eight_high half_are low_are high_are read flip =
    let here : (bytes : List ℕ) → length bytes ≡ 8 → IsBytes bytes →
    part k (from_le_bytes w64 bytes) ≡ slice_index bytes j =
    λ bytes eight are. sym (read (from_le_bytes w64 bytes))
    ∙ ap (λ l. slice_index l j) (number_of bytes eight are) in
    read (merged_number (from_le_bytes w64 half) (from_le_bytes w64 low) (from_le_bytes w64 high))
    ∙ by_part (from_le_bytes w64 half) (from_le_bytes w64 low) (from_le_bytes w64 high) k
    (flip (from_le_bytes w64 high) (small high high_are))
    ∙ ap (λ m. merged m (part k (from_le_bytes w64 low)) (part k (from_le_bytes w64 half)))
    (here high eight_high high_are)
    ∙ ap (λ d. merged (slice_index high j) d (part k (from_le_bytes w64 half)))
    (here low eight_low low_are)
    ∙ ap (merged (slice_index high j) (slice_index low j)) (here half eight_half half_are)

flip_0 : (n : ℕ) → n < 2 ^ 64 → part 0 (bit_not w64 n) ≡ 255 - part 0 n
flip_0 n small = omega arith

flip_8 : (n : ℕ) → n < 2 ^ 64 → part 8 (bit_not w64 n) ≡ 255 - part 8 n
flip_8 n small = omega arith

flip_16 : (n : ℕ) → n < 2 ^ 64 → part 16 (bit_not w64 n) ≡ 255 - part 16 n
flip_16 n small = omega arith

flip_24 : (n : ℕ) → n < 2 ^ 64 → part 24 (bit_not w64 n) ≡ 255 - part 24 n
flip_24 n small = omega arith

flip_32 : (n : ℕ) → n < 2 ^ 64 → part 32 (bit_not w64 n) ≡ 255 - part 32 n
flip_32 n small = omega arith

flip_40 : (n : ℕ) → n < 2 ^ 64 → part 40 (bit_not w64 n) ≡ 255 - part 40 n
flip_40 n small = omega arith

flip_48 : (n : ℕ) → n < 2 ^ 64 → part 48 (bit_not w64 n) ≡ 255 - part 48 n
flip_48 n small = omega arith

flip_56 : (n : ℕ) → n < 2 ^ 64 → part 56 (bit_not w64 n) ≡ 255 - part 56 n
flip_56 n small = omega arith

read_0 : (n : ℕ) → slice_index (to_le_bytes w64 n) 0 ≡ part 0 n
read_0 n = omega arith

read_1 : (n : ℕ) → slice_index (to_le_bytes w64 n) 1 ≡ part 8 n
read_1 n = refl

read_2 : (n : ℕ) → slice_index (to_le_bytes w64 n) 2 ≡ part 16 n
read_2 n = refl

read_3 : (n : ℕ) → slice_index (to_le_bytes w64 n) 3 ≡ part 24 n
read_3 n = refl

read_4 : (n : ℕ) → slice_index (to_le_bytes w64 n) 4 ≡ part 32 n
read_4 n = refl

read_5 : (n : ℕ) → slice_index (to_le_bytes w64 n) 5 ≡ part 40 n
read_5 n = refl

read_6 : (n : ℕ) → slice_index (to_le_bytes w64 n) 6 ≡ part 48 n
read_6 n = refl

read_7 : (n : ℕ) → slice_index (to_le_bytes w64 n) 7 ≡ part 56 n
read_7 n = refl

-- eight bytes of half under the mask
pub merged_half : (half low high : List ℕ) (j : ℕ) → j < 8 → length half ≡ 8 → length low ≡ 8 →
    length high ≡ 8 → IsBytes half → IsBytes low → IsBytes high
    → slice_index (to_le_bytes w64 (merged_number (from_le_bytes w64 half) (from_le_bytes w64 low)
    (from_le_bytes w64 high))) j ≡ merged (slice_index high j) (slice_index low j)
    (slice_index half j)
merged_half half low high zero inside eight_half eight_low eight_high half_are low_are high_are =
    at_byte half low high 0 0 eight_half eight_low eight_high half_are low_are high_are read_0
    flip_0
merged_half half low high (suc zero) inside eight_half eight_low eight_high half_are low_are
    high_are =
    at_byte half low high 1 8 eight_half eight_low eight_high half_are low_are high_are read_1
    flip_8
merged_half half low high (suc (suc zero)) inside eight_half eight_low eight_high half_are low_are
    high_are =
    at_byte half low high 2 16 eight_half eight_low eight_high half_are low_are high_are read_2
    flip_16
merged_half half low high (suc (suc (suc zero))) inside eight_half eight_low eight_high half_are
    low_are high_are =
    at_byte half low high 3 24 eight_half eight_low eight_high half_are low_are high_are read_3
    flip_24
merged_half half low high (suc (suc (suc (suc zero)))) inside eight_half eight_low eight_high
    half_are low_are high_are =
    at_byte half low high 4 32 eight_half eight_low eight_high half_are low_are high_are read_4
    flip_32
merged_half half low high (suc (suc (suc (suc (suc zero))))) inside eight_half eight_low eight_high
    half_are low_are high_are =
    at_byte half low high 5 40 eight_half eight_low eight_high half_are low_are high_are read_5
    flip_40
merged_half half low high (suc (suc (suc (suc (suc (suc zero)))))) inside eight_half eight_low
    eight_high half_are low_are high_are =
    at_byte half low high 6 48 eight_half eight_low eight_high half_are low_are high_are read_6
    flip_48
merged_half half low high (suc (suc (suc (suc (suc (suc (suc zero))))))) inside eight_half eight_low
    eight_high half_are low_are high_are =
    at_byte half low high 7 56 eight_half eight_low eight_high half_are low_are high_are read_7
    flip_56
merged_half half low high (suc (suc (suc (suc (suc (suc (suc (suc j)))))))) inside eight_half
    eight_low eight_high half_are low_are high_are = absurd (omega arith)
