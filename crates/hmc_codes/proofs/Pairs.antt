-- The digits of a byte by sums, and digits that are written two by two.
use Rattle.std.proofs.Common.{◌≡◌, ◌∙◌, ◌<◌, ◌+◌, ◌*◌, ◌/◌, ◌%◌, ℕ, zero, suc, List, [], ◌∷◌, ◌++◌, length, take, drop, refl, sym, ap, arith}
use Rattle.std.specs.Prelude.{slice_set, slice_index, map, get_or, bit_and}
use Rattle.std.specs.List.{range_with_len}
use Rattle.std.proofs.lemmas.List.FromFn.{get_or-map-range_with_len}
use Rattle.hex.specs.Hex.{encode_lower, encode_with, lower_digits}

-- an even number, in a form that computes
abbrev twice : ℕ → ℕ
twice zero = zero
twice (suc n) = suc (suc (twice n))

twice_is : (n : ℕ) → twice n ≡ 2 * n
twice_is zero = refl
twice_is (suc n) = omega (arith, twice_is n)

abbrev high : ℕ → ℕ
high byte = slice_index lower_digits (byte / 16)

abbrev low : ℕ → ℕ
low byte = slice_index lower_digits (byte % 16)

-- two digits of their numbers, the second in the higher bits
abbrev pub pair_of : ℕ → ℕ → ℕ
pair_of first second = first + 256 * second + 12336 + 39 * bit_and ((first + 256 * second + 1542) / 16) 257

abbrev pub pair : ℕ → ℕ
pair byte = pair_of (byte / 16) (byte % 16)

-- the pair of every byte, computed
first_right : map (λ byte. pair byte % 256) (range_with_len 0 256) ≡ map high (range_with_len 0 256)
first_right = refl

second_right : map (λ byte. pair byte / 256) (range_with_len 0 256) ≡ map low (range_with_len 0 256)
second_right = refl

at_byte : (f g : ℕ → ℕ) (byte : ℕ) → map f (range_with_len 0 256) ≡ map g (range_with_len 0 256) → byte < 256 → f byte ≡ g byte
at_byte f g byte same small =
    sym (get_or-map-range_with_len f 0 256 byte byte 0 small (omega arith)) ∙ ap (λ (l : List ℕ). get_or l byte 0) same ∙ get_or-map-range_with_len g 0 256 byte byte 0 small (omega arith)

pub first_is_right : (byte : ℕ) → byte < 256 → pair byte % 256 ≡ slice_index lower_digits (byte / 16)
first_is_right byte small = at_byte (λ b. pair b % 256) high byte first_right small

pub second_is_right : (byte : ℕ) → byte < 256 → pair byte / 256 ≡ slice_index lower_digits (byte % 16)
second_is_right byte small = at_byte (λ b. pair b / 256) low byte second_right small

-- the digits of a byte come after those of the bytes before it
next_pair : (bytes digits : List ℕ) (at : ℕ) → at < length bytes → length digits ≡ twice (length bytes) →
    slice_set (slice_set (encode_lower (take at bytes) ++ drop (twice at) digits) (twice at) (high (slice_index bytes at))) (suc (twice at)) (low (slice_index bytes at))
    ≡ encode_lower (take (suc at) bytes) ++ drop (twice (suc at)) digits
unfolding encode_with
next_pair [] digits at inside long = absurd (omega arith)
next_pair (b ∷ bytes) [] at inside long = absurd (omega arith)
next_pair (b ∷ bytes) (x ∷ []) at inside long = absurd (omega arith)
next_pair (b ∷ bytes) (x ∷ y ∷ digits) zero inside long = refl
next_pair (b ∷ bytes) (x ∷ y ∷ digits) (suc at) inside long = ap (λ (l : List ℕ). high b ∷ low b ∷ l) (next_pair bytes digits at (omega arith) (omega arith))

pub pair_more : (bytes digits : List ℕ) (at : ℕ) → at < length bytes → length digits ≡ 2 * length bytes →
    slice_set (slice_set (encode_lower (take at bytes) ++ drop (2 * at) digits) (2 * at) (high (slice_index bytes at))) (2 * at + 1) (low (slice_index bytes at))
    ≡ encode_lower (take (at + 1) bytes) ++ drop (2 * (at + 1)) digits
pair_more bytes digits at inside long =
    let here = twice_is at in
    let after : suc (twice at) ≡ 2 * at + 1 = omega (arith, here) in
    let next : suc at ≡ at + 1 = omega arith in
    let behind : twice (suc at) ≡ 2 * (at + 1) = omega (arith, here) in
    (λ i. slice_set (slice_set (encode_lower (take at bytes) ++ drop (sym here i) digits) (sym here i) (high (slice_index bytes at))) (sym after i) (low (slice_index bytes at)))
    ∙ next_pair bytes digits at inside (omega (arith, long, twice_is (length bytes)))
    ∙ (λ i. encode_lower (take (next i) bytes) ++ drop (behind i) digits)

-- when all is written nothing is left behind it
pub nothing_written : (digits : List ℕ) → digits ≡ encode_lower [] ++ digits
unfolding encode_with
nothing_written digits = refl
