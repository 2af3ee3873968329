-- Four bytes at once: a word's bytes are divided apart, each by the table of its place.
use Rattle.std.proofs.Common.{◌≡◌, ℕ, zero, suc, ◌+◌, ◌*◌, ◌/◌, ◌%◌, ◌^◌, ◌<◌, ◌≤◌, Bool, false, List, [], ◌∷◌, ◌++◌, length, drop, map, get_or, slice_index, refl, sym, ap, ap₂, ◌∙◌, arith, append_assoc, length-append}
use Rattle.std.specs.Int.Bits.{bit_xor}
use Rattle.std.proofs.lemmas.List.{append-nil, drop_more, get_or-map}
use mathlib.Core.Bool.{xor}
use Rattle.hmc_crc.specs.declared.table.TheConstants.{REMAINDERS}
use Rattle.hmc_crc.specs.declared.word.TheConstants.{BEFORE_ONE, BEFORE_TWO, BEFORE_THREE}
use Rattle.hmc_crc.specs.Bits.{bits_below, bits_of}
use Rattle.hmc_crc.specs.Remainder.{coefficients, plus, divide, divisor, zeros}
use Rattle.hmc_crc.proofs.Plus.{plus_comm, plus_assoc, plus-append_zeros, length-zeros}
use Rattle.hmc_crc.proofs.Divide.{divide-add, divide-append, divide-sum, divide-front}
use Rattle.hmc_crc.proofs.Bits.{length-bits_below, bits_below-xor, bits_below-mod}
use Rattle.hmc_crc.proofs.Check.{length-divisor, remainder_from, length-bits_with_zeros}
use Rattle.hmc_crc.proofs.TableLemmas.{steps_of_byte, length-steps_of_byte, steps_with_more, entry_is_right, bits_below-split}

-- eight more steps of what is left
abbrev eight_more : List Bool → List Bool
eight_more bits = divide divisor 8 (bits ++ zeros 8)

abbrev entry_more : ℕ → List Bool
entry_more entry = eight_more (bits_below 32 entry)

-- every entry, computed from that of the table before
one_is_right : map (bits_below 32) BEFORE_ONE ≡ map entry_more REMAINDERS
unfolding bits_below divide divisor coefficients plus zeros xor
one_is_right = refl

two_is_right : map (bits_below 32) BEFORE_TWO ≡ map entry_more BEFORE_ONE
unfolding bits_below divide divisor coefficients plus zeros xor
two_is_right = refl

three_is_right : map (bits_below 32) BEFORE_THREE ≡ map entry_more BEFORE_TWO
unfolding bits_below divide divisor coefficients plus zeros xor
three_is_right = refl

entry_follows : (table next : List ℕ) (byte : ℕ) → map (bits_below 32) next ≡ map entry_more table → byte < length next → byte < length table →
    bits_below 32 (get_or next byte 0) ≡ entry_more (get_or table byte 0)
entry_follows table next byte is inside within =
    sym (get_or-map (bits_below 32) next byte 0 [] inside)
    ∙ ap (λ (rows : List (List Bool)). get_or rows byte []) is
    ∙ get_or-map entry_more table byte 0 [] within

zeros-add : (m n : ℕ) → zeros (m + n) ≡ zeros m ++ zeros n
unfolding zeros
zeros-add zero n = let e : zero + n ≡ n = omega arith in rw e refl
zeros-add (suc m) n = let e : suc m + n ≡ suc (m + n) = omega arith in rw e (ap (λ (bits : List Bool). false ∷ bits) (zeros-add m n))

-- steps of a register one after another
more_steps : (m n : ℕ) (bits : List Bool) → length bits ≡ 32 →
    divide divisor (m + n) (bits ++ zeros (m + n)) ≡ divide divisor n (divide divisor m (bits ++ zeros m) ++ zeros n)
more_steps m n bits long =
    let reach : m + length divisor ≤ length (bits ++ zeros m) = omega (arith, length-divisor, long, length-append bits (zeros m), length-zeros m) in
    ap (λ (more : List Bool). divide divisor (m + n) (bits ++ more)) (zeros-add m n)
    ∙ ap (divide divisor (m + n)) (sym (append_assoc bits (zeros m) (zeros n)))
    ∙ divide-add divisor m n ((bits ++ zeros m) ++ zeros n)
    ∙ ap (divide divisor n) (divide-append divisor m (bits ++ zeros m) (zeros n) reach)

-- what the tables hold: the remainder of a byte that more bytes follow
one_holds : (byte : ℕ) → byte < 256 → bits_below 32 (slice_index BEFORE_ONE byte) ≡ divide divisor 8 (steps_of_byte byte ++ zeros 8)
one_holds byte small = entry_follows REMAINDERS BEFORE_ONE byte one_is_right small small ∙ ap eight_more (entry_is_right byte small)

two_hold : (byte : ℕ) → byte < 256 → bits_below 32 (slice_index BEFORE_TWO byte) ≡ divide divisor 16 (steps_of_byte byte ++ zeros 16)
two_hold byte small =
    entry_follows BEFORE_ONE BEFORE_TWO byte two_is_right small small
    ∙ ap eight_more (one_holds byte small)
    ∙ sym (more_steps 8 8 (steps_of_byte byte) (length-steps_of_byte byte))

three_hold : (byte : ℕ) → byte < 256 → bits_below 32 (slice_index BEFORE_THREE byte) ≡ divide divisor 24 (steps_of_byte byte ++ zeros 24)
three_hold byte small =
    entry_follows BEFORE_TWO BEFORE_THREE byte three_is_right small small
    ∙ ap eight_more (two_hold byte small)
    ∙ sym (more_steps 16 8 (steps_of_byte byte) (length-steps_of_byte byte))

-- a byte and what follows it are divided apart
steps_first : (k byte : ℕ) (more : List Bool) → length more ≡ k + 32 →
    divide divisor (8 + k) (bits_below 8 byte ++ more) ≡ plus (divide divisor k (steps_of_byte byte ++ zeros k)) (divide divisor k more)
steps_first k byte more long =
    let steps : List Bool = steps_of_byte byte in
    let sized : length steps ≡ 32 = length-steps_of_byte byte in
    let all : length (steps ++ zeros k) ≡ 32 + k = length-append steps (zeros k) ∙ omega (arith, sized, length-zeros k) in
    divide-add divisor 8 k (bits_below 8 byte ++ more)
    ∙ ap (divide divisor k) (steps_with_more byte more (omega (arith, long)))
    ∙ ap (divide divisor k) (sym (plus-append_zeros steps more k (omega (arith, sized, long))))
    ∙ divide-sum divisor k (steps ++ zeros k) more (omega (arith, all, long)) (omega (arith, all, length-divisor))

one_longer : (byte n : ℕ) (more : List Bool) → length more ≡ n → length (bits_below 8 byte ++ more) ≡ 8 + n
one_longer byte n more long = length-append (bits_below 8 byte) more ∙ omega (arith, length-bits_below 8 byte, long)

steps_of_four : (a b c d : ℕ) →
    divide divisor 32 (bits_below 8 a ++ (bits_below 8 b ++ (bits_below 8 c ++ (bits_below 8 d ++ zeros 32))))
    ≡ plus (divide divisor 24 (steps_of_byte a ++ zeros 24))
    (plus (divide divisor 16 (steps_of_byte b ++ zeros 16)) (plus (divide divisor 8 (steps_of_byte c ++ zeros 8)) (steps_of_byte d)))
steps_of_four a b c d =
    let last : List Bool = bits_below 8 d ++ zeros 32 in
    let last_two : List Bool = bits_below 8 c ++ last in
    let last_three : List Bool = bits_below 8 b ++ last_two in
    let long : length last ≡ 40 = one_longer d 32 (zeros 32) (length-zeros 32) in
    let longer : length last_two ≡ 48 = one_longer c 40 last long in
    let longest : length last_three ≡ 56 = one_longer b 48 last_two longer in
    steps_first 24 a last_three longest
    ∙ ap (plus (divide divisor 24 (steps_of_byte a ++ zeros 24)))
    (steps_first 16 b last_two longer ∙ ap (plus (divide divisor 16 (steps_of_byte b ++ zeros 16))) (steps_first 8 c last long))

-- the four bytes of a word
quarters : (word : ℕ) → bits_below 32 word ≡ bits_below 8 (word / 2 ^ 24) ++ (bits_below 8 (word / 2 ^ 16 % 2 ^ 8) ++ (bits_below 8 (word / 2 ^ 8 % 2 ^ 8) ++ bits_below 8 (word % 2 ^ 8)))
quarters word =
    let byte : (n : ℕ) → bits_below 8 n ≡ bits_below 8 (n % 2 ^ 8) = λ n. sym (bits_below-mod 8 8 n (omega arith)) in
    bits_below-split 8 24 word
    ∙ ap (λ (bits : List Bool). bits_below 8 (word / 2 ^ 24) ++ bits)
    (bits_below-split 8 16 word
    ∙ ap₂ (λ (front back : List Bool). front ++ back) (byte (word / 2 ^ 16))
    (bits_below-split 8 8 word ∙ ap₂ (λ (front back : List Bool). front ++ back) (byte (word / 2 ^ 8)) (byte word)))

-- a word of four bytes has their bits
pub bits_of_word : (a b c d word : ℕ) → b < 256 → c < 256 → d < 256 → word ≡ a * 16777216 + b * 65536 + c * 256 + d →
    bits_below 32 word ≡ bits_of (a ∷ b ∷ c ∷ d ∷ [])
unfolding bits_of
bits_of_word a b c d word small_b small_c small_d is =
    let first : word / 2 ^ 24 ≡ a = omega (arith, is) in
    let second : word / 2 ^ 16 % 2 ^ 8 ≡ b = omega (arith, is) in
    let third : word / 2 ^ 8 % 2 ^ 8 ≡ c = omega (arith, is) in
    let fourth : word % 2 ^ 8 ≡ d = omega (arith, is) in
    quarters word
    ∙ (rw (first, second, third, fourth, append-nil (bits_below 8 d)) refl)

four_apart : (a b c d : List Bool) → (a ++ (b ++ (c ++ d))) ++ zeros 32 ≡ a ++ (b ++ (c ++ (d ++ zeros 32)))
four_apart a b c d =
    append_assoc a (b ++ (c ++ d)) (zeros 32)
    ∙ ap (λ (bits : List Bool). a ++ bits) (append_assoc b (c ++ d) (zeros 32) ∙ ap (λ (bits : List Bool). b ++ bits) (append_assoc c d (zeros 32)))

-- 32 steps of a register with its next four bytes are four entries
pub word_at_once : (register word sum three two one none : ℕ) → sum ≡ bit_xor register word → sum < 2 ^ 32 →
    three ≡ slice_index BEFORE_THREE (sum / 2 ^ 24) → two ≡ slice_index BEFORE_TWO (sum / 2 ^ 16 % 2 ^ 8) →
    one ≡ slice_index BEFORE_ONE (sum / 2 ^ 8 % 2 ^ 8) → none ≡ slice_index REMAINDERS (sum % 2 ^ 8) →
    bits_below 32 (bit_xor (bit_xor (bit_xor three two) one) none) ≡ divide divisor 32 (plus (bits_below 32 word) (bits_below 32 register) ++ zeros 32)
word_at_once register word sum three two one none is fits is_three is_two is_one is_none =
    let a : ℕ = sum / 2 ^ 24 in
    let b : ℕ = sum / 2 ^ 16 % 2 ^ 8 in
    let c : ℕ = sum / 2 ^ 8 % 2 ^ 8 in
    let d : ℕ = sum % 2 ^ 8 in
    let of_three : List Bool = divide divisor 24 (steps_of_byte a ++ zeros 24) in
    let of_two : List Bool = divide divisor 16 (steps_of_byte b ++ zeros 16) in
    let of_one : List Bool = divide divisor 8 (steps_of_byte c ++ zeros 8) in
    let of_none : List Bool = steps_of_byte d in
    let held_three : bits_below 32 three ≡ of_three = ap (bits_below 32) is_three ∙ three_hold a (omega (arith, fits)) in
    let held_two : bits_below 32 two ≡ of_two = ap (bits_below 32) is_two ∙ two_hold b (omega arith) in
    let held_one : bits_below 32 one ≡ of_one = ap (bits_below 32) is_one ∙ one_holds c (omega arith) in
    let held_none : bits_below 32 none ≡ of_none = ap (bits_below 32) is_none ∙ entry_is_right d (omega arith) in
    let added : bits_below 32 sum ≡ plus (bits_below 32 word) (bits_below 32 register) =
    ap (bits_below 32) is ∙ bits_below-xor 32 register word ∙ plus_comm (bits_below 32 register) (bits_below 32 word) in
    bits_below-xor 32 (bit_xor (bit_xor three two) one) none
    ∙ ap₂ plus (bits_below-xor 32 (bit_xor three two) one ∙ ap₂ plus (bits_below-xor 32 three two ∙ ap₂ plus held_three held_two) held_one) held_none
    ∙ plus_assoc (plus of_three of_two) of_one of_none
    ∙ plus_assoc of_three of_two (plus of_one of_none)
    ∙ sym (steps_of_four a b c d)
    ∙ ap (divide divisor 32) (sym (four_apart (bits_below 8 a) (bits_below 8 b) (bits_below 8 c) (bits_below 8 d)))
    ∙ ap (λ (bits : List Bool). divide divisor 32 (bits ++ zeros 32)) (sym (quarters sum) ∙ added)

four_in_front : (a b c d : ℕ) (rest : List ℕ) → bits_of (a ∷ b ∷ c ∷ d ∷ rest) ≡ bits_of (a ∷ b ∷ c ∷ d ∷ []) ++ bits_of rest
unfolding bits_of bits_below
four_in_front a b c d rest = refl

length-four : (a b c d : ℕ) → length (bits_of (a ∷ b ∷ c ∷ d ∷ [])) ≡ 32
unfolding bits_of bits_below
length-four a b c d = refl

-- four bytes on
pub remainder_from-word : (register a b c d word next : ℕ) (rest : List ℕ) →
    bits_below 32 word ≡ bits_of (a ∷ b ∷ c ∷ d ∷ []) →
    bits_below 32 next ≡ divide divisor 32 (plus (bits_below 32 word) (bits_below 32 register) ++ zeros 32) →
    remainder_from next rest ≡ remainder_from register (a ∷ b ∷ c ∷ d ∷ rest)
remainder_from-word register a b c d word next rest is step =
    let bits : List Bool = bits_below 32 word in
    let wide : length bits ≡ 32 = length-bits_below 32 word in
    let sized : length (bits_below 32 register) ≡ length divisor = length-bits_below 32 register ∙ sym length-divisor in
    let long : length divisor ≤ length (bits_of rest ++ zeros 32) = omega (arith, length-divisor, length-bits_with_zeros rest) in
    let fed = divide-front divisor (bits_below 32 register) bits (bits_of rest ++ zeros 32) (length (bits_of rest))
    sized (omega (arith, length-divisor, wide)) long in
    let whole : bits_of (a ∷ b ∷ c ∷ d ∷ rest) ≡ bits ++ bits_of rest = four_in_front a b c d rest ∙ ap (λ (l : List Bool). l ++ bits_of rest) (sym is) in
    rw (whole, length-append bits (bits_of rest), append_assoc bits (bits_of rest) (zeros 32), fed, wide, step) refl

-- the next four bytes, and the others after them
pub drop_four : (bytes : List ℕ) (i : ℕ) → i + 4 ≤ length bytes →
    drop i bytes ≡ get_or bytes i 0 ∷ get_or bytes (i + 1) 0 ∷ get_or bytes (i + 2) 0 ∷ get_or bytes (i + 3) 0 ∷ drop (i + 4) bytes
drop_four bytes i room =
    let second : drop (i + 1) bytes ≡ get_or bytes (i + 1) 0 ∷ drop (i + 2) bytes = drop_more bytes (i + 1) 0 (omega arith) ∙ ap (λ (k : ℕ). get_or bytes (i + 1) 0 ∷ drop k bytes) (omega arith) in
    let third : drop (i + 2) bytes ≡ get_or bytes (i + 2) 0 ∷ drop (i + 3) bytes = drop_more bytes (i + 2) 0 (omega arith) ∙ ap (λ (k : ℕ). get_or bytes (i + 2) 0 ∷ drop k bytes) (omega arith) in
    let fourth : drop (i + 3) bytes ≡ get_or bytes (i + 3) 0 ∷ drop (i + 4) bytes = drop_more bytes (i + 3) 0 (omega arith) ∙ ap (λ (k : ℕ). get_or bytes (i + 3) 0 ∷ drop k bytes) (omega arith) in
    rw (drop_more bytes i 0 (omega arith), second, third, fourth) refl
