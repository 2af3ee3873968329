-- The digits of a number in base 10 and 16: the last one, those before it, and how many there are.
-- Digits of bytes are ASCII.
use Rattle.std.proofs.Common.{◌≡◌, ◌∙◌, ◌≤◌, ◌<◌, ◌^◌, ◌+◌, ◌/◌, ◌%◌, ℕ, zero, suc, false, List, [], ◌∷◌, ◌++◌, length, cond, refl, sym, ap, ap₂, ⊎_elim, arith, append_assoc, length-append, eq-eqb, ne_eqb, lt-ltb, ltb, Bool, true, ◌&&◌, IsUtf8, IsAscii, ltb-true}
use Rattle.std.proofs.lemmas.Bool.{cases_lt, and_parts}
use Rattle.std.proofs.lemmas.Fmt.{decimal_digit, decimal_step, length-decimal-le}
use Rattle.std.proofs.lemmas.Str.{IsUtf8-from_ascii}
use Rattle.std.proofs.lemmas.Str.Ascii.{IsAscii-nil, IsAscii-cons}
use Rattle.hex.specs.Hex.{encode_lower, lower_digits}
use Rattle.hex.proofs.HexLemmas.{IsAscii-encode_with}
use Rattle.std.specs.Fmt.{decimal, digit_glyph, digits_onto, digits}

abbrev spelled : ℕ → ℕ → List ℕ → List ℕ
spelled k n acc = digits_onto k 16 false n acc

abbrev last_digit : ℕ → ℕ
last_digit n = digit_glyph false (n % 16)

spelled-last : (k n : ℕ) (acc : List ℕ) → n < 16 → spelled (suc k) n acc ≡ last_digit n ∷ acc
spelled-last k n acc small = ap (λ t. cond t (last_digit n ∷ acc) (spelled k (n / 16) (last_digit n ∷ acc))) (eq-eqb (n / 16) 0 (omega arith))

spelled-next : (k n : ℕ) (acc : List ℕ) → 16 ≤ n → spelled (suc k) n acc ≡ spelled k (n / 16) (last_digit n ∷ acc)
spelled-next k n acc large = ap (λ t. cond t (last_digit n ∷ acc) (spelled k (n / 16) (last_digit n ∷ acc))) (ne_eqb (n / 16) 0 (λ e. omega arith))

spelled-append : (k n : ℕ) (acc : List ℕ) → spelled k n acc ≡ spelled k n [] ++ acc
spelled-append zero n acc = refl
spelled-append (suc k) n acc = ⊎_elim
    (λ l. spelled-last k n acc l ∙ ap (λ x. x ++ acc) (sym (spelled-last k n [] l)))
    (λ l. spelled-next k n acc l ∙ spelled-append k (n / 16) (last_digit n ∷ acc) ∙ sym (append_assoc (spelled k (n / 16) []) (last_digit n ∷ []) acc) ∙ ap (λ x. x ++ acc) (sym (spelled-next k n [] l ∙ spelled-append k (n / 16) (last_digit n ∷ []))))
    (cases_lt n 16)

-- the limit of digits doesn't matter once it is large enough
spelled-enough : (j k n : ℕ) (acc : List ℕ) → n < 16 ^ suc j → n < 16 ^ suc k → spelled (suc j) n acc ≡ spelled (suc k) n acc
spelled-enough zero k n acc p q = spelled-last zero n acc (omega arith) ∙ sym (spelled-last k n acc (omega arith))
spelled-enough (suc j) zero n acc p q = spelled-last (suc j) n acc (omega arith) ∙ sym (spelled-last zero n acc (omega arith))
spelled-enough (suc j) (suc k) n acc p q = ⊎_elim
    (λ l. spelled-last (suc j) n acc l ∙ sym (spelled-last (suc k) n acc l))
    (λ l. spelled-next (suc j) n acc l ∙ spelled-enough j k (n / 16) (last_digit n ∷ acc) (omega arith) (omega arith) ∙ sym (spelled-next (suc k) n acc l))
    (cases_lt n 16)

-- a number of one digit
pub hex_last : (n : ℕ) → n < 16 → digits 16 false n ≡ digit_glyph false n ∷ []
unfolding digits
hex_last n small =
    let same : n % 16 ≡ n = omega arith in
    spelled-last 63 n [] small ∙ ap (λ d. digit_glyph false d ∷ []) same

-- the last digit comes after those of a sixteenth
pub hex_first : (n : ℕ) → 16 ≤ n → n < 2 ^ 64 → digits 16 false n ≡ digits 16 false (n / 16) ++ (digit_glyph false (n % 16) ∷ [])
unfolding digits
hex_first n large small =
    spelled-next 63 n [] large ∙ spelled-enough 62 63 (n / 16) (last_digit n ∷ []) (omega arith) (omega arith) ∙ spelled-append 64 (n / 16) (last_digit n ∷ [])

-- a number below 16 ^ k has at most k digits
hex_length_below : (k n : ℕ) → 0 < k → n < 16 ^ k → n < 2 ^ 64 → length (digits 16 false n) ≤ k
hex_length_below zero n some small fits = absurd (omega arith)
hex_length_below (suc zero) n some small fits = omega (arith, ap length (hex_last n (omega arith)))
hex_length_below (suc (suc k)) n some small fits = ⊎_elim
    (λ l. omega (arith, ap length (hex_last n l)))
    (λ l. let before = hex_length_below (suc k) (n / 16) (omega arith) (omega arith) (omega arith) in
    omega (arith, before, ap length (hex_first n l fits), length-append (digits 16 false (n / 16)) (digit_glyph false (n % 16) ∷ [])))
    (cases_lt n 16)

-- a number of 64 bits has at most 16 digits
pub hex_length : (n : ℕ) → n < 2 ^ 64 → length (digits 16 false n) ≤ 16
hex_length n fits = hex_length_below 16 n (omega arith) (omega arith) fits

-- the same in base 10
pub decimal_last : (n : ℕ) → n < 10 → decimal n ≡ digit_glyph false n ∷ []
decimal_last n small = decimal_digit n small ∙ ap (λ b. cond b (48 + n) (87 + n) ∷ []) (sym (lt-ltb n 10 small))

pub decimal_first : (n : ℕ) → 10 ≤ n → n < 2 ^ 64 → decimal n ≡ decimal (n / 10) ++ (digit_glyph false (n % 10) ∷ [])
decimal_first n large fits =
    let small : n % 10 < 10 = omega arith in
    decimal_step n large fits ∙ ap (λ b. decimal (n / 10) ++ (cond b (48 + n % 10) (87 + n % 10) ∷ [])) (sym (lt-ltb (n % 10) 10 small))

pub decimal_length : (n : ℕ) → n < 2 ^ 64 → length (decimal n) ≤ 20
decimal_length n fits = length-decimal-le 20 n (omega arith) (omega arith) fits

-- how many digits come before the last
one_longer : (before whole : List ℕ) (last : ℕ) → whole ≡ before ++ (last ∷ []) → length whole ≡ length before + 1
one_longer before whole last is = omega (arith, ap length is, length-append before (last ∷ []))

pub hex_longer : (n : ℕ) → 16 ≤ n → n < 2 ^ 64 → length (digits 16 false n) ≡ length (digits 16 false (n / 16)) + 1
hex_longer n large fits = one_longer (digits 16 false (n / 16)) (digits 16 false n) (last_digit n) (hex_first n large fits)

pub decimal_longer : (n : ℕ) → 10 ≤ n → n < 2 ^ 64 → length (decimal n) ≡ length (decimal (n / 10)) + 1
decimal_longer n large fits = one_longer (decimal (n / 10)) (decimal n) (digit_glyph false (n % 10)) (decimal_first n large fits)

-- a text of at most k bytes adds at most k
pub within : (old new text : List ℕ) (k : ℕ) → new ≡ old ++ text → length text ≤ k → length new ≤ length old + k
within old new text k is few = omega (arith, ap length is, length-append old text, few)

-- the last digit comes after those before it
pub with_last : (old before mid new word whole : List ℕ) (last : ℕ) → mid ≡ old ++ before → word ≡ last ∷ [] → new ≡ mid ++ word → whole ≡ before ++ (last ∷ []) → new ≡ old ++ whole
with_last old before mid new word whole last mid_is word_is new_is whole_is =
    new_is ∙ ap₂ (λ a b. a ++ b) mid_is word_is ∙ append_assoc old before (last ∷ []) ∙ ap (λ text. old ++ text) (sym whole_is)

-- and has room where they have
pub last_fits : (old before mid word : List ℕ) (last whole most : ℕ) → mid ≡ old ++ before → word ≡ last ∷ [] → whole ≡ length before + 1 → length old + whole ≤ most → length mid + length word ≤ most
last_fits old before mid word last whole most mid_is word_is longer room =
    omega (arith, ap length mid_is, length-append old before, ap length word_is, longer, room)

abbrev is_ascii : List ℕ → Bool
is_ascii [] = true
is_ascii (b ∷ bs) = ltb b 128 && is_ascii bs

ascii-from_test : (bs : List ℕ) → is_ascii bs ≡ true → IsAscii bs
ascii-from_test [] is = IsAscii-nil
ascii-from_test (b ∷ bs) is = let both = and_parts (ltb b 128) (is_ascii bs) is in IsAscii-cons b bs (ltb-true b 128 both.0) (ascii-from_test bs both.1)

-- the digits of bytes are text
pub IsUtf8-encode_lower : (bytes : List ℕ) → IsUtf8 (encode_lower bytes)
IsUtf8-encode_lower bytes = IsUtf8-from_ascii (encode_lower bytes) (IsAscii-encode_with lower_digits bytes (ascii-from_test lower_digits refl))

-- a space, a digit and another digit
pub two_pushed : (old mid new first last tens all : List ℕ) (g h : ℕ) → mid ≡ old ++ first → first ≡ 32 ∷ g ∷ [] → new ≡ mid ++ last → last ≡ h ∷ [] → all ≡ tens ++ (h ∷ []) → tens ≡ g ∷ [] → new ≡ old ++ (32 ∷ all)
two_pushed old mid new first last tens all g h mid_is first_is new_is last_is all_is tens_is =
    new_is ∙ (λ i. (mid_is ∙ ap (λ (l : List ℕ). old ++ l) first_is) i ++ last_is i) ∙ append_assoc old (32 ∷ g ∷ []) (h ∷ [])
    ∙ ap (λ (l : List ℕ). old ++ (32 ∷ l)) (sym (all_is ∙ ap (λ (l : List ℕ). l ++ (h ∷ [])) tens_is))
