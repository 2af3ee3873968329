-- A line of words that have no line feed is a line, and texts of lines have one division.
use Rattle.std.proofs.Common.{◌≡◌, ◌∙◌, ◌<◌, ◌==◌, ◌+◌, ◌/◌, ◌%◌, ℕ, zero, suc, Bool, true, false, not, cond, nat_lt, List, [], ◌∷◌, ◌++◌, refl, sym, ap, arith}
use Rattle.std.specs.Prelude.{slice_index, if◌then◌else◌}
use Rattle.std.specs.List.{list_all, concat}
use Rattle.std.specs.Fmt.{decimal, digits, digits_onto, digit_glyph}
use Rattle.std.proofs.lemmas.Bool.{and_parts, not-true}
use Rattle.std.proofs.lemmas.Bool.Decides.{nat_tests}
use Rattle.std.proofs.lemmas.List.Elements.{All-head, All-tail}
use Rattle.hex.specs.Hex.{encode_with, encode_lower, lower_digits}
use Rattle.hmc_codes.specs.Text.{line, hex_number}
use Rattle.hmc_texts.specs.Texts.{is_end, is_line, AreLines}

-- ---- words without a line feed

abbrev pub is_inner : List ℕ → Bool
is_inner bytes = list_all (λ byte. not (byte == 10)) bytes

abbrev pub AreInner : List (List ℕ) → Type 0
AreInner [] = Unit {0}
AreInner (word ∷ words) = (is_inner word ≡ true) × AreInner words

pub inner-append : (xs ys : List (List ℕ)) → AreInner xs → AreInner ys → AreInner (xs ++ ys)
inner-append [] ys p q = q
inner-append (x ∷ xs) ys p q = (p.0, inner-append xs ys p.1 q)

-- ---- such words make a line

byte_line : (byte : ℕ) (rest : List ℕ) → (byte == 10) ≡ false → is_line rest ≡ true → is_line (byte ∷ rest) ≡ true
unfolding is_line
byte_line byte rest other is = rw other is

before_line : (word rest : List ℕ) → is_inner word ≡ true → is_line rest ≡ true → is_line (word ++ rest) ≡ true
before_line [] rest inner is = is
before_line (b ∷ bs) rest inner is =
    let parts = and_parts (not (b == 10)) (is_inner bs) inner in
    byte_line b (bs ++ rest) (not-true (b == 10) parts.0) (before_line bs rest parts.1 is)

feed_line : is_line (10 ∷ []) ≡ true
unfolding is_line
feed_line = refl

pub line_is : (words : List (List ℕ)) → AreInner words → is_line (line words) ≡ true
line_is [] are = feed_line
line_is (w ∷ []) are = before_line w (10 ∷ []) are.0 feed_line
line_is (w ∷ v ∷ vs) are =
    before_line w (32 ∷ line (v ∷ vs)) are.0 (byte_line 32 (line (v ∷ vs)) refl (line_is (v ∷ vs) are.1))

-- ---- numbers and bytes have no line feed

past_feed : (n : ℕ) → 10 < n → (n == 10) ≡ false
past_feed n more = grind (arith, nat_tests)

glyph_inner : (upper : Bool) (d : ℕ) → (digit_glyph upper d == 10) ≡ false
glyph_inner upper d = by (nat_lt d 10) upper
  where
    by : (a b : Bool) → (cond a (48 + d) (cond b (55 + d) (87 + d)) == 10) ≡ false
    by true b = past_feed (48 + d) (omega arith)
    by false true = past_feed (55 + d) (omega arith)
    by false false = past_feed (87 + d) (omega arith)

inner_cons : (b : ℕ) (bs : List ℕ) → (b == 10) ≡ false → is_inner bs ≡ true → is_inner (b ∷ bs) ≡ true
inner_cons b bs other inner = rw other inner

onto_inner : (k base : ℕ) (upper : Bool) (n : ℕ) (acc : List ℕ) → is_inner acc ≡ true → is_inner (digits_onto k base upper n acc) ≡ true
onto_inner zero base upper n acc inner = inner
onto_inner (suc k) base upper n acc inner =
    let more = inner_cons (digit_glyph upper (n % base)) acc (glyph_inner upper (n % base)) inner in
    either (n / base == 0) _ _ more (onto_inner k base upper (n / base) _ more)
  where
    either : (b : Bool) (xs ys : List ℕ) → is_inner xs ≡ true → is_inner ys ≡ true → is_inner (cond b xs ys) ≡ true
    either true xs ys p q = p
    either false xs ys p q = q

digits_inner : (base : ℕ) (upper : Bool) (n : ℕ) → is_inner (digits base upper n) ≡ true
unfolding digits
digits_inner base upper n = onto_inner 64 base upper n [] refl

pub decimal_inner : (n : ℕ) → is_inner (decimal n) ≡ true
decimal_inner n = digits_inner 10 false n

pub hex_inner : (n : ℕ) → is_inner (hex_number n) ≡ true
hex_inner n = digits_inner 16 false n

at_inner : (xs : List ℕ) (k : ℕ) → is_inner xs ≡ true → (slice_index xs k == 10) ≡ false
at_inner [] k all = refl
at_inner (x ∷ xs) zero all = not-true (x == 10) (and_parts (not (x == 10)) (is_inner xs) all).0
at_inner (x ∷ xs) (suc k) all = at_inner xs k (and_parts (not (x == 10)) (is_inner xs) all).1

pub bytes_inner : (bytes : List ℕ) → is_inner (encode_lower bytes) ≡ true
unfolding encode_with
bytes_inner [] = refl
bytes_inner (b ∷ bs) =
    rw (at_inner lower_digits (b / 16) refl, at_inner lower_digits (b % 16) refl, bytes_inner bs) refl

-- ---- a text of lines has one division

record OneLine (a b r s : List ℕ) : Type 0 where
  first : a ≡ b
  rest : r ≡ s

head_same : (x y : ℕ) (xs ys : List ℕ) → x ∷ xs ≡ y ∷ ys → x ≡ y
head_same x y xs ys same = cc

tail_same : (x y : ℕ) (xs ys : List ℕ) → x ∷ xs ≡ y ∷ ys → xs ≡ ys
tail_same x y xs ys same = cc

ended : (xs : List ℕ) → is_end xs ≡ true → xs ≡ []
ended [] is = refl
ended (x ∷ xs) is = absurd (cc is)

no_line : is_line [] ≡ true → ⊥
unfolding is_line
no_line is = cc is

first_line : (a b r s : List ℕ) → is_line a ≡ true → is_line b ≡ true → a ++ r ≡ b ++ s → OneLine a b r s
unfolding is_line
first_line [] b r s is as_is same = absurd (no_line is)
first_line (x ∷ xs) [] r s is as_is same = absurd (no_line as_is)
first_line (x ∷ xs) (y ∷ ys) r s is as_is same =
    by (x == 10) (y == 10) (ap (λ (n : ℕ). n == 10) (head_same x y _ _ same)) is as_is (first_line xs ys r s)
  where
    head : x ≡ y
    head = head_same x y _ _ same

    tails : xs ++ r ≡ ys ++ s
    tails = tail_same x y _ _ same

    by : (one other : Bool) → one ≡ other → (if one then is_end xs else is_line xs) ≡ true → (if other then is_end ys else is_line ys) ≡ true
        → (is_line xs ≡ true → is_line ys ≡ true → xs ++ r ≡ ys ++ s → OneLine xs ys r s) → OneLine (x ∷ xs) (y ∷ ys) r s
    by true true at here there later =
        let none : xs ≡ [] = ended xs here in
        let no : ys ≡ [] = ended ys there in
        record {
          first = cc (head, none, no);
          rest = sym (ap (λ (l : List ℕ). l ++ r) none) ∙ tails ∙ ap (λ (l : List ℕ). l ++ s) no;
        }
    by true false at here there later = absurd (cc at)
    by false true at here there later = absurd (cc at)
    by false false at here there later =
        let more = later here there tails in
        record { first = cc (head, more.first); rest = more.rest }

not_nothing : (line rest : List ℕ) → is_line line ≡ true → [] ≡ line ++ rest → ⊥
not_nothing [] rest is same = no_line is
not_nothing (x ∷ xs) rest is same = cc same

pub cut : (lines others : List (List ℕ)) → AreLines lines → AreLines others → concat lines ≡ concat others → lines ≡ others
cut [] [] are all same = refl
cut [] (o ∷ os) are all same = absurd (not_nothing o (concat os) (All-head (λ (l : List ℕ). is_line l ≡ true) o os all) same)
cut (l ∷ ls) [] are all same = absurd (not_nothing l (concat ls) (All-head (λ (l : List ℕ). is_line l ≡ true) l ls are) (sym same))
cut (l ∷ ls) (o ∷ os) are all same =
    let P = λ (l : List ℕ). is_line l ≡ true in
    let here = first_line l o (concat ls) (concat os) (All-head P l ls are) (All-head P o os all) same in
    let first : l ≡ o = here.first in
    let later : ls ≡ os = cut ls os (All-tail P l ls are) (All-tail P o os all) here.rest in
    cc (first, later)
