-- Words that are written with a space between are read again, and so are lines.
use Rattle.std.proofs.Common.{◌≡◌, ◌∙◌, ℕ, zero, suc, ◌-◌, ◌==◌, ◌&&◌, Bool, true, false, not, List, [], ◌∷◌, ◌++◌, filter, map, length, get_or, refl, sym, ap, append_assoc}
use Rattle.std.specs.List.{slice_split, list_all, All}
use Rattle.std.proofs.lemmas.Bool.{and_parts, and_from, not-true}
use Rattle.std.proofs.lemmas.List.Elements.{All-nil, All-cons}
use Rattle.std.proofs.lemmas.List.Folds.{list_all-append}
use Rattle.std.proofs.lemmas.List.Splits.{slice_split_at, slice_split_none}
use Rattle.hmc_codes.specs.Text.{spaced_words, line}
use Rattle.hmc_text.specs.Lines.{is_line_feed, without_return, lines_of}
use Rattle.hmc_text.specs.Words.{is_blank, is_some, words_of}

-- a byte that ends no line
abbrev pub is_inner : ℕ → Bool
is_inner b = not (is_line_feed b) && not (b == 13)

-- a byte of a word: no blank, and no end of a line
abbrev pub is_letter : ℕ → Bool
is_letter b = not (is_blank b) && is_inner b

pub record IsWord (word : List ℕ) : Type 0 where
  pub some : is_some word ≡ true
  pub letters : list_all is_letter word ≡ true

abbrev pub AreWords : List (List ℕ) → Type 0
AreWords [] = Unit {0}
AreWords (w ∷ ws) = IsWord w × AreWords ws

-- what passes a test fails the other, element by element
fails_all : (p q : ℕ → Bool) → ((b : ℕ) → p b ≡ true → q b ≡ false) → (xs : List ℕ) → list_all p xs ≡ true → All (λ b. q b ≡ false) xs
fails_all p q apart [] all = All-nil (λ b. q b ≡ false)
fails_all p q apart (x ∷ xs) all = by_first (p x) refl all (fails_all p q apart xs) where
  by_first : (first : Bool) → p x ≡ first → (first && list_all p xs) ≡ true → (list_all p xs ≡ true → All (λ b. q b ≡ false) xs) → All (λ b. q b ≡ false) (x ∷ xs)
  by_first true is all later = All-cons (λ b. q b ≡ false) x xs (apart x is) (later all)
  by_first false is all later = absurd (cc all)

-- what passes a test passes a weaker one
passes_weaker : (p q : ℕ → Bool) → ((b : ℕ) → p b ≡ true → q b ≡ true) → (xs : List ℕ) → list_all p xs ≡ true → list_all q xs ≡ true
passes_weaker p q weaker [] all = refl
passes_weaker p q weaker (x ∷ xs) all = by_first (p x) refl all (passes_weaker p q weaker xs) where
  by_first : (first : Bool) → p x ≡ first → (first && list_all p xs) ≡ true → (list_all p xs ≡ true → list_all q xs ≡ true) → (q x && list_all q xs) ≡ true
  by_first true is all later = and_from (q x) (list_all q xs) (weaker x is) (later all)
  by_first false is all later = absurd (cc all)

no_blank : (w : List ℕ) → IsWord w → All (λ b. is_blank b ≡ false) w
no_blank w word =
    fails_all is_letter is_blank (λ b letter. not-true (is_blank b) (and_parts (not (is_blank b)) (is_inner b) letter).0) w word.letters

all_inner : (w : List ℕ) → IsWord w → list_all is_inner w ≡ true
all_inner w word =
    passes_weaker is_letter is_inner (λ b letter. (and_parts (not (is_blank b)) (is_inner b) letter).1) w word.letters

pub words_of-spaced : (words : List (List ℕ)) → AreWords words → words_of (spaced_words words) ≡ words
unfolding words_of
words_of-spaced [] are = refl
words_of-spaced (w ∷ []) are =
    ap (filter is_some) (slice_split_none is_blank w (no_blank w are.0)) ∙ rw are.0.some refl
words_of-spaced (w ∷ v ∷ vs) are =
    ap (filter is_some) (slice_split_at is_blank w 32 (spaced_words (v ∷ vs)) (no_blank w are.0) refl) ∙ rw are.0.some (ap (λ ws. w ∷ ws) (words_of-spaced (v ∷ vs) are.1))

inner_spaced : (words : List (List ℕ)) → AreWords words → list_all is_inner (spaced_words words) ≡ true
inner_spaced [] are = refl
inner_spaced (w ∷ []) are = all_inner w are.0
inner_spaced (w ∷ v ∷ vs) are =
    list_all-append is_inner w (32 ∷ spaced_words (v ∷ vs)) ∙ and_from _ _ (all_inner w are.0) (inner_spaced (v ∷ vs) are.1)

pub line-spaced : (words : List (List ℕ)) → line words ≡ spaced_words words ++ 10 ∷ []
line-spaced [] = refl
line-spaced (w ∷ []) = refl
line-spaced (w ∷ v ∷ vs) = ap (λ l. w ++ 32 ∷ l) (line-spaced (v ∷ vs)) ∙ sym (append_assoc w (32 ∷ spaced_words (v ∷ vs)) (10 ∷ []))

no_return : (text : List ℕ) (k : ℕ) → list_all is_inner text ≡ true → (get_or text k 0 == 13) ≡ false
no_return [] k inner = refl
no_return (b ∷ bs) zero inner = not-true (b == 13) (and_parts (not (is_line_feed b)) (not (b == 13)) (and_parts (is_inner b) (list_all is_inner bs) inner).0).1
no_return (b ∷ bs) (suc k) inner = no_return bs k (and_parts (is_inner b) (list_all is_inner bs) inner).1

without_return-inner : (text : List ℕ) → list_all is_inner text ≡ true → without_return text ≡ text
without_return-inner text inner = rw (no_return text (length text - 1) inner) refl

-- a written line is one line
pub lines_of-line : (words : List (List ℕ)) (rest : List ℕ) → AreWords words → lines_of (line words ++ rest) ≡ spaced_words words ∷ lines_of rest
unfolding lines_of
lines_of-line words rest are =
    let inner = inner_spaced words are in
    let feed = fails_all is_inner is_line_feed (λ b letter. not-true (is_line_feed b) (and_parts (not (is_line_feed b)) (not (b == 13)) letter).0) (spaced_words words) inner in
    ap (λ t. map without_return (slice_split is_line_feed t)) (ap (λ l. l ++ rest) (line-spaced words) ∙ append_assoc (spaced_words words) (10 ∷ []) rest)
    ∙ ap (map without_return) (slice_split_at is_line_feed (spaced_words words) 10 rest feed refl)
    ∙ ap (λ l. l ∷ map without_return (slice_split is_line_feed rest)) (without_return-inner (spaced_words words) inner)
