-- The words of a line, one after another.
use Rattle.std.proofs.Common.{◌≡◌, ◌∙◌, ℕ, ◌==◌, Bool, true, false, List, [], ◌∷◌, length, take, drop, filter, refl, sym, ap, arith, Some, None, eqb-true}
use Rattle.std.specs.List.{prefix_len, position_or_len}
use Rattle.hmc_text.proofs.PartsLemmas.{prefix_len-yes, prefix_len-no, position-yes, position-no, parts_after, slice_split-first}
use Rattle.hmc_text.specs.Words.{is_blank, is_some, words_of, first_word}

-- a blank in front of the line is passed over
pub words_of-blank : (b : ℕ) (bs : List ℕ) → is_blank b ≡ true → words_of (b ∷ bs) ≡ words_of bs
unfolding words_of
words_of-blank b bs blank = rw blank refl

-- so are all blanks in front of it
pub words_of-blanks : (line : List ℕ) → words_of line ≡ words_of (drop (prefix_len is_blank line) line)
words_of-blanks [] = refl
words_of-blanks (b ∷ bs) = by_first (is_blank b) refl (words_of-blanks bs) where
  by_first : (first : Bool) → is_blank b ≡ first → words_of bs ≡ words_of (drop (prefix_len is_blank bs) bs) → words_of (b ∷ bs) ≡ words_of (drop (prefix_len is_blank (b ∷ bs)) (b ∷ bs))
  by_first true blank later =
      words_of-blank b bs blank ∙ later ∙ ap (λ n. words_of (drop n (b ∷ bs))) (sym (prefix_len-yes is_blank b bs blank))
  by_first false letter later = ap (λ n. words_of (drop n (b ∷ bs))) (sym (prefix_len-no is_blank b bs letter))

-- the line after its first blank has the same words as the line from that blank on
pub words_after : (line : List ℕ) → filter is_some (parts_after is_blank (drop (position_or_len is_blank line) line)) ≡ words_of (drop (position_or_len is_blank line) line)
unfolding words_of
words_after [] = refl
words_after (b ∷ bs) = by_first (is_blank b) refl (words_after bs) where
  by_first : (first : Bool) → is_blank b ≡ first → filter is_some (parts_after is_blank (drop (position_or_len is_blank bs) bs)) ≡ words_of (drop (position_or_len is_blank bs) bs) → filter is_some (parts_after is_blank (drop (position_or_len is_blank (b ∷ bs)) (b ∷ bs))) ≡ words_of (drop (position_or_len is_blank (b ∷ bs)) (b ∷ bs))
  by_first true blank later = rw (position-yes is_blank b bs blank) (sym (words_of-blank b bs blank))
  by_first false letter later = rw (position-no is_blank b bs letter) later

-- a line that doesn't begin with a blank begins with a word
pub words_of-letter : (b : ℕ) (bs : List ℕ) → is_blank b ≡ false → words_of (b ∷ bs) ≡ take (position_or_len is_blank (b ∷ bs)) (b ∷ bs) ∷ words_of (drop (position_or_len is_blank (b ∷ bs)) (b ∷ bs))
unfolding words_of
words_of-letter b bs letter =
    let n = position_or_len is_blank (b ∷ bs) in
    let some : is_some (take n (b ∷ bs)) ≡ true = ap (λ k. is_some (take k (b ∷ bs))) (position-no is_blank b bs letter) in
    let kept : filter is_some (take n (b ∷ bs) ∷ parts_after is_blank (drop n (b ∷ bs))) ≡ take n (b ∷ bs) ∷ filter is_some (parts_after is_blank (drop n (b ∷ bs))) = rw some refl in
    ap (filter is_some) (slice_split-first is_blank (b ∷ bs)) ∙ kept ∙ ap (λ ws. take n (b ∷ bs) ∷ ws) (words_after (b ∷ bs))

-- the rest after the blanks doesn't begin with one
pub begins_with_letter : (line : List ℕ) (b : ℕ) (bs : List ℕ) → drop (prefix_len is_blank line) line ≡ b ∷ bs → is_blank b ≡ false
begins_with_letter [] b bs is = cc
begins_with_letter (x ∷ xs) b bs is = by_first (is_blank x) refl (begins_with_letter xs b bs) where
  by_first : (first : Bool) → is_blank x ≡ first → (drop (prefix_len is_blank xs) xs ≡ b ∷ bs → is_blank b ≡ false) → is_blank b ≡ false
  by_first true blank later =
      later (ap (λ n. drop n (x ∷ xs)) (sym (prefix_len-yes is_blank x xs blank)) ∙ is)
  by_first false letter later =
      let same : x ∷ xs ≡ b ∷ bs = ap (λ n. drop n (x ∷ xs)) (sym (prefix_len-no is_blank x xs letter)) ∙ is in
      let head : x ≡ b = cc in
      sym (ap is_blank head) ∙ letter

-- a line of blanks has no word
pub no_word_left : (line rest : List ℕ) → rest ≡ drop (prefix_len is_blank line) line → (length rest == 0) ≡ true → None ≡ first_word (words_of line)
unfolding words_of
no_word_left line [] is none = sym (ap first_word (words_of-blanks line ∙ ap words_of (sym is)))
no_word_left line (b ∷ bs) is none = absurd (omega (arith, eqb-true (length (b ∷ bs)) 0 none))

-- the first word of a line, and those of the rest
pub one_word : (line rest : List ℕ) → rest ≡ drop (prefix_len is_blank line) line → (length rest == 0) ≡ false → Some (take (position_or_len is_blank rest) rest, words_of (drop (position_or_len is_blank rest) rest)) ≡ first_word (words_of line)
one_word line [] is some = absurd (cc)
one_word line (b ∷ bs) is some =
    sym (ap first_word (words_of-blanks line ∙ ap words_of (sym is) ∙ words_of-letter b bs (begins_with_letter line b bs (sym is))))
