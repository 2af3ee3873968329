-- The lines of a text, one after another.
use Rattle.std.proofs.Common.{◌≡◌, ◌∙◌, ◌<◌, ℕ, false, List, [], ◌∷◌, length, refl, sym, ap, arith}
use Rattle.std.specs.List.{slice_split, position_or_len, before_first, after_first, All}
use Rattle.std.proofs.lemmas.List.Splits.{slice_split_first, slice_split_none, length-slice_split}
use Rattle.hmc_text.specs.Lines.{is_line_feed}
use Rattle.hmc_log.specs.Lines.{without_empty, lines_in}

pub no_lines : lines_in [] ≡ []
unfolding lines_in
no_lines = refl

without_empty-cons : (line : List ℕ) (lines : List (List ℕ)) → 0 < length lines →
    without_empty (line ∷ lines) ≡ line ∷ without_empty lines
without_empty-cons [] [] some = absurd (omega (arith, some))
without_empty-cons [] (line ∷ lines) some = refl
without_empty-cons (b ∷ bs) lines some = refl

-- a line that ends with a line feed, and the lines after it
pub line_and_rest : (text front rest : List ℕ) →
    position_or_len is_line_feed text < length text → front ≡ before_first is_line_feed text →
    rest ≡ after_first is_line_feed text → lines_in text ≡ front ∷ lines_in rest
unfolding lines_in
line_and_rest text front rest inside front_is rest_is =
    let after = after_first is_line_feed text in
    ap without_empty (slice_split_first is_line_feed text 0 inside)
    ∙ without_empty-cons (before_first is_line_feed text) (slice_split is_line_feed after)
    (omega (arith, length-slice_split is_line_feed after))
    ∙ ap (λ l. l ∷ lines_in after) (sym front_is) ∙ ap (λ l. front ∷ lines_in l) (sym rest_is)

-- the last line, without a line feed
pub last_line : (text : List ℕ) → 0 < length text → All (λ b. is_line_feed b ≡ false) text →
    lines_in text ≡ text ∷ lines_in []
unfolding lines_in
last_line [] some none = absurd (omega (arith, some))
last_line (b ∷ bs) some none = ap without_empty (slice_split_none is_line_feed (b ∷ bs) none)
