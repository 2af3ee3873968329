-- The lines of a text, one after another.
use Rattle.std.proofs.Common.{◌≡◌, ◌∙◌, ℕ, List, [], ◌∷◌, take, drop, map, refl, ap}
use Rattle.std.specs.List.{position_or_len}
use Rattle.hmc_text.proofs.PartsLemmas.{parts_after, slice_split-first}
use Rattle.hmc_text.specs.Lines.{is_line_feed, without_return, lines_of, lines_after}

lines_after_feed : (end : List ℕ) → map without_return (parts_after is_line_feed end) ≡ lines_after end
unfolding lines_of
lines_after_feed [] = refl
lines_after_feed (feed ∷ text) = refl

-- the first line and the lines after it
pub lines_of-first : (text line end : List ℕ) (n : ℕ) → n ≡ position_or_len is_line_feed text → line ≡ take n text → end ≡ drop n text → lines_of text ≡ without_return line ∷ lines_after end
unfolding lines_of
lines_of-first text line end n is_n is_line is_end =
    rw (is_line, is_end, is_n) (ap (map without_return) (slice_split-first is_line_feed text) ∙ ap (λ ls. without_return (take (position_or_len is_line_feed text) text) ∷ ls) (lines_after_feed (drop (position_or_len is_line_feed text) text)))
