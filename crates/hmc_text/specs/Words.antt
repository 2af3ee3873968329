-- The words of a line.
use Rattle.std.specs.Prelude.{ℕ, Bool, true, false, ◌==◌, ◌||◌, List, [], ◌∷◌, filter, slice_index, Option, Some, None}
use Rattle.std.specs.List.{slice_split}

-- a space or a tab
abbrev pub is_blank : ℕ → Bool
is_blank b = b == 32 || b == 9

-- some bytes
abbrev pub is_some : List ℕ → Bool
is_some [] = false
is_some (b ∷ bs) = true

-- the parts between blanks, except empty ones
unfoldable pub words_of : List ℕ → List (List ℕ)
words_of line = filter is_some (slice_split is_blank line)

-- the first word and the words after it
abbrev pub first_word : List (List ℕ) → Option (List ℕ × List (List ℕ))
first_word [] = None
first_word (w ∷ ws) = Some (w, ws)

-- no word, or a comment, which begins with a `#` (35)
abbrev pub is_passed_over : List (List ℕ) → Bool
is_passed_over [] = true
is_passed_over (w ∷ ws) = slice_index w 0 == 35
