-- The lines of a text.
use Rattle.std.specs.Prelude.{ℕ, ◌-◌, Bool, ◌==◌, List, [], ◌∷◌, length, take, map, slice_index, Option, Some, None, if◌then◌else◌}
use Rattle.std.specs.Borrow.{Bor}
use Rattle.std.specs.List.{slice_split}

-- the byte that ends a line
abbrev pub is_line_feed : ℕ → Bool
is_line_feed b = b == 10

-- the line, except one carriage return (13) at its end
abbrev pub without_return : List ℕ → List ℕ
without_return line =
    if slice_index line (length line - 1) == 13 then take (length line - 1) line else line

-- the parts between line feeds
unfoldable pub lines_of : List ℕ → List (List ℕ)
lines_of text = map without_return (slice_split is_line_feed text)

-- the lines after a line feed, if there is one
abbrev pub lines_left : Option (Bor (List ℕ)) → List (List ℕ)
lines_left None = []
lines_left (Some text) = lines_of text.now

-- the lines after the line feed that a text begins with; none where it is empty
abbrev pub lines_after : List ℕ → List (List ℕ)
lines_after [] = []
lines_after (feed ∷ text) = lines_of text
