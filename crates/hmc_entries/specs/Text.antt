-- The text of a journal, as a list of lines.
use Rattle.std.specs.Prelude.{ℕ, List, [], ◌∷◌, ◌++◌}
use Rattle.hmc_entries.specs.declared.entry.Entry.{Entry}
use Rattle.hmc_entries.specs.Lines.{line_of}

-- the lines of the entries, the oldest first
unfoldable pub lines_of : List Entry → List (List ℕ)
lines_of [] = []
lines_of (entry ∷ past) = lines_of past ++ line_of entry ∷ []
