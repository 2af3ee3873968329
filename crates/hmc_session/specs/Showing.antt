-- The latest entry of a journal, and its line.
use Rattle.std.specs.Prelude.{ℕ, List, [], ◌∷◌, Option, Some, None}
use Rattle.hmc_entries.specs.Lines.{line_of}
use Rattle.hmc_entries.specs.declared.entry.Entry.{Entry}

-- none of an empty one
abbrev pub latest : List Entry → Option Entry
latest [] = None
latest (entry ∷ past) = Some entry

abbrev pub latest_line : List Entry → List ℕ
latest_line [] = []
latest_line (entry ∷ past) = line_of entry
