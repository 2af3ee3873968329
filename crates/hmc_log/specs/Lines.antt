-- The lines of a log, each as a report has it.
use Rattle.std.specs.Prelude.{◌≡◌, ℕ, ◌/◌, Bool, List, [], ◌∷◌, ◌++◌, Option, Some, None, if◌then◌else◌}
use Rattle.std.specs.List.{flat_map, slice_split}
use Rattle.std.specs.Str.{bytes_eq}
use Rattle.hmc_text.specs.Lines.{is_line_feed}
use Rattle.hmc_report.specs.Lines as report
use Rattle.hmc_entries.specs.declared.entry.Entry.{Entry}
use Rattle.hmc_entries.specs.Lines.{line_of}
use Rattle.hmc_log.specs.declared.end_lines.MemoryLine.{MemoryLine}
use Rattle.hmc_log.specs.declared.end_lines.RegisterLine.{RegisterLine}
use Rattle.hmc_log.specs.Log.{LogFields, EndFields}

-- the line of a block, by its address
abbrev pub memory_line : MemoryLine → List ℕ
memory_line block = report.memory_line block.cube (block.address / 16) block.bytes

abbrev pub register_line : RegisterLine → List ℕ
register_line register = report.register_line register.cube register.number register.value

-- the lines of the end
unfoldable pub end_text : EndFields → List ℕ
end_text ending = flat_map memory_line ending.memory ++ flat_map register_line ending.registers ++
    report.state_line ending.drained

abbrev pub ending_text : Option EndFields → List ℕ
ending_text None = []
ending_text (Some ending) = end_text ending

-- a log, printed
unfoldable pub log_text : LogFields → List ℕ
log_text log = flat_map line_of log.entries ++ ending_text log.ending

-- the text, with a line feed after it, is this line
abbrev pub is_line : (text line : List ℕ) → Bool
is_line text line = bytes_eq line (text ++ (10 ∷ []))

-- the line ends with a line feed
abbrev pub EndsWithFeed : List ℕ → Type 0
EndsWithFeed line = (front : List ℕ) × (line ≡ front ++ (10 ∷ []))

-- the entry, if the text is its line
abbrev pub written : (text : List ℕ) → Option Entry → Option Entry
written text None = None
written text (Some entry) = if is_line text (line_of entry) then Some entry else None

-- all lines but a last one that is empty: what comes after the last line feed
abbrev pub without_empty : List (List ℕ) → List (List ℕ)
without_empty [] = []
without_empty ([] ∷ []) = []
without_empty (line ∷ lines) = line ∷ without_empty lines

-- the lines of a text: each ends with a line feed, which may be missing at the end of the text
unfoldable pub lines_in : List ℕ → List (List ℕ)
lines_in text = without_empty (slice_split is_line_feed text)
