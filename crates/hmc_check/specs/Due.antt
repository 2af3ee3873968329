-- The line that is due.
use Rattle.std.specs.Prelude.{◌≡◌, ℕ, zero, suc, List, slice_get, Option, None}
use Rattle.hmc_entries.specs.declared.entry.Entry.{Entry}
use Rattle.hmc_journal.specs.Lawful.{IsWhole}
use Rattle.hmc_journal.specs.Setup.{Setup}
use Rattle.hmc_journal.specs.Report.{report_lines}

-- one of the lines, by its number from 1
abbrev pub line_at : (line : ℕ) → List (List ℕ) → Option (List ℕ)
line_at zero lines = None
line_at (suc before) lines = slice_get lines before

-- this is the line with this number of the text of every whole lawful journal; none where the text
-- has no such line
abbrev pub IsDue : Setup → (line : ℕ) → Option (List ℕ) → Type 0
IsDue setup line found = (journal : List Entry) → IsWhole setup journal →
    found ≡ line_at line (report_lines setup journal)
