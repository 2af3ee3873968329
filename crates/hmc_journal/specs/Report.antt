-- The text of a report: the lines of a journal, and the final lines.
use Rattle.std.specs.Prelude.{ℕ, Bool, true, false, List, [], ◌++◌}
use Rattle.std.specs.List.{concat}
use Rattle.hmc_entries.specs.Text.{lines_of}
use Rattle.hmc_entries.specs.declared.entry.Entry.{Entry}
use Rattle.hmc_journal.specs.Final.{final_lines_of}
use Rattle.hmc_journal.specs.Lawful.{has_passed}
use Rattle.hmc_journal.specs.Setup.{Setup}

-- lines, or none after a landing that passed
abbrev pub lines_unless : (passed : Bool) → List (List ℕ) → List (List ℕ)
lines_unless true lines = []
lines_unless false lines = lines

-- the lines of the entries, and the final lines, which are not there where the last entry is a
-- landing that passed
unfoldable pub report_lines : Setup → List Entry → List (List ℕ)
report_lines setup journal =
    lines_of journal ++ lines_unless (has_passed journal) (final_lines_of setup journal)

-- the same as one text
unfoldable pub report_text : Setup → List Entry → List ℕ
report_text setup journal = concat (report_lines setup journal)
