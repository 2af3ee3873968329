-- The lines that are written for a case and its logic units.
use Rattle.std.specs.Prelude.{ℕ, if◌then◌else◌, Bool, true, false, List, [], ◌∷◌}
use Rattle.std.specs.List.{list_any}
use Rattle.hmc_entries.specs.declared.entry.Entry.{Entry}
use Rattle.hmc_entries.specs.Event.{is_passed}
use Rattle.hmc_journal.specs.Final.{values_of, final_lines_of}
use Rattle.hmc_journal.specs.Lawful.{journal_of}
use Rattle.hmc_journal.specs.Report.{report_lines}
use Rattle.hmc_entries.specs.Lines.{line_of}
use Rattle.hmc_journal.specs.Setup.{Setup}
use Rattle.hmc_report.specs.Final.{ending_lines}
use Rattle.hmc_replay.specs.BoundLines.{bound_lines}
use Rattle.hmc_replay.specs.declared.extent.Extent.{Extent}
use Rattle.hmc_replay.specs.declared.extent.Extent.TheVariants.{Whole, Short, Bound}

-- some step is a landing that passes
abbrev pub passes : Setup → Bool
passes setup = list_any is_passed (journal_of setup)

-- the whole report: that of the one whole journal
unfoldable pub report_of : Setup → List (List ℕ)
report_of setup = report_lines setup (journal_of setup)

-- the line of the last entry, if there is one
abbrev pub last_line : List Entry → List (List ℕ)
last_line [] = []
last_line (entry ∷ past) = line_of entry ∷ []

-- what follows the lines of the steps, where no landing passed
abbrev pub ending_of : Extent → Setup → List Entry → List (List ℕ)
ending_of Whole setup journal = final_lines_of setup journal
ending_of Short setup journal = ending_lines (values_of setup journal)
ending_of Bound setup journal = bound_lines setup.topology journal

-- that alone; where a landing passed, its line alone
abbrev pub end_lines : (passed : Bool) → Extent → Setup → List Entry → List (List ℕ)
end_lines true extent setup journal = last_line journal
end_lines false extent setup journal = ending_of extent setup journal

unfoldable pub end_of : Extent → Setup → List (List ℕ)
end_of extent setup = end_lines (passes setup) extent setup (journal_of setup)

-- the short report: the final lines from those of tokens on
abbrev pub short_report_of : Setup → List (List ℕ)
short_report_of setup = end_of Short setup

-- what is under way at the end, and its bound
abbrev pub bound_report_of : Setup → List (List ℕ)
bound_report_of setup = end_of Bound setup

-- one of these
abbrev pub lines_in : Extent → Setup → List (List ℕ)
lines_in Whole setup = report_of setup
lines_in Short setup = short_report_of setup
lines_in Bound setup = bound_report_of setup

-- the status with which each ends
abbrev pub report_status : Setup → ℕ
report_status setup = if passes setup then 7 else 0
