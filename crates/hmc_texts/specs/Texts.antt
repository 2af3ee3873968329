-- What the lines of a report are, and what its bytes show.
use Rattle.std.specs.Prelude.{◌≡◌, ◌≢◌, ℕ, Bool, true, false, ◌==◌, if◌then◌else◌, List, [], ◌∷◌, All, Option}
use Rattle.hmc_units.specs.Unit.{UnitFields}
use Rattle.hmc_report.specs.Final.{FinalValues, final_lines}
use Rattle.hmc_case.specs.Case.{CaseFields, IsCase}
use Rattle.hmc_entries.specs.declared.entry.Entry.{Entry}
use Rattle.hmc_entries.specs.Lines.{line_of}
use Rattle.hmc_entries.specs.Parse.{IsStep, FitsTypes}
use Rattle.hmc_journal.specs.Lawful.{Lawful, journal_of}
use Rattle.hmc_journal.specs.Network.{IsNetwork}
use Rattle.hmc_journal.specs.Report.{report_lines, report_text}
use Rattle.hmc_journal.specs.Setup.{Setup, setup_of}

-- no byte follows
abbrev pub is_end : List ℕ → Bool
is_end [] = true
is_end (byte ∷ bytes) = false

-- a line: it has a line feed, the byte 10, and the first one is its last byte
unfoldable pub is_line : List ℕ → Bool
is_line [] = false
is_line (byte ∷ bytes) = if byte == 10 then is_end bytes else is_line bytes

-- each of them is a line
abbrev pub AreLines : List (List ℕ) → Type 0
AreLines lines = All (λ line. is_line line ≡ true) lines

-- the text of each entry is a line
abbrev pub EntryIsLine : Type 0
EntryIsLine = (entry : Entry) → is_line (line_of entry) ≡ true

-- the text of each report is lines, one after another
abbrev pub ReportIsLines : Type 0
ReportIsLines = (setup : Setup) (journal : List Entry) → AreLines (report_lines setup journal)

-- equal texts of reports have equal lines
abbrev pub ReportIsCut : Type 0
ReportIsCut = (setup other : Setup) (journal another : List Entry) →
    report_text setup journal ≡ report_text other another →
    report_lines setup journal ≡ report_lines other another

-- the line of an entry is none of the final lines, whatever a run leaves
abbrev pub EntryIsNotFinal : Type 0
EntryIsNotFinal = (entry : Entry) (values : FinalValues) →
    All (λ line. line ≢ line_of entry) (final_lines values)

-- the numbers of a case's steps fit their types
abbrev pub CaseStepsFit : Type 0
CaseStepsFit = (case : CaseFields) → IsCase case → All IsStep case.schedule

-- a lawful journal of a network, whose steps fit their types
pub record IsTypedJournal (setup : Setup) (journal : List Entry) : Type 0 where
  pub network : IsNetwork setup
  pub steps : All IsStep setup.schedule
  pub lawful : Lawful setup journal

-- the numbers, flits, requests and answers of its entries fit their types too
abbrev pub EntriesFit : Type 0
EntriesFit = (setup : Setup) (journal : List Entry) → IsTypedJournal setup journal →
    All FitsTypes journal

-- equal reports are of equal journals, whatever their cases
abbrev pub ReportTells : Type 0
ReportTells = (setup other : Setup) (journal another : List Entry) →
    IsTypedJournal setup journal → IsTypedJournal other another →
    report_text setup journal ≡ report_text other another → journal ≡ another

-- the report of a case that is run to its end
abbrev pub whole_report : CaseFields → List (Option UnitFields) → List ℕ
whole_report case slots = report_text (setup_of case slots) (journal_of (setup_of case slots))

-- two cases with equal reports have one journal
abbrev pub CasesTell : Type 0
CasesTell = (case other : CaseFields) (slots others : List (Option UnitFields)) →
    IsCase case → IsCase other → whole_report case slots ≡ whole_report other others →
    journal_of (setup_of case slots) ≡ journal_of (setup_of other others)
