-- The bytes of a report show its lines, and these its journal: the lines of the entries come before
-- the final lines, and none is one.
use Rattle.std.proofs.Common.{◌≡◌, ◌∙◌, ℕ, Bool, true, false, Option, List, [], ◌∷◌, ◌++◌, refl, sym, ap, subst}
use Rattle.std.specs.List.{All, concat}
use Rattle.std.proofs.lemmas.List.Elements.{All-nil, All-cons, All-append, All-head, All-tail}
use Rattle.hmc_units.specs.Unit.{UnitFields}
use Rattle.hmc_case.specs.Case.{CaseFields, IsCase}
use Rattle.hmc_entries.specs.declared.entry.Entry.{Entry}
use Rattle.hmc_entries.specs.Lines.{line_of}
use Rattle.hmc_entries.specs.Parse.{IsPrintable}
use Rattle.hmc_entries.specs.Text.{lines_of}
use Rattle.hmc_entries.proofs.ParseTells.{lines_tell_journal}
use Rattle.hmc_journal.specs.Final.{values_of, final_lines_of}
use Rattle.hmc_journal.specs.Lawful.{has_passed, journal_of}
use Rattle.hmc_journal.specs.Report.{lines_unless, report_lines, report_text}
use Rattle.hmc_journal.specs.Setup.{Setup, setup_of}
use Rattle.hmc_journal.proofs.Networks.{network_of}
use Rattle.hmc_journal.proofs.Whole.{journal_is_whole}
use Rattle.hmc_laws.proofs.ParseShown.{lawful_shown}
use Rattle.hmc_texts.specs.Texts.{is_line, ReportIsLines, ReportIsCut, IsTypedJournal, ReportTells, CasesTell}
use Rattle.hmc_texts.proofs.Lines.{cut}
use Rattle.hmc_texts.proofs.EntryLines.{entry_line}
use Rattle.hmc_texts.proofs.FinalLines.{final_are_lines}
use Rattle.hmc_texts.proofs.Apart.{begins_final, entry_begins, final_begin}
use Rattle.hmc_texts.proofs.Fitting.{entries_fit}
use Rattle.hmc_texts.proofs.CaseSteps.{case_steps_fit}

-- ---- the lines of a report

all_entries : (P : List ℕ → Type 0) (journal : List Entry) →
    ((entry : Entry) → P (line_of entry)) → All P (lines_of journal)
unfolding lines_of
all_entries P [] each = All-nil P
all_entries P (entry ∷ past) each =
    All-append P (lines_of past) (line_of entry ∷ []) (all_entries P past each)
    (All-cons P (line_of entry) [] (each entry) (All-nil P))

all_unless : (P : List ℕ → Type 0) (passed : Bool) (lines : List (List ℕ)) → All P lines →
    All P (lines_unless passed lines)
all_unless P true lines all = All-nil P
all_unless P false lines all = all

pub report_is_lines : ReportIsLines
unfolding report_lines final_lines_of
report_is_lines setup journal =
    let P = λ (line : List ℕ). is_line line ≡ true in
    All-append P (lines_of journal) _ (all_entries P journal entry_line)
    (all_unless P (has_passed journal) (final_lines_of setup journal)
    (final_are_lines (values_of setup journal)))

pub report_is_cut : ReportIsCut
unfolding report_text
report_is_cut setup other journal another same =
    cut (report_lines setup journal) (report_lines other another)
    (report_is_lines setup journal) (report_is_lines other another) same

-- ---- where the final lines begin

first_same : (x y : List ℕ) (xs ys : List (List ℕ)) → x ∷ xs ≡ y ∷ ys → x ≡ y
first_same x y xs ys same = cc

rest_same : (x y : List ℕ) (xs ys : List (List ℕ)) → x ∷ xs ≡ y ∷ ys → xs ≡ ys
rest_same x y xs ys same = cc

-- the lines of entries, and those after them
abbrev AreEntryLines : List (List ℕ) → Type 0
AreEntryLines lines = All (λ line. begins_final line ≡ false) lines

abbrev AreFinalLines : List (List ℕ) → Type 0
AreFinalLines lines = All (λ line. begins_final line ≡ true) lines

not_both : (line : List ℕ) → begins_final line ≡ false → begins_final line ≡ true → ⊥
not_both line entry final = let clash : false ≡ true = sym entry ∙ final in cc

none_first : (line : List ℕ) (rest final : List (List ℕ)) → line ∷ rest ≡ final →
    begins_final line ≡ false → AreFinalLines final → ⊥
none_first line rest final same entry all =
    not_both line entry (All-head (λ (l : List ℕ). begins_final l ≡ true) line rest
    (subst AreFinalLines (sym same) all))

same_entries : (lines others final finals : List (List ℕ)) → AreEntryLines lines →
    AreEntryLines others → AreFinalLines final → AreFinalLines finals →
    lines ++ final ≡ others ++ finals → lines ≡ others
same_entries [] [] final finals are is all each same = refl
same_entries [] (o ∷ os) final finals are is all each same =
    absurd (none_first o (os ++ finals) final (sym same)
    (All-head (λ (l : List ℕ). begins_final l ≡ false) o os is) all)
same_entries (l ∷ ls) [] final finals are is all each same =
    absurd (none_first l (ls ++ final) finals same
    (All-head (λ (l : List ℕ). begins_final l ≡ false) l ls are) each)
same_entries (l ∷ ls) (o ∷ os) final finals are is all each same =
    let P = λ (line : List ℕ). begins_final line ≡ false in
    let first : l ≡ o = first_same l o _ _ same in
    let later : ls ≡ os = same_entries ls os final finals (All-tail P l ls are)
    (All-tail P o os is) all each (rest_same l o _ _ same) in
    cc (first, later)

final_after : (setup : Setup) (journal : List Entry) →
    AreFinalLines (lines_unless (has_passed journal) (final_lines_of setup journal))
unfolding final_lines_of
final_after setup journal =
    all_unless (λ line. begins_final line ≡ true) (has_passed journal)
    (final_lines_of setup journal) (final_begin (values_of setup journal))

entry_lines_same : (setup other : Setup) (journal another : List Entry) →
    report_lines setup journal ≡ report_lines other another → lines_of journal ≡ lines_of another
unfolding report_lines
entry_lines_same setup other journal another same =
    same_entries (lines_of journal) (lines_of another)
    (lines_unless (has_passed journal) (final_lines_of setup journal))
    (lines_unless (has_passed another) (final_lines_of other another))
    (all_entries (λ line. begins_final line ≡ false) journal entry_begins)
    (all_entries (λ line. begins_final line ≡ false) another entry_begins)
    (final_after setup journal) (final_after other another) same

printable : (setup : Setup) (journal : List Entry) → IsTypedJournal setup journal →
    All IsPrintable journal
printable setup journal is =
    let fits = entries_fit setup journal is in
    let shown = lawful_shown setup journal is.network is.lawful in
    λ k d within. record { fits = fits k d within; shown = shown k d within }

pub report_tells : ReportTells
report_tells setup other journal another is are same =
    lines_tell_journal journal another (printable setup journal is)
    (printable other another are)
    (ap concat (entry_lines_same setup other journal another
    (report_is_cut setup other journal another same)))

-- ---- cases

case_journal : (case : CaseFields) (slots : List (Option UnitFields)) → IsCase case →
    IsTypedJournal (setup_of case slots) (journal_of (setup_of case slots))
case_journal case slots is = record {
  network = network_of case slots is;
  steps = case_steps_fit case is;
  lawful = (journal_is_whole (setup_of case slots)).lawful;
}

pub cases_tell : CasesTell
cases_tell case other slots others is are same =
    report_tells (setup_of case slots) (setup_of other others) (journal_of (setup_of case slots))
    (journal_of (setup_of other others)) (case_journal case slots is)
    (case_journal other others are) same
