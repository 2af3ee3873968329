-- What each status of `replay` means, form by form, in the words of a reader who has a status in
-- hand. All of it follows from the one contract of all forms: a row a meaning.
use Rattle.std.proofs.Common.{inl, inr, ◌≡◌, ◌≤◌, ◌<◌, ◌⊎◌, ◌∙◌, ℕ, suc, Bool, true, false, List, [], ◌∷◌, ◌++◌, length, Option, None, Some, IfSome, Result, Ok, Err, if◌then◌else◌, refl, sym, ap, subst, arith, ⊎_elim}
use Rattle.std.specs.Io.KnownBytes.{IsAtEnd}
use Rattle.hmc_codes.specs.Limits.{most_input}
use Rattle.hmc_case.specs.Case.{CaseFields, case_of}
use Rattle.hmc_case.specs.Line.{bad_line}
use Rattle.hmc_case.specs.Reading.{Fault}
use Rattle.hmc_entries.specs.declared.entry.Entry.{Entry}
use Rattle.hmc_entries.specs.declared.entry.Entry.TheVariants.{Passed}
use Rattle.hmc_entries.specs.Lines.{line_of}
use Rattle.hmc_entries.specs.Text.{lines_of}
use Rattle.hmc_journal.specs.Final.{values_of}
use Rattle.hmc_journal.specs.Guarantees.{Guarantees}
use Rattle.hmc_journal.specs.Lawful.{journal_of}
use Rattle.hmc_journal.specs.Setup.{Setup, setup_of}
use Rattle.hmc_outside.specs.Finish.{HandsOn, FailsToHandOn}
use Rattle.hmc_outside.specs.Lines.{WritesLines}
use Rattle.hmc_outside.specs.Raised.{raised}
use Rattle.hmc_outside.specs.Reading.{Stops}
use Rattle.hmc_outside.specs.Views.{SourceView, SinkView}
use Rattle.hmc_outside.proofs.LinesLemmas.{WritesLines-none}
use Rattle.hmc_report.specs.Final.{ending_lines}
use Rattle.hmc_units.specs.Unit.{UnitFields}
use Rattle.hmc_replay.specs.Answer.{IsAnswer}
use Rattle.hmc_replay.specs.BoundAnswer.{IsCaseBounded}
use Rattle.hmc_replay.specs.CheckAnswer.{IsJudged, IsOfParts}
use Rattle.hmc_replay.specs.CheckInput.{CheckInput}
use Rattle.hmc_replay.specs.MakeAnswer.{made_setup}
use Rattle.hmc_replay.specs.Report.{passes, report_of, short_report_of, end_lines, end_of, last_line, report_status}
use Rattle.hmc_replay.specs.declared.extent.Extent.TheVariants.{Short}
use Rattle.hmc_replay.specs.Reported.{IsReport}
use Rattle.hmc_replay.specs.RunAnswer.{IsRunAnswer, IsReported, IsRefused}
use Rattle.hmc_replay.specs.Top.{OneOf, NoneOf, IsRead, ReadsNothing, Writes, Replays, Replayed}
use Rattle.hmc_replay.specs.Words.{form_of}
use Rattle.hmc_replay.specs.declared.form.Form.{Form}
use Rattle.hmc_replay.specs.declared.form.Form.TheVariants.{Run, Make, Check, Bound, Trace}
use Rattle.hmc_replay.proofs.Complete.{one_or_none, complete, excess, made_complete}
use Rattle.hmc_replay.proofs.OneAnswer.{by_passes}
use Rattle.hmc_replay.proofs.Reports.{report_passed}

-- ---- numbers

none_of : (ms : List ℕ) (status known : ℕ) → status ≡ known → NoneOf ms known → NoneOf ms status
none_of ms status known is none = subst (NoneOf ms) (sym is) none

-- the status of an answer isn't the status of a cause
not_0 : NoneOf (1 ∷ 3 ∷ 4 ∷ 5 ∷ []) 0
not_0 one = grind (arith, one)

not_6 : NoneOf (1 ∷ 3 ∷ 4 ∷ 5 ∷ []) 6
not_6 one = grind (arith, one)

not_7 : NoneOf (1 ∷ 3 ∷ 4 ∷ 5 ∷ []) 7
not_7 one = grind (arith, one)

among : (n : ℕ) → OneOf (1 ∷ 3 ∷ 5 ∷ []) n → OneOf (1 ∷ 3 ∷ 4 ∷ 5 ∷ []) n
among n (inl is) = inl is
among n (inr (inl is)) = inr (inl is)
among n (inr (inr (inl is))) = inr (inr (inr (inl is)))
among n (inr (inr (inr none))) = absurd none

by_answer : (status : ℕ) → OneOf (0 ∷ 6 ∷ 7 ∷ []) status → NoneOf (1 ∷ 3 ∷ 4 ∷ 5 ∷ []) status
by_answer status (inl is) = none_of (1 ∷ 3 ∷ 4 ∷ 5 ∷ []) status 0 is not_0
by_answer status (inr (inl is)) = none_of (1 ∷ 3 ∷ 4 ∷ 5 ∷ []) status 6 is not_6
by_answer status (inr (inr (inl is))) = none_of (1 ∷ 3 ∷ 4 ∷ 5 ∷ []) status 7 is not_7
by_answer status (inr (inr (inr none))) = absurd none

-- ---- what is due

passes_by : (setup : Setup) (known : ℕ) (passed : Bool) → passes setup ≡ passed → report_status setup ≡ known → (if passed then 7 else 0) ≡ known
passes_by setup known passed is status = sym (by_passes setup (report_status setup) refl passed is) ∙ status

no_pass : (setup : Setup) (passed : Bool) → passes setup ≡ passed → report_status setup ≡ 0 → passes setup ≡ false
no_pass setup true is zero = let off : ◌≡◌ {A = ℕ} 7 0 = passes_by setup 0 true is zero in absurd (omega (arith, off))
no_pass setup false is zero = is

one_pass : (setup : Setup) (passed : Bool) → passes setup ≡ passed → report_status setup ≡ 7 → passes setup ≡ true
one_pass setup true is seven = is
one_pass setup false is seven = let off : ◌≡◌ {A = ℕ} 0 7 = passes_by setup 7 false is seven in absurd (omega (arith, off))

few_status : (setup : Setup) (passed : Bool) → passes setup ≡ passed → report_status setup ≤ 8
few_status setup true is = let seven = by_passes setup (report_status setup) refl true is in omega (arith, seven)
few_status setup false is = let zero = by_passes setup (report_status setup) refl false is in omega (arith, zero)

not_both : (setup : Setup) (passed : Bool) → passes setup ≡ passed → report_status setup ≡ 6 → ⊥
not_both setup true is six = let off : ◌≡◌ {A = ℕ} 7 6 = passes_by setup 6 true is six in omega (arith, off)
not_both setup false is six = let off : ◌≡◌ {A = ℕ} 0 6 = passes_by setup 6 false is six in omega (arith, off)

last_is : (entry : Entry) (before : List Entry) → lines_of (entry ∷ before) ≡ lines_of before ++ line_of entry ∷ []
unfolding lines_of
last_is entry before = refl

short_by : (setup : Setup) (passed : Bool) → passes setup ≡ passed → short_report_of setup ≡ end_lines passed Short setup (journal_of setup)
unfolding end_of
short_by setup passed is = ap (λ (p : Bool). end_lines p Short setup (journal_of setup)) is

-- ---- run

-- a case of which no landing passes, and its report was written
record IsReportOf (slots : List (Option UnitFields)) (input : List ℕ) (sink sink' : SinkView) : Type 0 where
  case : CaseFields
  is_case : case_of input ≡ Ok case
  no_pass : passes (setup_of case slots) ≡ false
  written : HandsOn sink sink' (report_of (setup_of case slots))
  guarantees : Guarantees (setup_of case slots) (journal_of (setup_of case slots))

-- a case whose last entry is a landing that passed, and the lines of the entries alone were written
record IsPassedReportOf (slots : List (Option UnitFields)) (input : List ℕ) (sink sink' : SinkView) : Type 0 where
  case : CaseFields
  is_case : case_of input ≡ Ok case
  direction : ℕ
  flit : List ℕ
  before : List Entry
  last : journal_of (setup_of case slots) ≡ Passed direction flit ∷ before
  written : HandsOn sink sink' (lines_of before ++ line_of (Passed direction flit) ∷ [])
  guarantees : Guarantees (setup_of case slots) (journal_of (setup_of case slots))

-- no case, and the line of its first fault was written
record IsRefusalOf (input : List ℕ) (sink sink' : SinkView) : Type 0 where
  fault : Fault
  is_fault : case_of input ≡ Err fault
  written : HandsOn sink sink' (bad_line fault ∷ [])

-- the lines that are due for an input
abbrev lines_for : (slots : List (Option UnitFields)) → Result CaseFields Fault → List (List ℕ)
lines_for slots (Ok case) = report_of (setup_of case slots)
lines_for slots (Err fault) = bad_line fault ∷ []

lines_due : (slots : List (Option UnitFields)) (input : List ℕ) (status : ℕ) (lines : List (List ℕ)) → IsRunAnswer slots input status lines → lines ≡ lines_for slots (case_of input)
lines_due slots input status lines (inl a) = a.report.lines_are ∙ sym (ap (lines_for slots) a.is_case)
lines_due slots input status lines (inr a) = a.refusal.lines_are ∙ sym (ap (lines_for slots) a.is_fault)

module _ {S O : Type 0} (source_view : S → SourceView) (sink_view : O → SinkView) (slots : List (Option UnitFields)) (source source' : S) (sink sink' : O) (status : ℕ)
    (p : Replays Run source_view sink_view slots source source' sink sink' status) where
  read : IsRead most_input (source_view source) (source_view source') p.input status
  read = p.read

  written : Writes (IsAnswer Run slots p.input) sink_view sink sink' status
  written = p.written

  whole : NoneOf (1 ∷ 3 ∷ 4 ∷ 5 ∷ []) status → (length p.input ≤ most_input) × IsAtEnd (source_view source').left × Stops (source_view source) (source_view source')
  whole none = let all = read.whole (λ one. none (among status one)) in (all.few, all.ended, all.stops)

  -- 0
  reported : status ≡ 0 → IsReportOf slots p.input (sink_view sink) (sink_view sink')
  reported zero = let all = written.answered (none_of (1 ∷ 3 ∷ 4 ∷ 5 ∷ []) status 0 zero not_0) in by_due all.lines all.due all.written
    where
      by_due : (lines : List (List ℕ)) → IsRunAnswer slots p.input status lines → HandsOn (sink_view sink) (sink_view sink') lines → IsReportOf slots p.input (sink_view sink) (sink_view sink')
      by_due lines (inl a) hands =
          let setup = setup_of a.case slots in
          record { case = a.case; is_case = a.is_case; no_pass = no_pass setup (passes setup) refl (sym a.report.status_is ∙ zero); written = subst (HandsOn (sink_view sink) (sink_view sink')) a.report.lines_are hands; guarantees = a.report.guarantees }
      by_due lines (inr a) hands = let off : ◌≡◌ {A = ℕ} 0 6 = sym zero ∙ a.refusal.status_is in absurd (omega (arith, off))

  -- 7
  passed : status ≡ 7 → IsPassedReportOf slots p.input (sink_view sink) (sink_view sink')
  passed seven = let all = written.answered (none_of (1 ∷ 3 ∷ 4 ∷ 5 ∷ []) status 7 seven not_7) in by_due all.lines all.due all.written
    where
      by_due : (lines : List (List ℕ)) → IsRunAnswer slots p.input status lines → HandsOn (sink_view sink) (sink_view sink') lines → IsPassedReportOf slots p.input (sink_view sink) (sink_view sink')
      by_due lines (inl a) hands =
          let setup = setup_of a.case slots in
          let end = a.report.passed seven in
          let lines_are = a.report.lines_are ∙ sym (report_passed setup (one_pass setup (passes setup) refl (sym a.report.status_is ∙ seven))) ∙ ap lines_of end.last ∙ last_is (Passed end.direction end.flit) end.before in
          record { case = a.case; is_case = a.is_case; direction = end.direction; flit = end.flit; before = end.before; last = end.last; written = subst (HandsOn (sink_view sink) (sink_view sink')) lines_are hands; guarantees = a.report.guarantees }
      by_due lines (inr a) hands = let off : ◌≡◌ {A = ℕ} 7 6 = sym seven ∙ a.refusal.status_is in absurd (omega (arith, off))

  -- 6
  refused : status ≡ 6 → IsRefusalOf p.input (sink_view sink) (sink_view sink')
  refused six = let all = written.answered (none_of (1 ∷ 3 ∷ 4 ∷ 5 ∷ []) status 6 six not_6) in by_due all.lines all.due all.written
    where
      by_due : (lines : List (List ℕ)) → IsRunAnswer slots p.input status lines → HandsOn (sink_view sink) (sink_view sink') lines → IsRefusalOf p.input (sink_view sink) (sink_view sink')
      by_due lines (inl a) hands = absurd (not_both (setup_of a.case slots) (passes (setup_of a.case slots)) refl (sym a.report.status_is ∙ six))
      by_due lines (inr a) hands = record { fault = a.fault; is_fault = a.is_fault; written = subst (HandsOn (sink_view sink) (sink_view sink')) a.refusal.lines_are hands }

  -- 5
  too_long : status ≡ 5 → (length p.input ≡ suc most_input) × ((source_view source').stops ≡ (source_view source).stops)
  too_long five = read.too_long five

  -- 0, 6 and 7: the input was read to its end by one read, the last one, and all that is due was
  -- written
  read_whole : OneOf (0 ∷ 6 ∷ 7 ∷ []) status → IsAtEnd (source_view source').left × Stops (source_view source) (source_view source')
  read_whole one = let all = whole (by_answer status one) in (all.1, all.2)

  all_lines : OneOf (0 ∷ 6 ∷ 7 ∷ []) status → HandsOn (sink_view sink) (sink_view sink') (lines_for slots (case_of p.input))
  all_lines one =
      let all = written.answered (by_answer status one) in subst (HandsOn (sink_view sink) (sink_view sink')) (lines_due slots p.input status all.lines all.due) all.written

  finished : OneOf (0 ∷ 6 ∷ 7 ∷ []) status → ((sink_view sink').finishes ≡ raised (sink_view sink).finishes) × ((sink_view sink').finished ≡ true)
  finished one = let all = all_lines one in (all.calls.finishes, all.calls.last)

  -- 4: what was cut off is what is due for the input, which was read to its end
  not_early : status ≡ 4 → IsAtEnd (source_view source').left × Stops (source_view source) (source_view source')
  not_early four = let all = read.whole (none_of (1 ∷ 3 ∷ 5 ∷ []) status 4 four (λ one. grind (arith, one))) in (all.ended, all.stops)

  written_prefix : status ≡ 4 → FailsToHandOn (sink_view sink) (sink_view sink') (lines_for slots (case_of p.input))
  written_prefix four =
      let cut = written.cut_off four in
      subst (FailsToHandOn (sink_view sink) (sink_view sink')) (lines_due slots p.input cut.status cut.lines cut.due) cut.written

  -- 1, 3 and 5: nothing was written
  no_lines : OneOf (1 ∷ 3 ∷ 5 ∷ []) status → WritesLines (sink_view sink) (sink_view sink') []
  no_lines one = subst (λ (o : O). WritesLines (sink_view sink) (sink_view o) []) (sym (written.unwritten one)) (WritesLines-none (sink_view sink))

  -- 1: at most one read found the end, and none failed
  few_stops : status ≡ 1 → ((source_view source').stops ≡ (source_view source).stops) ⊎ ((source_view source').stops ≡ raised (source_view source).stops)
  few_stops one = ⊎_elim (λ all. inr all.stops.counted) (λ same. inl same) (read.memory one)

  -- faults of the source
  read_fault : status ≡ 3 → (source_view source').faults ≡ raised (source_view source).faults
  read_fault three = (read.one_fault three).1

  no_read_fault : (status ≡ 3) ⊎ ((source_view source').faults ≡ (source_view source).faults)
  no_read_fault = read.no_fault

  -- what comes
  case_reports : IfSome (source_view source).left (λ all. length all ≤ most_input → (due : ℕ) (lines : List (List ℕ)) → IsRunAnswer slots all due lines → OneOf (due ∷ 1 ∷ 3 ∷ 4 ∷ []) status)
  case_reports = complete Run source_view sink_view slots source source' sink sink' status most_input refl p

  excess_stops : IfSome (source_view source).left (λ all. most_input < length all → OneOf (5 ∷ 1 ∷ 3 ∷ []) status)
  excess_stops = excess Run source_view sink_view slots source source' sink sink' status most_input refl p

-- ---- make

module _ {S O : Type 0} (source_view : S → SourceView) (sink_view : O → SinkView) (slots : List (Option UnitFields)) (source source' : S) (sink sink' : O) (status number : ℕ)
    (p : Replays (Make number) source_view sink_view slots source source' sink sink' status) where
  read_none : ReadsNothing source source' p.input status
  read_none = p.read

  due_written : Writes (IsAnswer (Make number) slots p.input) sink_view sink sink' status
  due_written = p.written

  make_reads_nothing : source' ≡ source
  make_reads_nothing = read_none.same

  -- 0
  made : status ≡ 0 → (passes (made_setup slots number) ≡ false) × HandsOn (sink_view sink) (sink_view sink') (ending_lines (values_of (made_setup slots number) (journal_of (made_setup slots number))))
      × Guarantees (made_setup slots number) (journal_of (made_setup slots number))
  made zero =
      let setup = made_setup slots number in
      let all = due_written.answered (none_of (1 ∷ 3 ∷ 4 ∷ 5 ∷ []) status 0 zero not_0) in
      let none = no_pass setup (passes setup) refl (sym all.due.status_is ∙ zero) in
      (none, subst (HandsOn (sink_view sink) (sink_view sink')) (all.due.lines_are ∙ short_by setup false none) all.written, all.due.guarantees)

  -- 7
  made_passed : status ≡ 7 → (direction : ℕ) × (flit : List ℕ) × (before : List Entry) × (journal_of (made_setup slots number) ≡ Passed direction flit ∷ before)
      × HandsOn (sink_view sink) (sink_view sink') (line_of (Passed direction flit) ∷ []) × Guarantees (made_setup slots number) (journal_of (made_setup slots number))
  made_passed seven =
      let setup = made_setup slots number in
      let all = due_written.answered (none_of (1 ∷ 3 ∷ 4 ∷ 5 ∷ []) status 7 seven not_7) in
      let end = all.due.passed seven in
      let one = one_pass setup (passes setup) refl (sym all.due.status_is ∙ seven) in
      (end.direction, end.flit, end.before, end.last, subst (HandsOn (sink_view sink) (sink_view sink')) (all.due.lines_are ∙ short_by setup true one ∙ ap last_line end.last) all.written, all.due.guarantees)

  -- 4
  made_prefix : status ≡ 4 → FailsToHandOn (sink_view sink) (sink_view sink') (short_report_of (made_setup slots number))
  made_prefix four = let cut = due_written.cut_off four in subst (FailsToHandOn (sink_view sink) (sink_view sink')) cut.due.lines_are cut.written

  -- what comes
  make_ends : (due : ℕ) (lines : List (List ℕ)) → IsAnswer (Make number) slots [] due lines → OneOf (due ∷ 1 ∷ 4 ∷ []) status
  make_ends = made_complete (Make number) source_view sink_view slots source source' sink sink' status refl p

-- ---- any words

bounded_few : (setup : Setup) (status : ℕ) (lines : List (List ℕ)) → IsCaseBounded setup status lines → status ≤ 8
bounded_few setup status lines (inl a) = subst (λ (n : ℕ). n ≤ 8) (sym a.report.status_is) (few_status setup (passes setup) refl)
bounded_few setup status lines (inr a) = let six = a.status_is in omega (arith, six)

parts_few : (slots : List (Option UnitFields)) (parts : CheckInput) (status : ℕ) (lines : List (List ℕ)) →
    IsOfParts slots parts status lines → status ≤ 8
parts_few slots parts status lines (inl a) = judged_few (setup_of a.case slots) parts.report status lines a.judged
  where
    judged_few : (setup : Setup) (report : List ℕ) (status : ℕ) (lines : List (List ℕ)) →
        IsJudged setup report status lines → status ≤ 8
    judged_few setup report status lines (inl b) = let zero = b.answer.status_is in omega (arith, zero)
    judged_few setup report status lines (inr b) = let eight = b.answer.status_is in omega (arith, eight)
parts_few slots parts status lines (inr a) = let six = a.refusal.status_is in omega (arith, six)

answer_few : (form : Form) (slots : List (Option UnitFields)) (input : List ℕ) (status : ℕ) (lines : List (List ℕ)) → IsAnswer form slots input status lines → status ≤ 8
answer_few Run slots input status lines (inl a) = subst (λ (n : ℕ). n ≤ 8) (sym a.report.status_is) (few_status (setup_of a.case slots) (passes (setup_of a.case slots)) refl)
answer_few Run slots input status lines (inr a) = let six = a.refusal.status_is in omega (arith, six)
answer_few Check slots input status lines (inl a) = let six = a.answer.status_is in omega (arith, six)
answer_few Check slots input status lines (inr a) = parts_few slots a.parts status lines a.answer
answer_few Bound slots input status lines (inl a) = bounded_few (setup_of a.case slots) status lines a.answer
answer_few Bound slots input status lines (inr a) = let six = a.refusal.status_is in omega (arith, six)
answer_few Trace slots input status lines (inl a) = let six = a.refusal.status_is in omega (arith, six)
answer_few Trace slots input status lines (inr (text, inl a)) = let six = a.refusal.status_is in omega (arith, six)
answer_few Trace slots input status lines (inr (text, inr a)) = let zero = a.script.status_is in omega (arith, zero)
answer_few (Make number) slots input status lines a = subst (λ (n : ℕ). n ≤ 8) (sym a.status_is) (few_status (made_setup slots number) (passes (made_setup slots number)) refl)

module _ {S O : Type 0} (source_view : S → SourceView) (sink_view : O → SinkView) (words : List (List ℕ)) (slots : List (Option UnitFields)) (source source' : S) (sink sink' : O) (status : ℕ)
    (r : Replayed source_view sink_view words slots source source' sink sink' status) where
  range : status ≤ 8
  range = by_form (form_of words) refl
    where
      by_status : (form : Form) → form_of words ≡ Some form → OneOf (1 ∷ 3 ∷ 4 ∷ 5 ∷ []) status ⊎ NoneOf (1 ∷ 3 ∷ 4 ∷ 5 ∷ []) status → status ≤ 8
      by_status form is (inl one) = grind (arith, one)
      by_status form is (inr none) = let p = r.replays form is in let all = p.written.answered none in answer_few form slots p.input status all.lines all.due

      by_form : (form : Option Form) → form_of words ≡ form → status ≤ 8
      by_form None is = let two = r.usage.1 is in omega (arith, two)
      by_form (Some form) is = by_status form is (one_or_none (1 ∷ 3 ∷ 4 ∷ 5 ∷ []) status)

-- faults of the sink, for each form
module _ {O : Type 0} (Due : ℕ → List (List ℕ) → Type 0) (sink_view : O → SinkView) (sink sink' : O) (status : ℕ) (w : Writes Due sink_view sink sink' status) where
  write_fault : status ≡ 4 → (sink_view sink').faults ≡ raised (sink_view sink).faults
  write_fault four = ⊎_elim (λ breaks. breaks.faults) (λ fails. fails.faults) (w.cut_off four).written

  last_failed : status ≡ 4 → (sink_view sink').failed ≡ true
  last_failed four = ⊎_elim (λ breaks. breaks.failed) (λ fails. fails.failed) (w.cut_off four).written

  no_write_fault : (status ≡ 4) ⊎ ((sink_view sink').faults ≡ (sink_view sink).faults)
  no_write_fault = by_status (one_or_none (1 ∷ 3 ∷ 4 ∷ 5 ∷ []) status)
    where
      same : sink' ≡ sink → (sink_view sink').faults ≡ (sink_view sink).faults
      same is = ap (λ (o : O). (sink_view o).faults) is

      by_status : OneOf (1 ∷ 3 ∷ 4 ∷ 5 ∷ []) status ⊎ NoneOf (1 ∷ 3 ∷ 4 ∷ 5 ∷ []) status → (status ≡ 4) ⊎ ((sink_view sink').faults ≡ (sink_view sink).faults)
      by_status (inl (inl is)) = inr (same (w.unwritten (inl is)))
      by_status (inl (inr (inl is))) = inr (same (w.unwritten (inr (inl is))))
      by_status (inl (inr (inr (inl is)))) = inl is
      by_status (inl (inr (inr (inr (inl is))))) = inr (same (w.unwritten (inr (inr (inl is)))))
      by_status (inl (inr (inr (inr (inr none))))) = absurd none
      by_status (inr none) = inr (w.answered none).written.faults
