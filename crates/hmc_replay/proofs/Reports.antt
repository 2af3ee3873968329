-- The report of a case, from the network after the case's steps.
use Rattle.std.proofs.Common.{◌≡◌, ◌∙◌, ℕ, Bool, true, false, List, [], ◌∷◌, ◌++◌, Option, Result}
use Rattle.std.proofs.Common.{Ok, Err, IsErrAnd, if◌then◌else◌, arith, refl, sym, ap, subst}
use Rattle.std.proofs.Common.{append-nil, append_assoc}
use Rattle.hmc_bound.specs.Ends.{EndsDrained}
use Rattle.hmc_entries.specs.declared.entry.Entry.{Entry}
use Rattle.hmc_entries.specs.declared.entry.Entry.TheVariants.{Passed}
use Rattle.hmc_journal.specs.Final.{final_lines_of}
use Rattle.hmc_journal.specs.Guarantees.{Guarantees}
use Rattle.hmc_journal.specs.Lawful.{has_passed, journal_of}
use Rattle.hmc_entries.specs.Lines.{line_of}
use Rattle.hmc_journal.specs.Report.{lines_unless, report_lines}
use Rattle.hmc_journal.specs.Setup.{Setup}
use Rattle.hmc_entries.specs.Text.{lines_of}
use Rattle.hmc_net.specs.NetState.{NetState}
use Rattle.hmc_outside.specs.Finish.{HandsOn, FailsToHandOn}
use Rattle.hmc_outside.specs.Lines.{WritesLines, BreaksOff}
use Rattle.hmc_outside.specs.Views.{SinkView}
use Rattle.hmc_outside.specs.declared.counts.Failed.{Failed}
use Rattle.hmc_outside.proofs.LinesLemmas.{WritesLines-none, WritesLines-after, BreaksOff-after}
use Rattle.hmc_outside.proofs.LinesLemmas.{BreaksOff-more}
use Rattle.hmc_replay.specs.Output.{Writes, WritesReport, DeliversReport}
use Rattle.hmc_units.specs.Unit.{UnitFields}
use Rattle.hmc_replay.specs.Report.{passes, report_of, last_line, ending_of, end_lines, end_of}
use Rattle.hmc_replay.specs.Report.{lines_in, report_status}
use Rattle.hmc_replay.specs.Reported.{EndsAtPass, IsReport}
use Rattle.hmc_replay.specs.Answered.{IsAnswered, IsCutOff}
use Rattle.hmc_replay.specs.Steps.{TookAll}
use Rattle.hmc_replay.specs.declared.extent.Extent.{Extent}
use Rattle.hmc_replay.specs.declared.extent.Extent.TheVariants.{Whole, Short, Bound}
use Rattle.hmc_replay.proofs.Passes.{passes_is}

-- ---- lines that are made one after another

-- before the first
pub lines-start : (all left : List (List ℕ)) (a : SinkView) → left ≡ all →
    (whole : List (List ℕ)) × (all ≡ whole ++ left) × WritesLines a a whole
lines-start all left a is = ([], sym is, WritesLines-none a)

-- one more was written
pub lines-one : (a b c : SinkView) (all whole left left' : List (List ℕ)) (line : List ℕ) →
    all ≡ whole ++ left → left ≡ line ∷ left' → WritesLines a b whole → WritesLines b c (line ∷ [])
    → (whole' : List (List ℕ)) × (all ≡ whole' ++ left') × WritesLines a c whole'
lines-one a b c all whole left left' line parts next before here = (
  whole ++ line ∷ [],
  parts ∙ ap (λ l. whole ++ l) next
      ∙ sym (append_assoc whole (line ∷ []) left'),
  WritesLines-after a b c whole (line ∷ [])
      before here,
)

-- one broke off
pub lines-broken : (a b c : SinkView) (all whole left left' : List (List ℕ)) (line : List ℕ) →
    all ≡ whole ++ left → left ≡ line ∷ left' → WritesLines a b whole → BreaksOff b c (line ∷ []) →
    BreaksOff a c all
lines-broken a b c all whole left left' line parts next before here =
    subst (BreaksOff a c) (append_assoc whole (line ∷ []) left' ∙ ap (λ l. whole ++ l) (sym next)
    ∙ sym parts) (BreaksOff-more a c (whole ++ line ∷ []) left'
    (BreaksOff-after a b c whole (line ∷ []) before here))

-- none is left
pub lines-all : (a b : SinkView) (all whole left : List (List ℕ)) → all ≡ whole ++ left →
    left ≡ [] → WritesLines a b whole → WritesLines a b all
lines-all a b all whole left parts none written =
    subst (WritesLines a b) (sym (parts ∙ ap (λ l. whole ++ l) none ∙ append-nil whole)) written

-- ---- the whole report

-- by whether a landing passed
report_by : (setup : Setup) (passed : Bool) → passes setup ≡ passed →
    lines_of (journal_of setup) ++ lines_unless passed (final_lines_of setup (journal_of setup))
    ≡ report_of setup
unfolding report_of report_lines
report_by setup passed is = ap (λ (p : Bool). lines_of (journal_of setup)
    ++ lines_unless p (final_lines_of setup (journal_of setup))) (sym is ∙ passes_is setup)

-- where none passed, its journal is one in which none did
pub none_passed : (net : NetState) (setup : Setup) (passed : Bool) → passed ≡ false →
    TookAll net setup passed → has_passed (journal_of setup) ≡ false
none_passed net setup passed is took = sym (passes_is setup) ∙ sym took.passed_is ∙ is

report_is : (net : NetState) (setup : Setup) (passed : Bool) → passed ≡ false →
    TookAll net setup passed → lines_of (journal_of setup)
    ++ final_lines_of setup (journal_of setup) ≡ report_of setup
report_is net setup passed is took = report_by setup false (sym took.passed_is ∙ is)

-- where one passed, the lines of the journal are the report
pub report_passed : (setup : Setup) → passes setup ≡ true →
    lines_of (journal_of setup) ≡ report_of setup
report_passed setup passed = sym (append-nil (lines_of (journal_of setup)))
    ∙ report_by setup true passed

-- the report begins with the lines of the journal
report_starts : (setup : Setup) → (rest : List (List ℕ)) ×
    (lines_of (journal_of setup) ++ rest ≡ report_of setup)
unfolding report_of report_lines
report_starts setup = (
  lines_unless (has_passed (journal_of setup))
      (final_lines_of setup (journal_of setup)),
  refl,
)

pub whole-broken : (setup : Setup) (a b : SinkView) → BreaksOff a b (lines_of (journal_of setup)) →
    BreaksOff a b (report_of setup)
whole-broken setup a b broken =
    let starts = report_starts setup in
    subst (BreaksOff a b) starts.1
    (BreaksOff-more a b (lines_of (journal_of setup)) starts.0 broken)

pub whole-passed : (net : NetState) (setup : Setup) (passed : Bool) (a b : SinkView) →
    passed ≡ true → TookAll net setup passed → WritesLines a b (lines_of (journal_of setup)) →
    WritesLines a b (report_of setup) × (passed ≡ passes setup)
whole-passed net setup passed a b is took written = (
  subst (WritesLines a b) (report_passed setup (sym took.passed_is ∙ is)) written,
  took.passed_is,
)

pub whole-written : (net : NetState) (setup : Setup) (passed : Bool) (a b c : SinkView) →
    passed ≡ false → TookAll net setup passed → WritesLines a b (lines_of (journal_of setup)) →
    WritesLines b c (final_lines_of setup (journal_of setup))
    → WritesLines a c (report_of setup) × (passed ≡ passes setup)
whole-written net setup passed a b c is took first rest = (
  subst (WritesLines a c) (report_is net setup passed is took)
      (WritesLines-after a b c (lines_of (journal_of setup))
      (final_lines_of setup (journal_of setup)) first rest),
  took.passed_is,
)

pub whole-broken_late : (net : NetState) (setup : Setup) (passed : Bool) (a b c : SinkView) →
    passed ≡ false → TookAll net setup passed → WritesLines a b (lines_of (journal_of setup)) →
    BreaksOff b c (final_lines_of setup (journal_of setup))
    → BreaksOff a c (report_of setup)
whole-broken_late net setup passed a b c is took first rest =
    subst (BreaksOff a c) (report_is net setup passed is took)
    (BreaksOff-after a b c (lines_of (journal_of setup))
    (final_lines_of setup (journal_of setup)) first rest)

-- ---- a report without the lines of steps

end_by : (extent : Extent) (setup : Setup) (passed : Bool) → passes setup ≡ passed →
    end_lines passed extent setup (journal_of setup) ≡ end_of extent setup
unfolding end_of
end_by extent setup passed is = ap (λ (p : Bool). end_lines p extent setup (journal_of setup))
    (sym is)

-- that is due where the extent isn't the whole report
due_at_end : (extent : Extent) (setup : Setup) → (extent ≡ Whole → ⊥) →
    end_of extent setup ≡ lines_in extent setup
due_at_end Whole setup other = absurd (other refl)
due_at_end Short setup other = refl
due_at_end Bound setup other = refl

-- where a landing passed, its line
end_line : (extent : Extent) (net : NetState) (setup : Setup) (passed : Bool) (entry : Entry) →
    passed ≡ true → TookAll net setup passed → entry ≡ net.last →
    line_of entry ∷ [] ≡ end_of extent setup
end_line extent net setup passed entry is took entry_is =
    ap (λ (e : Entry). line_of e ∷ []) entry_is ∙ sym (ap last_line (took.last is).1)
    ∙ end_by extent setup true (sym took.passed_is ∙ is)

pub end-passed : (extent : Extent) (net : NetState) (setup : Setup) (passed : Bool) (entry : Entry)
    (a b : SinkView) → (extent ≡ Whole → ⊥) → passed ≡ true → TookAll net setup passed →
    entry ≡ net.last → WritesLines a b (line_of entry ∷ []) →
    WritesLines a b (lines_in extent setup) × (passed ≡ passes setup)
end-passed extent net setup passed entry a b other is took entry_is written = (
  subst (WritesLines a b) (end_line extent net setup passed entry is took entry_is
      ∙ due_at_end extent setup other) written,
  took.passed_is,
)

pub end-broken : (extent : Extent) (net : NetState) (setup : Setup) (passed : Bool) (entry : Entry)
    (a b : SinkView) → (extent ≡ Whole → ⊥) → passed ≡ true → TookAll net setup passed →
    entry ≡ net.last → BreaksOff a b (line_of entry ∷ []) → BreaksOff a b (lines_in extent setup)
end-broken extent net setup passed entry a b other is took entry_is broken =
    subst (BreaksOff a b) (end_line extent net setup passed entry is took entry_is
    ∙ due_at_end extent setup other) broken

-- else what would follow the lines of the steps
end_ending : (extent : Extent) (net : NetState) (setup : Setup) (passed : Bool) → passed ≡ false →
    TookAll net setup passed → ending_of extent setup (journal_of setup) ≡ end_of extent setup
end_ending extent net setup passed is took = end_by extent setup false (sym took.passed_is ∙ is)

pub end-written : (extent : Extent) (net : NetState) (setup : Setup) (passed : Bool)
    (a b : SinkView) → (extent ≡ Whole → ⊥) → passed ≡ false → TookAll net setup passed →
    WritesLines a b (ending_of extent setup (journal_of setup)) →
    WritesLines a b (lines_in extent setup) × (passed ≡ passes setup)
end-written extent net setup passed a b other is took written = (
  subst (WritesLines a b) (end_ending extent net setup passed is took
      ∙ due_at_end extent setup other) written,
  took.passed_is,
)

pub end-broken_late : (extent : Extent) (net : NetState) (setup : Setup) (passed : Bool)
    (a b : SinkView) → (extent ≡ Whole → ⊥) → passed ≡ false → TookAll net setup passed →
    BreaksOff a b (ending_of extent setup (journal_of setup)) →
    BreaksOff a b (lines_in extent setup)
end-broken_late extent net setup passed a b other is took broken =
    subst (BreaksOff a b) (end_ending extent net setup passed is took
    ∙ due_at_end extent setup other) broken

-- that was written by its extent
pub ending_written : (extent shown : Extent) (setup : Setup) (past : List Entry) (a b : SinkView)
    (lines : List (List ℕ)) (result : Result (Unit {0}) Failed) → extent ≡ shown →
    lines ≡ ending_of shown setup past → Writes result a b lines →
    Writes result a b (ending_of extent setup past)
ending_written extent shown setup past a b lines result is same written =
    subst (λ (e : Extent). Writes result a b (ending_of e setup past)) (sym is)
    (subst (Writes result a b) same written)

-- ---- an error that is forwarded as it is

pub forwarded : (a b : SinkView) (lines : List (List ℕ)) (passes : Bool) (error : Failed)
    (result : Result Bool Failed) → IsErrAnd result (λ told. told ≡ error) → BreaksOff a b lines →
    WritesReport result lines passes a b
forwarded a b lines passes error (Ok done) told broken = absurd told
forwarded a b lines passes error (Err cause) told broken = broken

pub not_delivered : (a b : SinkView) (lines : List (List ℕ)) (passes : Bool) (error : Failed)
    (result : Result Bool Failed) → IsErrAnd result (λ told. told ≡ error) →
    FailsToHandOn a b lines → DeliversReport result lines passes a b
not_delivered a b lines passes error (Ok done) told failed = absurd told
not_delivered a b lines passes error (Err cause) told failed = failed

-- ---- a report that ended at a landing that passed

-- a journal whose last entry is a landing that passed
record IsPassing (journal : List Entry) : Type 0 where
  direction : ℕ
  flit : List ℕ
  before : List Entry
  is : journal ≡ Passed direction flit ∷ before

passing : (journal : List Entry) → has_passed journal ≡ true → IsPassing journal
passing [] is = absurd (cc)
passing (Passed direction flit ∷ before) is =
    record { direction = direction; flit = flit; before = before; is = refl }
passing (_ ∷ before) is = absurd (cc)

lines-last : (entry : Entry) (before : List Entry) →
    lines_of (entry ∷ before) ≡ lines_of before ++ line_of entry ∷ []
unfolding lines_of
lines-last entry before = refl

-- of a setup whose landing passes the journal is such
ends_at_pass : (setup : Setup) → passes setup ≡ true → EndsAtPass (journal_of setup)
ends_at_pass setup passed =
    let last = passing (journal_of setup) (sym (passes_is setup) ∙ passed) in
    record { direction = last.direction; flit = last.flit; before = last.before; last = last.is }

not_seven : (setup : Setup) → passes setup ≡ false → report_status setup ≡ 7 → ⊥
not_seven setup on is =
    let off : ◌≡◌ {A = ℕ} 0 7 = ap (λ (p : Bool). if p then 7 else 0) (sym on) ∙ is in
    omega (arith, off)

by_status : (setup : Setup) (passed : Bool) → passes setup ≡ passed →
    (if passed then 7 else 0) ≡ report_status setup
by_status setup passed is = ap (λ (p : Bool). if p then 7 else 0) (sym is)

-- a report that was written is the one that is due
pub reported : (setup : Setup) (lines : List (List ℕ)) (passed : Bool) (a b : SinkView) →
    passes setup ≡ passed → Guarantees setup (journal_of setup) → EndsDrained setup →
    HandsOn a b lines → IsAnswered (IsReport setup lines) (if passed then 7 else 0) a b
reported setup lines true a b is guarantees drained written = record {
  lines = lines;
  due = record {
    status_is = by_status setup true is;
    lines_are = refl;
    passed = λ _. ends_at_pass setup is;
    guarantees = guarantees;
    drained = drained;
  };
  written = written;
}
reported setup lines false a b is guarantees drained written = record {
  lines = lines;
  due = record {
    status_is = by_status setup false is;
    lines_are = refl;
    passed = λ (seven : ◌≡◌ {A = ℕ} 0 7). absurd (omega (arith, seven));
    guarantees = guarantees;
    drained = drained;
  };
  written = written;
}

-- a report of these lines is due
pub due_report : (setup : Setup) (lines : List (List ℕ)) → Guarantees setup (journal_of setup) →
    EndsDrained setup → IsReport setup lines (report_status setup) lines
due_report setup lines guarantees drained = record {
  status_is = refl;
  lines_are = refl;
  passed = by_passed (passes setup) refl;
  guarantees = guarantees;
  drained = drained;
}
  where
    by_passed : (passed : Bool) → passes setup ≡ passed → report_status setup ≡ 7 →
        EndsAtPass (journal_of setup)
    by_passed true is seven = ends_at_pass setup is
    by_passed false is seven = absurd (not_seven setup is seven)

-- nor is another one cut off
pub cut_off : (setup : Setup) (lines : List (List ℕ)) (a b : SinkView) →
    Guarantees setup (journal_of setup) → EndsDrained setup → FailsToHandOn a b lines →
    IsCutOff (IsReport setup lines) a b
cut_off setup lines a b guarantees drained failed = record {
  status = report_status setup;
  lines = lines;
  due = due_report setup lines guarantees drained;
  written = failed;
}

-- ---- the report of a case with other slots that are the same

module _ (extent : Extent) (setup_at : List (Option UnitFields) →
    Setup) (there slots : List (Option UnitFields)) (result : Result Bool Failed) where
  abbrev Delivered : (a b : SinkView) → Type 0
  Delivered a b = DeliversReport result (lines_in extent (setup_at there)) (passes (setup_at there))
      a b

  abbrev Due : List (Option UnitFields) → ℕ → List (List ℕ) → Type 0
  Due s = IsReport (setup_at s) (lines_in extent (setup_at s))

  pub delivered : (passed : Bool) (a b : SinkView) → there ≡ slots → result ≡ Ok passed →
      Delivered a b → Guarantees (setup_at there) (journal_of (setup_at there)) →
      EndsDrained (setup_at there) → IsAnswered (Due slots) (if passed then 7 else 0) a b
  delivered passed a b same is delivers guarantees drained =
      let setup = setup_at there in
      let wrote = subst (λ (r : Result Bool Failed).
      DeliversReport r (lines_in extent setup) (passes setup) a b) is delivers in
      subst (λ (s : List (Option UnitFields)). IsAnswered (Due s) (if passed then 7 else 0) a b)
      same (reported setup (lines_in extent setup) passed a b (sym wrote.1) guarantees drained
      wrote.0)

  pub delivered_cut : (failed : Failed) (a b : SinkView) → there ≡ slots → result ≡ Err failed →
      Delivered a b → Guarantees (setup_at there) (journal_of (setup_at there)) →
      EndsDrained (setup_at there) → IsCutOff (Due slots) a b
  delivered_cut failed a b same is delivers guarantees drained =
      let setup = setup_at there in
      let cut = subst (λ (r : Result Bool Failed).
      DeliversReport r (lines_in extent setup) (passes setup) a b) is delivers in
      subst (λ (s : List (Option UnitFields)). IsCutOff (Due s) a b) same
      (cut_off setup (lines_in extent setup) a b guarantees drained cut)
