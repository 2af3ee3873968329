-- What is due for one reason is due for another.
use Rattle.std.proofs.Common.{◌≡◌, inl, inr, ℕ, List, Option, Result, Ok, Err, IsErrAnd, sym, ap, ◌∙◌, subst}
use Rattle.hmc_case.specs.Case.{CaseFields, case_of}
use Rattle.hmc_case.specs.Reading.{Fault}
use Rattle.hmc_case.specs.declared.fault.CaseKind.{CaseKind}
use Rattle.hmc_case.specs.declared.fault.Section.{Section}
use Rattle.hmc_bound.specs.Appended.{BoundDrains}
use Rattle.hmc_journal.specs.Setup.{Setup, setup_of}
use Rattle.hmc_rounds.specs.Single.{IsSingle}
use Rattle.hmc_outside.specs.Views.{SinkView}
use Rattle.hmc_units.specs.Unit.{UnitFields}
use Rattle.hmc_replay.specs.Answered.{IsAnswered, IsCutOff, Answers}
use Rattle.hmc_replay.specs.BoundAnswer.{IsNotSingle, IsCaseBounded, IsBoundAnswer}
use Rattle.hmc_replay.specs.Report.{report_of, bound_report_of}
use Rattle.hmc_replay.specs.Reported.{IsReport}
use Rattle.hmc_replay.specs.RunAnswer.{IsRefusal, IsRefused, IsRunAnswer}
use Rattle.hmc_replay.specs.declared.run.RunError.{RunError}
use Rattle.hmc_replay.specs.declared.run.RunError.TheVariants as runs
use Rattle.hmc_replay.proofs.Writing.{err_is}

module _ (Due Owed : ℕ → List (List ℕ) → Type 0) (so : (status : ℕ) (lines : List (List ℕ)) → Due status lines → Owed status lines) where
  answered_so : (status : ℕ) (a b : SinkView) → IsAnswered Due status a b → IsAnswered Owed status a b
  answered_so status a b answered = record { lines = answered.lines; due = so status answered.lines answered.due; written = answered.written }

  cut_off_so : (a b : SinkView) → IsCutOff Due a b → IsCutOff Owed a b
  cut_off_so a b cut = record { status = cut.status; lines = cut.lines; due = so cut.status cut.lines cut.due; written = cut.written }

  pub answers_so : {O : Type 0} (view : O → SinkView) (old new : O) (result : Result (Unit {0}) RunError) → Answers Due result view old new → Answers Owed result view old new
  answers_so view old new (Ok done) answer = answered_so 0 (view old) (view new) answer
  answers_so view old new (Err runs.BadInput) answer = answered_so 6 (view old) (view new) answer
  answers_so view old new (Err runs.Passed) answer = answered_so 7 (view old) (view new) answer
  answers_so view old new (Err runs.Unlawful) answer = answered_so 8 (view old) (view new) answer
  answers_so view old new (Err runs.WriteFault) answer = cut_off_so (view old) (view new) answer
  answers_so view old new (Err runs.Memory) answer = answer
  answers_so view old new (Err runs.ReadFault) answer = absurd answer
  answers_so view old new (Err runs.TooLong) answer = absurd answer

-- nothing was done to the sink before
pub since : {O : Type 0} (Due : ℕ → List (List ℕ) → Type 0) (view : O → SinkView) (old here new : O)
    (result : Result (Unit {0}) RunError) → here ≡ old → Answers Due result view here new →
    Answers Due result view old new
since Due view old here new result is answer = subst (λ o. Answers Due result view o new) is answer

-- the report of a case is due to its text
pub answers_case : {O : Type 0} (view : O → SinkView) (old new : O) (slots : List (Option UnitFields)) (input : List ℕ) (case : CaseFields) (result : Result (Unit {0}) RunError) → case_of input ≡ Ok case
    → Answers (IsReport (setup_of case slots) (report_of (setup_of case slots))) result view old new → Answers (IsRunAnswer slots input) result view old new
answers_case view old new slots input case result is answer =
    answers_so (IsReport (setup_of case slots) (report_of (setup_of case slots))) (IsRunAnswer slots input) (λ status lines due. inl (record { case = case; is_case = is; report = due })) view old new result answer

-- so is the bound of a case
pub bounds_case : {O : Type 0} (view : O → SinkView) (old new : O)
    (slots : List (Option UnitFields)) (input : List ℕ) (case : CaseFields)
    (result : Result (Unit {0}) RunError) → case_of input ≡ Ok case →
    Answers (IsCaseBounded (setup_of case slots)) result view old new →
    Answers (IsBoundAnswer slots input) result view old new
bounds_case view old new slots input case result is answer =
    answers_so (IsCaseBounded (setup_of case slots)) (IsBoundAnswer slots input)
    (λ status lines due. inl (record { case = case; is_case = is; answer = due }))
    view old new result answer

pub bounds_single : {O : Type 0} (view : O → SinkView) (old new : O) (setup : Setup)
    (result : Result (Unit {0}) RunError) → IsSingle setup.topology → BoundDrains setup →
    Answers (IsReport setup (bound_report_of setup)) result view old new →
    Answers (IsCaseBounded setup) result view old new
bounds_single view old new setup result single drains answer =
    answers_so (IsReport setup (bound_report_of setup)) (IsCaseBounded setup)
    (λ status lines due. inl (record { single = single; report = due; drains = drains }))
    view old new result answer

pub bounds_more : {O : Type 0} (view : O → SinkView) (old new : O) (setup : Setup)
    (result : Result (Unit {0}) RunError) → Answers (IsNotSingle setup) result view old new →
    Answers (IsCaseBounded setup) result view old new
bounds_more view old new setup result answer =
    answers_so (IsNotSingle setup) (IsCaseBounded setup) (λ status lines due. inr due)
    view old new result answer

-- and the line of its first fault to what is no case
pub refused_with : {O : Type 0} (view : O → SinkView) (old new : O) (input : List ℕ) (fault : Fault)
    (result : Result (Unit {0}) RunError) → case_of input ≡ Err fault →
    Answers (IsRefusal fault) result view old new → Answers (IsRefused input) result view old new
refused_with view old new input fault result is answer =
    answers_so (IsRefusal fault) (IsRefused input)
    (λ status lines due. record { fault = fault; is_fault = is; refusal = due })
    view old new result answer

-- whatever else could be due
pub refused_on : (Owed : ℕ → List (List ℕ) → Type 0) {O : Type 0} (view : O → SinkView) (old new : O)
    (input : List ℕ) (error : RunError) (result : Result (Unit {0}) RunError) →
    ((status : ℕ) (lines : List (List ℕ)) → IsRefused input status lines → Owed status lines) →
    IsErrAnd result (λ told. told ≡ error) →
    Answers (IsRefused input) (Err error) view old new → Answers Owed result view old new
refused_on Owed view old new input error result so told answer =
    answers_so (IsRefused input) Owed so view old new result
    (subst (λ (r : Result (Unit {0}) RunError). Answers (IsRefused input) r view old new)
    (sym (err_is result error told)) answer)

-- what was cut off ends with a write fault
pub answers_cut : {O : Type 0} (Due : ℕ → List (List ℕ) → Type 0) (view : O → SinkView) (old new : O) (result : Result (Unit {0}) RunError) → result ≡ Err runs.WriteFault → IsCutOff Due (view old) (view new) → Answers Due result view old new
answers_cut Due view old new result is cut = subst (λ (r : Result (Unit {0}) RunError). Answers Due r view old new) (sym is) cut

-- faults with the same parts are the same
pub same_fault : (section section' : Section) (line line' : ℕ) (kind another : CaseKind) → section' ≡ section → line' ≡ line → another ≡ kind → ◌≡◌ {A = Fault} (record { section = section; line = line; kind = kind }) (record { section = section'; line = line'; kind = another })
same_fault section section' line line' kind another s l k =
    ap (λ (x : Section). record { section = x; line = line; kind = kind }) (sym s) ∙ ap (λ (x : ℕ). record { section = section'; line = x; kind = kind }) (sym l) ∙ ap (λ (x : CaseKind). record { section = section'; line = line'; kind = x }) (sym k)
