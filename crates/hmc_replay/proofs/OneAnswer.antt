-- Each form has one answer to an input, and a status of its own.
use Rattle.std.proofs.Common.{inl, inr, ◌≡◌, ◌∙◌, ℕ, Bool, true, false, List, [], ◌∷◌, Option, if◌then◌else◌, refl, sym, ap, subst, arith}
use Rattle.hmc_case.specs.Case.{CaseFields, case_of}
use Rattle.hmc_journal.specs.Setup.{Setup, setup_of}
use Rattle.hmc_units.specs.Unit.{UnitFields}
use Rattle.hmc_replay.specs.Answer.{IsAnswer}
use Rattle.hmc_replay.specs.BoundAnswer.{IsCaseBounded}
use Rattle.hmc_replay.specs.Report.{passes, report_of, bound_report_of, report_status}
use Rattle.hmc_replay.specs.Reported.{IsReport}
use Rattle.hmc_replay.specs.Top.{NoneOf}
use Rattle.hmc_replay.specs.declared.form.Form.{Form}
use Rattle.hmc_replay.proofs.Refusals.{same_case, case_fault, refused_is_one, refusal_ends}
use Rattle.hmc_replay.proofs.CheckAnswers.{check_is_one, check_status}
use Rattle.hmc_replay.proofs.TraceAnswers.{trace_is_one, trace_status}
use Rattle.hmc_replay.specs.declared.form.Form.TheVariants.{Run, Make, Check, Bound, Trace}

report_is_one : (setup : Setup) (report : List (List ℕ)) (one other : ℕ) (first second : List (List ℕ)) → IsReport setup report one first → IsReport setup report other second → (one ≡ other) × (first ≡ second)
report_is_one setup report one other first second a b = (a.status_is ∙ sym b.status_is, a.lines_are ∙ sym b.lines_are)

bounded_is_one : (setup : Setup) (one other : ℕ) (first second : List (List ℕ)) →
    IsCaseBounded setup one first → IsCaseBounded setup other second →
    (one ≡ other) × (first ≡ second)
bounded_is_one setup one other first second (inl a) (inl b) =
    report_is_one setup (bound_report_of setup) one other first second a.report b.report
bounded_is_one setup one other first second (inl a) (inr b) = absurd (b.more a.single)
bounded_is_one setup one other first second (inr a) (inl b) = absurd (a.more b.single)
bounded_is_one setup one other first second (inr a) (inr b) =
    (a.status_is ∙ sym b.status_is, a.lines_are ∙ sym b.lines_are)

pub answer_is_one : (form : Form) (slots : List (Option UnitFields)) (input : List ℕ) (one other : ℕ) (first second : List (List ℕ)) → IsAnswer form slots input one first → IsAnswer form slots input other second → (one ≡ other) × (first ≡ second)
answer_is_one Run slots input one other first second (inl a) (inl b) =
    let report = subst (λ (k : CaseFields). IsReport (setup_of k slots) (report_of (setup_of k slots)) other second) (same_case (case_of input) a.case b.case a.is_case b.is_case) b.report in
    report_is_one (setup_of a.case slots) (report_of (setup_of a.case slots)) one other first second a.report report
answer_is_one Run slots input one other first second (inl a) (inr b) = absurd (case_fault (case_of input) a.case b.fault a.is_case b.is_fault)
answer_is_one Run slots input one other first second (inr a) (inl b) = absurd (case_fault (case_of input) b.case a.fault b.is_case a.is_fault)
answer_is_one Run slots input one other first second (inr a) (inr b) = refused_is_one input one other first second a b
answer_is_one (Make number) slots input one other first second a b = report_is_one _ _ one other first second a b
answer_is_one Check slots input one other first second a b =
    check_is_one slots input one other first second a b
answer_is_one Bound slots input one other first second (inl a) (inl b) =
    let same = same_case (case_of input) a.case b.case a.is_case b.is_case in
    bounded_is_one (setup_of a.case slots) one other first second a.answer
    (subst (λ (k : CaseFields). IsCaseBounded (setup_of k slots) other second) same b.answer)
answer_is_one Bound slots input one other first second (inl a) (inr b) = absurd (case_fault (case_of input) a.case b.fault a.is_case b.is_fault)
answer_is_one Bound slots input one other first second (inr a) (inl b) = absurd (case_fault (case_of input) b.case a.fault b.is_case a.is_fault)
answer_is_one Bound slots input one other first second (inr a) (inr b) = refused_is_one input one other first second a b
answer_is_one Trace slots input one other first second a b =
    trace_is_one input one other first second a b

pub by_passes : (setup : Setup) (status : ℕ) → status ≡ report_status setup → (passed : Bool) → passes setup ≡ passed → status ≡ (if passed then 7 else 0)
by_passes setup status is passed passed_is = is ∙ ap (λ (p : Bool). if p then 7 else 0) passed_is

report_ends : (setup : Setup) (report : List (List ℕ)) (status : ℕ) (lines : List (List ℕ)) → IsReport setup report status lines → NoneOf (1 ∷ 2 ∷ 3 ∷ 4 ∷ 5 ∷ []) status
report_ends setup report status lines is = by_passed (passes setup) refl
  where
    by_passed : (passed : Bool) → passes setup ≡ passed → NoneOf (1 ∷ 2 ∷ 3 ∷ 4 ∷ 5 ∷ []) status
    by_passed true passed_is = let seven : status ≡ 7 = by_passes setup status is.status_is true passed_is in λ one. grind (arith, seven, one)
    by_passed false passed_is = let zero : status ≡ 0 = by_passes setup status is.status_is false passed_is in λ one. grind (arith, zero, one)

bounded_ends : (setup : Setup) (status : ℕ) (lines : List (List ℕ)) →
    IsCaseBounded setup status lines → NoneOf (1 ∷ 2 ∷ 3 ∷ 4 ∷ 5 ∷ []) status
bounded_ends setup status lines (inl a) = report_ends _ _ status lines a.report
bounded_ends setup status lines (inr a) =
    let six : status ≡ 6 = a.status_is in λ one. grind (arith, six, one)

-- 1 to 5 are the status of no answer
pub answer_status : (form : Form) (slots : List (Option UnitFields)) (input : List ℕ) (status : ℕ) (lines : List (List ℕ)) → IsAnswer form slots input status lines → NoneOf (1 ∷ 2 ∷ 3 ∷ 4 ∷ 5 ∷ []) status
answer_status Run slots input status lines (inl a) = report_ends _ _ status lines a.report
answer_status Run slots input status lines (inr a) = refusal_ends _ status lines a.refusal
answer_status (Make number) slots input status lines a = report_ends _ _ status lines a
answer_status Check slots input status lines a = check_status slots input status lines a
answer_status Bound slots input status lines (inl a) =
    bounded_ends (setup_of a.case slots) status lines a.answer
answer_status Bound slots input status lines (inr a) = refusal_ends _ status lines a.refusal
answer_status Trace slots input status lines a = trace_status input status lines a
