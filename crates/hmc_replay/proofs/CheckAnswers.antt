-- What is due for a report that is checked.
use Rattle.std.proofs.Common.{inl, inr, ◌≡◌, ◌⊎◌, ◌∙◌, ◌≤◌, ◌<◌, ◌^◌, ◌-◌, ℕ, suc, Bool, true, false, nat_le, if◌then◌else◌, take, drop, length-drop, List, [], ◌∷◌, length, Option, None, Some, Result, Ok, Err, refl, sym, ap, subst, arith, lt-ltb}
use Rattle.std.specs.Prelude.{position, option_and_then}
use Rattle.hmc_case.specs.Case.{CaseFields, case_of}
use Rattle.hmc_case.specs.Line.{bad_line}
use Rattle.hmc_case.specs.Reading.{Fault}
use Rattle.hmc_check.proofs.SomeVerdict.{a_verdict}
use Rattle.hmc_check.proofs.Verdicts.{apart, one_count, one_least}
use Rattle.hmc_check.proofs.Fronts.{lines_in-few}
use Rattle.hmc_check.specs.Fronts.{front_lines, lines_in}
use Rattle.hmc_check.specs.Verdict.{IsLawfulReport, Fits, IsLeastUnfit, IsVerdict, capped}
use Rattle.hmc_check.specs.declared.checker.CheckFault.{CheckFault}
use Rattle.hmc_check.specs.declared.checker.CheckFault.TheVariants.{Unlawful}
use Rattle.hmc_codes.specs.Limits.{most_check_input}
use Rattle.hmc_journal.specs.Setup.{Setup, setup_of}
use Rattle.hmc_outside.specs.Views.{SinkView}
use Rattle.hmc_units.specs.Unit.{UnitFields}
use Rattle.hmc_replay.specs.Answered.{IsLine, Answers}
use Rattle.hmc_replay.specs.CheckAnswer.{no_head_line, lawful_line, unlawful_line, IsJudged, IsOfParts, IsCheckAnswer}
use Rattle.hmc_replay.specs.CheckInput.{CheckInput, is_feed, head_length, parted, parts_at, check_input}
use Rattle.hmc_replay.specs.Top.{NoneOf}
use Rattle.hmc_replay.specs.declared.run.RunError.{RunError}
use Rattle.hmc_replay.proofs.Answering.{answers_so}
use Rattle.hmc_replay.proofs.Refusals.{same_case, case_fault, line_is_one, refused_is_one, refusal_ends}

-- ---- what was written is due

pub answers_lawful : {O : Type 0} (view : O → SinkView) (old new : O) (setup : Setup)
    (report : List ℕ) (entries : ℕ) (result : Result (Unit {0}) RunError) →
    IsLawfulReport setup report entries →
    Answers (IsLine 0 (lawful_line entries)) result view old new →
    Answers (IsJudged setup report) result view old new
answers_lawful view old new setup report entries result lawful answer =
    answers_so (IsLine 0 (lawful_line entries)) (IsJudged setup report)
    (λ status lines due. inl (record { entries = entries; lawful = lawful; answer = due }))
    view old new result answer

pub answers_unlawful : {O : Type 0} (view : O → SinkView) (old new : O) (setup : Setup)
    (report : List ℕ) (number : ℕ) (result : Result (Unit {0}) RunError) →
    IsLeastUnfit setup report number →
    Answers (IsLine 8 (unlawful_line number)) result view old new →
    Answers (IsJudged setup report) result view old new
answers_unlawful view old new setup report number result unfit answer =
    answers_so (IsLine 8 (unlawful_line number)) (IsJudged setup report)
    (λ status lines due. inr (record { number = number; unfit = unfit; answer = due }))
    view old new result answer

-- ---- a verdict is due

-- the number of a line of an input that is not too long
number_few : (setup : Setup) (report : List ℕ) (k : ℕ) → length report ≤ most_check_input →
    ((k ≤ lines_in report) × (Fits setup (front_lines k report) → ⊥))
    ⊎ ((k ≡ suc (lines_in report)) × ((entries : ℕ) → IsLawfulReport setup report entries → ⊥)) →
    k < 2 ^ 32
number_few setup report k few (inl unfit) =
    let lines = lines_in-few report in let at = unfit.0 in omega (arith, few, lines, at)
number_few setup report k few (inr longer) =
    let lines = lines_in-few report in let at = longer.0 in omega (arith, few, lines, at)

capped_small : (k : ℕ) → k < 2 ^ 32 → capped k ≡ k
capped_small k small =
    ap (λ (b : Bool). if b then k else 2 ^ 32 - 1) (lt-ltb k (2 ^ 32) small)

pub verdict_lawful : {O : Type 0} (view : O → SinkView) (old new : O) (case : CaseFields)
    (bench slots : List (Option UnitFields)) (report : List ℕ) (found : Result ℕ CheckFault)
    (entries : ℕ) (result : Result (Unit {0}) RunError) → bench ≡ slots → found ≡ Ok entries →
    IsVerdict (setup_of case bench) report found →
    Answers (IsLine 0 (lawful_line entries)) result view old new →
    Answers (IsJudged (setup_of case slots) report) result view old new
verdict_lawful view old new case bench slots report found entries result same is verdict answer =
    answers_lawful view old new (setup_of case slots) report entries result
    (subst (λ (s : List (Option UnitFields)). IsLawfulReport (setup_of case s) report entries) same
    (verdict.lawful entries is))
    answer

pub verdict_unlawful : {O : Type 0} (view : O → SinkView) (old new : O) (case : CaseFields)
    (bench slots : List (Option UnitFields)) (report : List ℕ) (found : Result ℕ CheckFault)
    (number : ℕ) (result : Result (Unit {0}) RunError) → bench ≡ slots →
    length report ≤ most_check_input → found ≡ Err (Unlawful number) →
    IsVerdict (setup_of case bench) report found →
    Answers (IsLine 8 (unlawful_line number)) result view old new →
    Answers (IsJudged (setup_of case slots) report) result view old new
verdict_unlawful view old new case bench slots report found number result same few is verdict answer =
    let first = verdict.unlawful number is in
    let small = number_few (setup_of case bench) report first.0 few first.2.unfit in
    let number_is : number ≡ first.0 = first.1 ∙ capped_small first.0 small in
    answers_unlawful view old new (setup_of case slots) report number result
    (subst (λ (s : List (Option UnitFields)). IsLeastUnfit (setup_of case s) report number) same
    (subst (IsLeastUnfit (setup_of case bench) report) (sym number_is) first.2))
    answer

-- a report is judged by a case
pub answers_judged : {O : Type 0} (view : O → SinkView) (old new : O)
    (slots : List (Option UnitFields)) (parts : CheckInput) (case : CaseFields)
    (result : Result (Unit {0}) RunError) → case_of parts.case ≡ Ok case →
    Answers (IsJudged (setup_of case slots) parts.report) result view old new →
    Answers (IsOfParts slots parts) result view old new
answers_judged view old new slots parts case result is answer =
    answers_so (IsJudged (setup_of case slots) parts.report) (IsOfParts slots parts)
    (λ status lines due. inl (record { case = case; is_case = is; judged = due }))
    view old new result answer

-- ---- the parts of an input are no longer than it

parted_few : (rest : List ℕ) (bytes : ℕ) (parts : CheckInput) → parted rest bytes ≡ Some parts →
    length parts.report ≤ length rest
parted_few rest bytes parts is = by_test (nat_le bytes (length rest)) is
  where
    by_test : (test : Bool) →
        (if test then Some (record { case = take bytes rest; report = drop bytes rest }) else None)
        ≡ Some parts → length parts.report ≤ length rest
    by_test true same =
        let report : drop bytes rest ≡ parts.report = cc in
        omega (arith, length-drop bytes rest, ap length report)
    by_test false same = absurd (cc)

at_few : (input : List ℕ) (end : ℕ) (parts : CheckInput) → parts_at input end ≡ Some parts →
    length parts.report ≤ length input
at_few input end parts is = by_length (head_length (take end input)) is
  where
    by_length : (found : Option ℕ) →
        option_and_then (parted (drop (suc end) input)) found ≡ Some parts →
        length parts.report ≤ length input
    by_length None same = absurd (cc)
    by_length (Some bytes) same =
        let few = parted_few (drop (suc end) input) bytes parts same in
        omega (arith, few, length-drop (suc end) input)

pub parts_few : (input : List ℕ) (parts : CheckInput) → check_input input ≡ Some parts →
    length parts.report ≤ length input
unfolding check_input
parts_few input parts is = by_end (position is_feed input) is
  where
    by_end : (found : Option ℕ) → option_and_then (parts_at input) found ≡ Some parts →
        length parts.report ≤ length input
    by_end None same = absurd (cc)
    by_end (Some end) same = at_few input end parts same

-- the input has both parts, or not
pub answers_parts : {O : Type 0} (view : O → SinkView) (old new : O)
    (slots : List (Option UnitFields)) (input : List ℕ) (parts : CheckInput)
    (result : Result (Unit {0}) RunError) → check_input input ≡ Some parts →
    Answers (IsOfParts slots parts) result view old new →
    Answers (IsCheckAnswer slots input) result view old new
answers_parts view old new slots input parts result are answer =
    answers_so (IsOfParts slots parts) (IsCheckAnswer slots input)
    (λ status lines due. inr (record { parts = parts; are_parts = are; answer = due }))
    view old new result answer

pub answers_headless : {O : Type 0} (view : O → SinkView) (old new : O)
    (slots : List (Option UnitFields)) (input : List ℕ) (result : Result (Unit {0}) RunError) →
    check_input input ≡ None → Answers (IsLine 6 no_head_line) result view old new →
    Answers (IsCheckAnswer slots input) result view old new
answers_headless view old new slots input result none answer =
    answers_so (IsLine 6 no_head_line) (IsCheckAnswer slots input)
    (λ status lines due. inl (record { no_parts = none; answer = due })) view old new result answer

-- ---- it is one

judged_is_one : (setup : Setup) (report : List ℕ) (one other : ℕ) (first second : List (List ℕ)) →
    IsJudged setup report one first → IsJudged setup report other second →
    (one ≡ other) × (first ≡ second)
judged_is_one setup report one other first second (inl a) (inl b) =
    let same = one_count setup report b.entries a.entries b.lawful a.lawful in
    line_is_one 0 (lawful_line a.entries) one other first second a.answer
    (subst (λ (n : ℕ). IsLine 0 (lawful_line n) other second) same b.answer)
judged_is_one setup report one other first second (inl a) (inr b) =
    absurd (apart setup report a.entries b.number a.lawful b.unfit)
judged_is_one setup report one other first second (inr a) (inl b) =
    absurd (apart setup report b.entries a.number b.lawful a.unfit)
judged_is_one setup report one other first second (inr a) (inr b) =
    let same = one_least setup report b.number a.number b.unfit a.unfit in
    line_is_one 8 (unlawful_line a.number) one other first second a.answer
    (subst (λ (n : ℕ). IsLine 8 (unlawful_line n) other second) same b.answer)

parts_are_one : (slots : List (Option UnitFields)) (parts : CheckInput) (one other : ℕ)
    (first second : List (List ℕ)) → IsOfParts slots parts one first →
    IsOfParts slots parts other second → (one ≡ other) × (first ≡ second)
parts_are_one slots parts one other first second (inl a) (inl b) =
    let same = same_case (case_of parts.case) a.case b.case a.is_case b.is_case in
    judged_is_one (setup_of a.case slots) parts.report one other first second a.judged
    (subst (λ (k : CaseFields). IsJudged (setup_of k slots) parts.report other second) same b.judged)
parts_are_one slots parts one other first second (inl a) (inr b) =
    absurd (case_fault (case_of parts.case) a.case b.fault a.is_case b.is_fault)
parts_are_one slots parts one other first second (inr a) (inl b) =
    absurd (case_fault (case_of parts.case) b.case a.fault b.is_case a.is_fault)
parts_are_one slots parts one other first second (inr a) (inr b) =
    refused_is_one parts.case one other first second a b

same_parts : (cut : Option CheckInput) (parts other : CheckInput) → cut ≡ Some parts →
    cut ≡ Some other → other ≡ parts
same_parts cut parts other is as_other = cc

no_parts : (cut : Option CheckInput) (parts : CheckInput) → cut ≡ Some parts → cut ≡ None → ⊥
no_parts cut parts is none = cc

pub check_is_one : (slots : List (Option UnitFields)) (input : List ℕ) (one other : ℕ)
    (first second : List (List ℕ)) → IsCheckAnswer slots input one first →
    IsCheckAnswer slots input other second → (one ≡ other) × (first ≡ second)
check_is_one slots input one other first second (inl a) (inl b) =
    line_is_one 6 no_head_line one other first second a.answer b.answer
check_is_one slots input one other first second (inl a) (inr b) =
    absurd (no_parts (check_input input) b.parts b.are_parts a.no_parts)
check_is_one slots input one other first second (inr a) (inl b) =
    absurd (no_parts (check_input input) a.parts a.are_parts b.no_parts)
check_is_one slots input one other first second (inr a) (inr b) =
    let same = same_parts (check_input input) a.parts b.parts a.are_parts b.are_parts in
    parts_are_one slots a.parts one other first second a.answer
    (subst (λ (p : CheckInput). IsOfParts slots p other second) same b.answer)

-- 1 to 5 are the status of no answer
pub check_status : (slots : List (Option UnitFields)) (input : List ℕ) (status : ℕ)
    (lines : List (List ℕ)) → IsCheckAnswer slots input status lines →
    NoneOf (1 ∷ 2 ∷ 3 ∷ 4 ∷ 5 ∷ []) status
check_status slots input status lines (inl a) = refusal_ends _ status lines a.answer
check_status slots input status lines (inr a) = by a.answer
  where
    by : IsOfParts slots a.parts status lines → NoneOf (1 ∷ 2 ∷ 3 ∷ 4 ∷ 5 ∷ []) status
    by (inl b) = judged b.judged
      where
        judged : IsJudged (setup_of b.case slots) a.parts.report status lines →
            NoneOf (1 ∷ 2 ∷ 3 ∷ 4 ∷ 5 ∷ []) status
        judged (inl c) =
            let zero : status ≡ 0 = c.answer.status_is in λ one. grind (arith, zero, one)
        judged (inr c) =
            let eight : status ≡ 8 = c.answer.status_is in λ one. grind (arith, eight, one)
    by (inr b) = refusal_ends _ status lines b.refusal

-- ---- and each input has one

judged_is_there : (setup : Setup) (report : List ℕ) →
    ((entries : ℕ) × IsLawfulReport setup report entries)
    ⊎ ((number : ℕ) × IsLeastUnfit setup report number) →
    (status : ℕ) × (lines : List (List ℕ)) × IsJudged setup report status lines
judged_is_there setup report (inl is) = (
  0,
  lawful_line is.0 ∷ [],
  inl (record {
    entries = is.0;
    lawful = is.1;
    answer = record { status_is = refl; lines_are = refl };
  }),
)
judged_is_there setup report (inr is) = (
  8,
  unlawful_line is.0 ∷ [],
  inr (record {
    number = is.0;
    unfit = is.1;
    answer = record { status_is = refl; lines_are = refl };
  }),
)

parts_are_answered : (slots : List (Option UnitFields)) (parts : CheckInput) →
    (status : ℕ) × (lines : List (List ℕ)) × IsOfParts slots parts status lines
parts_are_answered slots parts = by_case (case_of parts.case) refl
  where
    by_case : (result : Result CaseFields Fault) → case_of parts.case ≡ result →
        (status : ℕ) × (lines : List (List ℕ)) × IsOfParts slots parts status lines
    by_case (Ok case) is =
        let setup = setup_of case slots in
        let judged = judged_is_there setup parts.report (a_verdict setup parts.report) in
        (judged.0, judged.1, inl (record { case = case; is_case = is; judged = judged.2 }))
    by_case (Err fault) is = (
      6,
      bad_line fault ∷ [],
      inr (record {
        fault = fault;
        is_fault = is;
        refusal = record { status_is = refl; lines_are = refl };
      }),
    )

pub check_is_answered : (slots : List (Option UnitFields)) (input : List ℕ) →
    (status : ℕ) × (lines : List (List ℕ)) × IsCheckAnswer slots input status lines
check_is_answered slots input = by_parts (check_input input) refl
  where
    by_parts : (cut : Option CheckInput) → check_input input ≡ cut →
        (status : ℕ) × (lines : List (List ℕ)) × IsCheckAnswer slots input status lines
    by_parts None none = (
      6,
      no_head_line ∷ [],
      inl (record { no_parts = none; answer = record { status_is = refl; lines_are = refl } }),
    )
    by_parts (Some parts) are =
        let answer = parts_are_answered slots parts in (
          answer.0,
          answer.1,
          inr (record { parts = parts; are_parts = are; answer = answer.2 }),
        )
