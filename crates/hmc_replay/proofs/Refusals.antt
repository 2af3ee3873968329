-- Bytes are one case, or have one first fault.
use Rattle.std.proofs.Common.{◌≡◌, ◌∙◌, ℕ, List, [], ◌∷◌, Result, Ok, Err, sym, ap, arith}
use Rattle.hmc_case.specs.Case.{CaseFields, case_of}
use Rattle.hmc_case.specs.Line.{bad_line}
use Rattle.hmc_case.specs.Reading.{Fault}
use Rattle.hmc_replay.specs.Answered.{IsLine}
use Rattle.hmc_replay.specs.RunAnswer.{IsRefused}
use Rattle.hmc_replay.specs.Top.{NoneOf}

pub same_case : (result : Result CaseFields Fault) (case other : CaseFields) → result ≡ Ok case →
    result ≡ Ok other → other ≡ case
same_case result case other is as_other = cc

same_fault_of : (result : Result CaseFields Fault) (fault other : Fault) → result ≡ Err fault →
    result ≡ Err other → fault ≡ other
same_fault_of result fault other is as_other = cc

pub case_fault : (result : Result CaseFields Fault) (case : CaseFields) (fault : Fault) →
    result ≡ Ok case → result ≡ Err fault → ⊥
case_fault result case fault is other = cc

-- a line is one
pub line_is_one : (due : ℕ) (line : List ℕ) (one other : ℕ) (first second : List (List ℕ)) →
    IsLine due line one first → IsLine due line other second → (one ≡ other) × (first ≡ second)
line_is_one due line one other first second a b =
    (a.status_is ∙ sym b.status_is, a.lines_are ∙ sym b.lines_are)

pub refused_is_one : (input : List ℕ) (one other : ℕ) (first second : List (List ℕ)) →
    IsRefused input one first → IsRefused input other second → (one ≡ other) × (first ≡ second)
refused_is_one input one other first second a b =
    let same = same_fault_of (case_of input) a.fault b.fault a.is_fault b.is_fault in (
      a.refusal.status_is ∙ sym b.refusal.status_is,
      a.refusal.lines_are ∙ ap (λ (f : Fault). bad_line f ∷ []) same ∙ sym b.refusal.lines_are,
    )

-- its status is none of those that have other causes
pub refusal_ends : (line : List ℕ) (status : ℕ) (lines : List (List ℕ)) →
    IsLine 6 line status lines → NoneOf (1 ∷ 2 ∷ 3 ∷ 4 ∷ 5 ∷ []) status
refusal_ends line status lines is =
    let six : status ≡ 6 = is.status_is in λ one. grind (arith, six, one)
