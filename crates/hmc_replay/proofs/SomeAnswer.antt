-- Something is due for each input: each case is a network, so its journal has the guarantees.
use Rattle.std.proofs.Common.{inl, inr, ◌≡◌, ◌⊎◌, ℕ, zero, suc, List, ◌∷◌, [], length, Option, Result, Ok, Err, refl, arith}
use Rattle.hmc_case.specs.Case.{CaseFields, IsCase, case_of}
use Rattle.hmc_case.specs.Line.{bad_line}
use Rattle.hmc_case.specs.Reading.{Fault}
use Rattle.hmc_bound.specs.Appended.{BoundDrains}
use Rattle.hmc_bound.specs.Ends.{EndsDrained}
use Rattle.hmc_journal.specs.Guarantees.{Guarantees}
use Rattle.hmc_journal.specs.Lawful.{journal_of}
use Rattle.hmc_journal.specs.Network.{IsNetwork}
use Rattle.hmc_journal.specs.Setup.{Setup, Topology, setup_of}
use Rattle.hmc_journal.proofs.Networks.{network_of}
use Rattle.hmc_make.specs.Numbered.{case_of_number}
use Rattle.hmc_rounds.specs.Single.{IsSingle}
use Rattle.hmc_units.specs.Unit.{UnitFields}
use Rattle.hmc_replay.specs.Answer.{IsAnswer}
use Rattle.hmc_replay.specs.BoundAnswer.{single_fault, IsBoundAnswer}
use Rattle.hmc_replay.specs.MakeAnswer.{made_setup, IsMakeAnswer}
use Rattle.hmc_replay.specs.Report.{report_of, short_report_of, bound_report_of, report_status}
use Rattle.hmc_replay.specs.Reported.{IsReport}
use Rattle.hmc_replay.specs.RunAnswer.{IsRefusal, IsRunAnswer}
use Rattle.hmc_replay.specs.declared.form.Form.{Form}
use Rattle.hmc_replay.specs.declared.form.Form.TheVariants.{Run, Make, Check, Bound, Trace}
use Rattle.hmc_replay.proofs.CheckAnswers.{check_is_answered}
use Rattle.hmc_replay.proofs.TraceAnswers.{trace_is_answered}
use Rattle.hmc_replay.proofs.Reports.{due_report}

-- what is said of the journal of a setup
abbrev pub IsSound : Setup → Type 0
IsSound setup = Guarantees setup (journal_of setup) × EndsDrained setup

-- a report of these lines is due
pub report_is_there : (setup : Setup) (report : List (List ℕ)) → IsSound setup →
    IsReport setup report (report_status setup) report
report_is_there setup report sound = due_report setup report sound.0 sound.1

-- the line of a fault is due
fault_is_there : (fault : Fault) → IsRefusal fault 6 (bad_line fault ∷ [])
fault_is_there fault = record { status_is = refl; lines_are = refl }

pub run_is_answered : (slots : List (Option UnitFields)) (input : List ℕ) →
    ((case : CaseFields) → case_of input ≡ Ok case → IsSound (setup_of case slots)) →
    (status : ℕ) × (lines : List (List ℕ)) × IsRunAnswer slots input status lines
run_is_answered slots input sound = by_case (case_of input) refl
  where
    by_case : (result : Result CaseFields Fault) → case_of input ≡ result →
        (status : ℕ) × (lines : List (List ℕ)) × IsRunAnswer slots input status lines
    by_case (Ok case) is =
        let setup = setup_of case slots in (
          report_status setup,
          report_of setup,
          inl (record {
            case = case;
            is_case = is;
            report = report_is_there setup (report_of setup) (sound case is);
          }),
        )
    by_case (Err fault) is = (
      6,
      bad_line fault ∷ [],
      inr (record { fault = fault; is_fault = is; refusal = fault_is_there fault }),
    )

pub make_is_answered : (slots : List (Option UnitFields)) (number : ℕ) →
    IsSound (made_setup slots number) →
    IsMakeAnswer number slots (report_status (made_setup slots number))
    (short_report_of (made_setup slots number))
make_is_answered slots number sound =
    report_is_there (made_setup slots number) (short_report_of (made_setup slots number)) sound

-- a topology has one cube and one link, or not
one_or_other : (a b : ℕ) → ((a ≡ 1) × (b ≡ 1)) ⊎ ((a ≡ 1) × (b ≡ 1) → ⊥)
one_or_other (suc zero) (suc zero) = inl (refl, refl)
one_or_other zero b = inr (λ both. omega (arith, both.0))
one_or_other (suc (suc a)) b = inr (λ both. omega (arith, both.0))
one_or_other (suc zero) zero = inr (λ both. omega (arith, both.1))
one_or_other (suc zero) (suc (suc b)) = inr (λ both. omega (arith, both.1))

pub single_or_not : (topology : Topology) → IsSingle topology ⊎ (IsSingle topology → ⊥)
single_or_not topology =
    by_lengths (one_or_other (length topology.cubes) (length topology.links))
  where
    by_lengths : ((length topology.cubes ≡ 1) × (length topology.links ≡ 1))
        ⊎ ((length topology.cubes ≡ 1) × (length topology.links ≡ 1) → ⊥) →
        IsSingle topology ⊎ (IsSingle topology → ⊥)
    by_lengths (inl both) = inl (record { cubes = both.0; links = both.1 })
    by_lengths (inr more) = inr (λ single. more (single.cubes, single.links))

pub bound_is_answered : (slots : List (Option UnitFields)) (input : List ℕ) →
    ((case : CaseFields) → case_of input ≡ Ok case →
    IsSound (setup_of case slots)
    × (IsSingle (setup_of case slots).topology → BoundDrains (setup_of case slots))) →
    (status : ℕ) × (lines : List (List ℕ)) × IsBoundAnswer slots input status lines
bound_is_answered slots input sound = by_case (case_of input) refl
  where
    by_single : (case : CaseFields) → case_of input ≡ Ok case →
        IsSingle (setup_of case slots).topology ⊎ (IsSingle (setup_of case slots).topology → ⊥) →
        (status : ℕ) × (lines : List (List ℕ)) × IsBoundAnswer slots input status lines
    by_single case is (inl single) =
        let setup = setup_of case slots in (
          report_status setup,
          bound_report_of setup,
          inl (record {
            case = case;
            is_case = is;
            answer = inl (record {
              single = single;
              report = report_is_there setup (bound_report_of setup) (sound case is).0;
              drains = (sound case is).1 single;
            });
          }),
        )
    by_single case is (inr more) = (
      6,
      single_fault ∷ [],
      inl (record {
        case = case;
        is_case = is;
        answer = inr (record { more = more; status_is = refl; lines_are = refl });
      }),
    )

    by_case : (result : Result CaseFields Fault) → case_of input ≡ result →
        (status : ℕ) × (lines : List (List ℕ)) × IsBoundAnswer slots input status lines
    by_case (Ok case) is = by_single case is (single_or_not (setup_of case slots).topology)
    by_case (Err fault) is = (
      6,
      bad_line fault ∷ [],
      inr (record { fault = fault; is_fault = is; refusal = fault_is_there fault }),
    )

-- what is known of cases and journals
module _ (read : (bytes : List ℕ) (case : CaseFields) → case_of bytes ≡ Ok case → IsCase case)
    (made : (number : ℕ) → IsCase (case_of_number number))
    (guaranteed : (setup : Setup) → IsNetwork setup → Guarantees setup (journal_of setup))
    (ends : (setup : Setup) → IsNetwork setup → EndsDrained setup)
    (appended : (setup : Setup) → IsNetwork setup → IsSingle setup.topology → BoundDrains setup) where
  sound : (setup : Setup) → IsNetwork setup → IsSound setup
  sound setup is = (guaranteed setup is, ends setup is)

  network : (slots : List (Option UnitFields)) (input : List ℕ) (case : CaseFields) → case_of input ≡ Ok case → IsNetwork (setup_of case slots)
  network slots input case is = network_of case slots (read input case is)

  pub is_answered : (form : Form) (slots : List (Option UnitFields)) (input : List ℕ) → (status : ℕ) × (lines : List (List ℕ)) × IsAnswer form slots input status lines
  is_answered Run slots input = run_is_answered slots input (λ case is. sound (setup_of case slots) (network slots input case is))
  is_answered (Make number) slots input =
      let setup = made_setup slots number in
      (report_status setup, short_report_of setup, make_is_answered slots number (sound setup (network_of (case_of_number number) slots (made number))))
  is_answered Check slots input = check_is_answered slots input
  is_answered Bound slots input =
      bound_is_answered slots input (λ case is.
      let setup = setup_of case slots in
      let there = network slots input case is in
      (sound setup there, appended setup there))
  is_answered Trace slots input = trace_is_answered input
