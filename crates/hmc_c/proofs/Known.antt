-- Steps that are laid down are known, and so are those that are left of them.
use Rattle.std.proofs.Common.{◌≡◌, ◌++◌, ℕ, Bool, List, [], ◌∷◌, Option, Some, None, inl, inr, refl, sym, subst, arith}
use Rattle.std.specs.List.{All}
use Rattle.std.proofs.lemmas.List.Elements.{All-head, All-tail}
use Rattle.hmc_schedule.specs.Plan.{PlanFields, IsStepOf}
use Rattle.hmc_schedule.specs.declared.step.Step.{Step}
use Rattle.hmc_entries.specs.declared.entry.Entry.{Entry}
use Rattle.hmc_journal.specs.Next.{next}
use Rattle.hmc_journal.specs.Setup.{Setup}
use Rattle.hmc_net.specs.Went.{went_of}
use Rattle.hmc_net.specs.declared.went.Went.{Went}
use Rattle.hmc_net.specs.declared.went.Went.TheVariants.{Done, Idle, Passed}
use Rattle.hmc_session.specs.Refusals.{step_refusal}
use Rattle.hmc_session.specs.Running.{RunsBy}
use Rattle.hmc_session.specs.Session.{SessionFields}
use Rattle.hmc_session.specs.declared.refusal.NotTaken.{NotTaken}
use Rattle.hmc_session.specs.declared.refusal.NotTaken.TheVariants as refusals
use Rattle.hmc_session.specs.declared.run.Ran.{Ran}
use Rattle.hmc_session.specs.declared.run.Ran.TheVariants.{Stopped, Tried, Ended, Unknown, Over}
use Rattle.hmc_session.specs.declared.stops.Stops.{Stops}
use Rattle.hmc_session.proofs.Known.{known_step}
use Rattle.hmc_c.specs.Handles.{HandleKeepsParts, KnowsLaid, Stands, laid_in, shown}
use Rattle.hmc_c.specs.Kept.{KeepsParts, has_tape}
use Rattle.hmc_c.specs.Laying.{IsNexted, IsRun, NextBy, RunBy, ran_status}
use Rattle.hmc_c.specs.Status.{none, taken_status}
use Rattle.hmc_c.specs.Steps.{TakesBy}
use Rattle.hmc_c.specs.declared.held.Held.{Held}

-- ---- the steps of a case

pub all_known : (of plan : PlanFields) (steps laid : List Step) → plan ≡ of → laid ≡ steps →
    All (IsStepOf of) steps → All (IsStepOf plan) laid
all_known of plan steps laid same is all =
    subst (All (IsStepOf plan)) (sym is) (subst (λ (p : PlanFields). All (IsStepOf p) steps) (sym same) all)

-- ---- what isn't said of steps that are known

was_taken : (went : Went) → none ≡ taken_status went → ⊥
was_taken Passed is = absurd (omega (arith, is))
was_taken Done is = absurd (omega (arith, is))
was_taken (Idle cause) is = absurd (omega (arith, is))

never_none : (S : Setup → List Entry → Type 0) (setup : Setup) (past : List Entry) (step : Step)
    (refusal : Option NotTaken) → (refusal ≡ Some refusals.Unknown → ⊥) →
    TakesBy none refusal S setup past step → ⊥
never_none S setup past step (Some refusals.Unknown) known is = known refl
never_none S setup past step (Some refusals.Over) known is = absurd (omega (arith, is.0))
never_none S setup past step (Some refusals.Waits) known is = absurd (omega (arith, is.0))
never_none S setup past step None known is = was_taken (went_of (next setup past step)) is.0

none_next : (S : Setup → List Entry → Type 0) (tape : Bool) (old : SessionFields) (setup : Setup)
    (past : List Entry) (laid left : List Step) → All (IsStepOf old.plan) laid →
    NextBy none tape old S setup past laid left → laid ≡ []
none_next S tape old setup past [] left all is = refl
none_next S tape old setup past (step ∷ rest) left all (inl is) =
    absurd (never_none S setup past step (step_refusal old step) (known_step old step (All-head (IsStepOf old.plan) step rest all)) is.0)
none_next S tape old setup past (step ∷ rest) left all (inr is) = absurd (omega (arith, is.0.2))

pub none_nexted : (old new : Option Held) (setup : Setup) (past : List Entry) → KnowsLaid old →
    IsNexted none old new setup past → laid_in old ≡ []
none_nexted None new setup past all is = absurd is
none_nexted (Some old) None setup past all is = absurd is
none_nexted (Some old) (Some new) setup past all is =
    none_next (Stands new) (has_tape old.kept) (shown old) setup past old.laid new.laid all is

-- ---- the same of a run

all_after : (P : Step → Type 0) (some rest : List Step) → All P (some ++ rest) → All P rest
all_after P [] rest all = all
all_after P (step ∷ some) rest all = all_after P some rest (All-tail P step (some ++ rest) all)

-- what is left of steps that were tried
left_of : (P : Step → Type 0) (laid tried left : List Step) → laid ≡ tried ++ left → All P laid →
    All P left
left_of P laid tried left is all = all_after P tried left (subst (All P) is all)

ran_none : (S : Setup → List Entry → Type 0) (ran : Ran) (now : SessionFields) (setup : Setup)
    (past : List Entry) (laid left : List Step) (stops : Stops) (most : ℕ) →
    none ≡ ran_status ran → All (IsStepOf now.plan) laid →
    RunsBy S ran now setup past laid left stops most → left ≡ []
ran_none S Stopped now setup past laid left stops most is all runs = absurd (omega (arith, is))
ran_none S Tried now setup past laid left stops most is all runs = absurd (omega (arith, is))
ran_none S Ended now setup past laid left stops most is all runs = runs.2
ran_none S Unknown now setup past laid left stops most is all runs =
    let of : All (IsStepOf now.plan) (runs.step ∷ left) = left_of (IsStepOf now.plan) laid runs.runs.tried (runs.step ∷ left) runs.runs.laid_is all in
    absurd (known_step now runs.step (All-head (IsStepOf now.plan) runs.step left of) runs.refused)
ran_none S Over now setup past laid left stops most is all runs = absurd (omega (arith, is))

none_run : (S : Setup → List Entry → Type 0) (tape : Bool) (now : SessionFields) (setup : Setup)
    (past : List Entry) (laid left : List Step) (stops : Stops) (most : ℕ) →
    All (IsStepOf now.plan) laid → RunBy none tape S now setup past laid left stops most →
    left ≡ []
none_run S tape now setup past laid left stops most all (inl is) =
    ran_none S is.ran now setup past laid left stops most is.ended all is.runs
none_run S tape now setup past laid left stops most all (inr is) =
    absurd (omega (arith, is.lacks))

-- the plan stays
with_plan : (old new : Held) (laid : List Step) → KeepsParts old.kept new.kept →
    All (IsStepOf (shown old).plan) laid → All (IsStepOf (shown new).plan) laid
with_plan old new laid parts all =
    subst (λ (plan : PlanFields). All (IsStepOf plan) laid) (sym parts.plan) all

pub none_ran : (old new : Option Held) (setup : Setup) (past : List Entry) (stops : Stops)
    (most steps : ℕ) → KnowsLaid old → HandleKeepsParts old new →
    IsRun none old new setup past stops most steps → laid_in new ≡ []
none_ran None new setup past stops most steps all parts is = absurd is
none_ran (Some old) None setup past stops most steps all parts is = absurd is
none_ran (Some old) (Some new) setup past stops most steps all parts is =
    none_run (Stands new) (has_tape old.kept) (shown new) setup past old.laid new.laid stops most (with_plan old new old.laid parts all) is.0

-- ---- what is left is known

next_left : (P : Step → Type 0) (S : Setup → List Entry → Type 0) (status : ℕ) (tape : Bool)
    (old : SessionFields) (setup : Setup) (past : List Entry) (laid left : List Step) →
    All P laid → NextBy status tape old S setup past laid left → All P left
next_left P S status tape old setup past [] left all is = subst (All P) (sym is.2) all
next_left P S status tape old setup past (step ∷ rest) left all (inl is) =
    subst (All P) (sym is.1) (All-tail P step rest all)
next_left P S status tape old setup past (step ∷ rest) left all (inr is) =
    subst (All P) (sym is.1) all

pub nexted_known : (status : ℕ) (old new : Option Held) (setup : Setup) (past : List Entry) →
    KnowsLaid old → HandleKeepsParts old new → IsNexted status old new setup past →
    KnowsLaid new
nexted_known status None new setup past all parts is = absurd is
nexted_known status (Some old) None setup past all parts is = absurd is
nexted_known status (Some old) (Some new) setup past all parts is =
    with_plan old new new.laid parts
    (next_left (IsStepOf (shown old).plan) (Stands new) status (has_tape old.kept) (shown old) setup past old.laid new.laid all is)

ran_left : (P : Step → Type 0) (S : Setup → List Entry → Type 0) (ran : Ran)
    (now : SessionFields) (setup : Setup) (past : List Entry) (laid left : List Step)
    (stops : Stops) (most : ℕ) → All P laid →
    RunsBy S ran now setup past laid left stops most → All P left
ran_left P S Stopped now setup past laid left stops most all runs =
    left_of P laid runs.2.tried left runs.2.laid_is all
ran_left P S Tried now setup past laid left stops most all runs =
    left_of P laid runs.tried left runs.laid_is all
ran_left P S Ended now setup past laid left stops most all runs =
    left_of P laid runs.3.tried left runs.3.laid_is all
ran_left P S Unknown now setup past laid left stops most all runs =
    All-tail P runs.step left (left_of P laid runs.runs.tried (runs.step ∷ left) runs.runs.laid_is all)
ran_left P S Over now setup past laid left stops most all runs =
    All-tail P runs.step left (left_of P laid runs.runs.tried (runs.step ∷ left) runs.runs.laid_is all)

run_left : (P : Step → Type 0) (S : Setup → List Entry → Type 0) (status : ℕ) (tape : Bool)
    (now : SessionFields) (setup : Setup) (past : List Entry) (laid left : List Step)
    (stops : Stops) (most : ℕ) → All P laid →
    RunBy status tape S now setup past laid left stops most → All P left
run_left P S status tape now setup past laid left stops most all (inl is) =
    ran_left P S is.ran now setup past laid left stops most all is.runs
run_left P S status tape now setup past laid left stops most all (inr is) =
    left_of P laid is.runs.tried left is.runs.laid_is all

pub ran_known : (status : ℕ) (old new : Option Held) (setup : Setup) (past : List Entry)
    (stops : Stops) (most steps : ℕ) → KnowsLaid old → HandleKeepsParts old new →
    IsRun status old new setup past stops most steps → KnowsLaid new
ran_known status None new setup past stops most steps all parts is = absurd is
ran_known status (Some old) None setup past stops most steps all parts is = absurd is
ran_known status (Some old) (Some new) setup past stops most steps all parts is =
    with_plan old new new.laid parts
    (run_left (IsStepOf (shown old).plan) (Stands new) status (has_tape old.kept) (shown new) setup past old.laid new.laid stops most all is.0)
