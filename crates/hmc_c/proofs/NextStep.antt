-- The next of the steps that are laid down.
use Rattle.std.proofs.Common.{◌≡◌, false, List, [], ◌∷◌, Option, Some, None, ap, inl, refl, sym, subst}
use Rattle.std.specs.Prelude.{Result, Ok, Err}
use Rattle.hmc_schedule.specs.declared.step.Step.{Step}
use Rattle.hmc_entries.specs.declared.entry.Entry.{Entry}
use Rattle.hmc_journal.specs.Setup.{Setup}
use Rattle.hmc_journal.specs.Next.{next}
use Rattle.hmc_net.specs.Went.{went_of}
use Rattle.hmc_net.specs.declared.went.Went.{Went}
use Rattle.hmc_session.specs.Ahead.{IsWithoutStep}
use Rattle.hmc_session.specs.Ahead as ahead
use Rattle.hmc_session.specs.Refusals.{step_refusal}
use Rattle.hmc_session.specs.Session.{SessionFields, StandsIn}
use Rattle.hmc_session.specs.declared.refusal.NotTaken.{NotTaken}
use Rattle.hmc_c.specs.Laying.{NextBy, next_status}
use Rattle.hmc_c.specs.Status.{refused_status, taken_status}
use Rattle.hmc_c.specs.Steps.{TakesBy}

abbrev nothing : Option Went
nothing = None

no_went : (went : Went) → nothing ≡ Some went → ⊥
no_went went e = cc

-- one that was taken, or refused
step_by : (step : Step) (result : Result (Option Went) NotTaken) (before now : SessionFields)
    (setup : Setup) (past : List Entry) → ahead.StepsBy before now step result →
    StandsIn before setup past →
    TakesBy (next_status result) (step_refusal before step) (StandsIn now) setup past step
step_by step (Ok (Some went)) before now setup past by stands =
    let goes : Some went ≡ Some (went_of (next setup past step)) = by.went setup past stands in
    let is : went ≡ went_of (next setup past step) = cc in
    subst (λ (r : Option NotTaken). TakesBy (taken_status went) r (StandsIn now) setup past step) (sym by.taken)
    (ap taken_status is, by.stands setup past stands)
step_by step (Ok None) before now setup past by stands =
    absurd (no_went (went_of (next setup past step)) (by.went setup past stands))
step_by step (Err refusal) before now setup past by stands =
    subst (λ (r : Option NotTaken). TakesBy (refused_status refusal) r (StandsIn now) setup past step) (sym by.refused)
    (refl, subst (λ (s : SessionFields). StandsIn s setup past) (sym by.same) stands)

pub next_by : (laid left : List Step) (result : Result (Option Went) NotTaken)
    (before now : SessionFields) (setup : Setup) (past : List Entry) →
    (laid ≡ [] → IsWithoutStep result before now left) →
    ((step : Step) (rest : List Step) → laid ≡ step ∷ rest →
    (left ≡ rest) × ahead.StepsBy before now step result) →
    StandsIn before setup past →
    NextBy (next_status result) false before (StandsIn now) setup past laid left
next_by [] left result before now setup past none some stands =
    let without = none refl in
    (ap next_status without.none, subst (λ (s : SessionFields). StandsIn s setup past) (sym without.same) stands, without.nothing_left)
next_by (step ∷ rest) left result before now setup past none some stands =
    let by = some step rest refl in
    inl (step_by step result before now setup past by.1 stands, by.0)
