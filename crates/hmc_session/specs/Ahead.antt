-- Steps that are laid down ahead.
use Rattle.std.specs.Prelude.{◌≡◌, List, [], ◌∷◌, Option, Some, None, Result, Ok, Err, OnOk, OnErr, IfOk, IfErr}
use Rattle.hmc_schedule.specs.declared.step.Step.{Step}
use Rattle.hmc_entries.specs.declared.entry.Entry.{Entry}
use Rattle.hmc_journal.specs.Next.{next}
use Rattle.hmc_journal.specs.Setup.{Setup}
use Rattle.hmc_growing.specs.Growing.{with_step}
use Rattle.hmc_net.specs.Went.{went_of}
use Rattle.hmc_net.specs.declared.went.Went.{Went}
use Rattle.hmc_session.specs.Refusals.{step_refusal}
use Rattle.hmc_session.specs.Session.{SessionFields, StandsIn, IsWaiting}
use Rattle.hmc_session.specs.declared.refusal.NotTaken.{NotTaken}
use Rattle.hmc_session.specs.declared.refusal.NotTaken.TheVariants.{Waits}

-- What becomes of a session by a step, and what is returned. It is taken exactly where nothing
-- refuses it: then the session stands for the case with this step, and for the journal with its
-- entry. Else nothing changes. Where it waits, it is a give of a host that has no request left.
pub record StepsBy (before now : SessionFields) (step : Step)
    (result : Result (Option Went) NotTaken) : Type 0 where
  pub refused : IfErr result (λ refusal. step_refusal before step ≡ Some refusal)
  pub taken : OnOk result (step_refusal before step ≡ None)
  pub same : OnErr result (now ≡ before)
  pub stands : (setup : Setup) (past : List Entry) → StandsIn before setup past →
      OnOk result (StandsIn now (with_step setup step) (next setup past step ∷ past))
  pub waits : (setup : Setup) (past : List Entry) → StandsIn before setup past →
      result ≡ Err Waits → IsWaiting before.finished setup past step
  pub went : (setup : Setup) (past : List Entry) → StandsIn before setup past →
      IfOk result (λ went. went ≡ Some (went_of (next setup past step)))

-- no step was left, and nothing changed
pub record IsWithoutStep (result : Result (Option Went) NotTaken) (before now : SessionFields)
    (left : List Step) : Type 0 where
  pub none : result ≡ Ok None
  pub same : now ≡ before
  pub nothing_left : left ≡ []
