-- One step of a run of a taped session.
use Rattle.std.specs.Prelude.{◌≡◌, List, ◌∷◌, false, Option, None, Result, Ok, Err}
use Rattle.hmc_codes.specs.declared.memory.Memory.{Memory}
use Rattle.hmc_schedule.specs.declared.step.Step.{Step}
use Rattle.hmc_entries.specs.declared.entry.Entry.{Entry}
use Rattle.hmc_journal.specs.Setup.{Setup}
use Rattle.hmc_session.specs.Refusals.{step_refusal}
use Rattle.hmc_session.specs.Running.{RunsOn, TriesBy}
use Rattle.hmc_session.specs.Session.{SessionFields}
use Rattle.hmc_session.specs.declared.run.Ran.{Ran}
use Rattle.hmc_session.specs.declared.stops.Stops.{Stops}
use Rattle.hmc_tape.specs.Tape.{TapedFields, IsTapeOf}

-- a step is left, and nothing refuses the first one
pub record HasFreeNext (session : SessionFields) (left : List Step) : Type 0 where
  pub step : Step
  pub rest : List Step
  pub left_is : left ≡ step ∷ rest
  pub free : step_refusal session step ≡ None

-- one step was tried, and the run goes on or ends with it; or the tape had no room for the first of
-- the steps that are left
abbrev pub TapesTry : Result (Option Ran) Memory → TapedFields → Setup → List Entry →
    (laid left : List Step) → Stops → Type 0
TapesTry (Ok ran) now setup past laid left stops =
    TriesBy (IsTapeOf now) ran now.session setup past laid left stops
TapesTry (Err memory) now setup past laid left stops =
    HasFreeNext now.session left
    × RunsOn (IsTapeOf now) now.session.finished setup past laid left stops 0 false
