-- What the calls of a taped session leave and return.
use Rattle.std.specs.Prelude.{◌≡◌, ◌<◌, ℕ, false, List, [], ◌∷◌, Option, Some, None, Result, Ok, Err, OnOk, OnErr, IfOk, IfErr}
use Rattle.hmc_codes.specs.declared.memory.Memory.{Memory}
use Rattle.hmc_script.specs.Items.{ItemFields}
use Rattle.hmc_schedule.specs.declared.step.Step.{Step}
use Rattle.hmc_entries.specs.declared.entry.Entry.{Entry}
use Rattle.hmc_journal.specs.Next.{next}
use Rattle.hmc_journal.specs.Setup.{Setup}
use Rattle.hmc_growing.specs.Growing.{with_step, with_item}
use Rattle.hmc_net.specs.Went.{went_of}
use Rattle.hmc_net.specs.declared.went.Went.{Went}
use Rattle.hmc_session.specs.Asking.{item_in}
use Rattle.hmc_session.specs.Refusals.{step_refusal}
use Rattle.hmc_session.specs.Running.{RunsOn, RunsBy}
use Rattle.hmc_session.specs.Session.{IsWaiting}
use Rattle.hmc_session.specs.declared.refusal.NotTaken.{NotTaken}
use Rattle.hmc_session.specs.declared.refusal.NotTaken.TheVariants.{Waits}
use Rattle.hmc_session.specs.declared.run.Ran.{Ran}
use Rattle.hmc_session.specs.declared.stops.Stops.{Stops}
use Rattle.hmc_tape.specs.declared.taped.NotTaped.{NotTaped}
use Rattle.hmc_tape.specs.declared.taped.NotTaped.TheVariants as causes
use Rattle.hmc_tape.specs.Tape.{TapedFields, IsTapeOf}
use Rattle.hmc_tape.specs.Tries.{HasFreeNext}

-- why the session refuses the step: for no cause where the tape is out of memory
abbrev pub refusal_of : NotTaped → Option NotTaken
refusal_of (causes.Refused refusal) = Some refusal
refusal_of causes.Memory = None

-- What becomes of a taped session by a step, and what is returned. An error is the session's
-- refusal, or the tape is out of memory where there is none; then nothing changes. Else the tape is
-- that of the case with this step, whose journal has its entry. Where the step waits, it is a give
-- of a host that has no request left.
pub record TapesBy (before now : TapedFields) (step : Step) (result : Result Went NotTaped)
    : Type 0 where
  pub refused : IfErr result
      (λ cause. step_refusal before.session step ≡ refusal_of cause)
  pub taken : OnOk result (step_refusal before.session step ≡ None)
  pub same : OnErr result (now ≡ before)
  pub tape : (setup : Setup) (past : List Entry) → IsTapeOf before setup past →
      OnOk result (IsTapeOf now (with_step setup step) (next setup past step ∷ past))
  pub went : (setup : Setup) (past : List Entry) → IsTapeOf before setup past →
      IfOk result (λ went. went ≡ went_of (next setup past step))
  pub waits : (setup : Setup) (past : List Entry) → IsTapeOf before setup past →
      result ≡ Err (causes.Refused Waits) → IsWaiting before.session.finished setup past step

-- the first of some laid steps is taken or refused as by a call that takes it, and is off the list,
-- unless the tape is out of memory: then it stays
abbrev pub TapesNext : (before now : TapedFields) → Step → (rest left : List Step) →
    Result (Option Went) NotTaped → Type 0
TapesNext before now step rest left (Ok None) = ⊥
TapesNext before now step rest left (Ok (Some went)) =
    (left ≡ rest) × TapesBy before now step (Ok went)
TapesNext before now step rest left (Err (causes.Refused refusal)) =
    (left ≡ rest) × TapesBy before now step (Err (causes.Refused refusal))
TapesNext before now step rest left (Err causes.Memory) =
    (left ≡ step ∷ rest) × TapesBy before now step (Err causes.Memory)

-- no step was left, and nothing changed
pub record TapesNone (before now : TapedFields) (left : List Step)
    (result : Result (Option Went) NotTaped) : Type 0 where
  pub none : result ≡ Ok None
  pub same : now ≡ before
  pub nothing_left : left ≡ []

-- the tape is that of the case with the request of the text, whose journal is the same
pub record TapesAsked (before now : TapedFields) (setup : Setup) (past : List Entry)
    (text : List ℕ) : Type 0 where
  pub item : ItemFields
  pub states : item_in before.session.plan text ≡ Ok item
  pub tape : IsTapeOf now (with_item setup item) past

-- A run that tries at most so many steps ended so, or the tape was out of memory. Then the steps
-- before were taken or waited, and the one that the tape has no room for is the first of those that
-- are left; nothing else refuses it.
abbrev pub TapesRun : Result Ran Memory → TapedFields → Setup → List Entry →
    (laid left : List Step) → Stops → (most : ℕ) → Type 0
TapesRun (Ok ran) now setup past laid left stops most =
    RunsBy (IsTapeOf now) ran now.session setup past laid left stops most
TapesRun (Err memory) now setup past laid left stops most =
    (count : ℕ) × (count < most) × HasFreeNext now.session left
    × RunsOn (IsTapeOf now) now.session.finished setup past laid left stops count false
