-- Steps that are laid down, and taken one after another.
use Rattle.std.specs.Prelude.{◌≡◌, ◌<◌, ◌⊎◌, ◌==◌, ◌-◌, ◌/◌, ◌%◌, ℕ, Bool, true, false, List, [], ◌∷◌, Option, Some, None, Result, Ok, Err}
use Rattle.std.specs.Prelude.{IsUtf8}
use Rattle.hmc_schedule.specs.Schedule.{schedule_of}
use Rattle.hmc_schedule.specs.declared.fault.ScheduleKind.{ScheduleKind}
use Rattle.hmc_schedule.specs.declared.step.Step.{Step}
use Rattle.hmc_entries.specs.declared.entry.Entry.{Entry}
use Rattle.hmc_journal.specs.Setup.{Setup}
use Rattle.hmc_net.specs.declared.went.Went.{Went}
use Rattle.hmc_session.specs.Refusals.{step_refusal}
use Rattle.hmc_session.specs.Running.{RunsBy, RunsOn}
use Rattle.hmc_session.specs.Session.{SessionFields}
use Rattle.hmc_session.specs.declared.refusal.NotTaken.{NotTaken}
use Rattle.hmc_session.specs.declared.run.Ran.{Ran}
use Rattle.hmc_session.specs.declared.run.Ran.TheVariants.{Stopped, Tried, Ended, Unknown, Over}
use Rattle.hmc_session.specs.declared.stops.Stops.{Stops}
use Rattle.hmc_tape.specs.Tries.{HasFreeNext}
use Rattle.hmc_c.specs.Handles.{Stands, shown}
use Rattle.hmc_c.specs.Kept.{has_tape}
use Rattle.hmc_c.specs.Status.{bad, memory, none, ok, over, refused_status, taken_status}
use Rattle.hmc_c.specs.Steps.{LacksRoom, TakesBy}
use Rattle.hmc_c.specs.declared.held.Held.{Held}

-- the steps of a schedule are laid down in place of those that were left; where it is none, or out
-- of memory, those stay
abbrev pub LaidBy : (status : ℕ) → Result (List Step) (ℕ × ScheduleKind) → (old new : List Step) →
    Type 0
LaidBy status (Ok steps) old new =
    ((status ≡ ok) × (new ≡ steps)) ⊎ ((status ≡ memory) × (new ≡ old))
LaidBy status (Err fault) old new = ((status ≡ bad) ⊎ (status ≡ memory)) × (new ≡ old)

-- bytes that are text are read so; others are no schedule. The session stays.
pub record BytesLaid (status : ℕ) (old new : Held) (bytes : List ℕ) : Type 0 where
  pub text : IsUtf8 bytes →
      LaidBy status (schedule_of (shown old).plan bytes) old.laid new.laid
  pub none : (IsUtf8 bytes → ⊥) → (status ≡ bad) × (new.laid ≡ old.laid)
  pub kept : new.kept ≡ old.kept

-- the same of handles: it is open then
abbrev pub IsLaid : (status : ℕ) → (old new : Option Held) → (bytes : List ℕ) → Type 0
IsLaid status (Some old) (Some new) bytes = BytesLaid status old new bytes
IsLaid status old new bytes = ⊥

-- what became of the next step, if one was left
abbrev pub next_status : Result (Option Went) NotTaken → ℕ
next_status (Ok (Some went)) = taken_status went
next_status (Ok None) = none
next_status (Err refusal) = refused_status refusal

-- In what follows `stands_for` says what it stands for afterwards.

-- The first of the steps that are left is off the list, and taken or refused as by a step by
-- numbers; where the tape has no memory for it, it stays. Where none is left, nothing changes.
abbrev pub NextBy : (status : ℕ) → (tape : Bool) → (old : SessionFields) →
    (stands_for : Setup → List Entry → Type 0) → Setup → List Entry → (laid left : List Step) →
    Type 0
NextBy status tape old stands_for setup past [] left =
    (status ≡ none) × stands_for setup past × (left ≡ [])
NextBy status tape old stands_for setup past (step ∷ rest) left =
    (TakesBy status (step_refusal old step) stands_for setup past step × (left ≡ rest))
    ⊎ (LacksRoom status tape (step_refusal old step) stands_for setup past × (left ≡ step ∷ rest))

-- the same of handles: it is open then
abbrev pub IsNexted : (status : ℕ) → (old new : Option Held) → Setup → List Entry → Type 0
IsNexted status (Some old) (Some new) setup past =
    NextBy status (has_tape old.kept) (shown old) (Stands new) setup past old.laid new.laid
IsNexted status old new setup past = ⊥

-- the number has this power of two
abbrev pub has_bit : (number power : ℕ) → Bool
has_bit number power = number / power % 2 == 1

-- the kinds of entries whose bits are set
unfoldable pub stops_of : ℕ → Stops
stops_of number = record {
  gave = has_bit number 2;
  sent = has_bit number 4;
  landed = has_bit number 8;
  shifted = has_bit number 16;
  dropped = has_bit number 32;
  spread = has_bit number 64;
  executed = has_bit number 128;
  lifted = has_bit number 256;
  took = has_bit number 512;
  discarded = has_bit number 1024;
  through = has_bit number 2048;
  unlocked = has_bit number 4096;
  retired = has_bit number 8192;
  passed = has_bit number 16384;
  idle = has_bit number 32768;
}

-- how a run ended
abbrev pub ran_status : Ran → ℕ
ran_status Stopped = ok
ran_status Tried = ok
ran_status Ended = none
ran_status Unknown = none
ran_status Over = over

-- the status says how a run ended
pub record RanBy (status : ℕ) (stands_for : Setup → List Entry → Type 0) (now : SessionFields)
    (setup : Setup) (past : List Entry) (laid left : List Step) (stops : Stops) (most : ℕ)
    : Type 0 where
  pub ran : Ran
  pub ended : status ≡ ran_status ran
  pub runs : RunsBy stands_for ran now setup past laid left stops most

-- there is a tape, and no memory on it for the first of the steps that are left, which nothing
-- refuses; those before were taken or waited
pub record IsCutShort (status : ℕ) (tape : Bool) (stands_for : Setup → List Entry → Type 0)
    (now : SessionFields) (setup : Setup) (past : List Entry) (laid left : List Step)
    (stops : Stops) (most : ℕ) : Type 0 where
  pub taped : tape ≡ true
  pub lacks : status ≡ memory
  pub count : ℕ
  pub few : count < most
  pub next : HasFreeNext now left
  pub runs : RunsOn stands_for now.finished setup past laid left stops count false

-- one or the other
abbrev pub RunBy : (status : ℕ) → (tape : Bool) → (stands_for : Setup → List Entry → Type 0) →
    SessionFields → Setup → List Entry → (laid left : List Step) → Stops → (most : ℕ) → Type 0
RunBy status tape stands_for now setup past laid left stops most =
    RanBy status stands_for now setup past laid left stops most
    ⊎ IsCutShort status tape stands_for now setup past laid left stops most

-- the same of handles: it is open then; so many steps were taken
abbrev pub IsRun : (status : ℕ) → (old new : Option Held) → Setup → List Entry → Stops →
    (most steps : ℕ) → Type 0
IsRun status (Some old) (Some new) setup past stops most steps =
    RunBy status (has_tape old.kept) (Stands new) (shown new) setup past old.laid new.laid stops
    most
    × (steps ≡ (shown new).taken - (shown old).taken)
IsRun status old new setup past stops most steps = ⊥
