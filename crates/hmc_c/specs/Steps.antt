-- What a step by numbers leaves.
use Rattle.std.specs.Prelude.{◌≡◌, ◌⊎◌, ℕ, Bool, true, nat_lt, if◌then◌else◌, List, ◌∷◌, Option, Some, None, slice_set}
use Rattle.hmc_units.specs.declared.shipped.Shipped.{Shipped}
use Rattle.hmc_units.specs.declared.slots.Slots.{Slots}
use Rattle.hmc_schedule.specs.declared.step.Step.{Step}
use Rattle.hmc_entries.specs.declared.entry.Entry.{Entry}
use Rattle.hmc_journal.specs.Next.{next}
use Rattle.hmc_journal.specs.Setup.{Setup}
use Rattle.hmc_growing.specs.Growing.{with_step}
use Rattle.hmc_net.specs.Went.{went_of}
use Rattle.hmc_session.specs.Refusals.{step_refusal}
use Rattle.hmc_session.specs.Session.{SessionParts}
use Rattle.hmc_session.specs.declared.refusal.NotTaken.{NotTaken}
use Rattle.hmc_c.specs.Handles.{Stands, shown}
use Rattle.hmc_c.specs.Kept.{has_tape}
use Rattle.hmc_c.specs.Status.{memory, no_host, none, ok, refused_status, taken_status}
use Rattle.hmc_c.specs.declared.held.Held.{Held}
use Rattle.hmc_c.specs.declared.kept.Kept.{Kept}
use Rattle.hmc_c.specs.declared.kept.Kept.TheVariants.{OnTape, Untaped}

-- In what follows `stands_for` says what it stands for afterwards.

-- a step that is refused changes nothing; one that is taken adds itself and its entry
abbrev pub TakesBy : (status : ℕ) → Option NotTaken → (stands_for : Setup → List Entry → Type 0) →
    Setup → List Entry → Step → Type 0
TakesBy status (Some refusal) stands_for setup past step =
    (status ≡ refused_status refusal) × stands_for setup past
TakesBy status None stands_for setup past step =
    (status ≡ taken_status (went_of (next setup past step)))
    × stands_for (with_step setup step) (next setup past step ∷ past)

-- there is a tape, nothing refuses the step, and there is no memory for it on the tape; nothing
-- changes
abbrev pub LacksRoom : (status : ℕ) → (tape : Bool) → Option NotTaken →
    (stands_for : Setup → List Entry → Type 0) → Setup → List Entry → Type 0
LacksRoom status tape refusal stands_for setup past =
    (tape ≡ true) × (refusal ≡ None) × (status ≡ memory) × stands_for setup past

-- one or the other
abbrev pub StepsBy : (status : ℕ) → (tape : Bool) → Option NotTaken →
    (stands_for : Setup → List Entry → Type 0) → Setup → List Entry → Step → Type 0
StepsBy status tape refusal stands_for setup past step =
    TakesBy status refusal stands_for setup past step
    ⊎ LacksRoom status tape refusal stands_for setup past

-- the same where the numbers name a step; where they name none, nothing changes
abbrev pub Stepped : (status : ℕ) → (old new : Held) → Setup → List Entry → Option Step → Type 0
Stepped status old new setup past None = (status ≡ none) × Stands new setup past
Stepped status old new setup past (Some step) =
    StepsBy status (has_tape old.kept) (step_refusal (shown old) step) (Stands new) setup past step

-- the same of handles: it is open then
abbrev pub IsStepped : (status : ℕ) → (old new : Option Held) → Setup → List Entry → Option Step →
    Type 0
IsStepped status (Some old) (Some new) setup past step = Stepped status old new setup past step
IsStepped status old new setup past step = ⊥

-- a host is finished, and nothing else changes; where there is none of this number, nothing does
abbrev pub finish_status : (hosts host : ℕ) → ℕ
finish_status hosts host = (if nat_lt host hosts then ok else no_host)

abbrev pub finished_by : (host : ℕ) → SessionParts (Slots Shipped) → SessionParts (Slots Shipped)
finished_by host session = record session { finished = slice_set session.finished host true }

abbrev pub kept_finished : (host : ℕ) → Kept → Kept
kept_finished host (Untaped session) = Untaped (finished_by host session)
kept_finished host (OnTape taped) =
    OnTape (record taped { session = finished_by host taped.session })

abbrev pub after_finish : (host : ℕ) → Held → Held
after_finish host held =
    (if nat_lt host (shown held).plan.hosts
    then record held { kept = kept_finished host held.kept } else held)
