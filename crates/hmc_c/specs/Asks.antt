-- What a request leaves.
use Rattle.std.specs.Prelude.{◌≡◌, ◌⊎◌, ℕ, Bool, List, Option, Some, None}
use Rattle.hmc_codes.specs.Request.{RequestFields}
use Rattle.hmc_entries.specs.declared.entry.Entry.{Entry}
use Rattle.hmc_journal.specs.Setup.{Setup}
use Rattle.hmc_script.specs.Items.{ItemFields, asked_item}
use Rattle.hmc_growing.specs.Growing.{with_item}
use Rattle.hmc_session.specs.Refusals.{ask_refusal}
use Rattle.hmc_session.specs.declared.refusal.NotAsked.{NotAsked}
use Rattle.hmc_c.specs.Handles.{Stands, shown}
use Rattle.hmc_c.specs.Status.{asked_status, bad, memory, ok}
use Rattle.hmc_c.specs.declared.held.Held.{Held}

-- In what follows `stands_for` says what it stands for afterwards.

-- a request that is refused leaves all as it was; one that isn't is asked, unless out of memory
abbrev pub AsksBy : (status : ℕ) → Option NotAsked → (stands_for : Setup → List Entry → Type 0) →
    Setup → List Entry → ItemFields → Type 0
AsksBy status (Some refusal) stands_for setup past item =
    (status ≡ asked_status refusal) × stands_for setup past
AsksBy status None stands_for setup past item =
    ((status ≡ ok) × stands_for (with_item setup item) past)
    ⊎ ((status ≡ memory) × stands_for setup past)

-- the same where there is a request; where there is none, nothing changes
abbrev pub Asked : (status : ℕ) → (old new : Held) → Setup → List Entry → (host : ℕ) →
    (fenced poisoned : Bool) → Option RequestFields → Type 0
Asked status old new setup past host fenced poisoned None =
    (status ≡ bad) × Stands new setup past
Asked status old new setup past host fenced poisoned (Some request) =
    AsksBy status (ask_refusal (shown old) host request.cube) (Stands new) setup past
    (asked_item host fenced poisoned request)

-- the same of handles: it is open then
abbrev pub IsAsked : (status : ℕ) → (old new : Option Held) → Setup → List Entry → (host : ℕ) →
    (fenced poisoned : Bool) → Option RequestFields → Type 0
IsAsked status (Some old) (Some new) setup past host fenced poisoned request =
    Asked status old new setup past host fenced poisoned request
IsAsked status old new setup past host fenced poisoned request = ⊥
