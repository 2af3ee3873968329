-- Requests in the words of a script.
use Rattle.std.specs.Prelude.{◌≡◌, ◌⊎◌, ℕ, List, Option, Some, None, Ok}
use Rattle.std.specs.Prelude.{IsUtf8}
use Rattle.hmc_script.specs.Items.{ItemFields}
use Rattle.hmc_schedule.specs.Plan.{PlanFields}
use Rattle.hmc_entries.specs.declared.entry.Entry.{Entry}
use Rattle.hmc_journal.specs.Setup.{Setup}
use Rattle.hmc_growing.specs.Growing.{with_item}
use Rattle.hmc_session.specs.Asking.{item_in, line_refusal}
use Rattle.hmc_session.specs.Session.{SessionFields}
use Rattle.hmc_session.specs.declared.refusal.LineNotAsked.{LineNotAsked}
use Rattle.hmc_session.specs.declared.refusal.LineNotAsked.TheVariants.{Fault, NotOne, Refused}
use Rattle.hmc_c.specs.Handles.{Stands, shown}
use Rattle.hmc_c.specs.Status.{asked_status, bad, memory, ok}
use Rattle.hmc_c.specs.declared.held.Held.{Held}

-- why the request of a text isn't asked: the text is none of one request, or its host isn't asked
abbrev pub line_status : LineNotAsked → ℕ
line_status (Fault line kind) = bad
line_status NotOne = bad
line_status (Refused refusal) = asked_status refusal

-- In what follows `stands_for` says what it stands for afterwards.

-- the request of a text is asked
pub record AsksText (stands_for : Setup → List Entry → Type 0) (plan : PlanFields) (setup : Setup)
    (past : List Entry) (text : List ℕ) : Type 0 where
  pub item : ItemFields
  pub states : item_in plan text ≡ Ok item
  pub stands : stands_for (with_item setup item) past

-- a text that is refused changes nothing; the request of one that isn't is asked; or else it is out
-- of memory
abbrev pub TextAskedBy : (status : ℕ) → Option LineNotAsked → PlanFields →
    (stands_for : Setup → List Entry → Type 0) → Setup → List Entry → (text : List ℕ) → Type 0
TextAskedBy status (Some refusal) plan stands_for setup past text =
    ((status ≡ line_status refusal) ⊎ (status ≡ memory)) × stands_for setup past
TextAskedBy status None plan stands_for setup past text =
    ((status ≡ ok) × AsksText stands_for plan setup past text)
    ⊎ ((status ≡ memory) × stands_for setup past)

abbrev pub TextAsked : (status : ℕ) → (old : SessionFields) →
    (stands_for : Setup → List Entry → Type 0) → Setup → List Entry → (text : List ℕ) → Type 0
TextAsked status old stands_for setup past text =
    TextAskedBy status (line_refusal old text) old.plan stands_for setup past text

-- bytes that are text are asked so; of others nothing is
pub record BytesAsked (status : ℕ) (old new : Held) (setup : Setup) (past : List Entry)
    (bytes : List ℕ) : Type 0 where
  pub text : IsUtf8 bytes → TextAsked status (shown old) (Stands new) setup past bytes
  pub none : (IsUtf8 bytes → ⊥) → (status ≡ bad) × Stands new setup past

-- the same of handles: it is open then
abbrev pub IsLineAsked : (status : ℕ) → (old new : Option Held) → Setup → List Entry →
    (bytes : List ℕ) → Type 0
IsLineAsked status (Some old) (Some new) setup past bytes =
    BytesAsked status old new setup past bytes
IsLineAsked status old new setup past bytes = ⊥
