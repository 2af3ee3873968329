-- What the program does.
use Rattle.std.specs.Prelude.{◌≡◌, ◌⊎◌, ℕ, true, false, List, Option, Some, is_some, Result, Ok, Err}
use Rattle.hmc_outside.specs.Views.{SourceView, SinkView}
use Rattle.hmc_replay.specs.Complete.{IsComplete}
use Rattle.hmc_replay.specs.Top.{Replayed}
use Rattle.hmc_replay.specs.Words.{form_of}
use Rattle.hmc_replay.specs.declared.form.Form.{Form}
use Rattle.hmc_main.specs.Shipped.{shipped_slots}

-- Nothing is read or written, and this is the status.
pub record EndsWith {S O : Type 0} (due : ℕ) (source source' : S) (sink sink' : O)
    (status : ℕ) : Type 0 where
  pub status_is : status ≡ due
  pub source_same : source' ≡ source
  pub sink_same : sink' ≡ sink

-- There is no memory for the logic units: 1 where the words are a defined form, else 2.
pub record IsWithoutUnits {S O : Type 0} (words : List (List ℕ)) (source source' : S)
    (sink sink' : O) (status : ℕ) : Type 0 where
  pub form : is_some (form_of words) ≡ true → status ≡ 1
  pub usage : is_some (form_of words) ≡ false → status ≡ 2
  pub source_same : source' ≡ source
  pub sink_same : sink' ≡ sink

-- These words were replayed with the program's units, or there were none to be had.
abbrev pub Ends : {S O : Type 0} → (S → SourceView) → (O → SinkView) → (words : List (List ℕ)) →
    (source source' : S) → (sink sink' : O) → (status : ℕ) → Type 0
Ends source_view sink_view words source source' sink sink' status =
    Replayed source_view sink_view words shipped_slots source source' sink sink' status
    ⊎ IsWithoutUnits words source source' sink sink' status

-- So it ends where the words could be had (`text_of` has their bytes). Else there is a status in
-- their place, and it ends with that one.
abbrev pub EndsBy : {W S O : Type 0} → (text_of : W → List (List ℕ)) → Result W ℕ →
    (S → SourceView) → (O → SinkView) → (source source' : S) → (sink sink' : O) →
    (status : ℕ) → Type 0
EndsBy text_of (Ok words) source_view sink_view source source' sink sink' status =
    Ends source_view sink_view (text_of words) source source' sink sink' status
EndsBy text_of (Err due) source_view sink_view source source' sink sink' status =
    EndsWith due source source' sink sink' status

-- When what is due comes, where the words are a form: always, unless memory runs out (1), or the
-- source (3) or the sink (4) fails. `left` are the bytes that the source had, where it shows them.
abbrev pub Completes : (words : List (List ℕ)) → (left : Option (List ℕ)) → (status : ℕ) → Type 0
Completes words left status =
    (form : Form) → form_of words ≡ Some form → IsComplete form shipped_slots left status

-- the same of words that could be had
abbrev pub CompletesBy : {W : Type 0} → (text_of : W → List (List ℕ)) → Result W ℕ →
    (left : Option (List ℕ)) → (status : ℕ) → Type 0
CompletesBy text_of (Ok words) left status = Completes (text_of words) left status
CompletesBy text_of (Err due) left status = Unit {0}

-- There is no memory for the sink. Nothing is read.
pub record IsWithoutSink {S : Type 0} (source source' : S) (status : ℕ) : Type 0 where
  pub memory : status ≡ 1
  pub source_same : source' ≡ source
