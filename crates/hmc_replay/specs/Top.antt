-- What the top call promises.
use Rattle.std.specs.Prelude.{◌≡◌, ◌⊎◌, ◌↔◌, ℕ, suc, true, List, [], ◌∷◌, length, Option, None, Some}
use Rattle.hmc_outside.specs.Raised.{raised}
use Rattle.hmc_outside.specs.Reading.{Stops}
use Rattle.hmc_outside.specs.Views.{SourceView, SinkView}
use Rattle.hmc_units.specs.Unit.{UnitFields}
use Rattle.hmc_replay.specs.Answer.{limit_of, IsAnswer}
use Rattle.hmc_replay.specs.Answered.{IsAnswered, IsCutOff}
use Rattle.hmc_replay.specs.Input.{IsReading, IsWhole}
use Rattle.hmc_replay.specs.Words.{form_of}
use Rattle.hmc_replay.specs.declared.form.Form.{Form}

-- the number is one of these
abbrev pub OneOf : List ℕ → ℕ → Type 0
OneOf [] n = ⊥
OneOf (m ∷ ms) n = (n ≡ m) ⊎ OneOf ms n

-- it is none of them
abbrev pub NoneOf : List ℕ → ℕ → Type 0
NoneOf ms n = OneOf ms n → ⊥

-- How an input of at most so many bytes is read, by the status. A count is raised by one, except
-- at the last value of a u64.
pub record IsRead (most : ℕ) (source source' : SourceView) (input : List ℕ)
    (status : ℕ) : Type 0 where
  -- These bytes were read, at most one more. Each read asked for a byte, and at most one gave none.
  pub reading : IsReading most source source' input
  -- Except with 1, 3 and 5 the input was read to its end, and is not too long. Nothing is read
  -- after the end.
  pub whole : NoneOf (1 ∷ 3 ∷ 5 ∷ []) status → IsWhole most source source' input
  -- 1: so it is, or no read found the end or a fault.
  pub memory : status ≡ 1 →
      IsWhole most source source' input ⊎ (source'.stops ≡ source.stops)
  -- 3: exactly where the last read failed.
  pub read_fault : (status ≡ 3) ↔ (source'.failed ≡ true)
  -- No other one did, and none found the end.
  pub one_fault : status ≡ 3 → Stops source source' × (source'.faults ≡ raised source.faults)
  pub no_fault : (status ≡ 3) ⊎ (source'.faults ≡ source.faults)
  -- 5: one byte more was read than an input may have, and the end was not found.
  pub too_long : status ≡ 5 →
      (length input ≡ suc most) × (source'.stops ≡ source.stops)

-- Nothing is read.
pub record ReadsNothing {S : Type 0} (source source' : S) (input : List ℕ)
    (status : ℕ) : Type 0 where
  pub same : source' ≡ source
  pub none : input ≡ []
  pub no_read : NoneOf (3 ∷ 5 ∷ []) status

-- one or the other
abbrev pub Reads : {S : Type 0} → Option ℕ → (S → SourceView) → (source source' : S) →
    (input : List ℕ) → (status : ℕ) → Type 0
Reads None view source source' input status = ReadsNothing source source' input status
Reads (Some most) view source source' input status =
    IsRead most (view source) (view source') input status

-- What is written, by the status, of what is due.
pub record Writes {O : Type 0} (Due : ℕ → List (List ℕ) → Type 0) (view : O → SinkView)
    (sink sink' : O) (status : ℕ) : Type 0 where
  -- Except with 1, 3, 4 and 5 the status is the one that is due; the lines that are due with it
  -- were written, each by one write, and then the sink was finished.
  pub answered : NoneOf (1 ∷ 3 ∷ 4 ∷ 5 ∷ []) status → IsAnswered Due status (view sink) (view sink')
  -- 4: the sink failed, by the last call of it. Before that whole lines were written, in order, and
  -- a prefix of the next one; or all, and the finish failed.
  pub cut_off : status ≡ 4 → IsCutOff Due (view sink) (view sink')
  -- 1, 3 and 5: the sink was not called.
  pub unwritten : OneOf (1 ∷ 3 ∷ 5 ∷ []) status → sink' ≡ sink

-- What is done for a form of words. `slots` has the logic units as they were handed in.
pub record Replays {S O : Type 0} (form : Form) (source_view : S → SourceView)
    (sink_view : O → SinkView) (slots : List (Option UnitFields)) (source source' : S)
    (sink sink' : O) (status : ℕ) : Type 0 where
  -- The bytes that were read.
  pub input : List ℕ
  pub read : Reads (limit_of form) source_view source source' input status
  -- What is written is for these bytes.
  pub written : Writes (IsAnswer form slots input) sink_view sink sink' status

-- The promises of `replay`.
pub record Replayed {S O : Type 0} (source_view : S → SourceView) (sink_view : O → SinkView)
    (words : List (List ℕ)) (slots : List (Option UnitFields)) (source source' : S)
    (sink sink' : O) (status : ℕ) : Type 0 where
  -- 2: exactly where the words are no defined form.
  pub usage : (status ≡ 2) ↔ (form_of words ≡ None)
  -- Then nothing is read or written.
  pub untouched : status ≡ 2 → (source' ≡ source) × (sink' ≡ sink)
  -- Else this is done for their form.
  pub replays : (form : Form) → form_of words ≡ Some form →
      Replays form source_view sink_view slots source source' sink sink' status
