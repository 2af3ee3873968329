-- What a run does, by its result.
use Rattle.std.specs.Prelude.{◌≡◌, ◌⊎◌, ℕ, List, Result, Err}
use Rattle.hmc_outside.specs.Views.{SourceView, SinkView}
use Rattle.hmc_replay.specs.Answered.{Answers}
use Rattle.hmc_replay.specs.Causes.{cause_of_input}
use Rattle.hmc_replay.specs.Input.{ReadsWhole, ReadsPart}
use Rattle.hmc_replay.specs.declared.input.InputError.{InputError}
use Rattle.hmc_replay.specs.declared.run.RunError.{RunError}

-- In what follows `Due input status lines` says that they are due for this input.

-- the input was read whole, and answered
pub record IsWholeRun {O : Type 0} (most : ℕ) (Due : List ℕ → ℕ → List (List ℕ) → Type 0)
    (source source' : SourceView) (sink_view : O → SinkView) (sink sink' : O)
    (result : Result (Unit {0}) RunError) : Type 0 where
  pub input : List ℕ
  pub whole : ReadsWhole most source source' input
  pub answer : Answers (Due input) result sink_view sink sink'

-- reading ended early
pub record IsStoppedRun (most : ℕ) (source source' : SourceView)
    (result : Result (Unit {0}) RunError) : Type 0 where
  pub input : List ℕ
  pub error : InputError
  pub cause : result ≡ Err (cause_of_input error)
  pub part : ReadsPart most error source source' input

-- one or the other; in the latter case the sink is as it was
abbrev pub Runs : {S O : Type 0} → (most : ℕ) → (Due : List ℕ → ℕ → List (List ℕ) → Type 0) →
    (S → SourceView) → (O → SinkView) → (source source' : S) → (sink sink' : O) →
    Result (Unit {0}) RunError → Type 0
Runs most Due source_view sink_view source source' sink sink' result =
    IsWholeRun most Due (source_view source) (source_view source') sink_view sink sink' result
    ⊎ (IsStoppedRun most (source_view source) (source_view source') result × (sink' ≡ sink))
