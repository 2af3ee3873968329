-- Writing what is due: a status and lines.
use Rattle.std.specs.Prelude.{◌≡◌, ℕ, List, [], ◌∷◌, Result, Ok, Err}
use Rattle.hmc_outside.specs.Finish.{HandsOn, FailsToHandOn}
use Rattle.hmc_outside.specs.Views.{SinkView}
use Rattle.hmc_replay.specs.declared.run.RunError.{RunError}
use Rattle.hmc_replay.specs.declared.run.RunError.TheVariants.{Memory, ReadFault, WriteFault, TooLong, BadInput, Passed, Unlawful}

-- one line is due, with this status
pub record IsLine (due : ℕ) (line : List ℕ) (status : ℕ) (lines : List (List ℕ)) : Type 0 where
  pub status_is : status ≡ due
  pub lines_are : lines ≡ line ∷ []

-- In what follows `Due status lines` says that this status and these lines are due.

-- lines that are due with this status were written, each by one write, and handed on
pub record IsAnswered (Due : ℕ → List (List ℕ) → Type 0) (status : ℕ)
    (sink sink' : SinkView) : Type 0 where
  pub lines : List (List ℕ)
  pub due : Due status lines
  pub written : HandsOn sink sink' lines

-- lines that are due with some status were written, in order, until a call failed, the last one
pub record IsCutOff (Due : ℕ → List (List ℕ) → Type 0) (sink sink' : SinkView) : Type 0 where
  pub status : ℕ
  pub lines : List (List ℕ)
  pub due : Due status lines
  pub written : FailsToHandOn sink sink' lines

-- what was written, with this result: nothing where memory ran out
abbrev pub Answers : {O : Type 0} → (Due : ℕ → List (List ℕ) → Type 0) →
    Result (Unit {0}) RunError → (O → SinkView) → (old new : O) → Type 0
Answers Due (Ok done) view old new = IsAnswered Due 0 (view old) (view new)
Answers Due (Err BadInput) view old new = IsAnswered Due 6 (view old) (view new)
Answers Due (Err Passed) view old new = IsAnswered Due 7 (view old) (view new)
Answers Due (Err Unlawful) view old new = IsAnswered Due 8 (view old) (view new)
Answers Due (Err WriteFault) view old new = IsCutOff Due (view old) (view new)
Answers Due (Err Memory) view old new = new ≡ old
Answers Due (Err ReadFault) view old new = ⊥
Answers Due (Err TooLong) view old new = ⊥
