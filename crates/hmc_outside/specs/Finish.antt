-- Handing on what a sink has gathered.
use Rattle.std.specs.Prelude.{◌≡◌, ◌⊎◌, true, false, ℕ, List, length}
use Rattle.std.specs.Io.KnownBytes.{Appends, Keeps}
use Rattle.std.specs.List.{concat}
use Rattle.hmc_outside.specs.Lines.{BreaksOff}
use Rattle.hmc_outside.specs.Pieces.{with_pieces}
use Rattle.hmc_outside.specs.Raised.{raised, raised_by}
use Rattle.hmc_outside.specs.Views.{SinkView}

-- the sink was finished
pub record Finishes (old new : SinkView) : Type 0 where
  -- this was one finish, and the last call
  pub finishes : new.finishes ≡ raised old.finishes
  pub last : new.finished ≡ true
  -- what the sink holds stays
  pub pieces : new.pieces ≡ old.pieces
  pub bytes : Keeps old.bytes new.bytes
  pub writes : new.writes ≡ old.writes

-- each line was written, by one write, and then the sink was finished
pub record WritesAndFinishes (old new : SinkView) (lines : List (List ℕ)) : Type 0 where
  -- the pieces written are exactly the lines
  pub pieces : new.pieces ≡ with_pieces old.pieces lines
  -- and the bytes written are theirs
  pub bytes : Appends old.bytes new.bytes (concat lines)
  -- there was one write a line
  pub writes : new.writes ≡ raised_by (length lines) old.writes
  -- there was one finish, and it was the last call
  pub finishes : new.finishes ≡ raised old.finishes
  pub last : new.finished ≡ true

-- each line was written and handed on
pub record HandsOn (old new : SinkView) (lines : List (List ℕ)) : Type 0 where
  pub calls : WritesAndFinishes old new lines
  -- no call failed
  pub faults : new.faults ≡ old.faults
  pub not_failed : new.failed ≡ false

-- each line was written, and then the finish failed
pub record FailsToFinish (old new : SinkView) (lines : List (List ℕ)) : Type 0 where
  pub calls : WritesAndFinishes old new lines
  -- the finish is the one fault
  pub faults : new.faults ≡ raised old.faults
  pub failed : new.failed ≡ true

-- a call failed, the last one: a write after whole lines, or the finish after all lines
abbrev pub FailsToHandOn : (old new : SinkView) → List (List ℕ) → Type 0
FailsToHandOn old new lines = BreaksOff old new lines ⊎ FailsToFinish old new lines
