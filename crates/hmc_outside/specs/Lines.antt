-- Lines that are written one after another, each by one write.
use Rattle.std.specs.Prelude.{◌≡◌, true, false, ℕ, List, ◌∷◌, ◌++◌, length}
use Rattle.std.specs.Io.KnownBytes.{Appends}
use Rattle.std.specs.List.{concat}
use Rattle.hmc_outside.specs.Raised.{raised, raised_by}
use Rattle.hmc_outside.specs.Pieces.{pieces_of, with_pieces}
use Rattle.hmc_outside.specs.Views.{SinkView}

-- each line was written, by one write that did not fail, and nothing else was called
pub record WritesLines (old new : SinkView) (lines : List (List ℕ)) : Type 0 where
  -- the pieces written are exactly the lines
  pub pieces : new.pieces ≡ with_pieces old.pieces lines
  -- and the bytes written are theirs
  pub bytes : Appends old.bytes new.bytes (concat lines)
  -- there was one write a line
  pub writes : new.writes ≡ raised_by (length lines) old.writes
  -- there was no finish
  pub finishes : new.finishes ≡ old.finishes
  -- none failed
  pub faults : new.faults ≡ old.faults

-- a prefix of the lines was written, and no write failed
pub record WritesSome (old new : SinkView) (lines : List (List ℕ)) : Type 0 where
  pub whole : List (List ℕ)
  pub rest : List (List ℕ)
  pub parts : lines ≡ whole ++ rest
  pub written : WritesLines old new whole

-- lines were written until a write failed
pub record BreaksOff (old new : SinkView) (lines : List (List ℕ)) : Type 0 where
  -- the lines written whole, and the line whose write failed
  pub whole : List (List ℕ)
  pub line : List ℕ
  pub rest : List (List ℕ)
  pub parts : lines ≡ whole ++ line ∷ rest
  -- the failed write took a prefix of its line
  pub prefix : List ℕ
  pub cut : List ℕ
  pub halves : line ≡ prefix ++ cut
  -- these are the pieces written, and the bytes
  pub pieces : new.pieces ≡ with_pieces old.pieces (whole ++ pieces_of prefix)
  pub bytes : Appends old.bytes new.bytes (concat whole ++ prefix)
  -- the failed write was the last call
  pub writes : new.writes ≡ raised (raised_by (length whole) old.writes)
  pub finishes : new.finishes ≡ old.finishes
  pub last : new.finished ≡ false
  pub failed : new.failed ≡ true
  -- it is the one fault
  pub faults : new.faults ≡ raised old.faults
