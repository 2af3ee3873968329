-- What sources and sinks show to contracts.
use Rattle.std.specs.Prelude.{ℕ, Bool, List, Option}

-- The counts are of calls, and each is a u64 that stays at its last value.
pub record SourceView : Type 0 where
  -- the bytes still to come, where the source shows them
  pub left : Option (List ℕ)
  -- how often it was read
  pub reads : ℕ
  -- how many reads asked for no bytes
  pub empty_reads : ℕ
  -- how many reads failed
  pub faults : ℕ
  -- how many reads found the end of the input or failed
  pub stops : ℕ
  -- the last read did
  pub stopped : Bool
  -- the last read failed
  pub failed : Bool

pub record SinkView : Type 0 where
  -- the pieces written, the oldest first and without empty ones, where the sink shows them
  pub pieces : Option (List (List ℕ))
  -- the bytes written, where the sink shows them
  pub bytes : Option (List ℕ)
  -- how often it was written to
  pub writes : ℕ
  -- how often it was finished
  pub finishes : ℕ
  -- how many of these calls failed
  pub faults : ℕ
  -- the last call failed
  pub failed : Bool
  -- the last call was a finish
  pub finished : Bool
