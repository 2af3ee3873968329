-- A sink in memory, as its callers see it.
use Rattle.std.specs.Prelude.{◌==◌, ◌-◌, ◌++◌, ℕ, true, false, List, [], Option, Some, length, find}
use Rattle.std.specs.List.{concat}
use Rattle.std.specs.Option.{option_map}
use Rattle.hmc_outside.specs.Counts as counts
use Rattle.hmc_outside.specs.Counts.{CallCounts}
use Rattle.hmc_outside.specs.Pieces.{pieces_of}
use Rattle.hmc_outside.specs.Raised.{raised}
use Rattle.hmc_outside.specs.Views.{SinkView}

pub record SinkState : Type 0 where
  -- the pieces written, the oldest first and without empty ones
  pub pieces : List (List ℕ)
  -- the room for all their bytes
  pub room : ℕ
  -- the writes that fail, each with the most bytes that it takes
  pub failing : List (ℕ × ℕ)
  -- how many calls were made, how many of them failed, and what the last one was
  pub counts : CallCounts

-- what it shows
abbrev pub view_of : SinkState → SinkView
view_of s = record {
  pieces = Some s.pieces;
  bytes = Some (concat s.pieces);
  writes = s.counts.writes;
  finishes = s.counts.finishes;
  faults = s.counts.faults;
  failed = s.counts.failed;
  finished = s.counts.finished;
}

-- before the first call
abbrev pub opened : ℕ → List (ℕ × ℕ) → SinkState
opened room failing =
    record { pieces = []; room = room; failing = failing; counts = counts.opened }

-- how much the first pair of this write lets it take
abbrev pub limit_of : List (ℕ × ℕ) → ℕ → Option ℕ
limit_of failing write = option_map (λ pair. pair.1) (find (λ pair. pair.0 == write) failing)

-- how much the next write takes before it fails, where it is listed
abbrev pub next_limit : SinkState → Option ℕ
next_limit s = limit_of s.failing (raised s.counts.writes)

-- the room that is left
abbrev pub space_of : SinkState → ℕ
space_of s = s.room - length (concat s.pieces)

-- after a write that took these bytes
abbrev pub after_write : SinkState → List ℕ → SinkState
after_write s bytes = record s {
  pieces = s.pieces ++ pieces_of bytes;
  counts = counts.after_write s.counts false;
}

-- after a write that failed and took these bytes
abbrev pub after_failure : SinkState → List ℕ → SinkState
after_failure s bytes = record s {
  pieces = s.pieces ++ pieces_of bytes;
  counts = counts.after_write s.counts true;
}

-- after a finish
abbrev pub after_finish : SinkState → SinkState
after_finish s = record s { counts = counts.after_finish s.counts false }
