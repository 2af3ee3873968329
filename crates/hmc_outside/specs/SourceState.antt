-- A source in memory, as its callers see it.
use Rattle.std.specs.Prelude.{ℕ, List, Some, drop}
use Rattle.hmc_outside.specs.Counts.{ReadCounts, unread, after_count, after_fault}
use Rattle.hmc_outside.specs.Views.{SourceView}

pub record SourceState : Type 0 where
  -- the bytes to come
  pub left : List ℕ
  -- the numbers of the calls that fail
  pub failing : List ℕ
  -- how many calls were made, and how many of them failed or found the end
  pub counts : ReadCounts

-- what it shows
abbrev pub view_of : SourceState → SourceView
view_of s = record {
  left = Some s.left;
  reads = s.counts.reads;
  empty_reads = s.counts.empty_reads;
  faults = s.counts.faults;
  stops = s.counts.stops;
  stopped = s.counts.stopped;
  failed = s.counts.failed;
}

-- before the first call
abbrev pub opened : List ℕ → List ℕ → SourceState
opened bytes failing = record { left = bytes; failing = failing; counts = unread }

-- after a call that gave the next n bytes, of so many that were asked for
abbrev pub after_read : SourceState → (n asked : ℕ) → SourceState
after_read s n asked =
    record s { left = drop n s.left; counts = after_count s.counts n asked }

-- after a call that failed, of so many bytes
abbrev pub after_failure : SourceState → (asked : ℕ) → SourceState
after_failure s asked = record s { counts = after_fault s.counts asked }
