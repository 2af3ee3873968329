-- What a source counts of its reads, and a sink of its writes and finishes.
use Rattle.std.specs.Prelude.{ℕ, zero, suc, Bool, true, false}
use Rattle.hmc_outside.specs.Raised.{raised}
use Rattle.hmc_outside.specs.Reading.{empty_after}
pub use Rattle.hmc_outside.specs.declared.counts.CallCounts.{CallCounts}
pub use Rattle.hmc_outside.specs.declared.counts.ReadCounts.{ReadCounts}

-- before the first read of a source
abbrev pub unread : ReadCounts
unread = record {
  reads = 0;
  empty_reads = 0;
  faults = 0;
  stops = 0;
  stopped = false;
  failed = false;
}

-- one more read, of so many bytes
abbrev pub once_more : ReadCounts → (asked : ℕ) → ReadCounts
once_more counts asked = record counts {
  reads = raised counts.reads;
  empty_reads = empty_after asked counts.empty_reads;
}

-- after a read of so many bytes that failed
abbrev pub after_fault : ReadCounts → (asked : ℕ) → ReadCounts
after_fault counts asked = record (once_more counts asked) {
  faults = raised counts.faults;
  stops = raised counts.stops;
  stopped = true;
  failed = true;
}

-- the stops after a read that gave n bytes, of so many that were asked for
-- (none, where some were asked for, is the end of the input)
abbrev pub stops_after : (n asked : ℕ) → ℕ → ℕ
stops_after zero zero stops = stops
stops_after zero (suc asked) stops = raised stops
stops_after (suc n) asked stops = stops

-- and whether it stopped
abbrev pub stopped_after : (n asked : ℕ) → Bool → Bool
stopped_after zero zero stopped = stopped
stopped_after zero (suc asked) stopped = true
stopped_after (suc n) asked stopped = false

-- after that read
abbrev pub after_count : ReadCounts → (n asked : ℕ) → ReadCounts
after_count counts n asked = record (once_more counts asked) {
  stops = stops_after n asked counts.stops;
  stopped = stopped_after n asked counts.stopped;
  failed = false;
}

-- before the first call of a sink
abbrev pub opened : CallCounts
opened = record { writes = 0; finishes = 0; faults = 0; failed = false; finished = false }

-- the faults after a call that failed or didn't
abbrev pub faults_after : (failed : Bool) → ℕ → ℕ
faults_after false faults = faults
faults_after true faults = raised faults

-- after a write that failed or didn't
abbrev pub after_write : CallCounts → (failed : Bool) → CallCounts
after_write counts failed = record {
  writes = raised counts.writes;
  finishes = counts.finishes;
  faults = faults_after failed counts.faults;
  failed = failed;
  finished = false;
}

-- after a finish that failed or didn't
abbrev pub after_finish : CallCounts → (failed : Bool) → CallCounts
after_finish counts failed = record {
  writes = counts.writes;
  finishes = raised counts.finishes;
  faults = faults_after failed counts.faults;
  failed = failed;
  finished = true;
}
