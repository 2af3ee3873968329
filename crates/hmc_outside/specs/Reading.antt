-- What a read does to the counts of a source.
use Rattle.std.specs.Prelude.{◌≡◌, ◌≤◌, ℕ, zero, suc, true, false}
use Rattle.hmc_outside.specs.Raised.{raised, raised_by}
use Rattle.hmc_outside.specs.Views.{SourceView}

-- the read found the end of the input or failed
pub record Stops (old new : SourceView) : Type 0 where
  pub counted : new.stops ≡ raised old.stops
  pub stopped : new.stopped ≡ true

-- the read gave bytes
pub record GoesOn (old new : SourceView) : Type 0 where
  pub counted : new.stops ≡ old.stops
  pub stopped : new.stopped ≡ false

-- the read was asked for no bytes
pub record Stays (old new : SourceView) : Type 0 where
  pub counted : new.stops ≡ old.stops
  pub stopped : new.stopped ≡ old.stopped

-- how many reads asked for no bytes, after one that asked for so many
abbrev pub empty_after : (asked : ℕ) → ℕ → ℕ
empty_after zero empty = raised empty
empty_after (suc asked) empty = empty

-- it was one read, of so many bytes
pub record ReadsOnce (old new : SourceView) (asked : ℕ) : Type 0 where
  pub reads : new.reads ≡ raised old.reads
  pub empty_reads : new.empty_reads ≡ empty_after asked old.empty_reads

-- there were so many reads at most, and each asked for a byte at least
pub record ReadsFew (old new : SourceView) (most : ℕ) : Type 0 where
  pub times : ℕ
  pub few : times ≤ most
  pub reads : new.reads ≡ raised_by times old.reads
  pub empty_reads : new.empty_reads ≡ old.empty_reads
