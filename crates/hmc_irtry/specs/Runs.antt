-- Runs of IRTRYs of one kind.
use Rattle.std.specs.Prelude.{◌≤◌, ℕ, ◌+◌, ◌==◌, nat_lt, min, if◌then◌else◌, Option, Some, None}
use Rattle.hmc_packet.specs.declared.kind.Kind.{Kind}
pub use Rattle.hmc_packet.specs.Landings.{whole_run, same_kind}
use Rattle.hmc_irtry.specs.declared.runs.Counted.{Counted}
use Rattle.hmc_irtry.specs.declared.runs.Counted.TheVariants.{Below, Now, After}

-- a kind, and how many IRTRYs of it came in a row, counted up to a whole run
pub record RunFields : Type 0 where
  pub kind : Kind
  pub count : ℕ

-- what each run keeps
pub record IsRun (run : RunFields) : Type 0 where
  pub count : run.count ≤ whole_run

-- how many of a kind came in a row
abbrev pub run_of : Kind → RunFields → ℕ
run_of kind run = if same_kind run.kind kind then run.count else 0

-- an IRTRY lengthens the run of its kind, or begins one; anything else ends the run
abbrev pub after_seen : Option (Kind × ℕ) → RunFields → RunFields
after_seen None run = record run { count = 0 }
after_seen (Some seen) run = record { kind = seen.0; count = min (run_of seen.0 run + 1) whole_run }

-- what one more is, after so many of its kind
abbrev pub counted_after : ℕ → Counted
counted_after before =
    if nat_lt (before + 1) whole_run then Below else if before + 1 == whole_run then Now else After

-- what a flit is in its run
abbrev pub counted_of : Option (Kind × ℕ) → RunFields → Counted
counted_of None run = Below
counted_of (Some seen) run = counted_after (run_of seen.0 run)
