-- How a step went.
use Rattle.std.specs.Prelude.{if◌then◌else◌, Option, Some, None}
use Rattle.hmc_entries.specs.declared.outcome.Cause.{Cause}
use Rattle.hmc_entries.specs.declared.entry.Entry.{Entry}
use Rattle.hmc_entries.specs.Event.{cause_of, is_passed}
use Rattle.hmc_net.specs.declared.went.Went.{Went}
use Rattle.hmc_net.specs.declared.went.Went.TheVariants.{Done, Idle, Passed}

-- idle where there is a cause
abbrev pub went_by : Option Cause → Went
went_by (Some cause) = Idle cause
went_by None = Done

-- passed exactly where its entry is; idle exactly where that is, with its cause
abbrev pub went_of : Entry → Went
went_of entry = (if is_passed entry then Passed else went_by (cause_of entry))
