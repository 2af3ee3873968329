-- The hosts, and what an entry leaves of them.
use Rattle.std.specs.Prelude.{◌<◌, ℕ, List, [], length, drop, slice_get, slice_index_or, Option, ◌≡◌, ◌+◌, slice_set, Some, None}
use Rattle.hmc_codes.specs.declared.counts.HostCounts.{HostCounts}
use Rattle.hmc_host.specs.Host.{HostFields, opening_host}
use Rattle.hmc_tally.specs.Tally.{TallyFields, host_row}
use Rattle.hmc_entries.specs.declared.entry.Entry.{Entry}
use Rattle.hmc_script.specs.Items.{ItemFields}
use Rattle.hmc_host.specs.Tags.{with_out, number_out}
use Rattle.hmc_host.specs.declared.settled.Settled.TheVariants as settles
use Rattle.hmc_host.specs.Settle.{after_settle}
use Rattle.hmc_entries.specs.declared.outcome.Cause.{Cause}
use Rattle.hmc_entries.specs.declared.entry.Entry.TheVariants.{Gave, Took}
use Rattle.hmc_host.specs.declared.given.Hindrance.{Hindrance}
use Rattle.hmc_host.specs.declared.given.Hindrance.TheVariants as hindrances
use Rattle.hmc_entries.specs.declared.outcome.Cause.TheVariants as causes

-- in place of a host that isn't there: one without requests
abbrev pub no_host : HostFields
no_host = record { number = 0; left = []; given = 0; tags = [] }

-- the host with a number
abbrev pub host_in : List HostFields → ℕ → HostFields
host_in hosts host = slice_index_or hosts host no_host

-- so many hosts that have given none of their requests of a script
pub record AreNewHosts (count : ℕ) (script : List ItemFields) (hosts : List HostFields)
    : Type 0 where
  pub counted : length hosts ≡ count
  pub each : (host : ℕ) (d : HostFields) → host < count →
      slice_index_or hosts host d ≡ opening_host host script

-- one of the hosts is changed
abbrev pub with_host : ℕ → (HostFields → HostFields) → List HostFields → List HostFields
with_host host changed hosts = slice_set hosts host (changed (host_in hosts host))

-- the host of an entry is there
abbrev pub IsHostIn : List HostFields → Entry → Type 0
IsHostIn hosts (Gave host tag poisoned request) = host < length hosts
IsHostIn hosts (Took host tag answer) = host < length hosts
IsHostIn hosts _ = Unit {0}

-- a request goes out under its tag
abbrev pub gave_one : (tag : Option ℕ) → HostFields → HostFields
gave_one tag host =
    record host { left = drop 1 host.left; given = host.given + 1; tags = with_out tag host.tags }

-- the hosts after an entry
abbrev pub hosts_after : Entry → List HostFields → List HostFields
hosts_after (Gave host tag poisoned request) hosts = with_host host (gave_one tag) hosts
hosts_after (Took host tag answer) hosts =
    with_host host (after_settle (settles.Took tag answer)) hosts
hosts_after _ hosts = hosts

-- the cause that a host gives nothing
abbrev pub cause_by : Hindrance → Cause
cause_by hindrances.Ended = causes.Ended
cause_by hindrances.Fence = causes.Fence
cause_by hindrances.Tags = causes.Tags
cause_by hindrances.Full = causes.Full

-- the tags of a host that are out
abbrev pub out_of : Option HostFields → ℕ
out_of None = 0
out_of (Some host) = number_out host.tags

-- what is counted of a host
abbrev pub host_counts_of : TallyFields → List HostFields → (host : ℕ) → HostCounts
host_counts_of tally hosts host = record {
  given = (host_row tally host).given;
  taken = (host_row tally host).taken;
  out = out_of (slice_get hosts host);
}
