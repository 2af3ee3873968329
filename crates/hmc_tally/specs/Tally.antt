-- What is counted of directions, hosts and cubes, kept as the steps are taken.
use Rattle.std.specs.Prelude.{◌≤◌, ◌<◌, ◌/◌, ℕ, ◌+◌, Bool, true, false, List, All, length, map, replicate, slice_set, slice_index_or}
use Rattle.hmc_codes.specs.Numbers.{upto}
use Rattle.hmc_codes.specs.declared.counts.Counters.{Counters}
use Rattle.hmc_codes.specs.declared.counts.CubeCounts.{CubeCounts}
use Rattle.hmc_packet.specs.Landings.{mode}
use Rattle.hmc_packet.specs.Receptions.{is_arrival}
use Rattle.hmc_packet.specs.declared.outcome.Outcome.{Outcome}
use Rattle.hmc_packet.specs.declared.outcome.Outcome.TheVariants.{Repeat, AbortedBad, AbortedOrder}
use Rattle.hmc_schedule.specs.declared.step.Step.{Step}
use Rattle.hmc_schedule.specs.declared.step.Step.TheVariants as steps
use Rattle.hmc_send.specs.LinkEntries.{receiver_entries}
use Rattle.hmc_packet.specs.Masks.{changes}
use Rattle.hmc_journal.specs.Counts.{taken_count, cube_counts, direction_counts, is_good}
use Rattle.hmc_journal.specs.Hosts.{given_count, count_if}
use Rattle.hmc_journal.specs.Links.{toward}
use Rattle.hmc_journal.specs.Setup.{Topology, unit_cube, cubes_in, hosts_in, directions_in}
use Rattle.hmc_journal.specs.StepView.{StepView}
use Rattle.hmc_entries.specs.declared.entry.Entry.{Entry}
use Rattle.hmc_entries.specs.declared.event.Event.{Event}
use Rattle.hmc_entries.specs.declared.event.Event.TheVariants.{Gave, Sent, Landed, Unlocked, Took, Executed, Dropped}
use Rattle.hmc_tally.specs.declared.tally.HostSteps.{HostSteps}

-- the counts of each direction, host and cube, by its number
pub record TallyFields : Type 0 where
  pub directions : List Counters
  pub hosts : List HostSteps
  pub cubes : List CubeCounts

-- no more of each than a byte can number
pub record IsTally (tally : TallyFields) : Type 0 where
  pub directions : length tally.directions < 256
  pub hosts : length tally.hosts < 256
  pub cubes : length tally.cubes < 256

-- nothing is counted
abbrev pub no_counters : Counters
no_counters = record { sent = 0; landed = 0; changed = 0; accepted = 0; repeats = 0; aborts = 0 }

abbrev pub no_host_steps : HostSteps
no_host_steps = record { given = 0; taken = 0 }

abbrev pub no_cube_counts : CubeCounts
no_cube_counts = record { executed = 0; dropped = 0 }

-- no step was taken
abbrev pub opening_tally : Topology → TallyFields
opening_tally topology = record {
  directions = replicate (directions_in topology) no_counters;
  hosts = replicate (hosts_in topology) no_host_steps;
  cubes = replicate (cubes_in topology) no_cube_counts;
}

-- the counts of a direction, of a host and of a cube
abbrev pub direction_row : TallyFields → (direction : ℕ) → Counters
direction_row tally direction = slice_index_or tally.directions direction no_counters

abbrev pub host_row : TallyFields → (host : ℕ) → HostSteps
host_row tally host = slice_index_or tally.hosts host no_host_steps

abbrev pub cube_row : TallyFields → (cube : ℕ) → CubeCounts
cube_row tally cube = slice_index_or tally.cubes cube no_cube_counts

-- one of the rows is changed, by its number
abbrev pub with_row : {X : Type 0} → (none : X) → (number : ℕ) → (X → X) → List X → List X
with_row none number changed rows =
    slice_set rows number (changed (slice_index_or rows number none))

-- ---- one step more

-- a flit was sent
abbrev pub one_more_sent : Counters → Counters
one_more_sent counts = record counts { sent = counts.sent + 1 }

-- outcomes that are counted beside arrivals: of a packet that was accepted before, and of an abort
abbrev pub is_repeat : Outcome → Bool
is_repeat Repeat = true
is_repeat _ = false

abbrev pub is_abort : Outcome → Bool
is_abort (AbortedBad bad) = true
is_abort AbortedOrder = true
is_abort _ = false

-- a flit landed, under a mask that changes or not
abbrev pub one_landed : (changed : Bool) → Outcome → Counters → Counters
one_landed changed outcome counts = record counts {
  landed = counts.landed + 1;
  changed = count_if changed counts.changed;
  accepted = count_if (is_arrival outcome) counts.accepted;
  repeats = count_if (is_repeat outcome) counts.repeats;
  aborts = count_if (is_abort outcome) counts.aborts;
}

-- an unlock is an abort where the receiver was good
abbrev pub one_unlocked : (was_good : Bool) → Counters → Counters
one_unlocked was_good counts = record counts { aborts = count_if was_good counts.aborts }

-- a host gave a request, or took an answer
abbrev pub one_given : HostSteps → HostSteps
one_given counts = record counts { given = counts.given + 1 }

abbrev pub one_taken : HostSteps → HostSteps
one_taken counts = record counts { taken = counts.taken + 1 }

-- a cube executed a request, or dropped a packet
abbrev pub one_executed : CubeCounts → CubeCounts
one_executed counts = record counts { executed = counts.executed + 1 }

abbrev pub one_dropped : CubeCounts → CubeCounts
one_dropped counts = record counts { dropped = counts.dropped + 1 }

-- the counts of all directions, of all hosts and of all cubes with one step more
abbrev pub directions_after : (changed was_good : Bool) → Event → List Counters → List Counters
directions_after changed was_good (Sent direction) rows =
    with_row no_counters direction one_more_sent rows
directions_after changed was_good (Landed direction outcome) rows =
    with_row no_counters direction (one_landed changed outcome) rows
directions_after changed was_good (Unlocked direction) rows =
    with_row no_counters direction (one_unlocked was_good) rows
directions_after changed was_good _ rows = rows

abbrev pub host_steps_after : Event → List HostSteps → List HostSteps
host_steps_after (Gave host) rows = with_row no_host_steps host one_given rows
host_steps_after (Took host) rows = with_row no_host_steps host one_taken rows
host_steps_after _ rows = rows

abbrev pub cube_counts_after : Event → List CubeCounts → List CubeCounts
cube_counts_after (Executed unit) rows = with_row no_cube_counts (unit_cube unit) one_executed rows
cube_counts_after (Dropped cube) rows = with_row no_cube_counts cube one_dropped rows
cube_counts_after _ rows = rows

-- all counts with one step more: its event, whether its mask changes, and whether the receiver that
-- it unlocks was good
abbrev pub tallied : (changed was_good : Bool) → Event → TallyFields → TallyFields
tallied changed was_good event tally = record {
  directions = directions_after changed was_good event tally.directions;
  hosts = host_steps_after event tally.hosts;
  cubes = cube_counts_after event tally.cubes;
}

-- the mask of a step changes
abbrev pub step_changes : Step → Bool
step_changes (steps.Land direction mask) = changes mask
step_changes _ = false

-- the receiver that a step unlocks is good
abbrev pub unlocks_good : StepView → Step → Bool
unlocks_good view (steps.Unlock direction) =
    is_good (mode (receiver_entries (toward direction) (view.entries (direction / 2))))
unlocks_good view _ = false

-- ---- the counts of a journal

abbrev pub host_steps : List Entry → (host : ℕ) → HostSteps
host_steps past host = record { given = given_count host past; taken = taken_count host past }

abbrev pub tally_of : Topology → List Entry → TallyFields
tally_of topology past = record {
  directions = map (direction_counts topology past) (upto (directions_in topology));
  hosts = map (host_steps past) (upto (hosts_in topology));
  cubes = map (cube_counts past) (upto (cubes_in topology));
}

-- ---- no count is above a number

pub record CountersWithin (most : ℕ) (counts : Counters) : Type 0 where
  pub sent : counts.sent ≤ most
  pub landed : counts.landed ≤ most
  pub changed : counts.changed ≤ most
  pub accepted : counts.accepted ≤ most
  pub repeats : counts.repeats ≤ most
  pub aborts : counts.aborts ≤ most

pub record HostWithin (most : ℕ) (counts : HostSteps) : Type 0 where
  pub given : counts.given ≤ most
  pub taken : counts.taken ≤ most

pub record CubeWithin (most : ℕ) (counts : CubeCounts) : Type 0 where
  pub executed : counts.executed ≤ most
  pub dropped : counts.dropped ≤ most

pub record IsWithin (most : ℕ) (tally : TallyFields) : Type 0 where
  pub directions : All (CountersWithin most) tally.directions
  pub hosts : All (HostWithin most) tally.hosts
  pub cubes : All (CubeWithin most) tally.cubes
