-- What is within a number is within the next one, also after one step more.
use Rattle.std.proofs.Common.{ℕ, zero, suc, ◌+◌, ◌≤◌, Bool, true, false, List, [], ◌∷◌, arith}
use Rattle.std.specs.List.{All}
use Rattle.std.specs.Prelude.{slice_index_or}
use Rattle.std.proofs.lemmas.List.Elements.{All-set}
use Rattle.hmc_codes.specs.declared.counts.Counters.{Counters}
use Rattle.hmc_codes.specs.declared.counts.CubeCounts.{CubeCounts}
use Rattle.hmc_entries.specs.declared.event.Event.{Event}
use Rattle.hmc_entries.specs.declared.event.Event.TheVariants.{Gave, Sent, Landed, Unlocked, Took, Executed, Dropped}
use Rattle.hmc_journal.specs.Hosts.{count_if}
use Rattle.hmc_journal.specs.Setup.{unit_cube}
use Rattle.hmc_packet.specs.declared.outcome.Outcome.{Outcome}
use Rattle.hmc_packet.specs.Receptions.{is_arrival}
use Rattle.hmc_tally.specs.declared.tally.HostSteps.{HostSteps}
use Rattle.hmc_tally.specs.Tally.{TallyFields, CountersWithin, HostWithin, CubeWithin, IsWithin, no_counters, no_host_steps, no_cube_counts, with_row, one_more_sent, is_repeat, is_abort, one_landed, one_unlocked, one_given, one_taken, one_executed, one_dropped, directions_after, host_steps_after, cube_counts_after, tallied}

-- ---- one row

counters_more : (most : ℕ) (row : Counters) → CountersWithin most row → CountersWithin (most + 1) row
counters_more most row is = record {
  sent = omega (arith, is.sent);
  landed = omega (arith, is.landed);
  changed = omega (arith, is.changed);
  accepted = omega (arith, is.accepted);
  repeats = omega (arith, is.repeats);
  aborts = omega (arith, is.aborts);
}

host_more : (most : ℕ) (row : HostSteps) → HostWithin most row → HostWithin (most + 1) row
host_more most row is = record { given = omega (arith, is.given); taken = omega (arith, is.taken) }

cube_more : (most : ℕ) (row : CubeCounts) → CubeWithin most row → CubeWithin (most + 1) row
cube_more most row is =
    record { executed = omega (arith, is.executed); dropped = omega (arith, is.dropped) }

one_more : (test : Bool) (most count : ℕ) → count ≤ most → count_if test count ≤ most + 1
one_more true most count below = omega (arith, below)
one_more false most count below = omega (arith, below)

sent_within : (most : ℕ) (row : Counters) → CountersWithin most row
    → CountersWithin (most + 1) (one_more_sent row)
sent_within most row is = record {
  sent = omega (arith, is.sent);
  landed = omega (arith, is.landed);
  changed = omega (arith, is.changed);
  accepted = omega (arith, is.accepted);
  repeats = omega (arith, is.repeats);
  aborts = omega (arith, is.aborts);
}

landed_within : (changed : Bool) (outcome : Outcome) (most : ℕ) (row : Counters)
    → CountersWithin most row → CountersWithin (most + 1) (one_landed changed outcome row)
landed_within changed outcome most row is = record {
  sent = omega (arith, is.sent);
  landed = omega (arith, is.landed);
  changed = one_more changed most row.changed is.changed;
  accepted = one_more (is_arrival outcome) most row.accepted is.accepted;
  repeats = one_more (is_repeat outcome) most row.repeats is.repeats;
  aborts = one_more (is_abort outcome) most row.aborts is.aborts;
}

unlocked_within : (was_good : Bool) (most : ℕ) (row : Counters) → CountersWithin most row
    → CountersWithin (most + 1) (one_unlocked was_good row)
unlocked_within was_good most row is = record {
  sent = omega (arith, is.sent);
  landed = omega (arith, is.landed);
  changed = omega (arith, is.changed);
  accepted = omega (arith, is.accepted);
  repeats = omega (arith, is.repeats);
  aborts = one_more was_good most row.aborts is.aborts;
}

given_within : (most : ℕ) (row : HostSteps) → HostWithin most row
    → HostWithin (most + 1) (one_given row)
given_within most row is = record { given = omega (arith, is.given); taken = omega (arith, is.taken) }

taken_within : (most : ℕ) (row : HostSteps) → HostWithin most row
    → HostWithin (most + 1) (one_taken row)
taken_within most row is = record { given = omega (arith, is.given); taken = omega (arith, is.taken) }

executed_within : (most : ℕ) (row : CubeCounts) → CubeWithin most row
    → CubeWithin (most + 1) (one_executed row)
executed_within most row is =
    record { executed = omega (arith, is.executed); dropped = omega (arith, is.dropped) }

dropped_within : (most : ℕ) (row : CubeCounts) → CubeWithin most row
    → CubeWithin (most + 1) (one_dropped row)
dropped_within most row is =
    record { executed = omega (arith, is.executed); dropped = omega (arith, is.dropped) }

-- ---- all rows

-- a fact of each row and of one that isn't there is true of what is read at any number
read_within : {X : Type 0} (P : X → Type 0) (none : X) (rows : List X) (number : ℕ) → P none
    → All P rows → P (slice_index_or rows number none)
read_within P none [] number nothing all = nothing
read_within P none (row ∷ rows) zero nothing all = all 0 none (omega arith)
read_within P none (row ∷ rows) (suc number) nothing all =
    read_within P none rows number nothing (λ k d less. all (suc k) d (omega (arith, less)))

-- where a change keeps rows of `P` within `Q`, so does the change of one of them
row_within : {X : Type 0} (P Q : X → Type 0) (none : X) (number : ℕ) (change : X → X)
    (rows : List X) → P none → ((row : X) → P row → Q row) → ((row : X) → P row → Q (change row))
    → All P rows → All Q (with_row none number change rows)
row_within P Q none number change rows nothing more changed all =
    let row = slice_index_or rows number none in
    All-set Q rows number (change row) (changed row (read_within P none rows number nothing all))
    (λ k d less. more (slice_index_or rows k d) (all k d less))

none_sent : (most : ℕ) → CountersWithin most no_counters
none_sent most = record {
  sent = omega arith;
  landed = omega arith;
  changed = omega arith;
  accepted = omega arith;
  repeats = omega arith;
  aborts = omega arith;
}

none_given : (most : ℕ) → HostWithin most no_host_steps
none_given most = record { given = omega arith; taken = omega arith }

none_executed : (most : ℕ) → CubeWithin most no_cube_counts
none_executed most = record { executed = omega arith; dropped = omega arith }

counters_within : (most direction : ℕ) (change : Counters → Counters) (rows : List Counters)
    → ((row : Counters) → CountersWithin most row → CountersWithin (most + 1) (change row))
    → All (CountersWithin most) rows
    → All (CountersWithin (most + 1)) (with_row no_counters direction change rows)
counters_within most direction change rows changed all =
    row_within (CountersWithin most) (CountersWithin (most + 1)) no_counters direction change rows
    (none_sent most) (counters_more most) changed all

hosts_within : (most host : ℕ) (change : HostSteps → HostSteps) (rows : List HostSteps)
    → ((row : HostSteps) → HostWithin most row → HostWithin (most + 1) (change row))
    → All (HostWithin most) rows
    → All (HostWithin (most + 1)) (with_row no_host_steps host change rows)
hosts_within most host change rows changed all =
    row_within (HostWithin most) (HostWithin (most + 1)) no_host_steps host change rows
    (none_given most) (host_more most) changed all

cubes_within : (most cube : ℕ) (change : CubeCounts → CubeCounts) (rows : List CubeCounts)
    → ((row : CubeCounts) → CubeWithin most row → CubeWithin (most + 1) (change row))
    → All (CubeWithin most) rows
    → All (CubeWithin (most + 1)) (with_row no_cube_counts cube change rows)
cubes_within most cube change rows changed all =
    row_within (CubeWithin most) (CubeWithin (most + 1)) no_cube_counts cube change rows
    (none_executed most) (cube_more most) changed all

directions_more : (most : ℕ) (rows : List Counters) → All (CountersWithin most) rows
    → All (CountersWithin (most + 1)) rows
directions_more most rows all = λ k d less. counters_more most (slice_index_or rows k d) (all k d less)

hosts_more : (most : ℕ) (rows : List HostSteps) → All (HostWithin most) rows
    → All (HostWithin (most + 1)) rows
hosts_more most rows all = λ k d less. host_more most (slice_index_or rows k d) (all k d less)

cubes_more : (most : ℕ) (rows : List CubeCounts) → All (CubeWithin most) rows
    → All (CubeWithin (most + 1)) rows
cubes_more most rows all = λ k d less. cube_more most (slice_index_or rows k d) (all k d less)

pub within_more : (most : ℕ) (tally : TallyFields) → IsWithin most tally
    → IsWithin (most + 1) tally
within_more most tally is = record {
  directions = directions_more most tally.directions is.directions;
  hosts = hosts_more most tally.hosts is.hosts;
  cubes = cubes_more most tally.cubes is.cubes;
}

-- ---- one step more

directions_after_within : (changed was_good : Bool) (event : Event) (most : ℕ) (rows : List Counters)
    → All (CountersWithin most) rows
    → All (CountersWithin (most + 1)) (directions_after changed was_good event rows)
directions_after_within changed was_good (Sent direction) most rows all =
    counters_within most direction one_more_sent rows (sent_within most) all
directions_after_within changed was_good (Landed direction outcome) most rows all =
    counters_within most direction (one_landed changed outcome) rows
    (landed_within changed outcome most) all
directions_after_within changed was_good (Unlocked direction) most rows all =
    counters_within most direction (one_unlocked was_good) rows (unlocked_within was_good most) all
directions_after_within changed was_good _ most rows all = directions_more most rows all

host_steps_after_within : (event : Event) (most : ℕ) (rows : List HostSteps)
    → All (HostWithin most) rows → All (HostWithin (most + 1)) (host_steps_after event rows)
host_steps_after_within (Gave host) most rows all =
    hosts_within most host one_given rows (given_within most) all
host_steps_after_within (Took host) most rows all =
    hosts_within most host one_taken rows (taken_within most) all
host_steps_after_within _ most rows all = hosts_more most rows all

cube_counts_after_within : (event : Event) (most : ℕ) (rows : List CubeCounts)
    → All (CubeWithin most) rows → All (CubeWithin (most + 1)) (cube_counts_after event rows)
cube_counts_after_within (Executed unit) most rows all =
    cubes_within most (unit_cube unit) one_executed rows (executed_within most) all
cube_counts_after_within (Dropped cube) most rows all =
    cubes_within most cube one_dropped rows (dropped_within most) all
cube_counts_after_within _ most rows all = cubes_more most rows all

pub tallied_within : (changed was_good : Bool) (event : Event) (most : ℕ) (tally : TallyFields)
    → IsWithin most tally → IsWithin (most + 1) (tallied changed was_good event tally)
tallied_within changed was_good event most tally is = record {
  directions = directions_after_within changed was_good event most tally.directions is.directions;
  hosts = host_steps_after_within event most tally.hosts is.hosts;
  cubes = cube_counts_after_within event most tally.cubes is.cubes;
}
