-- What is shown is what the journal leaves.
use Rattle.std.proofs.Common.{◌≡◌, ◌<◌, ◌/◌, ◌∙◌, ℕ, false, List, length, ap, ap₂, arith}
use Rattle.std.specs.Prelude.{slice_index_or}
use Rattle.std.proofs.lemmas.Option.{slice_get-get_or}
use Rattle.circular_buffer.proofs.Places.{slice_get-some}
use Rattle.hmc_report.specs.Final.{final_lines}
use Rattle.hmc_routes.specs.Directions.{other}
use Rattle.hmc_ends.proofs.TokenRows.{row-is}
use Rattle.hmc_serial.specs.Machine.{State, cube_state_at}
use Rattle.hmc_entries.specs.declared.entry.Entry.{Entry}
use Rattle.hmc_journal.specs.Counts.{cube_counts, direction_counts, host_counts, token_counts}
use Rattle.hmc_journal.specs.Final.{values_of, final_lines_of}
use Rattle.hmc_journal.specs.Lawful.{has_passed}
use Rattle.hmc_journal.specs.Links.{toward, link_entries}
use Rattle.hmc_journal.specs.Setup.{Setup, cubes_in, hosts_in, directions_in}
use Rattle.hmc_tally.proofs.Rows.{value_at}
use Rattle.hmc_kept.proofs.Called.{tokens_told}
use Rattle.hmc_kept.proofs.HostsShown.{host_shown}
use Rattle.hmc_directions.specs.Ends.{EndsHold, row_of, row_at}
use Rattle.hmc_kept.specs.Called.{sizes_by}
use Rattle.hmc_directions.proofs.Calls.{other_there}
use Rattle.hmc_tally.specs.Tally.{TallyFields, no_counters, no_cube_counts, direction_row, cube_row, host_steps, tally_of}
use Rattle.hmc_check.specs.Finished.{past_values}
use Rattle.hmc_check.specs.Past.{PastFields, Holds, Keeps}
use Rattle.hmc_check.proofs.Drained.{drained_test}
use Rattle.hmc_check.proofs.Shown.{memory_there, registers_there}
use Rattle.hmc_tally.proofs.Alike.{AreAlike, lines_alike, rows_count}

-- ---- what is kept and its journal

tokens_shown : (p : PastFields) (setup : Setup) (past : List Entry) (d : ℕ) → EndsHold setup.topology.links p.ends (λ link. link_entries setup.topology link past) → d < directions_in setup.topology → row_at p.ends d ≡ token_counts setup.topology past d
tokens_shown p setup past d hold less =
    let near : d < length p.ends = omega (arith, less, hold.count) in
    let far = other_there setup.topology.links p.ends (λ link. link_entries setup.topology link past) d hold near in
    let some = slice_get-some p.ends d near in
    ap₂ row_of (slice_get-get_or p.ends d some.0 near) (slice_get-get_or p.ends (other d) some.0 far)
    ∙ row-is (sizes_by setup.topology.links d) (toward d) (link_entries setup.topology (d / 2) past) (slice_index_or p.ends d some.0) (slice_index_or p.ends (other d) some.0) (hold.stand d some.0 near)
    ∙ tokens_told setup.topology past d

cube_there : (p : PastFields) (setup : Setup) (past : List Entry) (cube : ℕ) → Holds setup past p → cube < cubes_in setup.topology → cube < length p.cubes
cube_there p setup past cube holds less = let count = holds.sized.cubes ∙ ap cubes_in holds.topology in omega (arith, less, count)

host_there : (p : PastFields) (setup : Setup) (past : List Entry) (host : ℕ) → Holds setup past p → host < hosts_in setup.topology → host < length p.hosts
host_there p setup past host holds less = let count = holds.sized.hosts ∙ ap hosts_in holds.topology in omega (arith, less, count)

alike : (p : PastFields) (setup : Setup) (past : List Entry) → Keeps setup past p → has_passed past ≡ false → AreAlike (past_values p) (values_of setup past)
unfolding past_values values_of
alike p setup past keeps on =
    let topology = setup.topology in
    let holds = keeps.holds in
    let tally : p.tally ≡ tally_of topology past = keeps.counts.counted on in
    let state = holds.inner.state in
    record {
      cubes = ap (λ (t : TallyFields). length t.cubes) tally ∙ rows_count (cube_counts past) (cubes_in topology);
      directions = ap (λ (t : TallyFields). length t.directions) tally ∙ rows_count (direction_counts topology past) (directions_in topology);
      hosts = ap (λ (t : TallyFields). length t.hosts) tally ∙ rows_count (host_steps past) (hosts_in topology);
      memory = λ cube less. memory_there p.cubes cube (cube_there p setup past cube holds less) ∙ ap (λ (s : State). (cube_state_at s cube).memory) state;
      registers = λ cube less. registers_there p.cubes cube (cube_there p setup past cube holds less) ∙ ap (λ (s : State). (cube_state_at s cube).registers) state;
      tokens = λ d less. tokens_shown p setup past d (holds.ends on) less;
      counters = λ d less. ap (λ (t : TallyFields). direction_row t d) tally ∙ value_at (direction_counts topology past) (directions_in topology) d no_counters less;
      host_counts = λ host less. (let there = host_there p setup past host holds less in host_shown setup past p.tally p.hosts host tally less there (holds.hosts host there));
      cube_counts = λ cube less. ap (λ (t : TallyFields). cube_row t cube) tally ∙ value_at (cube_counts past) (cubes_in topology) cube no_cube_counts less;
      drained = drained_test setup past p holds on;
    }

-- the final lines
pub final_lines_kept : (p : PastFields) (setup : Setup) (past : List Entry) → Keeps setup past p → has_passed past ≡ false → final_lines (past_values p) ≡ final_lines_of setup past
unfolding final_lines_of
final_lines_kept p setup past keeps on = lines_alike (past_values p) (values_of setup past) (alike p setup past keeps on)
