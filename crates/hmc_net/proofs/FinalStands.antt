-- What a network shows is what its journal leaves.
use Rattle.std.proofs.Common.{◌≡◌, ◌<◌, ◌/◌, ◌∙◌, ℕ, false, List, length, sym, ap, arith}
use Rattle.std.specs.Prelude.{slice_index_or}
use Rattle.std.proofs.lemmas.Option.{slice_get-get_or}
use Rattle.circular_buffer.proofs.Places.{slice_get-some}
use Rattle.hmc_report.specs.Final.{ending_lines, final_lines}
use Rattle.hmc_link.specs.Held.{LinkHeld, sending_end, landing_end}
use Rattle.hmc_ends.specs.End.{row_held}
use Rattle.hmc_link.proofs.Joins.{forth-both, back-both}
use Rattle.hmc_ends.proofs.TokenRows.{row-is}
use Rattle.hmc_link.specs.StandsFor.{LinkStandsFor}
use Rattle.hmc_codes.specs.Link.{LinkFields}
use Rattle.hmc_send.specs.LinkEntries.{LinkEntry}
use Rattle.hmc_send.specs.LinkSenders as senders
use Rattle.hmc_send.specs.declared.toward.Toward.{Toward}
use Rattle.hmc_send.specs.declared.toward.Toward.TheVariants.{Forth, Back}
use Rattle.hmc_serial.specs.Cube.{CubeState}
use Rattle.hmc_serial.specs.Machine.{State, cube_state_at}
use Rattle.hmc_entries.specs.declared.entry.Entry.{Entry}
use Rattle.hmc_journal.specs.Counts.{host_counts, cube_counts, direction_counts, token_counts}
use Rattle.hmc_journal.specs.Final.{values_of, final_lines_of, cube_left}
use Rattle.hmc_journal.specs.Lawful.{has_passed}
use Rattle.hmc_journal.specs.Links.{toward, link_entries}
use Rattle.hmc_journal.specs.Setup.{Setup, cubes_in, hosts_in, directions_in}
use Rattle.hmc_net.specs.Finished.{memory_of, registers_of, is_quiescent, net_values}
use Rattle.hmc_links.specs.Tokens.{tokens_of, tokens_at}
use Rattle.hmc_kept.specs.Called.{sizes_by}
use Rattle.hmc_net.specs.NetState.{NetState, cube_in, no_cube}
use Rattle.hmc_net.specs.Stands.{StandsFor}
use Rattle.hmc_tally.specs.Tally.{TallyFields, no_counters, no_cube_counts, direction_row, cube_row, host_steps, tally_of}
use Rattle.hmc_tally.proofs.Rows.{value_at}
use Rattle.hmc_net.proofs.Standing.{state_at}
use Rattle.hmc_net.proofs.Stillness.{drained_test}
use Rattle.hmc_net.proofs.Still.{still_iff}
use Rattle.hmc_kept.proofs.Called.{tokens_told}
use Rattle.hmc_kept.proofs.HostsShown.{host_shown}
use Rattle.hmc_tally.proofs.Alike.{AreAlike, ending_alike, lines_alike, rows_count}

-- ---- a network and its journal

-- the tokens that a link holds are those of its entries
row_told : (link : LinkFields) (d : Toward) (held : LinkHeld) (past : List LinkEntry) → LinkStandsFor link held past → row_held (sending_end d held) (landing_end d held) ≡ senders.tokens link d past
row_told link Forth held past stands = row-is link Forth past held.a held.b (forth-both link held past stands)
row_told link Back held past stands = row-is link Back past held.b held.a (back-both link held past stands)

tokens_shown : (net : NetState) (setup : Setup) (past : List Entry) (d : ℕ) → StandsFor net setup past → has_passed past ≡ false → d < directions_in setup.topology → tokens_at net.links d ≡ token_counts setup.topology past d
tokens_shown net setup past d stands on less =
    let links = stands.links on in
    let there : d / 2 < length net.links = omega (arith, less, links.count) in
    let some = slice_get-some net.links (d / 2) there in
    ap (tokens_of (toward d)) (slice_get-get_or net.links (d / 2) some.0 there)
    ∙ row_told (sizes_by setup.topology.links d) (toward d) (slice_index_or net.links (d / 2) some.0) (link_entries setup.topology (d / 2) past) (links.stand (d / 2) some.0 there)
    ∙ tokens_told setup.topology past d

cube_shown : (net : NetState) (setup : Setup) (past : List Entry) (cube : ℕ) → StandsFor net setup past → (cube_in net.cubes cube).state ≡ cube_left setup past cube
cube_shown net setup past cube stands = sym (state_at net.cubes net.slots cube) ∙ ap (λ (s : State). cube_state_at s cube) stands.state

cube_there : (net : NetState) (setup : Setup) (past : List Entry) (cube : ℕ) → StandsFor net setup past → cube < cubes_in setup.topology → cube < length net.cubes
cube_there net setup past cube stands less = let count = stands.sized.cubes ∙ ap cubes_in stands.topology in omega (arith, less, count)

host_there : (net : NetState) (setup : Setup) (past : List Entry) (host : ℕ) → StandsFor net setup past → host < hosts_in setup.topology → host < length net.hosts
host_there net setup past host stands less = let count = stands.sized.hosts ∙ ap hosts_in stands.topology in omega (arith, less, count)

-- what it shows, value by value
pub alike : (net : NetState) (setup : Setup) (past : List Entry) → StandsFor net setup past → has_passed past ≡ false → AreAlike (net_values net) (values_of setup past)
unfolding net_values values_of
alike net setup past stands on =
    let topology = setup.topology in
    let tally : net.tally ≡ tally_of topology past = stands.tally on in
    record {
      cubes = ap (λ (t : TallyFields). length t.cubes) tally ∙ rows_count (cube_counts past) (cubes_in topology);
      directions = ap (λ (t : TallyFields). length t.directions) tally ∙ rows_count (direction_counts topology past) (directions_in topology);
      hosts = ap (λ (t : TallyFields). length t.hosts) tally ∙ rows_count (host_steps past) (hosts_in topology);
      memory = λ cube less. ap memory_of (slice_get-get_or net.cubes cube no_cube (cube_there net setup past cube stands less)) ∙ ap (λ (s : CubeState). s.memory) (cube_shown net setup past cube stands);
      registers = λ cube less. ap registers_of (slice_get-get_or net.cubes cube no_cube (cube_there net setup past cube stands less)) ∙ ap (λ (s : CubeState). s.registers) (cube_shown net setup past cube stands);
      tokens = λ d less. tokens_shown net setup past d stands on less;
      counters = λ d less. ap (λ (t : TallyFields). direction_row t d) tally ∙ value_at (direction_counts topology past) (directions_in topology) d no_counters less;
      host_counts = λ host less. (let there = host_there net setup past host stands less in host_shown setup past net.tally net.hosts host tally less there (stands.hosts host there));
      cube_counts = λ cube less. ap (λ (t : TallyFields). cube_row t cube) tally ∙ value_at (cube_counts past) (cubes_in topology) cube no_cube_counts less;
      drained = drained_test net past setup (is_quiescent net) stands on (still_iff net);
    }

-- the final lines, all of them and from tokens on
pub final_lines-stands : (net : NetState) (setup : Setup) (past : List Entry) → StandsFor net setup past → has_passed past ≡ false → final_lines (net_values net) ≡ final_lines_of setup past
unfolding final_lines_of
final_lines-stands net setup past stands on = lines_alike (net_values net) (values_of setup past) (alike net setup past stands on)

pub ending_lines-stands : (net : NetState) (setup : Setup) (past : List Entry) → StandsFor net setup past → has_passed past ≡ false → ending_lines (net_values net) ≡ ending_lines (values_of setup past)
ending_lines-stands net setup past stands on = ending_alike (net_values net) (values_of setup past) (alike net setup past stands on)
