use Rattle.std.proofs.Common.{◌≡◌, ℕ, ◌<◌, ◌||◌, false, length, slice_index_or}
use Rattle.hmc_routes.specs.Neighbours.{some_neighbour}
use Rattle.hmc_routes.proofs.distances.one_hop_more.Given as goal

abbrev pub invariant-each : goal.invariant-each
invariant-each l = record {
  eight : length l.further ≡ 8;
  near : (cube : ℕ) → cube < l.cube → slice_index_or l.further cube false ≡ (slice_index_or l.near cube false || some_neighbour l.graph (λ next. slice_index_or l.near next false) cube);
}
