use Rattle.std.proofs.Common.{◌≡◌, ℕ, ◌<◌, false, slice_index_or}
use Rattle.hmc_routes.proofs.Firsts.{first}
use Rattle.hmc_routes.specs.Distance.{within}
use Rattle.hmc_routes.proofs.distances.distances_to.Given as goal

abbrev pub invariant-hops : goal.invariant-hops
invariant-hops l = record {
  near : (cube : ℕ) → cube < l.graph.cubes → slice_index_or l.near cube false ≡ within l.graph l.goal l._hops cube;
  distances : (cube : ℕ) → cube < l.graph.cubes → slice_index_or l.distances cube 0 ≡ first (λ hops. within l.graph l.goal hops cube) l._hops;
}
