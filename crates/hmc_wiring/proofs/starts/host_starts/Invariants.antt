use Rattle.std.proofs.Common.{◌≡◌, ℕ, ◌<◌, None, length, slice_index_or}
use Rattle.hmc_codes.specs.declared.place.Place.TheVariants as places
use Rattle.hmc_routes.specs.Directions.{direction_from}
use Rattle.hmc_wiring.proofs.starts.host_starts.Given as goal

abbrev pub invariant-each : goal.invariant-each
invariant-each l = record {
  eight : length l.starts ≡ 8;
  so_far : (host : ℕ) → host < l.host → slice_index_or l.starts host None ≡ direction_from l.joins (places.Host host);
}
