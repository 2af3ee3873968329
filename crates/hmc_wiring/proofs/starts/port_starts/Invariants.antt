use Rattle.std.proofs.Common.{◌≡◌, ℕ, ◌<◌, ◌/◌, ◌%◌, None, length, slice_index_or}
use Rattle.hmc_codes.specs.declared.place.Place.TheVariants as places
use Rattle.hmc_routes.specs.Directions.{direction_from}
use Rattle.hmc_wiring.proofs.starts.port_starts.Given as goal

abbrev pub invariant-each : goal.invariant-each
invariant-each l = record {
  all : length l.starts ≡ 32;
  so_far : (place : ℕ) → place < l.place → slice_index_or l.starts place None ≡ direction_from l.joins (places.Port (place / 4) (place % 4));
}
