use Rattle.std.proofs.Common.{◌≡◌, ℕ, ◌<◌, None, length, slice_index_or}
use Rattle.hmc_routes.specs.Tables.{home_at}
use Rattle.hmc_routes.proofs.table.homes_of.Given as goal

abbrev pub invariant-each : goal.invariant-each
invariant-each l = record {
  eight : length l.homes ≡ 8;
  homes : (host : ℕ) → host < l.host → slice_index_or l.homes host None ≡ home_at l.graph host;
}
