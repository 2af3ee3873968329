use Rattle.std.proofs.Common.{◌≡◌, ℕ, ◌<◌, ◌+◌, false, cond, length, slice_index_or}
use Rattle.hmc_routes.proofs.distances.count_hops.Given as goal

abbrev pub invariant-each : goal.invariant-each
invariant-each l = record {
  eight : length l.counted ≡ 8;
  counted : (cube : ℕ) → cube < l.cube → slice_index_or l.counted cube 0 ≡ slice_index_or l.distances cube 0 + cond (slice_index_or l.near cube false) 0 1;
}
