use Rattle.std.proofs.Common.{◌≡◌, ℕ, ◌<◌, None, length, slice_index_or}
use Rattle.std.specs.List.{find}
use Rattle.hmc_codes.specs.Limits.{ports}
use Rattle.hmc_codes.specs.Numbers.{upto}
use Rattle.hmc_routes.specs.Tables.{nearer_by}
use Rattle.hmc_routes.proofs.ports.ports_by.Given as goal

abbrev pub invariant-each : goal.invariant-each
invariant-each l = record {
  eight : length l.ports ≡ 8;
  ports : (cube : ℕ) → cube < l.cube → slice_index_or l.ports cube None ≡ find (nearer_by l.graph (λ at. slice_index_or l.distances at 0) cube) (upto ports);
}
