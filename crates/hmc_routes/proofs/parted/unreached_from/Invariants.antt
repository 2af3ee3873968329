use Rattle.std.proofs.Common.{◌≡◌, ℕ, ◌<◌, true}
use Rattle.hmc_routes.specs.Distance.{has_walk}
use Rattle.hmc_routes.proofs.parted.unreached_from.Given as goal

abbrev pub invariant-each : goal.invariant-each
invariant-each l = (k : ℕ) → k < l.to → has_walk l.graph k l.from ≡ true
