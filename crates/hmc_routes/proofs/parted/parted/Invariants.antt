use Rattle.std.proofs.Common.{◌≡◌, ℕ, ◌<◌, None}
use Rattle.hmc_routes.specs.Parted.{unreached_from}
use Rattle.hmc_routes.proofs.parted.parted.Given as goal

abbrev pub invariant-each : goal.invariant-each
invariant-each l = (k : ℕ) → k < l.from → unreached_from l.graph k ≡ None
