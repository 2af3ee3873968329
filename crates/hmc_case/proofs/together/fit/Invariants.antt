use Rattle.std.proofs.Common.{◌≡◌, ◌+◌, take}
use Rattle.hmc_codes.specs.Limits.{most_memory}
use Rattle.hmc_case.specs.Together.{total_capacity}
use Rattle.hmc_case.proofs.together.fit.Given as goal

abbrev pub invariant-cubes : goal.invariant-cubes
invariant-cubes l = l.left + total_capacity (take l.cube-index l.cubes) ≡ most_memory
