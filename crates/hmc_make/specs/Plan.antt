-- The cubes of the chain, as steps name their parts.
use Rattle.std.specs.Prelude.{ℕ, ◌+◌, nat_lt, true, false, [], ◌∷◌}
use Rattle.hmc_make.specs.Chain.{cube}
use Rattle.hmc_schedule.specs.Plan.{CubePlanFields}

-- links join port 0 and, except at the last cube, port 1
abbrev pub cube_plan : (cubes number : ℕ) → CubePlanFields
cube_plan cubes number = record {
  shape = cube.shape;
  ports = true ∷ nat_lt (number + 1) cubes ∷ false ∷ false ∷ [];
}
