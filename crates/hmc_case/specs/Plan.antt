-- The parts that the schedule of a case may name.
use Rattle.std.specs.Prelude.{ℕ, ◌+◌, ◌*◌, List, [], ◌∷◌, length, map}
use Rattle.hmc_codes.specs.Limits.{ports}
use Rattle.hmc_codes.specs.Numbers.{upto}
use Rattle.hmc_codes.specs.declared.place.Place.TheVariants.{Port}
use Rattle.hmc_schedule.specs.Plan.{PlanFields, CubePlanFields}
use Rattle.hmc_case.specs.Net.{NetFields}
use Rattle.hmc_case.specs.Places.{is_taken}
use Rattle.hmc_case.specs.Setup.{CubeSetupFields}
use Rattle.hmc_case.specs.declared.setup.LinkRow.{LinkRow}

-- which ports of a cube a link joins
abbrev pub ports_of : List LinkRow → ℕ → CubeSetupFields → CubePlanFields
ports_of links number cube = record {
  shape = cube.shape;
  ports = map (λ port. is_taken links (Port number port)) (upto ports);
}

-- each cube, the first of them with this number
abbrev pub plans_of : List LinkRow → ℕ → List CubeSetupFields → List CubePlanFields
plans_of links number [] = []
plans_of links number (cube ∷ cubes) =
    ports_of links number cube ∷ plans_of links (number + 1) cubes

-- the plan for which the schedule is read; a link has two directions
abbrev pub plan_of : NetFields → PlanFields
plan_of net = record {
  hosts = net.hosts;
  directions = 2 * length net.links;
  cubes = plans_of net.links 0 net.cubes;
}
