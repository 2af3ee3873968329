-- The case of a number: its last two bits are one less than the number of cubes, and the draws of
-- its 200 requests begin at the number.
use Rattle.std.specs.Prelude.{ℕ, ◌+◌, ◌%◌}
use Rattle.hmc_case.specs.Case.{CaseFields}
use Rattle.hmc_case.specs.Plan.{plan_of}
use Rattle.hmc_make.specs.Chain.{chain_of}
use Rattle.hmc_make.specs.Requests.{items_from}
use Rattle.hmc_make.specs.Steps.{steps_of}

-- the number of its cubes, 1 to 4
abbrev pub cube_count : (number : ℕ) → ℕ
cube_count number = 1 + number % 4

-- the case
unfoldable pub case_of_number : (number : ℕ) → CaseFields
case_of_number number =
    let cubes = cube_count number in
    record {
      net = chain_of cubes;
      script = items_from 200 cubes number;
      schedule = steps_of (plan_of (chain_of cubes));
    }
