-- The steps: rounds with noise, then rounds without.
use Rattle.std.specs.Prelude.{ℕ, List, [], ◌∷◌, ◌++◌, replicate, Some}
use Rattle.hmc_schedule.specs.Noise.{new_noise, noisy_if}
use Rattle.hmc_schedule.specs.Plan.{PlanFields}
use Rattle.hmc_schedule.specs.Round.{rounds_of}
use Rattle.hmc_schedule.specs.declared.step.Step.{Step}

-- the mask of the noise: it inverts the lowest bit of a flit's last byte
abbrev pub mask : List ℕ
mask = replicate 15 0 ++ 1 ∷ []

-- 4,000 rounds, of whose landings each 2,003rd has the mask, then 2,000 rounds without noise
unfoldable pub steps_of : PlanFields → List Step
steps_of plan =
    noisy_if (Some (new_noise (2003, mask))) (rounds_of plan 4000) ++ rounds_of plan 2000
