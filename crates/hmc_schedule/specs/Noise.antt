-- Noise: each n-th landing that rounds make has a mask.
use Rattle.std.specs.Prelude.{◌≤◌, ◌+◌, ◌%◌, ◌==◌, ℕ, Bool, true, false, List, [], ◌∷◌, length, map, filter, Option, Some, None, if◌then◌else◌}
use Rattle.hmc_codes.specs.Flit.{zero_flit, IsFlit}
use Rattle.hmc_codes.specs.Numbers.{upto}
use Rattle.hmc_schedule.specs.declared.noise.Noise.{Noise}
use Rattle.hmc_schedule.specs.declared.step.Step.{Step}
use Rattle.hmc_schedule.specs.declared.step.Step.TheVariants.{Land}

-- whether the step is a landing; an idle one is one too
abbrev pub is_land : Step → Bool
is_land (Land direction mask) = true
is_land step = false

-- the number of landings among some steps
abbrev pub lands_in : List Step → ℕ
lands_in steps = length (filter is_land steps)

-- one landing in each of so many directions
abbrev pub lands_of : ℕ → List Step
lands_of directions = map (λ direction. Land direction zero_flit) (upto directions)

-- noise of a number and a mask that has counted nothing yet
abbrev pub new_noise : ℕ × List ℕ → Noise
new_noise noise = record { every = noise.0; mask = noise.1; count = 0 }

-- the noise after so many landings more
abbrev pub counted : ℕ → Noise → Noise
counted more noise = record noise { count = noise.count + more }

-- the number of landings counted after this step of a round, if count were counted before it
abbrev pub count_after : ℕ → Step → ℕ
count_after count step = if is_land step then count + 1 else count

-- the mask of the landing with this number, where each n-th has the mask of the noise
abbrev pub mask_at : Noise → ℕ → List ℕ → List ℕ
mask_at noise number mask = if number % noise.every == 0 then noise.mask else mask

-- a step of a round, if count landings were counted before it
abbrev pub noisy_step : Noise → ℕ → Step → Step
noisy_step noise count (Land direction mask) = Land direction (mask_at noise (count + 1) mask)
noisy_step noise count step = step

-- the steps of rounds, if count landings were counted before them
unfoldable pub noisy : Noise → ℕ → List Step → List Step
noisy noise count [] = []
noisy noise count (step ∷ steps) =
    noisy_step noise count step ∷ noisy noise (count_after count step) steps

-- the steps of rounds, with noise or without
abbrev pub noisy_if : Option Noise → List Step → List Step
noisy_if None steps = steps
noisy_if (Some noise) steps = noisy noise noise.count steps

-- noise that counted at most as many landings as there are steps
pub record IsNoise (steps : ℕ) (noise : Noise) : Type 0 where
  pub some : 1 ≤ noise.every
  pub few : noise.count ≤ steps
  pub mask : IsFlit noise.mask
