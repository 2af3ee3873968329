-- The steps of a text, or its first fault.
use Rattle.std.specs.Prelude.{◌≤◌, ℕ, ◌+◌, nat_le, List, [], ◌∷◌, ◌++◌, length, Option, None, IfSome, option_map, Result, Ok, Err, if◌then◌else◌}
use Rattle.std.specs.List.{All}
use Rattle.hmc_codes.specs.Limits.{most_steps}
use Rattle.hmc_text.specs.InTurn.{after_lines}
use Rattle.hmc_text.specs.Lines.{lines_of}
use Rattle.hmc_text.specs.Reading.{◌>>=◌}
use Rattle.hmc_text.specs.Words.{words_of}
use Rattle.hmc_schedule.specs.declared.fault.ScheduleKind.{ScheduleKind}
use Rattle.hmc_schedule.specs.declared.fault.ScheduleKind.TheVariants.{Steps}
use Rattle.hmc_schedule.specs.declared.meaning.Meaning.{Meaning}
use Rattle.hmc_schedule.specs.declared.meaning.Meaning.TheVariants.{Nothing, One, Rounds, Noisy}
use Rattle.hmc_schedule.specs.declared.noise.Noise.{Noise}
use Rattle.hmc_schedule.specs.declared.step.Step.{Step}
use Rattle.hmc_schedule.specs.Meaning.{meaning_of}
use Rattle.hmc_schedule.specs.Noise.{lands_in, counted, noisy_if, IsNoise}
use Rattle.hmc_schedule.specs.Plan.{PlanFields, HasFlit, IsWorking}
use Rattle.hmc_schedule.specs.Round.{rounds_of}

-- what some lines make: the steps, and the noise of the rounds that follow
pub record Progress : Type 0 where
  pub steps : List Step
  pub noise : Option Noise

-- before the first line
abbrev pub nothing_yet : Progress
nothing_yet = record { steps = []; noise = None }

-- More steps are appended. A schedule has a limited number of them.
unfoldable pub add_steps : List Step → List Step → Result (List Step) ScheduleKind
add_steps steps more =
    if nat_le (length steps + length more) most_steps then Ok (steps ++ more) else Err Steps

-- steps of rounds are appended, and noise counts their landings
unfoldable pub add_rounds : Progress → List Step → Result Progress ScheduleKind
add_rounds progress rounds = do
  steps ← add_steps progress.steps (noisy_if progress.noise rounds)
  Ok (record {
    steps = steps;
    noise = option_map (counted (lands_in rounds)) progress.noise;
  })

-- one step is appended; noise doesn't count it
unfoldable pub add_one : Progress → Step → Result Progress ScheduleKind
add_one progress step = do
  steps ← add_steps progress.steps (step ∷ [])
  Ok (record progress { steps = steps })

-- what a line states is added
abbrev pub after_meaning : PlanFields → Progress → Meaning → Result Progress ScheduleKind
after_meaning plan progress Nothing = Ok progress
after_meaning plan progress (One step) = add_one progress step
after_meaning plan progress (Rounds n) = add_rounds progress (rounds_of plan n)
after_meaning plan progress (Noisy noise) = Ok (record progress { noise = noise })

-- what the words of the line state is added
unfoldable pub after_line : PlanFields → Progress → List ℕ → Result Progress ScheduleKind
after_line plan progress line = do
  meaning ← meaning_of plan (words_of line)
  after_meaning plan progress meaning

-- the steps, or the first fault: its line, and what is wrong there
unfoldable pub schedule_of : PlanFields → List ℕ → Result (List Step) (ℕ × ScheduleKind)
schedule_of plan text = do
  progress ← after_lines (after_line plan) 1 nothing_yet (lines_of text)
  Ok progress.steps

-- what some good lines keep: not too many steps, each of them one of the plan
pub record IsProgress (plan : PlanFields) (progress : Progress) : Type 0 where
  pub few : length progress.steps ≤ most_steps
  pub works : All (IsWorking plan) progress.steps
  pub noise : IfSome progress.noise (IsNoise (length progress.steps))

-- what every schedule keeps: not too many steps, and each mask is as long as a flit
pub record IsSchedule (steps : List Step) : Type 0 where
  pub few : length steps ≤ most_steps
  pub masks : All HasFlit steps
