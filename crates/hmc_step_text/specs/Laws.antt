-- Steps that are printed are read again.
use Rattle.std.specs.Prelude.{◌≡◌, ◌≤◌, List, length, Ok}
use Rattle.std.specs.List.{All}
use Rattle.hmc_codes.specs.Limits.{most_steps}
use Rattle.hmc_schedule.specs.Plan.{PlanFields, IsStepOf, HasFlit}
use Rattle.hmc_schedule.specs.Schedule.{schedule_of}
use Rattle.hmc_schedule.specs.declared.step.Step.{Step}
use Rattle.hmc_entries.specs.Parse.{IsStep}
use Rattle.hmc_step_text.specs.Text.{schedule_text}

-- a step of a plan whose numbers are bytes, as those of every value of its type, and whose mask, if
-- it has one, is as long as a flit
pub record IsPrintable (plan : PlanFields) (step : Step) : Type 0 where
  pub within : IsStepOf plan step
  pub mask : HasFlit step
  pub bytes : IsStep step

-- printed steps of a plan are read as the same steps, unless they are too many for a schedule
abbrev pub PrintedStepsAreRead : Type 0
PrintedStepsAreRead = (plan : PlanFields) (steps : List Step) → All (IsPrintable plan) steps →
    length steps ≤ most_steps → schedule_of plan (schedule_text steps) ≡ Ok steps
