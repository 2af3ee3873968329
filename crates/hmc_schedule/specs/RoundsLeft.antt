-- The steps that are left of a schedule that is gone through in its order.
use Rattle.std.specs.Prelude.{◌≤◌, ◌-◌, ◌+◌, ℕ, List, [], ◌∷◌, ◌++◌, Option, Some, None, IfSome, slice_get}
use Rattle.std.specs.List.{All}
use Rattle.std.specs.Option.{option_map_or}
use Rattle.hmc_schedule.specs.Noise.{noisy_if}
use Rattle.hmc_schedule.specs.declared.noise.Noise.{Noise}
use Rattle.hmc_schedule.specs.declared.rounds_left.Countdown.{Countdown}
use Rattle.hmc_schedule.specs.declared.step.Step.{Step}
use Rattle.hmc_schedule.specs.declared.written.Held.{Held}
use Rattle.hmc_schedule.specs.declared.written.Held.TheVariants.{One, Many}
use Rattle.hmc_schedule.specs.declared.written.Rounds.{Rounds}
use Rattle.hmc_schedule.specs.declared.written.Segment.{Segment}
use Rattle.hmc_schedule.specs.Written.{Kept, IsHeld}

-- what is left, as contracts see it: the noise of the round at hand, with the landings that were
-- counted so far, the further rounds of its line, and the steps of the later lines; and the number
-- of all rounds that are left
pub record LeftFields : Type 0 where
  pub noise : Option Noise
  pub more : List Step
  pub later : List Step
  pub rounds : ℕ

-- the rounds of a line; a single step is a round of its own
abbrev pub count_of : List Rounds → Held → ℕ
count_of many (One step) = 1
count_of many (Many at) = option_map_or (λ (rounds : Rounds). rounds.count) (slice_get many at) 0

-- the rounds of all lines
unfoldable pub rounds_in : List Rounds → List Segment → ℕ
rounds_in many [] = 0
rounds_in many (segment ∷ segments) = count_of many segment.held + rounds_in many segments

-- the steps that are left, where these are left of the round at hand
abbrev pub steps_left : LeftFields → (rest : List Step) → List Step
steps_left left rest = noisy_if left.noise (rest ++ left.more) ++ left.later

-- the noise that has its mask at the landing with this number from here on
abbrev pub noise_of : Countdown → Noise
noise_of countdown = record {
  every = countdown.every;
  mask = countdown.mask;
  count = countdown.every - countdown.until;
}

abbrev pub noise_left : Option Countdown → Option Noise
noise_left None = None
noise_left (Some countdown) = Some (noise_of countdown)

-- a landing that has the mask is to come, within one turn
pub record IsCountdown (countdown : Countdown) : Type 0 where
  pub some : 1 ≤ countdown.until
  pub within : countdown.until ≤ countdown.every

-- the rounds of the later lines are kept
pub record AreLeft (kept : Kept) (segments : List Segment) (countdown : Option Countdown) :
    Type 0 where
  pub held : All (λ segment. IsHeld kept segment.held) segments
  pub noise : IfSome countdown IsCountdown
