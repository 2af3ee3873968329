-- A schedule as it is written: a segment for each line that has steps.
use Rattle.std.specs.Prelude.{◌≡◌, ◌<◌, ◌≤◌, ◌+◌, ◌*◌, ◌/◌, ℕ, List, [], ◌∷◌, length, take, drop, filter, IfSome, IsSomeAnd, slice_get, slice_index_or}
use Rattle.std.specs.List.{All, flat_map}
use Rattle.std.specs.Option.{option_map_or}
use Rattle.hmc_codes.specs.Limits.{most_steps}
use Rattle.hmc_schedule.specs.declared.noise.Noise.{Noise}
use Rattle.hmc_schedule.specs.declared.step.Step.{Step}
use Rattle.hmc_schedule.specs.declared.step.Step.TheVariants.{Land}
use Rattle.hmc_schedule.specs.declared.written.Held.{Held}
use Rattle.hmc_schedule.specs.declared.written.Held.TheVariants as held
use Rattle.hmc_schedule.specs.declared.written.KeptRound.{KeptRound}
use Rattle.hmc_schedule.specs.declared.written.Rounds.{Rounds}
use Rattle.hmc_schedule.specs.declared.written.Segment.{Segment}
use Rattle.hmc_schedule.specs.declared.written.Stretch.{Stretch}
use Rattle.hmc_schedule.specs.declared.written.Stretch.TheVariants.{One, Many}
use Rattle.hmc_schedule.specs.Noise.{is_land, lands_of, mask_at, noisy_if}
use Rattle.hmc_schedule.specs.Plan.{PlanFields}
use Rattle.hmc_schedule.specs.Round.{repeated, round_of}

-- a schedule as it is written, as contracts see it: the steps of the kept rounds, and all steps
pub record WrittenFields : Type 0 where
  pub kept : List Step
  pub steps : List Step

-- the steps of a kept round
abbrev pub round_at : List Step → KeptRound → List Step
round_at kept round = take round.len (drop round.start kept)

-- the steps of a stretch
abbrev pub stretch_of : List Step → Stretch → List Step
stretch_of kept (One step) = step ∷ []
stretch_of kept (Many rounds) =
    noisy_if rounds.noise (repeated rounds.count (round_at kept rounds.round))

-- The step at a place of noisy rounds, which without noise is this one. Before a landing are those
-- counted before the rounds, those of whole rounds, and those in the directions below its own.
abbrev pub noisy_at : Noise → KeptRound → ℕ → Step → Step
noisy_at noise round at (Land direction mask) =
    let before = noise.count + at / round.len * round.lands + direction in
    Land direction (mask_at noise (before + 1) mask)
noisy_at noise round at step = step

-- what segments refer to: the steps of the kept rounds, and the rounds of lines
pub record Kept : Type 0 where
  pub steps : List Step
  pub many : List Rounds

-- the same, of its two lists
abbrev pub kept_of : List Step → List Rounds → Kept
kept_of steps many = record { steps = steps; many = many }

-- how a segment holds a stretch, where so many rounds of lines are kept before
abbrev pub held_of : ℕ → Stretch → Held
held_of before (One step) = held.One step
held_of before (Many rounds) = held.Many before

-- the rounds that are kept for a stretch
abbrev pub rounds_of_line : Stretch → List Rounds
rounds_of_line (One step) = []
rounds_of_line (Many rounds) = rounds ∷ []

-- the steps that a segment holds
abbrev pub held_steps : Kept → Held → List Step
held_steps kept (held.One step) = step ∷ []
held_steps kept (held.Many at) =
    option_map_or (λ (rounds : Rounds). stretch_of kept.steps (Many rounds))
    (slice_get kept.many at) []

-- the steps of all segments
unfoldable pub steps_in : Kept → List Segment → List Step
steps_in kept segments = flat_map (λ segment. held_steps kept segment.held) segments

-- a round that is kept: its landings are one in each of so many directions, in ascending order
pub record IsKept (kept : List Step) (round : KeptRound) : Type 0 where
  pub inside : round.start + round.len ≤ length kept
  pub lands : filter is_land (round_at kept round) ≡ lands_of round.lands

-- a round of the network that is kept
pub record IsRoundOf (plan : PlanFields) (kept : List Step) (round : KeptRound) : Type 0 where
  pub place : IsKept kept round
  pub steps : round_at kept round ≡ round_of plan

-- rounds that are kept
pub record IsRounds (kept : List Step) (rounds : Rounds) : Type 0 where
  pub round : IsKept kept rounds.round
  pub noise : IfSome rounds.noise (λ noise. 1 ≤ noise.every)

-- rounds of a stretch are kept
abbrev pub IsStretch : List Step → Stretch → Type 0
IsStretch kept (One step) = Unit {0}
IsStretch kept (Many rounds) = IsRounds kept rounds

-- what a segment holds is kept
abbrev pub IsHeld : Kept → Held → Type 0
IsHeld kept (held.One step) = Unit {0}
IsHeld kept (held.Many at) = IsSomeAnd (slice_get kept.many at) (IsRounds kept.steps)

-- what it always keeps: it has not too many steps, it knows how many, each segment begins after the
-- steps of those before it, what segments hold is kept, and rounds are kept for lines with steps
pub record IsWritten (kept : Kept) (segments : List Segment) (len : ℕ) : Type 0 where
  pub few : len ≤ most_steps
  pub total : len ≡ length (steps_in kept segments)
  pub starts : (k : ℕ) (d : Segment) → k < length segments
      → (slice_index_or segments k d).start ≡ length (steps_in kept (take k segments))
  pub held : All (λ segment. IsHeld kept segment.held) segments
  pub some : length kept.many ≤ len
