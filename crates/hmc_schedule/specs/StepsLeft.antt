-- A schedule whose steps are taken off one after another.
use Rattle.std.specs.Prelude.{◌≡◌, ◌<◌, ◌≤◌, ◌+◌, ◌-◌, ◌%◌, ℕ, List, [], ◌∷◌, length, Option, Some, None, slice_get}
use Rattle.hmc_schedule.specs.declared.step.Step.{Step}
use Rattle.hmc_schedule.specs.declared.steps_left.Hand.{Hand}
use Rattle.hmc_schedule.specs.declared.written.Repeats.{Repeats}
use Rattle.hmc_schedule.specs.Written.{WrittenFields}

-- the first step was taken off a list, or there was none
abbrev pub TakesFirst : List Step → Option Step → List Step → Type 0
TakesFirst old None new = (old ≡ []) × (new ≡ [])
TakesFirst old (Some step) new = old ≡ step ∷ new

-- the first step was taken off a list: it is the one that is kept at this place
pub record TakesKept (old : WrittenFields) (place : ℕ) (new : WrittenFields) : Type 0 where
  pub step : Step
  pub is : slice_get new.kept place ≡ Some step
  pub small : place < length new.kept
  pub first : old.steps ≡ step ∷ new.steps
  pub kept : new.kept ≡ old.kept

-- The steps from a place on, up to another one, are those of a kept round, over and over: the round
-- begins at `from` and ends before `end`, and the step at the place is the one at `next`.
pub record AreRepeated (written : WrittenFields) (at : ℕ) (repeats : Repeats) : Type 0 where
  pub len : ℕ
  pub place : ℕ
  pub next_is : repeats.next ≡ repeats.from + place
  pub end_is : repeats.end ≡ repeats.from + len
  pub small : place < len
  pub inside : repeats.end ≤ length written.kept
  pub few : repeats.until ≤ length written.steps
  pub each : (k : ℕ) → at + k < repeats.until →
      slice_get written.steps (at + k) ≡ slice_get written.kept (repeats.from + (place + k) % len)

-- what is known of the steps from a place on, if the place is before the end of what repeats
abbrev pub IsRepeatsAt : WrittenFields → (at : ℕ) → Repeats → Type 0
IsRepeatsAt written at repeats = at < repeats.until → AreRepeated written at repeats

-- the place in the schedule of the first of the steps at hand, or of the next step if none is
abbrev pub next_at : Hand → ℕ
next_at hand = hand.until - (hand.end - hand.place)

-- the steps at hand are kept one after another, and what is said to follow them does
pub record IsHand (written : WrittenFields) (hand : Hand) : Type 0 where
  pub near : hand.place ≤ hand.end
  pub ahead : hand.end - hand.place ≤ hand.until
  pub inside : hand.place < hand.end → hand.end ≤ length written.kept
  pub each : (k : ℕ) → hand.place + k < hand.end →
      slice_get written.steps (next_at hand + k) ≡ slice_get written.kept (hand.place + k)
  pub later : IsRepeatsAt written hand.until hand.later

-- the same, of what one segment holds: the steps from this place of the segment on
pub record HoldRepeats (held kept : List Step) (at : ℕ) (repeats : Repeats) : Type 0 where
  pub len : ℕ
  pub place : ℕ
  pub next_is : repeats.next ≡ repeats.from + place
  pub end_is : repeats.end ≡ repeats.from + len
  pub small : place < len
  pub inside : repeats.end ≤ length kept
  pub each : (k : ℕ) → at + k < length held →
      slice_get held (at + k) ≡ slice_get kept (repeats.from + (place + k) % len)
