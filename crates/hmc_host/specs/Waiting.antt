-- The requests that a host has not given yet, in two lists.
use Rattle.std.specs.Prelude.{◌≡◌, ◌≤◌, ◌+◌, ◌-◌, ◌++◌, ℕ, List, [], length, drop}
use Rattle.hmc_codes.specs.Limits.{most_asked}
use Rattle.hmc_script.specs.Items.{ItemFields}

-- those of the front from a place on, and then those of the back
abbrev pub waiting_in : (front : List ItemFields) → (at : ℕ) → (back : List ItemFields) →
    List ItemFields
waiting_in front at back = drop at front ++ back

-- what the two lists keep: where nothing is left of the front, nothing is in the back
pub record IsWaiting (front : List ItemFields) (at : ℕ) (back : List ItemFields) : Type 0 where
  pub within : at ≤ length front
  pub few : length front - at + length back ≤ most_asked
  pub turned : at ≡ length front → back ≡ []
