-- How many steps a session took.
use Rattle.std.specs.Prelude.{◌≡◌, ◌≤◌, ◌+◌, ℕ, Bool, true, false}
use Rattle.hmc_codes.specs.Limits.{most_taken}

-- how many steps were taken, and whether a landing passed
pub record CountFields : Type 0 where
  pub taken : ℕ
  pub passed : Bool

-- one more than all that may be taken, and one more than those that may follow: all of them at
-- first, and none after a landing that passed
pub record IsCount (top left : ℕ) (passed : Bool) : Type 0 where
  pub few : top ≤ most_taken + 1
  pub some : 1 ≤ left
  pub within : left ≤ top
  pub all : passed ≡ false → top ≡ most_taken + 1
  pub none : passed ≡ true → left ≡ 1
