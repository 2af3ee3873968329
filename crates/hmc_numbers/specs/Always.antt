-- What holds after each list of events that may come, and after each list of turns.
use Rattle.std.specs.Prelude.{ℕ, List}
use Rattle.hmc_numbers.specs.Direction.{Direction}
use Rattle.hmc_numbers.specs.Events.{Event, after}
use Rattle.hmc_numbers.specs.May.{MayAll}
use Rattle.hmc_numbers.specs.Pair.{Half, Turn, pair_after}
use Rattle.hmc_numbers.specs.Turns.{MayTurns}

-- P holds of a direction whose retry buffer has so many flits
abbrev pub Always : (retry : ℕ) → (Direction → Type 0) → Type 0
Always retry P = (past : List Event) → MayAll retry past → P (after past)

-- P holds of each direction of a link beside the other one
abbrev pub AlwaysBoth : (retry advertised : ℕ) → (Half → Half → Type 0) → Type 0
AlwaysBoth retry advertised P =
    (past : List Turn) → MayTurns retry advertised past →
    P (pair_after past).forth (pair_after past).back ×
    P (pair_after past).back (pair_after past).forth
