-- What the laws of directions by numbers say no to, and where they hold.
use Rattle.std.proofs.Common.{◌≡◌, ◌≤◌, ℕ, true, List, [], ◌∷◌, arith}
use Rattle.hmc_numbers.specs.Always.{Always, AlwaysBoth}
use Rattle.hmc_numbers.specs.Direction.{Direction}
use Rattle.hmc_numbers.specs.Direction.Filler.{null, train, start}
use Rattle.hmc_numbers.specs.Direction.Item.{filler, clear, part}
use Rattle.hmc_numbers.specs.Direction.Reached.{between, inside}
use Rattle.hmc_numbers.specs.DirectionLaws.{IsPlaced, ContinuesGathered}
use Rattle.hmc_numbers.specs.Events.{Event, after}
use Rattle.hmc_numbers.specs.May.{MayAll}
use Rattle.hmc_numbers.specs.Pair.{Half, Turn, pair_after}
use Rattle.hmc_numbers.specs.PairLaws.{Points, Rising}
use Rattle.hmc_numbers.specs.Turns.{MayTurns}
use Rattle.hmc_numbers.specs.Weights.{Weight}

abbrev request : ℕ → Weight
request flits = record { flits = flits; token = true; returns = 0 }

-- ---- where a law holds: after each list that may come, and of both directions

always-each : (retry : ℕ) (P : Direction → Type 0) (past : List Event) → MayAll retry past → Always retry P → P (after past)
always-each retry P past may law = law past may

both-each : (retry tokens : ℕ) (P : Half → Half → Type 0) (past : List Turn) → MayTurns retry tokens past → AlwaysBoth retry tokens P
    → P (pair_after past).forth (pair_after past).back × P (pair_after past).back (pair_after past).forth
both-each retry tokens P past may law = law past may

-- ---- where a flit of a packet is: before the first packet, after the last one begun, among too few
-- flits, and in a packet that is too long

placed-none : IsPlaced (request 2 ∷ []) 1 0 0 1 → ⊥
placed-none is = omega (arith, is.least)

placed-after : IsPlaced (request 2 ∷ []) 1 2 0 1 → ⊥
placed-after is = omega (arith, is.most)

placed-few : IsPlaced (request 2 ∷ []) 1 1 0 0 → ⊥
placed-few is = let off : ◌≡◌ {A = ℕ} 1 2 = is.flits in omega (arith, off)

placed-long : IsPlaced (request 18 ∷ []) 1 1 0 17 → ⊥
placed-long is = let off : 18 ≤ 17 = is.short in omega (arith, off)

-- ---- what may follow what was gathered: at the beginning of a packet no later flit, and within one
-- no flit of it but the next, none of another one, and nothing else

continues-later : ContinuesGathered between (part 1 1 0) → ⊥
continues-later is = omega (arith, is)

continues-gap : ContinuesGathered (inside 1 1) (part 1 2 0) → ⊥
continues-gap is = omega (arith, is.1)

continues-again : ContinuesGathered (inside 1 2) (part 1 1 0) → ⊥
continues-again is = omega (arith, is.1)

continues-other : ContinuesGathered (inside 1 1) (part 2 1 0) → ⊥
continues-other is = omega (arith, is.0)

continues-clear : ContinuesGathered (inside 1 1) clear → ⊥
continues-clear is = is

continues-filler : ContinuesGathered (inside 1 1) (filler start) → ⊥
continues-filler is = is

-- ---- numbers that fall, that begin too low, and that end too high

rising-falls : Rising 1 (2 ∷ 1 ∷ []) 3 → ⊥
rising-falls is = omega (arith, is.1.0)

rising-low : Rising 1 (0 ∷ []) 3 → ⊥
rising-low is = omega (arith, is.0)

rising-high : Rising 0 (4 ∷ []) 3 → ⊥
rising-high is = omega (arith, is.1)

rising-none : Rising 1 [] 0 → ⊥
rising-none is = omega (arith, is)

-- ---- flits without a return pointer

points-null : Points (filler null) → ⊥
points-null is = is

points-train : Points (filler train) → ⊥
points-train is = is

points-middle : Points (part 1 0 1) → ⊥
points-middle is = is
