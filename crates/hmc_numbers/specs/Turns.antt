-- When a move of one of the two directions may come.
use Rattle.std.specs.Prelude.{◌≡◌, ◌≢◌, ℕ, ◌+◌, ◌≤◌, List, [], ◌∷◌, ◌⊎◌}
use Rattle.hmc_numbers.specs.Weights.{Weight}
use Rattle.hmc_numbers.specs.Direction.{Filler, Item, Direction, front_or}
use Rattle.hmc_numbers.specs.Direction.Filler.{train, pret}
use Rattle.hmc_numbers.specs.Direction.Item.{filler}
use Rattle.hmc_numbers.specs.Direction.Reached.{training, aborting}
use Rattle.hmc_numbers.specs.Events.{Reading, Event}
use Rattle.hmc_numbers.specs.Events.Reading.{plain, as_start, as_clear}
use Rattle.hmc_numbers.specs.Events.Event.{sends_filler, sends_clear, begins, begins_through, begins_again, acknowledges, drops, opens, passes, accepts, repeats}
use Rattle.hmc_numbers.specs.May.{May}
use Rattle.hmc_numbers.specs.Pair.{Half, Pair, Move, Turn, pair_after}
use Rattle.hmc_numbers.specs.Pair.Move.{does, counts, moves}
use Rattle.hmc_numbers.specs.Pair.Turn.{forth, back}
use Rattle.hmc_numbers.specs.Tokens.{cost, cost_begun, tokens_begun, tokens_accepted, used_tokens}

-- a new packet costs tokens that are held, and its RTC returns tokens that are due
abbrev pub Affords : (advertised : ℕ) → (own other : Half) → Weight → Type 0
Affords adv own other s =
    (cost_begun own.direction + cost s ≤ tokens_accepted other.direction) ×
    (tokens_begun own.direction + s.returns ≤ adv + other.moved)

-- training flits are sent while the receiver at the sender's end is in Train, other fillers later
abbrev pub MayFill : (own other : Half) → Filler → Type 0
MayFill own other train = other.direction.far ≡ training
MayFill own other f = (other.direction.far ≢ training) × (own.direction.left ≡ 0)

-- An event may come. While the receiver at its end is in Train, a sender sends training flits
-- alone. What is acknowledged comes by landings of the other direction, and is no event here.
abbrev pub MayHere : (retry advertised : ℕ) → (own other : Half) → Event → Type 0
MayHere r adv own other (sends_filler f) = MayFill own other f
MayHere r adv own other sends_clear =
    (other.direction.far ≢ training) × May r own.direction sends_clear
MayHere r adv own other (begins s) =
    (other.direction.far ≢ training) × May r own.direction (begins s) ×
    Affords adv own other s
MayHere r adv own other (begins_through s) =
    (other.direction.far ≢ training) × May r own.direction (begins_through s) ×
    Affords adv own other s
MayHere r adv own other begins_again =
    (other.direction.far ≢ training) × May r own.direction begins_again
MayHere r adv own other (acknowledges n) = ⊥
MayHere r adv own other e = May r own.direction e

-- this flit is the 24th or a later one of a run of IRTRYs of its kind
abbrev pub IsLong : Direction → Reading → Type 0
IsLong w plain = ⊥
IsLong w as_start = 23 ≤ w.start_run
IsLong w as_clear = 23 ≤ w.clear_run

-- it is a PRET
abbrev pub IsPret : Item → Type 0
IsPret (filler pret) = Unit {0}
IsPret x = ⊥

-- A landing whose return pointer is taken: of an IRTRY from the 24th of a run on, and in Good of a
-- PRET or a sequenced packet. Fewer IRTRYs are not enough, since data may read as one.
abbrev pub MayCount : Direction → Event → Type 0
MayCount w (drops reading) = (w.far ≡ aborting) × IsLong w reading
MayCount w opens = Unit {0}
MayCount w (passes reading) = IsLong w reading ⊎ IsPret (front_or w.before w.line)
MayCount w accepts = Unit {0}
MayCount w repeats = Unit {0}
MayCount w e = ⊥

-- a move may come; only what is in the input buffer leaves it
abbrev pub MayMove : (retry advertised : ℕ) → (own other : Half) → Move → Type 0
MayMove r adv own other (does e) = MayHere r adv own other e
MayMove r adv own other (counts e) = MayHere r adv own other e × MayCount own.direction e
MayMove r adv own other (moves k) = k ≤ used_tokens own

-- a turn may come
abbrev pub MayTurn : (retry advertised : ℕ) → Pair → Turn → Type 0
MayTurn r adv p (forth m) = MayMove r adv p.forth p.back m
MayTurn r adv p (back m) = MayMove r adv p.back p.forth m

-- each turn of a list, the newest first, may come after those before it
abbrev pub MayTurns : (retry advertised : ℕ) → List Turn → Type 0
MayTurns r adv [] = Unit {0}
MayTurns r adv (t ∷ past) = MayTurn r adv (pair_after past) t × MayTurns r adv past
