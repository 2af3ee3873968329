-- When an event may come. No condition asks for what is proved of a direction, so that each can be
-- shown of a sender's choice and of a landing by themselves.
use Rattle.std.specs.Prelude.{◌≡◌, ℕ, zero, suc, ◌+◌, ◌%◌, ◌<◌, ◌≤◌, List, [], ◌∷◌, Bool, true}
use Rattle.hmc_numbers.specs.Weights.{Weight, flits_to, HasValidSize}
use Rattle.hmc_numbers.specs.Direction.{Filler, Item, Reached, Direction, begun, position, number_of, front_or}
use Rattle.hmc_numbers.specs.Direction.Filler.{train, start}
use Rattle.hmc_numbers.specs.Direction.Item.{filler, clear, part}
use Rattle.hmc_numbers.specs.Direction.Reached.{training, aborting, between, inside, spoilt}
use Rattle.hmc_numbers.specs.Events.{Reading, Event, after}
use Rattle.hmc_numbers.specs.Events.Reading.{plain, as_start, as_clear}
use Rattle.hmc_numbers.specs.Events.Event.{rests, sends_filler, sends_clear, begins, begins_through, begins_again, goes_on, acknowledges, drops, trains, opens, passes, gathers, accepts, repeats, spoils, breaks, unlocks}

-- Sends

-- no packet is being sent, no burst of Clears is unfinished, and none is to be sent again
abbrev pub IsFree : Direction → Type 0
IsFree w = (w.left ≡ 0) × (w.clears % 32 ≡ 0) × (position w ≡ begun w)

-- the retry buffer holds the packet beside those that are not acknowledged
abbrev pub HasRoom : (retry : ℕ) → Direction → Weight → Type 0
HasRoom r w s = flits_to w.first (begun w) + s.flits ≤ flits_to w.first w.acked + r

-- The front of the line

-- there is one
abbrev pub IsSome : List Item → Type 0
IsSome [] = ⊥
IsSome (x ∷ xs) = Unit {0}

-- it is no flit of a sequenced packet
abbrev pub IsNoPart : List Item → Type 0
IsNoPart [] = ⊥
IsNoPart (part n k more ∷ xs) = ⊥
IsNoPart (x ∷ xs) = Unit {0}

-- it is a flit of a sequenced packet, not the last
abbrev pub IsMiddle : List Item → Type 0
IsMiddle (part n k (suc more) ∷ xs) = Unit {0}
IsMiddle xs = ⊥

-- it is the last flit of a sequenced packet
abbrev pub IsEnd : List Item → Type 0
IsEnd (part n k zero ∷ xs) = Unit {0}
IsEnd xs = ⊥

-- What a flit can read as alone. A filler and a Clear read as what they are, or as no IRTRY where
-- they are changed. A header never reads as an IRTRY. A later flit of a packet may, since users
-- choose its data.
abbrev pub CanReadAs : Item → Reading → Type 0
CanReadAs x plain = Unit {0}
CanReadAs (filler start) as_start = Unit {0}
CanReadAs (filler f) reading = ⊥
CanReadAs clear as_start = ⊥
CanReadAs clear as_clear = Unit {0}
CanReadAs (part n k more) reading = 1 ≤ k

-- The receiver

-- Train or Abort
abbrev pub IsShut : Reached → Type 0
IsShut training = Unit {0}
IsShut aborting = Unit {0}
IsShut far = ⊥

-- Good, with nothing changed among what is gathered
abbrev pub IsGood : Reached → Type 0
IsGood between = Unit {0}
IsGood (inside n k) = Unit {0}
IsGood far = ⊥

-- Good, and what lands is changed, or something gathered before
abbrev pub IsTouched : Reached → Bool → Type 0
IsTouched between c = c ≡ true
IsTouched (inside n k) c = c ≡ true
IsTouched spoilt c = Unit {0}
IsTouched far c = ⊥

-- Training flits are sent only before the first Clear, while the far receiver is in Train or Abort.
abbrev pub CanFill : Direction → Filler → Type 0
CanFill w train = (w.clears ≡ 0) × IsShut w.far
CanFill w f = Unit {0}

-- Events

-- an event may come, where the retry buffer has so many flits
abbrev pub May : (retry : ℕ) → Direction → Event → Type 0
May r w rests = Unit {0}
May r w (sends_filler f) = (w.left ≡ 0) × CanFill w f
May r w sends_clear = w.left ≡ 0
May r w (begins s) = IsFree w × HasValidSize s × HasRoom r w s
May r w (begins_through s) = IsFree w × HasValidSize s × HasRoom r w s
May r w begins_again = (w.left ≡ 0) × (w.clears % 32 ≡ 0) × (position w < begun w)
May r w goes_on = 1 ≤ w.left
May r w (acknowledges n) = (w.acked ≤ n) × (n ≤ w.accepted)
May r w (drops reading) =
    IsShut w.far × IsSome w.line × CanReadAs (front_or w.before w.line) reading
May r w trains = (w.far ≡ training) × IsSome w.line
May r w opens =
    (w.far ≡ aborting) × IsSome w.line × CanReadAs (front_or w.before w.line) as_clear ×
    (w.clear_run ≡ 23)
May r w (passes reading) =
    IsGood w.far × IsNoPart w.line × CanReadAs (front_or w.before w.line) reading
May r w gathers = IsGood w.far × IsMiddle w.line
May r w accepts =
    IsGood w.far × IsEnd w.line × (number_of (front_or w.before w.line) ≡ w.accepted + 1)
May r w repeats =
    IsGood w.far × IsEnd w.line × (number_of (front_or w.before w.line) ≤ w.accepted)
May r w (spoils c) = IsTouched w.far c × IsSome w.line
May r w (breaks c) = IsTouched w.far c × IsSome w.line
May r w unlocks = Unit {0}

-- each event of a list, the newest first, may come after those before it
abbrev pub MayAll : (retry : ℕ) → List Event → Type 0
MayAll r [] = Unit {0}
MayAll r (e ∷ past) = May r (after past) e × MayAll r past
