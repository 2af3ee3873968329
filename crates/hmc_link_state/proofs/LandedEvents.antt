-- What the event of a landing changes of a direction and of its line.
use Rattle.std.proofs.Common.{◌≡◌, ℕ, ◌≤◌, Bool, true, false, List, [], ◌∷◌, length, refl, arith}
use Rattle.hmc_numbers.specs.Direction.{Item, Direction, rest, front_or}
use Rattle.hmc_numbers.specs.Direction.Item.{filler, clear, part}
use Rattle.hmc_numbers.specs.Direction.Filler.{null, train, start, pret}
use Rattle.hmc_numbers.specs.Direction.Reached.{training}
use Rattle.hmc_numbers.specs.Events.{Event, happens}
use Rattle.hmc_numbers.specs.Events.Reading.{as_start}
use Rattle.hmc_numbers.specs.Events.Event.{rests, sends_filler, sends_clear, begins, begins_through, begins_again, goes_on, acknowledges, drops, passes, unlocks}
use Rattle.hmc_numbers.specs.May.{IsSome, IsNoPart, CanReadAs, May}
use Rattle.hmc_numbers.specs.Pair.{Half, event_at, own_after, rest_of_stamps}
use Rattle.hmc_numbers.specs.Turns.{MayHere, MayMove, MayCount}
use Rattle.hmc_link_state.specs.State.{Setup, Side, wire}
use Rattle.hmc_link_state.specs.Facts.{AreTraining}
use Rattle.hmc_link_state.specs.Landing.{IsLanding, move_of, Ran, Lands}

-- Events

pub record SameSender (w v : Direction) : Type 0 where
  pub clears : v.clears ≡ w.clears
  pub acked : v.acked ≡ w.acked
  pub first : v.first ≡ w.first
  pub last : v.last ≡ w.last
  pub left : v.left ≡ w.left

pub lands_same : (w : Direction) (e : Event) → IsLanding e → SameSender w (happens w e)
lands_same w rests h = absurd h
lands_same w (sends_filler f) h = absurd h
lands_same w sends_clear h = absurd h
lands_same w (begins s) h = absurd h
lands_same w (begins_through s) h = absurd h
lands_same w begins_again h = absurd h
lands_same w goes_on h = absurd h
lands_same w (acknowledges n) h = absurd h
lands_same w unlocks h = absurd h
lands_same w e h = record { clears = refl; acked = refl; first = refl; last = refl; left = refl }

stamp_same : (h : Half) (n : ℕ) (e : Event) → IsLanding e → event_at h n e ≡ event_at h 0 e
stamp_same h n rests q = absurd q
stamp_same h n (sends_filler f) q = absurd q
stamp_same h n sends_clear q = absurd q
stamp_same h n (begins s) q = absurd q
stamp_same h n (begins_through s) q = absurd q
stamp_same h n begins_again q = absurd q
stamp_same h n goes_on q = absurd q
stamp_same h n (acknowledges m) q = absurd q
stamp_same h n unlocks q = absurd q
stamp_same h n e q = refl

pub land_half : (h : Half) (n : ℕ) (b : Bool) (e : Event) → IsLanding e →
    own_after h n (move_of b e) ≡ event_at h 0 e
land_half h n true e q = stamp_same h n e q
land_half h n false e q = stamp_same h n e q

pub stamps_rest : (h : Half) (e : Event) → IsLanding e →
    (event_at h 0 e).stamps ≡ rest_of_stamps h.stamps
stamps_rest h rests q = absurd q
stamps_rest h (sends_filler f) q = absurd q
stamps_rest h sends_clear q = absurd q
stamps_rest h (begins s) q = absurd q
stamps_rest h (begins_through s) q = absurd q
stamps_rest h begins_again q = absurd q
stamps_rest h goes_on q = absurd q
stamps_rest h (acknowledges m) q = absurd q
stamps_rest h unlocks q = absurd q
stamps_rest h e q = refl

may_event : (r adv : ℕ) (own other : Half) (e : Event) → IsLanding e → MayHere r adv own other e →
    May r own.direction e
may_event r adv own other rests h m = absurd h
may_event r adv own other (sends_filler f) h m = absurd h
may_event r adv own other sends_clear h m = absurd h
may_event r adv own other (begins s) h m = absurd h
may_event r adv own other (begins_through s) h m = absurd h
may_event r adv own other begins_again h m = absurd h
may_event r adv own other goes_on h m = absurd h
may_event r adv own other (acknowledges n) h m = absurd h
may_event r adv own other e h m = m

pub may_here : (r adv : ℕ) (own other : Half) (b : Bool) (e : Event) →
    MayMove r adv own other (move_of b e) → MayHere r adv own other e
may_here r adv own other true e m = m.0
may_here r adv own other false e m = m

pub may_count : (r adv : ℕ) (own other : Half) (b : Bool) (e : Event) →
    MayMove r adv own other (move_of b e) → b ≡ true → MayCount own.direction e
may_count r adv own other true e m q = m.1
may_count r adv own other false e m q = absurd (cc q)

pub may_of : (c : Setup) (own other : Side) (e : Event) (b ran : Bool) (ms : ℕ) (bf : List ℕ) →
    Lands c own other e b ran ms bf → May c.retry (wire own) e
may_of c own other e b ran ms bf l =
    may_event c.retry c.tokens own.half other.half e l.landing
    (may_here c.retry c.tokens own.half other.half b e l.may)

pub was_training : (w : Direction) (e : Event) → IsLanding e → (happens w e).far ≡ training →
    w.far ≡ training
was_training w rests h q = absurd h
was_training w (sends_filler f) h q = absurd h
was_training w sends_clear h q = absurd h
was_training w (begins s) h q = absurd h
was_training w (begins_through s) h q = absurd h
was_training w begins_again h q = absurd h
was_training w goes_on h q = absurd h
was_training w (acknowledges n) h q = absurd h
was_training w unlocks h q = absurd h
was_training w (drops reading) h q = q
was_training w e h q = absurd (cc q)

-- Lines

pub short_rest : (xs : List Item) (n : ℕ) → length xs ≤ n → length (rest xs) ≤ n
short_rest [] n h = h
short_rest (x ∷ xs) n h = omega (arith, h)

pub training_rest : (xs : List Item) → AreTraining xs → AreTraining (rest xs)
training_rest [] h = tt
training_rest (filler train ∷ xs) h = h
training_rest (filler null ∷ xs) h = absurd h
training_rest (filler start ∷ xs) h = absurd h
training_rest (filler pret ∷ xs) h = absurd h
training_rest (clear ∷ xs) h = absurd h
training_rest (part n k more ∷ xs) h = absurd h

no_start_read : (x : Item) (xs : List Item) → IsSome xs → AreTraining xs →
    CanReadAs (front_or x xs) as_start → ⊥
no_start_read x [] i h c = i
no_start_read x (filler train ∷ xs) i h c = c
no_start_read x (filler null ∷ xs) i h c = h
no_start_read x (filler start ∷ xs) i h c = h
no_start_read x (filler pret ∷ xs) i h c = h
no_start_read x (clear ∷ xs) i h c = h
no_start_read x (part n k more ∷ xs) i h c = h

pub some_no_part : (xs : List Item) → IsNoPart xs → IsSome xs
some_no_part [] c = absurd c
some_no_part (x ∷ xs) c = tt

pub never_ran : (r : ℕ) (w : Direction) (e : Event) → IsLanding e → May r w e → AreTraining w.line →
    Ran w e → ⊥
never_ran r w (drops as_start) i m h a = no_start_read w.before w.line m.1 h m.2
never_ran r w (passes as_start) i m h a =
    no_start_read w.before w.line (some_no_part w.line m.1) h m.2
never_ran r w e i m h a = a
