-- What can happen to one direction of a link, and what it changes.
use Rattle.std.specs.Prelude.{ℕ, zero, suc, ◌+◌, ◌-◌, ◌%◌, List, [], ◌∷◌, ◌++◌, Bool}
use Rattle.hmc_numbers.specs.Weights.{Weight, size}
use Rattle.hmc_numbers.specs.Direction.{Filler, Item, Reached, Direction, opening, begun, position, number_of, came_of, rest, front_or}
use Rattle.hmc_numbers.specs.Direction.Item.{filler, clear, part}
use Rattle.hmc_numbers.specs.Direction.Reached.{training, aborting, between, inside, spoilt}

-- what a landed flit reads as by itself: a Start, a Clear, or neither
pub data Reading : Type 0 where
  plain : Reading
  as_start : Reading
  as_clear : Reading

-- what can happen
pub data Event : Type 0 where
  rests : Event  -- nothing changes, as where a send has no flit to give
  -- sends, one flit each, except where a cut-through packet is begun
  sends_filler : Filler → Event
  sends_clear : Event
  begins : Weight → Event  -- a new packet with its first flit
  begins_through : Weight → Event  -- a new packet of which no flit is there yet (cut-through)
  begins_again : Event  -- a kept packet again, the one after the position, with its first flit
  goes_on : Event  -- the next flit of the packet that is being sent
  -- a return pointer came on the other direction
  acknowledges : ℕ → Event  -- so many packets are acknowledged
  -- landings
  drops : Reading → Event  -- in Train or Abort, and the receiver stays there
  trains : Event  -- the landing that ends Train: the receiver is in Abort
  opens : Event  -- in Abort the 24th Clear of a run: the receiver is in Good
  passes : Reading → Event  -- in Good a NULL, an IRTRY or a PRET
  gathers : Event  -- in Good a flit of a packet, not its last
  accepts : Event  -- in Good the last flit of the next packet
  repeats : Event  -- in Good the last flit of a packet that was accepted before
  -- likewise where this flit is changed, or one gathered before
  spoils : (changed : Bool) → Event  -- it is gathered
  breaks : (changed : Bool) → Event  -- the receiver finds an error, and is in Abort
  -- the receiver gives up what it gathered, with no flit
  unlocks : Event

-- Sends

-- a flit is put on the line
abbrev pub adds : Direction → Item → Direction
adds w x = record w { line = w.line ++ x ∷ [] }

-- With the first Clear of a burst a sender goes back: what it sent last no longer counts.
abbrev pub last_after_clear : (sent_of_burst last : ℕ) → ℕ
last_after_clear zero last = 0
last_after_clear (suc n) last = last

-- a Clear is sent
abbrev pub clear_sent : Direction → Direction
clear_sent w =
    record w {
      line = w.line ++ clear ∷ [];
      clears = w.clears + 1;
      last = last_after_clear (w.clears % 32) w.last;
    }

-- a new packet is begun, and kept for retry; none of its flits is sent
abbrev pub begun_new : Direction → Weight → Direction
begun_new w s = record w { first = w.first ++ s ∷ []; last = begun w + 1; left = s.flits }

-- the packet after the position is begun again; none of its flits is sent
abbrev pub begun_again : Direction → Direction
begun_again w = record w { last = position w + 1; left = size w.first (position w + 1) }

-- the next flit of the packet begun last is sent
abbrev pub next_sent : Direction → Direction
next_sent w =
    record w {
      line = w.line ++ part w.last (size w.first w.last - w.left) (w.left - 1) ∷ [];
      left = w.left - 1;
    }

-- Landings

-- the flits in a row that read as Clears, with one more that reads so, or with another one
abbrev pub clear_run_after : Reading → ℕ → ℕ
clear_run_after as_clear n = suc n
clear_run_after reading n = 0

-- likewise of Starts
abbrev pub start_run_after : Reading → ℕ → ℕ
start_run_after as_start n = suc n
start_run_after reading n = 0

-- the front flit lands; then n packets are accepted
abbrev pub landed : Direction → (accepted : ℕ) → Reached → Reading → Direction
landed w n far reading =
    record w {
      line = rest w.line;
      before = front_or w.before w.line;
      far = far;
      accepted = n;
      clear_run = clear_run_after reading w.clear_run;
      start_run = start_run_after reading w.start_run;
    }

-- the receiver has gathered a packet up to this flit
abbrev pub gathered : Item → Reached
gathered x = inside (number_of x) (came_of x)

-- Unlocks

-- an unlock leads to Abort, except in Train
abbrev pub far_unlocked : Reached → Reached
far_unlocked training = training
far_unlocked far = aborting

-- it ends the runs too
abbrev pub unlocked : Direction → Direction
unlocked w = record w { far = far_unlocked w.far; clear_run = 0; start_run = 0 }

-- Events

-- the direction after an event
abbrev pub happens : Direction → Event → Direction
happens w rests = w
happens w (sends_filler f) = adds w (filler f)
happens w sends_clear = clear_sent w
happens w (begins s) = next_sent (begun_new w s)
happens w (begins_through s) = begun_new w s
happens w begins_again = next_sent (begun_again w)
happens w goes_on = next_sent w
happens w (acknowledges n) = record w { acked = n }
happens w (drops reading) = landed w w.accepted w.far reading
happens w trains = landed w w.accepted aborting plain
happens w opens = landed w w.accepted between as_clear
happens w (passes reading) = landed w w.accepted between reading
happens w gathers = landed w w.accepted (gathered (front_or w.before w.line)) plain
happens w accepts = landed w (w.accepted + 1) between plain
happens w repeats = landed w w.accepted between plain
happens w (spoils c) = landed w w.accepted spoilt plain
happens w (breaks c) = landed w w.accepted aborting plain
happens w unlocks = unlocked w

-- the direction after a list of events, the newest first
abbrev pub after : List Event → Direction
after [] = opening
after (e ∷ past) = happens (after past) e
