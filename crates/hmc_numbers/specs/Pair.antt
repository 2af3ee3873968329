-- The two directions of a link together, and what one reports to the other. A direction's sender
-- and the receiver of the other direction are at one end of the link: the flits that this sender
-- sends have as return pointer (RRP) what that receiver has accepted.
use Rattle.std.specs.Prelude.{ℕ, ◌+◌, List, [], ◌∷◌, ◌++◌}
use Rattle.hmc_numbers.specs.Direction.{Direction, opening}
use Rattle.hmc_numbers.specs.Events.{Event, happens}
use Rattle.hmc_numbers.specs.Events.Event.{rests, sends_filler, sends_clear, begins, begins_through, begins_again, goes_on, acknowledges, unlocks}

-- one direction, and what it needs beside the other one
pub record Half : Type 0 where
  pub direction : Direction
  -- for each flit on the line, the packets that its sender's end had accepted when it was sent:
  -- its return pointer, where it has one, is that of the last of them
  pub stamps : List ℕ
  -- flits of requests and responses that left the input buffer of the receiver
  pub moved : ℕ

-- the two directions
pub record Pair : Type 0 where
  pub forth : Half
  pub back : Half

-- nothing happened yet
abbrev pub half_opening : Half
half_opening = record { direction = opening; stamps = []; moved = 0 }

-- of both directions
abbrev pub pair_opening : Pair
pair_opening = record { forth = half_opening; back = half_opening }

-- what can happen in a direction beside the other one
pub data Move : Type 0 where
  does : Event → Move  -- an event whose return pointer is not taken, if it has one
  counts : Event → Move  -- a landing whose return pointer the receiver's end takes
  moves : ℕ → Move  -- a packet of so many flits leaves the input buffer, or never enters it

-- a move of one of the directions
pub data Turn : Type 0 where
  forth : Move → Turn
  back : Move → Turn

-- whether an event puts a flit on the line, or takes one off
pub data Way : Type 0 where
  sends : Way
  lands : Way
  stays : Way

-- the way of an event; all but those named are landings
abbrev pub way : Event → Way
way rests = stays
way (sends_filler f) = sends
way sends_clear = sends
way (begins s) = sends
way (begins_through s) = stays
way begins_again = sends
way goes_on = sends
way (acknowledges n) = stays
way unlocks = stays
way landing = lands

-- stamps without that of the flit that lands
abbrev pub rest_of_stamps : List ℕ → List ℕ
rest_of_stamps [] = []
rest_of_stamps (s ∷ ss) = ss

-- each flit on the line has its stamp; a new one gets n
abbrev pub stamps_after : Way → ℕ → List ℕ → List ℕ
stamps_after sends n ss = ss ++ n ∷ []
stamps_after lands n ss = rest_of_stamps ss
stamps_after stays n ss = ss

-- the stamp of the flit that lands next, or n where the line is empty
abbrev pub front_stamp : ℕ → List ℕ → ℕ
front_stamp n [] = n
front_stamp n (s ∷ ss) = s

-- a direction after an event; a flit that is sent gets this stamp
abbrev pub event_at : Half → (stamp : ℕ) → Event → Half
event_at h n e =
    record {
      direction = happens h.direction e;
      stamps = stamps_after (way e) n h.stamps;
      moved = h.moved;
    }

-- the direction in which a move is made
abbrev pub own_after : Half → (stamp : ℕ) → Move → Half
own_after h n (does e) = event_at h n e
own_after h n (counts e) = event_at h n e
own_after h n (moves k) = record h { moved = h.moved + k }

-- the other one: a return pointer that is taken acknowledges the packets of the flit's stamp
abbrev pub other_after : (own other : Half) → Move → Half
other_after own other (counts e) =
    record other {
      direction =
          happens other.direction (acknowledges (front_stamp other.direction.acked own.stamps));
    }
other_after own other move = other

-- the pair after a turn: stamps are what the other direction's receiver has accepted
abbrev pub turned : Pair → Turn → Pair
turned p (forth m) =
    record {
      forth = own_after p.forth p.back.direction.accepted m;
      back = other_after p.forth p.back m;
    }
turned p (back m) =
    record {
      forth = other_after p.back p.forth m;
      back = own_after p.back p.forth.direction.accepted m;
    }

-- the pair after a list of turns, the newest first
abbrev pub pair_after : List Turn → Pair
pair_after [] = pair_opening
pair_after (t ∷ past) = turned (pair_after past) t
