-- The state of one direction of a link, by numbers alone: its sender, the line, and its receiver.
-- A flit has no bytes here: it is which flit of which packet it is, or what else was sent.
use Rattle.std.specs.Prelude.{ℕ, suc, max, List, [], ◌∷◌, length}
use Rattle.hmc_numbers.specs.Weights.{Weight}

-- a flit that is neither of a sequenced packet nor a Clear: a NULL, a training flit, a PRET, or an
-- IRTRY that asks the other end to send again (StartRetry, here Start)
pub data Filler : Type 0 where
  null : Filler
  train : Filler
  pret : Filler
  start : Filler

-- a flit as it was sent; an IRTRY that ends an Abort (ClearErrorAbort, here Clear) is apart, since
-- after it a sender goes back
pub data Item : Type 0 where
  filler : Filler → Item
  clear : Item
  part : (n k more : ℕ) → Item  -- of packet n, after k of its flits, with so many more to come

-- the state of a receiver
pub data Reached : Type 0 where
  training : Reached  -- Train
  -- Abort: a flit was changed, or an unlock came; all is dropped up to 24 Clears
  aborting : Reached
  between : Reached  -- Good, at the beginning of a packet
  inside : (n k : ℕ) → Reached  -- Good, with k flits of packet n gathered, none changed
  spoilt : Reached  -- Good, with a changed flit among what is gathered

-- the receiver is that at the far end of the direction
pub record Direction : Type 0 where
  -- the sender
  pub first : List Weight  -- the packets begun, in the order in which they were begun first
  pub acked : ℕ  -- how many of them are acknowledged, and so no longer kept for retry
  pub last : ℕ  -- the packet begun last since the last burst of Clears began, 0 if none
  pub left : ℕ  -- the flits still to send of the packet that is being sent, 0 if none
  pub clears : ℕ  -- how many Clears were sent; a burst has 32
  -- the line
  pub line : List Item  -- the flits under way, the oldest first
  -- the receiver
  pub before : Item  -- what landed last, as it was sent
  pub far : Reached
  pub accepted : ℕ  -- how many packets it has accepted
  pub clear_run : ℕ  -- how many flits in a row, up to the last one, read as Clears
  pub start_run : ℕ  -- likewise as Starts

-- Nothing was sent, and the receiver is in Train. What landed last counts as a NULL.
abbrev pub opening : Direction
opening =
    record {
      first = [];
      acked = 0;
      last = 0;
      left = 0;
      clears = 0;
      line = [];
      before = filler null;
      far = training;
      accepted = 0;
      clear_run = 0;
      start_run = 0;
    }

-- how many packets were begun
abbrev pub begun : Direction → ℕ
begun w = length w.first

-- the number after which the sender goes on: the greater of what is acknowledged and what it sent
-- last since it went back
abbrev pub position : Direction → ℕ
position w = max w.acked w.last

-- Flits

-- the packet that a flit belongs to, 0 where it belongs to none
abbrev pub number_of : Item → ℕ
number_of (part n k more) = n
number_of x = 0

-- the flits of its packet that were sent up to and including it, 0 where the packet is whole
abbrev pub came_of : Item → ℕ
came_of (part n k (suc more)) = suc k
came_of x = 0

-- The line

-- the line after a landing
abbrev pub rest : List Item → List Item
rest [] = []
rest (x ∷ xs) = xs

-- the flit that lands next, or x where the line is empty
abbrev pub front_or : Item → List Item → Item
front_or x [] = x
front_or x (y ∷ ys) = y
