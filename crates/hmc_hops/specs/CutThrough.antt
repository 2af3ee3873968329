-- A packet that is cut through a cube: it goes on before it is accepted there.
use Rattle.std.specs.Prelude.{◌≡◌, ℕ, true, false, ◌==◌, List, [], ◌∷◌, ◌++◌, length, Some}
use Rattle.hmc_hops.specs.Packets.{Packet, is_token, is_live}
use Rattle.hmc_hops.specs.Map.{Map, goal_of, first_of, leg}
use Rattle.hmc_hops.specs.Queues.{next_queue}
use Rattle.hmc_hops.specs.Queues.QueueId.{Output, Line, Buffer}
use Rattle.hmc_hops.specs.Moves.{Move, contents, same_flow, IsPlaced, MayAll}
use Rattle.hmc_hops.specs.Moves.Move.{Goes}

-- none of the packets is of the flow of this one
abbrev pub NoneOfFlow : Packet → List Packet → Type 0
NoneOfFlow x [] = Unit {0}
NoneOfFlow x (y ∷ ys) = (same_flow x y ≡ false) × NoneOfFlow x ys

-- The landing at the end of direction e that accepts a packet which was cut through onto direction
-- d: the packet is the front of the line, the buffer is empty, and no packet of its flow is in the
-- output queue.
pub record MayForward (m : Map) (past : List Move) (e d : ℕ) (x : Packet) : Type 0 where
  pub front : IsPlaced 0 x (contents m past (Line e))
  pub token : is_token x.kind ≡ true
  pub empty : contents m past (Buffer e) ≡ []
  pub goes : next_queue m (Buffer e) x ≡ Some (Output d)
  pub apart : NoneOfFlow x (contents m past (Output d))
  pub other : (e == d) ≡ false

-- That landing is three moves: off the line, through the buffer, and past the output queue.
abbrev pub forwarded : Map → List Move → (e d : ℕ) → Packet → List Move
forwarded m past e d x =
    Goes (Output d) (length (contents m past (Output d))) x ∷
    Goes (Buffer e) 0 x ∷ Goes (Line e) 0 x ∷ past

-- After it the packet is the last one begun on d; the buffer and the output queue are as before.
pub record IsForwarded (m : Map) (past : List Move) (e d : ℕ) (x : Packet) : Type 0 where
  pub may : MayAll m (forwarded m past e d x)
  pub line : contents m (forwarded m past e d x) (Line d) ≡ contents m past (Line d) ++ x ∷ []
  pub output : contents m (forwarded m past e d x) (Output d) ≡ contents m past (Output d)
  pub buffer : contents m (forwarded m past e d x) (Buffer e) ≡ []

-- The way from direction e to direction d is free for what comes over e: the buffer of e is empty,
-- and the output queue of d has no packet of a flow that goes over e to d. So it is from the moment
-- that a packet is cut through until the next one leaves the line of e.
pub record HasFreeWay (m : Map) (past : List Move) (e d : ℕ) : Type 0 where
  pub empty : contents m past (Buffer e) ≡ []
  pub apart : (x : Packet) (i : ℕ) → is_live x ≡ true →
      leg m (goal_of x) (first_of m x) i ≡ Some e →
      next_queue m (Buffer e) x ≡ Some (Output d) → NoneOfFlow x (contents m past (Output d))
