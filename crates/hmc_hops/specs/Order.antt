-- Queues that keep their order.
use Rattle.std.specs.Prelude.{◌≡◌, ℕ, List, [], ◌∷◌, ◌++◌, length, drop}
use Rattle.hmc_hops.specs.Packets.{Packet}
use Rattle.hmc_hops.specs.Map.{Map}
use Rattle.hmc_hops.specs.Queues.{QueueId}
use Rattle.hmc_hops.specs.Queues.QueueId.{Output, Line}
use Rattle.hmc_hops.specs.Moves.{Move, leaves, enters, contents, IsPlaced}
use Rattle.hmc_hops.specs.Moves.Move.{Goes, Executes}
use Rattle.hmc_hops.specs.Flows.{collect}
use Rattle.hmc_hops.specs.Delivered.{IsPrefix}

-- the packets that entered a queue
abbrev pub entered : Map → List Move → QueueId → List Packet
entered m past queue = collect (λ move. enters m move queue) past

-- the packets that left a queue
abbrev pub departed : List Move → QueueId → List Packet
departed past queue = collect (λ move. leaves move queue) past

-- the packets begun on a direction
abbrev pub begun : Map → List Move → ℕ → List Packet
begun m past d = entered m past (Line d)

-- the packets accepted at its end
abbrev pub accepted : List Move → ℕ → List Packet
accepted past d = departed past (Line d)

-- a queue in which no packet passes another: each except output queues, which a packet that is cut
-- through passes
abbrev pub IsStrict : QueueId → Type 0
IsStrict (Output d) = ⊥
IsStrict _ = Unit {0}

-- the move takes a front, except from an output queue
abbrev pub TakesFront : Move → Type 0
TakesFront (Goes from n x) = IsStrict from → n ≡ 0
TakesFront (Executes c s n x answer) = n ≡ 0
TakesFront _ = Unit {0}

-- each move does
unfoldable pub InOrder : List Move → Type 0
InOrder [] = Unit {0}
InOrder (move ∷ past) = TakesFront move × InOrder past

-- A queue is a list, first in and first out.
pub record IsQueue (m : Map) (past : List Move) (queue : QueueId) : Type 0 where
  -- it has what entered it and didn't leave
  pub whole : entered m past queue ≡ departed past queue ++ contents m past queue
  -- so it is what entered without as many packets as left
  pub rest : drop (length (departed past queue)) (entered m past queue) ≡ contents m past queue
  -- what leaves next by the order of entering is its front
  pub next : (x : Packet) → IsPrefix (departed past queue ++ x ∷ []) (entered m past queue) →
      IsPlaced 0 x (contents m past queue)
