-- Moves of packets between queues, and what the queues hold after a list of moves, newest first.
use Rattle.std.specs.Prelude.{◌≡◌, ℕ, zero, suc, Bool, true, false, ◌==◌, ◌&&◌, List, [], ◌∷◌, ◌++◌, Option, Some, None}
use Rattle.hmc_codes.specs.declared.answer.Answer.{Answer}
use Rattle.hmc_hops.specs.Packets.{Packet, Spot, Kind, is_request, is_reply, is_live, reply_to}
use Rattle.hmc_hops.specs.Packets.Kind.{Asks}
use Rattle.hmc_hops.specs.Map.{Map}
use Rattle.hmc_routes.specs.Route.Goal.{ToHost, ToCube}
use Rattle.hmc_hops.specs.Queues.{QueueId, same_queue, is_at, lift_of, next_queue}
use Rattle.hmc_hops.specs.Queues.QueueId.{Output, Line, UnitQueue, Answers}

-- What one step does to the queues. A packet that goes on, or is executed, may pass those of other
-- flows; `passing` is how many.
pub data Move : Type 0 where
  Rests : Move  -- no packet moves
  -- a host gives a request; or a packet that doesn't count is begun on a line
  Comes : (into : QueueId) → Packet → Move
  Goes : (from : QueueId) → (passing : ℕ) → Packet → Move  -- a packet goes on, or ends
  Executes : (cube : ℕ) → Spot → (passing : ℕ) → Packet → Answer → Move  -- a unit answers a request

-- the packet, where a test holds
abbrev pub packet_if : Bool → Packet → List Packet
packet_if true x = x ∷ []
packet_if false x = []

-- the packet that leaves a queue, if one does
abbrev pub leaves : Move → QueueId → List Packet
leaves (Goes from n x) queue = packet_if (same_queue from queue) x
leaves (Executes c s n x answer) queue = packet_if (same_queue (UnitQueue c s) queue) x
leaves _ queue = []

-- the queue of the answer; a posted request is not answered
abbrev pub answer_queue : Kind → (cube : ℕ) → Spot → Option QueueId
answer_queue Asks c s = Some (Answers c (lift_of s))
answer_queue _ c s = None

-- the packet that enters a queue, if one does
abbrev pub enters : Map → Move → QueueId → List Packet
enters m Rests queue = []
enters m (Comes into x) queue = packet_if (same_queue into queue) x
enters m (Goes from n x) queue = packet_if (is_at (next_queue m from x) queue) x
enters m (Executes c s n x answer) queue =
    packet_if (is_at (answer_queue x.kind c s) queue) (reply_to x answer)

-- a list without the packet at a place, counted from 0
unfoldable pub without : ℕ → List Packet → List Packet
without n [] = []
without zero (x ∷ xs) = xs
without (suc n) (x ∷ xs) = x ∷ without n xs

-- the same where a test holds
abbrev pub without_if : Bool → ℕ → List Packet → List Packet
without_if true n xs = without n xs
without_if false n xs = xs

-- what a move leaves in a queue
abbrev pub remaining : Move → QueueId → List Packet → List Packet
remaining (Goes from n x) queue xs = without_if (same_queue from queue) n xs
remaining (Executes c s n x answer) queue xs = without_if (same_queue (UnitQueue c s) queue) n xs
remaining _ queue xs = xs

-- the packets in a queue after these moves, the front first
unfoldable pub contents : Map → List Move → QueueId → List Packet
contents m [] queue = []
contents m (move ∷ past) queue =
    remaining move queue (contents m past queue) ++ enters m move queue

-- two requests, or two answers
abbrev pub same_work : (requests replies : Bool) → Bool
same_work true replies = true
same_work false replies = replies

-- Two packets are of one flow: both count, between the same host and cube, and both are requests,
-- whatever their units are, or both answers.
abbrev pub same_flow : Packet → Packet → Bool
same_flow x y =
    (is_live x && is_live y) && (((x.host == y.host) && (x.cube == y.cube)) &&
    same_work (is_request x.kind && is_request y.kind) (is_reply x.kind && is_reply y.kind))

-- the packet has this place in a list, counted from 0, and none before it is of its flow
abbrev pub IsPlaced : ℕ → Packet → List Packet → Type 0
IsPlaced n x [] = ⊥
IsPlaced zero x (y ∷ ys) = y ≡ x
IsPlaced (suc n) x (y ∷ ys) = (same_flow x y ≡ false) × IsPlaced n x ys

-- a host gives a request to a cube that is there
pub record IsGiven (m : Map) (d : ℕ) (x : Packet) : Type 0 where
  pub direction : d ≡ m.from_host x.host
  pub request : is_request x.kind ≡ true
  pub host : m.is_goal (ToHost x.host) ≡ true
  pub cube : m.is_goal (ToCube x.cube) ≡ true

-- A packet may come from outside: into the output queue of its host, or onto a line, where it
-- doesn't count. Such are a TRET, and the poisoned copy of a packet that was cut through.
abbrev pub IsSource : Map → QueueId → Packet → Type 0
IsSource m (Output d) x = IsGiven m d x
IsSource m (Line d) x = is_live x ≡ false
IsSource m _ x = ⊥

-- a packet goes on from each queue except that of a unit
abbrev pub CanLeave : QueueId → Type 0
CanLeave (UnitQueue c s) = ⊥
CanLeave _ = Unit {0}

-- the move may come after these
abbrev pub May : Map → List Move → Move → Type 0
May m past Rests = Unit {0}
May m past (Comes into x) = IsSource m into x
May m past (Goes from n x) = CanLeave from × IsPlaced n x (contents m past from)
May m past (Executes c s n x answer) = IsPlaced n x (contents m past (UnitQueue c s))

-- each move may come after those before it
unfoldable pub MayAll : Map → List Move → Type 0
MayAll m [] = Unit {0}
MayAll m (move ∷ past) = May m past move × MayAll m past

-- one where a test holds
abbrev pub one_if : Bool → ℕ
one_if true = 1
one_if false = 0
