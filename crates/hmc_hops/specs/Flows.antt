-- Flows: the requests of a host to a unit, and the answers of a cube to a host; what of a flow
-- entered a queue, left it and waits there; and what was given, executed, lifted and taken.
use Rattle.std.specs.Prelude.{ℕ, Bool, true, false, not, ◌==◌, ◌&&◌, List, [], ◌∷◌, ◌++◌, Option, Some, None}
use Rattle.hmc_codes.specs.Request.{RequestFields}
use Rattle.hmc_codes.specs.declared.answer.Answer.{Answer}
use Rattle.hmc_hops.specs.Packets.{Packet, Spot, Kind, same_spot, is_request, is_reply}
use Rattle.hmc_hops.specs.Packets.Spot.{Bank, Registers}
use Rattle.hmc_hops.specs.Packets.Kind.{Asks}
use Rattle.hmc_hops.specs.Map.{Map, End}
use Rattle.hmc_hops.specs.Map.End.{Host, Cube}
use Rattle.hmc_hops.specs.Queues.{QueueId, same_queue}
use Rattle.hmc_hops.specs.Queues.QueueId.{Output, Line, Buffer, Vault, UnitQueue, Answers}
use Rattle.hmc_hops.specs.Moves.{Move, enters, leaves, contents, packet_if}
use Rattle.hmc_hops.specs.Moves.Move.{Comes, Goes, Executes}

-- some of the packets, and what is read off each of them
pub record Flow (X : Type 0) : Type 0 where
  pub mine : Packet → Bool
  pub value : Packet → X

-- the value, where a test holds
abbrev pub item_if : {X : Type 0} → Bool → X → List X
item_if true v = v ∷ []
item_if false v = []

-- the values of a flow's packets in a list
unfoldable pub pick : {X : Type 0} → Flow X → List Packet → List X
pick f [] = []
pick f (x ∷ xs) = item_if (f.mine x) (f.value x) ++ pick f xs

-- what each move adds, the oldest first
unfoldable pub collect : {X : Type 0} → (Move → List X) → List Move → List X
collect piece [] = []
collect piece (move ∷ past) = collect piece past ++ piece move

-- what of a flow entered a queue
abbrev pub flow_entered : {X : Type 0} → Map → Flow X → List Move → QueueId → List X
flow_entered m f past queue = collect (λ move. pick f (enters m move queue)) past

-- what of a flow left a queue
abbrev pub flow_left : {X : Type 0} → Flow X → List Move → QueueId → List X
flow_left f past queue = collect (λ move. pick f (leaves move queue)) past

-- what of a flow is in a queue
abbrev pub waiting_at : {X : Type 0} → Map → Flow X → List Move → QueueId → List X
waiting_at m f past queue = pick f (contents m past queue)

-- what of a flow is on a direction: in its output queue, on its line and in its buffer
abbrev pub waiting_on : {X : Type 0} → Map → Flow X → List Move → ℕ → List X
waiting_on m f past d =
    waiting_at m f past (Buffer d) ++
    (waiting_at m f past (Line d) ++ waiting_at m f past (Output d))

-- what of a flow is on the directions of a route, the foremost first
unfoldable pub waiting_along : {X : Type 0} → Map → Flow X → List Move → List ℕ → List X
waiting_along m f past [] = []
waiting_along m f past (d ∷ ds) = waiting_along m f past ds ++ waiting_on m f past d

-- what of a flow is in the cube of a unit, on its way to the unit
abbrev pub waiting_inside : {X : Type 0} → Map → Flow X → List Move → (cube : ℕ) → Spot → List X
waiting_inside m f past c Registers = waiting_at m f past (UnitQueue c Registers)
waiting_inside m f past c (Bank v b) =
    waiting_at m f past (UnitQueue c (Bank v b)) ++ waiting_at m f past (Vault c v)

-- a request with its tag, which it has where it is answered
pub record TaggedRequest : Type 0 where
  pub tag : Option ℕ
  pub request : RequestFields

-- an answer with its tag
pub record TaggedAnswer : Type 0 where
  pub tag : ℕ
  pub answer : Answer

-- a posted request has no tag
abbrev pub tag_by : Kind → ℕ → Option ℕ
tag_by Asks tag = Some tag
tag_by _ tag = None

-- the request of a packet
abbrev pub tagged_request : Packet → TaggedRequest
tagged_request x = record { tag = tag_by x.kind x.tag; request = x.request }

-- the answer of a packet
abbrev pub tagged_answer : Packet → TaggedAnswer
tagged_answer x = record { tag = x.tag; answer = x.answer }

-- the requests of a host to a unit, except poisoned ones
abbrev pub requests_to : (host cube : ℕ) → Spot → Flow TaggedRequest
requests_to h c s = record {
  mine = λ x.
      (not x.poisoned && is_request x.kind) &&
      (((x.host == h) && (x.cube == c)) && same_spot x.spot s);
  value = tagged_request;
}

-- the requests of a host to a cube, except poisoned ones
abbrev pub requests_at : (host cube : ℕ) → Flow TaggedRequest
requests_at h c = record {
  mine = λ x. (not x.poisoned && is_request x.kind) && ((x.host == h) && (x.cube == c));
  value = tagged_request;
}

-- a request with the host that gave it, and its tag
pub record HostRequest : Type 0 where
  pub host : ℕ
  pub tag : Option ℕ
  pub request : RequestFields

-- the request of a packet
abbrev pub host_request : Packet → HostRequest
host_request x = record { host = x.host; tag = tag_by x.kind x.tag; request = x.request }

-- the requests to a unit, of whichever host, except poisoned ones
abbrev pub requests_for : (cube : ℕ) → Spot → Flow HostRequest
requests_for c s = record {
  mine = λ x. (not x.poisoned && is_request x.kind) && ((x.cube == c) && same_spot x.spot s);
  value = host_request;
}

-- the answers of a cube to a host, except poisoned ones
abbrev pub answers_to : (cube host : ℕ) → Flow TaggedAnswer
answers_to c h = record {
  mine = λ x. (not x.poisoned && is_reply x.kind) && ((x.host == h) && (x.cube == c));
  value = tagged_answer;
}

-- what a host gives
abbrev pub given_packets : Move → List Packet
given_packets (Comes (Output d) x) = x ∷ []
given_packets _ = []

-- what a unit executes of a host
abbrev pub executed_requests : (host cube : ℕ) → Spot → Move → List TaggedRequest
executed_requests h c s (Executes d t n x answer) =
    item_if ((x.host == h) && same_queue (UnitQueue d t) (UnitQueue c s)) (tagged_request x)
executed_requests h c s _ = []

-- what leaves the queues of answers of a cube
abbrev pub lifted_packets : (cube : ℕ) → Move → List Packet
lifted_packets c (Goes (Answers d from) n x) = packet_if (d == c) x
lifted_packets c _ = []

-- an end is this host
abbrev pub is_host : End → (host : ℕ) → Bool
is_host (Host k) h = k == h
is_host (Cube c) h = false

-- what a host takes out of its buffer
abbrev pub taken_packets : Map → (host : ℕ) → Move → List Packet
taken_packets m h (Goes (Buffer d) n x) = packet_if (is_host (m.end_of d) h) x
taken_packets m h _ = []

-- an end is some port of this cube
abbrev pub is_cube : End → (cube : ℕ) → Bool
is_cube (Host h) c = false
is_cube (Cube k) c = k == c

-- what leaves a buffer at a cube: it goes on, or arrives
abbrev pub arriving_packets : Map → (cube : ℕ) → Move → List Packet
arriving_packets m c (Goes (Buffer d) n x) = packet_if (is_cube (m.end_of d) c) x
arriving_packets m c _ = []

-- the requests that a host gave to a cube
abbrev pub given_at : (host cube : ℕ) → List Move → List TaggedRequest
given_at h c past = collect (λ move. pick (requests_at h c) (given_packets move)) past

-- those that arrived at the cube: they left its port's buffer
abbrev pub arrived_at : Map → (host cube : ℕ) → List Move → List TaggedRequest
arrived_at m h c past = collect (λ move. pick (requests_at h c) (arriving_packets m c move)) past

-- the requests to a unit that arrived at its cube
abbrev pub arrived_for : Map → (cube : ℕ) → Spot → List Move → List HostRequest
arrived_for m c s past = collect (λ move. pick (requests_for c s) (arriving_packets m c move)) past

-- what a unit executes
abbrev pub executed_here : (cube : ℕ) → Spot → Move → List HostRequest
executed_here c s (Executes d t n x answer) =
    item_if (same_queue (UnitQueue d t) (UnitQueue c s)) (host_request x)
executed_here c s _ = []

-- the requests that a unit executed, of whichever host
abbrev pub executed_for : (cube : ℕ) → Spot → List Move → List HostRequest
executed_for c s past = collect (executed_here c s) past

-- the requests that a host gave to a unit
abbrev pub given_to : (host cube : ℕ) → Spot → List Move → List TaggedRequest
given_to h c s past = collect (λ move. pick (requests_to h c s) (given_packets move)) past

-- those that packets accepted on a direction carried
abbrev pub requests_accepted : (host cube : ℕ) → Spot → List Move → ℕ → List TaggedRequest
requests_accepted h c s past d = flow_left (requests_to h c s) past (Line d)

-- those that the unit executed
abbrev pub executed_by : (host cube : ℕ) → Spot → List Move → List TaggedRequest
executed_by h c s past = collect (executed_requests h c s) past

-- the answers to a host that were lifted in a cube
abbrev pub answers_lifted : (cube host : ℕ) → List Move → List TaggedAnswer
answers_lifted c h past = collect (λ move. pick (answers_to c h) (lifted_packets c move)) past

-- those that packets accepted on a direction carried
abbrev pub answers_accepted : (cube host : ℕ) → List Move → ℕ → List TaggedAnswer
answers_accepted c h past d = flow_left (answers_to c h) past (Line d)

-- those that the host took
abbrev pub answers_taken : Map → (cube host : ℕ) → List Move → List TaggedAnswer
answers_taken m c h past = collect (λ move. pick (answers_to c h) (taken_packets m h move)) past
