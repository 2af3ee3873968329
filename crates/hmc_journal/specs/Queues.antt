-- The queues that packets wait in. Each holds the packets that entered it except those that left.
-- The tables of moves are here and nowhere else.
use Rattle.std.specs.Prelude.{ℕ, zero, ◌+◌, Bool, true, false, ◌==◌, ◌&&◌, List, [], ◌∷◌, ◌++◌, take, drop, filter, Option, Some, None, option_map}
use Rattle.hmc_codes.specs.Commands.{is_posted}
use Rattle.hmc_codes.specs.declared.lift.Lift.{Lift}
use Rattle.hmc_codes.specs.declared.lift.Lift.TheVariants as lifts
use Rattle.hmc_codes.specs.declared.place.Place.{Place}
use Rattle.hmc_codes.specs.declared.place.Place.TheVariants as places
use Rattle.hmc_codes.specs.declared.unit.Unit.{Unit as RequestUnit}
use Rattle.hmc_codes.specs.declared.unit.Unit.TheVariants as units
use Rattle.hmc_packet.specs.declared.what.What.TheVariants.{New}
use Rattle.hmc_packet.specs.Packet.{PacketFields}
use Rattle.hmc_packet.specs.Transactions.{request_packet, reply_packet}
use Rattle.hmc_send.specs.Places.{is_token}
use Rattle.hmc_entries.specs.declared.outcome.Goal.{Goal}
use Rattle.hmc_entries.specs.declared.outcome.Goal.TheVariants as goals
use Rattle.hmc_entries.specs.declared.entry.Entry.{Entry}
use Rattle.hmc_entries.specs.declared.entry.Entry.TheVariants.{Gave, Sent, Landed, Shifted, Dropped, Spread, Executed, Lifted, Took, Discarded}
use Rattle.hmc_journal.specs.Setup.{Topology, end_of, direction_from}
use Rattle.hmc_journal.specs.Directions.{unsent, awaits_first, landed_packets}
use Rattle.hmc_journal.specs.Piped.{forwarded_onto, goes_on}
pub use Rattle.hmc_journal.specs.Basics.{same_lift, front_of, tag_number, one_if, packet_if}

-- the output queue of a direction, the input buffers of ports and hosts, the queues of vaults,
-- banks and registers, and the answers of a vault or of the registers
pub data QueueId : Type 0 where
  Output : (direction : ℕ) → QueueId
  Port : (cube : ℕ) → (port : ℕ) → QueueId
  Host : (host : ℕ) → QueueId
  Vault : (cube : ℕ) → (vault : ℕ) → QueueId
  Bank : (cube : ℕ) → (vault : ℕ) → (bank : ℕ) → QueueId
  Registers : (cube : ℕ) → QueueId
  Answers : (cube : ℕ) → (lift : Lift) → QueueId

-- the same queue
abbrev pub same_queue : QueueId → QueueId → Bool
same_queue (Output d) (Output e) = d == e
same_queue (Port c p) (Port d q) = (c == d) && (p == q)
same_queue (Host h) (Host k) = h == k
same_queue (Vault c v) (Vault d w) = (c == d) && (v == w)
same_queue (Bank c v b) (Bank d w a) = (c == d) && ((v == w) && (b == a))
same_queue (Registers c) (Registers d) = c == d
same_queue (Answers c from) (Answers d to) = (c == d) && same_lift from to
same_queue _ _ = false

-- a queue, if there is one, is this one
abbrev pub is_at : Option QueueId → QueueId → Bool
is_at None queue = false
is_at (Some queue) here = same_queue queue here

-- the input buffer at a place
abbrev pub buffer_at : Place → QueueId
buffer_at (places.Host host) = Host host
buffer_at (places.Port cube port) = Port cube port

-- the input buffer at the end of a direction
abbrev pub landing_buffer : Topology → ℕ → QueueId
landing_buffer topology direction = buffer_at (end_of topology direction)

-- the output queue that starts at a place, if it has a link
abbrev pub output_from : Topology → Place → Option QueueId
output_from topology place = option_map Output (direction_from topology place)

-- the queue of a unit
abbrev pub queue_of : RequestUnit → QueueId
queue_of (units.Bank cube vault bank) = Bank cube vault bank
queue_of (units.Registers cube) = Registers cube

-- the queue that its answers enter
abbrev pub answers_of : RequestUnit → QueueId
answers_of (units.Bank cube vault bank) = Answers cube (lifts.Vault vault)
answers_of (units.Registers cube) = Answers cube lifts.Registers

-- the queue of a goal of a cube, if it is there
abbrev pub goal_queue : Topology → ℕ → Goal → Option QueueId
goal_queue topology cube (goals.Vault vault) = Some (Vault cube vault)
goal_queue topology cube goals.Registers = Some (Registers cube)
goal_queue topology cube (goals.Port port) = output_from topology (places.Port cube port)

-- the first flit of a packet takes it out of the output queue, unless it is forwarded
abbrev pub begins : (forwarded : Bool) → (unsent : ℕ) → ℕ → Option QueueId
begins false zero direction = Some (Output direction)
begins _ unsent direction = None

-- the queue whose front leaves, if one does
unfoldable pub leaves : List Entry → Entry → Option QueueId
leaves past (Sent direction New flit) =
    begins (awaits_first direction past) (unsent direction past) direction
leaves past (Shifted cube port goal) = Some (Port cube port)
leaves past (Dropped cube port) = Some (Port cube port)
leaves past (Spread cube vault bank) = Some (Vault cube vault)
leaves past (Executed unit host tag request answer) = Some (queue_of unit)
leaves past (Lifted cube from port) = Some (Answers cube from)
leaves past (Took host tag answer) = Some (Host host)
leaves past (Discarded host) = Some (Host host)
leaves past _ = None

-- a posted request is not answered
abbrev pub unless_posted : Bool → QueueId → Option QueueId
unless_posted true queue = None
unless_posted false queue = Some queue

-- a packet that enters a queue; it is computed only where it is looked at
pub record Arrival : Type 0 where
  pub queue : QueueId
  pub packet : Unit {0} → PacketFields

-- the arrival of a packet in a queue, if the queue is there
abbrev pub arrival_in : Option QueueId → (Unit {0} → PacketFields) → Option Arrival
arrival_in None packet = None
arrival_in (Some queue) packet = Some (record { queue = queue; packet = packet })

-- the arrival of the first of some packets, if there is one
abbrev pub arrival_of : QueueId → List PacketFields → Option Arrival
arrival_of queue [] = None
arrival_of queue (packet ∷ rest) = arrival_in (Some queue) (λ _. packet)

-- the packet, if one arrives in this queue
abbrev pub arrived : QueueId → Option Arrival → List PacketFields
arrived here None = []
arrived here (Some arrival) = packet_if (same_queue arrival.queue here) arrival.packet

-- the packets, unless they are forwarded and so enter no buffer
abbrev pub unless_gone : Bool → List PacketFields → List PacketFields
unless_gone true packets = []
unless_gone false packets = packets

-- The packet that enters a queue, by what is inside the queues before: a request; a request or an
-- answer that a landing accepts, poisoned or not (an accepted TRET enters no buffer, nor does what
-- is accepted while it is forwarded); an answer; or the front of the queue that it leaves.
unfoldable pub enters : Topology → (inside : QueueId → List PacketFields) → List Entry → Entry →
    Option Arrival
enters topology inside past (Gave host tag poisoned request) =
    arrival_in (output_from topology (places.Host host))
    (λ _. request_packet request (tag_number tag) host poisoned)
enters topology inside past (Landed direction flit outcome) =
    arrival_of (landing_buffer topology direction)
    (unless_gone (goes_on outcome (forwarded_onto topology direction past))
    (filter is_token (landed_packets topology direction flit outcome past)))
enters topology inside past (Shifted cube port goal) =
    arrival_in (goal_queue topology cube goal) (λ _. front_of (inside (Port cube port)))
enters topology inside past (Spread cube vault bank) =
    arrival_in (Some (Bank cube vault bank)) (λ _. front_of (inside (Vault cube vault)))
enters topology inside past (Executed unit host tag request answer) =
    arrival_in (unless_posted (is_posted request.command) (answers_of unit))
    (λ _. reply_packet answer (tag_number tag) host request.cube)
enters topology inside past (Lifted cube from port) =
    arrival_in (output_from topology (places.Port cube port))
    (λ _. front_of (inside (Answers cube from)))
enters topology inside past _ = None

-- how many packets left a queue
unfoldable pub left : List Entry → QueueId → ℕ
left [] queue = 0
left (entry ∷ past) queue = one_if (is_at (leaves past entry) queue) + left past queue

-- the packets that entered a queue
unfoldable pub entered : Topology → List Entry → QueueId → List PacketFields
entered topology [] queue = []
entered topology (entry ∷ past) queue =
    entered topology past queue ++
    arrived queue
    (enters topology (λ here. drop (left past here) (entered topology past here)) past entry)

-- the packets in a queue, the front first
unfoldable pub contents : Topology → List Entry → QueueId → List PacketFields
contents topology past queue = drop (left past queue) (entered topology past queue)

-- the packets that were begun on a direction
unfoldable pub begun : Topology → List Entry → ℕ → List PacketFields
begun topology past direction =
    take (left past (Output direction)) (entered topology past (Output direction))
