-- A journal as moves of packets between queues. A packet is seen without what links set. An entry
-- is at most one move, except a landing: where it ends a packet that is forwarded it is up to three.
use Rattle.std.proofs.Common.{◌≡◌, ℕ, zero, Bool, true, false, Option, Some, None, List, [], ◌∷◌, ◌++◌, map, length, refl, ap₂, nat_lt}
use Rattle.hmc_codes.specs.Commands.{family_of, is_posted}
use Rattle.hmc_codes.specs.Request.{RequestFields}
use Rattle.hmc_codes.specs.declared.answer.Answer.{Answer}
use Rattle.hmc_codes.specs.declared.answer.Answer.TheVariants.{Silent}
use Rattle.hmc_codes.specs.declared.family.Family.{Family}
use Rattle.hmc_codes.specs.declared.family.Family.TheVariants as families
use Rattle.hmc_codes.specs.declared.place.Place.{Place}
use Rattle.hmc_codes.specs.declared.place.Place.TheVariants as places
use Rattle.hmc_codes.specs.declared.unit.Unit.{Unit as RequestUnit}
use Rattle.hmc_codes.specs.declared.unit.Unit.TheVariants as units
use Rattle.hmc_packet.specs.Packet.{PacketFields, null_packet}
use Rattle.hmc_packet.specs.Transactions.{request_packet, request_in, answer_in}
use Rattle.hmc_packet.specs.declared.outcome.Outcome.{Outcome}
use Rattle.hmc_packet.specs.declared.outcome.Outcome.TheVariants as outcomes
use Rattle.hmc_packet.specs.declared.what.What.TheVariants.{New, Tret}
use Rattle.hmc_send.specs.Places.{tret_packet}
use Rattle.hmc_hops.specs.Packets.{Packet, Kind, Spot, no_request, Kind as kinds, Spot as spots}
use Rattle.hmc_hops.specs.Queues.{QueueId as HopQueue, QueueId as hops}
use Rattle.hmc_hops.specs.Moves.{Move}
use Rattle.hmc_hops.specs.Moves.Move.{Comes, Goes, Executes}
use Rattle.hmc_entries.specs.declared.entry.Entry.{Entry}
use Rattle.hmc_entries.specs.declared.entry.Entry.TheVariants.{Gave, Sent, Landed, Shifted, Dropped, Spread, Executed, Lifted, Took, Discarded, Unlocked}
use Rattle.hmc_journal.specs.Carried.{begun_on}
use Rattle.hmc_journal.specs.Delivered.{unnumbered}
use Rattle.hmc_journal.specs.Directions.{unsent, awaits_first, landed_packets}
use Rattle.hmc_journal.specs.Piped.{forwarded_onto}
use Rattle.hmc_journal.specs.Links.{direction_to}
use Rattle.hmc_journal.specs.Queues.{QueueId, tag_number, front_of, contents, queue_of, QueueId as queues}
use Rattle.hmc_journal.specs.Setup.{Topology, directions_in, direction_from, unit_in, unit_cube}
use Rattle.hmc_laws.proofs.Standing.{request_in-unnumbered, answer_in-unnumbered}

-- ---- packets

abbrev pub kind_by : Family → (posted : Bool) → Kind
kind_by families.Ask true = kinds.Posts
kind_by families.Ask false = kinds.Asks
kind_by families.Reply posted = kinds.Replies
kind_by families.Flow posted = kinds.Returns

abbrev pub kind_of : PacketFields → Kind
kind_of packet = kind_by (family_of packet.command) (is_posted packet.command)

-- the unit of a cube
abbrev pub spot_of : RequestUnit → Spot
spot_of (units.Bank cube vault bank) = spots.Bank vault bank
spot_of (units.Registers cube) = spots.Registers

abbrev pub spot_by : Topology → Option RequestFields → Spot
spot_by topology None = spots.Registers
spot_by topology (Some request) = spot_of (unit_in topology request)

abbrev pub request_or : Option RequestFields → RequestFields
request_or None = no_request
request_or (Some request) = request

abbrev pub answer_or : Option Answer → Answer
answer_or None = Silent
answer_or (Some answer) = answer

-- a packet of the links as one of the routes
unfoldable pub seen : Topology → PacketFields → Packet
seen topology packet = record {
  kind = kind_of packet;
  host = packet.slid;
  cube = packet.cube;
  spot = spot_by topology (request_in packet);
  tag = packet.tag;
  poisoned = packet.poisoned;
  request = request_or (request_in packet);
  answer = answer_or (answer_in packet);
}

-- it is blind to what links set
pub seen-unnumbered : (topology : Topology) (packet : PacketFields) → seen topology (unnumbered packet) ≡ seen topology packet
unfolding seen
seen-unnumbered topology packet =
    ap₂ (λ (r : Option RequestFields) (a : Option Answer).
    record { kind = kind_of packet; host = packet.slid; cube = packet.cube; spot = spot_by topology r; tag = packet.tag; poisoned = packet.poisoned; request = request_or r; answer = answer_or a })
    (request_in-unnumbered packet) (answer_in-unnumbered packet)

pub all_seen : (topology : Topology) (packets : List PacketFields) → map (seen topology) (map unnumbered packets) ≡ map (seen topology) packets
all_seen topology [] = refl
all_seen topology (packet ∷ packets) = ap₂ (λ x xs. x ∷ xs) (seen-unnumbered topology packet) (all_seen topology packets)

-- ---- queues

abbrev pub or_zero : Option ℕ → ℕ
or_zero None = 0
or_zero (Some n) = n

-- the direction by which packets come to a place
abbrev pub arriving : Topology → Place → ℕ
arriving topology place = or_zero (direction_to topology place)

-- a queue of a journal as one of the routes, where buffers go by the direction that ends at them
abbrev pub hop_queue : Topology → QueueId → HopQueue
hop_queue topology (queues.Output direction) = hops.Output direction
hop_queue topology (queues.Port cube port) = hops.Buffer (arriving topology (places.Port cube port))
hop_queue topology (queues.Host host) = hops.Buffer (arriving topology (places.Host host))
hop_queue topology (queues.Vault cube vault) = hops.Vault cube vault
hop_queue topology (queues.Bank cube vault bank) = hops.UnitQueue cube (spots.Bank vault bank)
hop_queue topology (queues.Registers cube) = hops.UnitQueue cube spots.Registers
hop_queue topology (queues.Answers cube from) = hops.Answers cube from

-- ---- moves

-- the front of a queue goes on
abbrev pub front_goes : Topology → List Entry → QueueId → List Move
front_goes topology past queue = Goes (hop_queue topology queue) 0 (seen topology (front_of (contents topology past queue))) ∷ []

-- the first flit of a packet takes it out of the output queue, unless it is forwarded, and a TRET is
-- begun on the line
abbrev pub begins_move : Topology → List Entry → (direction : ℕ) → (forwarded : Bool) → (unsent : ℕ) → List Move
begins_move topology past direction false zero = front_goes topology past (queues.Output direction)
begins_move topology past direction _ unsent = []

-- a packet that lands and is accepted leaves the line
abbrev pub lands : Topology → (direction : ℕ) → List PacketFields → List Move
lands topology direction [] = []
lands topology direction (packet ∷ rest) = Goes (hops.Line direction) 0 (seen topology packet) ∷ []

-- what is accepted while it is forwarded leaves at once: through the buffer, and past all that waits
-- in the output queue
abbrev pub goes_past : Topology → List Entry → (direction onto : ℕ) → List PacketFields → List Move
goes_past topology past direction onto [] = []
goes_past topology past direction onto (packet ∷ rest) =
    Goes (hops.Output onto) (length (contents topology past (queues.Output onto))) (seen topology packet) ∷ Goes (hops.Buffer direction) 0 (seen topology packet) ∷ []

-- the packet that was begun last
abbrev pub last_packet : List PacketFields → PacketFields
last_packet [] = null_packet
last_packet (packet ∷ []) = packet
last_packet (packet ∷ next ∷ rest) = last_packet (next ∷ rest)

-- where the gathering ends otherwise, a poisoned copy comes onto the line, as the journal has it then
abbrev pub copy_comes : Topology → (journal : List Entry) → (onto : ℕ) → List Move
copy_comes topology journal onto = Comes (hops.Line onto) (seen topology (last_packet (begun_on topology onto journal))) ∷ []

-- what a landing does with a packet that is forwarded
abbrev pub forward_moves : Topology → (past journal : List Entry) → (direction : ℕ) → Outcome → (onto : Option ℕ) → List PacketFields → List Move
forward_moves topology past journal direction outcome None packets = []
forward_moves topology past journal direction outcomes.Gathered (Some onto) packets = []
forward_moves topology past journal direction outcomes.Accepted (Some onto) packets = goes_past topology past direction onto packets
forward_moves topology past journal direction _ (Some onto) packets = copy_comes topology journal onto

-- and an unlock; that of a direction that isn't there does nothing
abbrev pub if_there : Bool → Option ℕ → Option ℕ
if_there true onto = onto
if_there false onto = None

abbrev pub unlocks : Topology → (journal : List Entry) → (onto : Option ℕ) → List Move
unlocks topology journal None = []
unlocks topology journal (Some onto) = copy_comes topology journal onto

abbrev pub comes_from : Topology → Option ℕ → PacketFields → List Move
comes_from topology None packet = []
comes_from topology (Some direction) packet = Comes (hops.Output direction) (seen topology packet) ∷ []

-- the moves of an entry, the newest first
unfoldable pub moves_of : Topology → List Entry → Entry → List Move
moves_of topology past (Gave host tag poisoned request) =
    comes_from topology (direction_from topology (places.Host host)) (request_packet request (tag_number tag) host poisoned)
moves_of topology past (Sent direction New flit) = begins_move topology past direction (awaits_first direction past) (unsent direction past)
moves_of topology past (Sent direction Tret flit) = Comes (hops.Line direction) (seen topology tret_packet) ∷ []
moves_of topology past (Landed direction flit outcome) =
    let landed = landed_packets topology direction flit outcome past in
    forward_moves topology past (Landed direction flit outcome ∷ past) direction outcome (forwarded_onto topology direction past) landed ++ lands topology direction landed
moves_of topology past (Unlocked direction) = unlocks topology (Unlocked direction ∷ past) (if_there (nat_lt direction (directions_in topology)) (forwarded_onto topology direction past))
moves_of topology past (Shifted cube port goal) = front_goes topology past (queues.Port cube port)
moves_of topology past (Dropped cube port) = front_goes topology past (queues.Port cube port)
moves_of topology past (Spread cube vault bank) = front_goes topology past (queues.Vault cube vault)
moves_of topology past (Executed unit host tag request answer) =
    Executes (unit_cube unit) (spot_of unit) 0 (seen topology (front_of (contents topology past (queue_of unit)))) answer ∷ []
moves_of topology past (Lifted cube from port) = front_goes topology past (queues.Answers cube from)
moves_of topology past (Took host tag answer) = front_goes topology past (queues.Host host)
moves_of topology past (Discarded host) = front_goes topology past (queues.Host host)
moves_of topology past _ = []

-- the moves of a journal, the newest first
unfoldable pub moves : Topology → List Entry → List Move
moves topology [] = []
moves topology (entry ∷ past) = moves_of topology past entry ++ moves topology past
