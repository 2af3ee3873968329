-- What packets carry: requests and answers with their tags. Along a route these are what each of
-- its directions carried, and what waits on each.
use Rattle.std.specs.Prelude.{ℕ, ◌-◌, Bool, true, false, not, ◌==◌, ◌&&◌, if◌then◌else◌, List, [], ◌∷◌, ◌++◌, length, map, zip, filter, flat_map, take, drop, Option, Some, None, is_some}
use Rattle.hmc_codes.specs.Commands.{is_posted}
use Rattle.hmc_codes.specs.Request.{RequestFields}
use Rattle.hmc_codes.specs.declared.answer.Answer.{Answer}
use Rattle.hmc_codes.specs.declared.unit.Unit.{Unit as RequestUnit}
use Rattle.hmc_codes.specs.declared.unit.Unit.TheVariants as units
use Rattle.hmc_packet.specs.Packet.{PacketFields}
use Rattle.hmc_packet.specs.Transactions.{request_in, answer_in}
use Rattle.hmc_send.specs.LinkSenders.{places_in}
use Rattle.hmc_codes.specs.declared.profile.Profile.{Profile}
use Rattle.hmc_packet.specs.declared.what.What.TheVariants.{New, Tret}
use Rattle.hmc_send.specs.Copies.{place_fed}
use Rattle.hmc_send.specs.Places.{Place, packet_in}
use Rattle.hmc_through.specs.Pipe.{front_flits, feed_at}
use Rattle.hmc_entries.specs.declared.entry.Entry.{Entry}
use Rattle.hmc_entries.specs.declared.entry.Entry.TheVariants.{Sent, Lifted, Took, Through}
use Rattle.hmc_journal.specs.Choice.{append_if}
use Rattle.hmc_journal.specs.Answers.{tag_of}
use Rattle.hmc_journal.specs.Directions.{accepted, profile_of, unsent, awaits_first}
use Rattle.hmc_journal.specs.Piped.{PipeFrom, pipe_onto}
use Rattle.hmc_journal.specs.Filters.{TaggedRequest, TaggedAnswer, same_unit}
use Rattle.hmc_journal.specs.Links.{toward, entries_on, sizes_on}
use Rattle.hmc_journal.specs.Queues.{QueueId, left, entered, contents, landing_buffer, queue_of, front_of, begins}
use Rattle.hmc_journal.specs.Queues.QueueId.{Output, Host, Vault, Answers}
use Rattle.hmc_journal.specs.Routes.{route_to_cube, route_to_host}
use Rattle.hmc_journal.specs.Setup.{Topology, unit_in, unit_cube}

-- the request of a host to a unit that a packet carries, unless it is poisoned
abbrev pub tagged_request : Topology → (host : ℕ) → RequestUnit → PacketFields →
    Option RequestFields → List TaggedRequest
tagged_request topology host unit packet None = []
tagged_request topology host unit packet (Some request) =
    if (packet.slid == host) && (not packet.poisoned && same_unit (unit_in topology request) unit)
    then record { tag = tag_of (is_posted request.command) packet.tag; request = request } ∷ [] else
    []

-- those that packets carry
unfoldable pub tagged_requests : Topology → (host : ℕ) → RequestUnit → List PacketFields →
    List TaggedRequest
tagged_requests topology host unit packets =
    flat_map (λ packet. tagged_request topology host unit packet (request_in packet)) packets

-- the answer that a packet carries, with its tag, unless it is poisoned
abbrev pub tagged_answer : PacketFields → Option Answer → List TaggedAnswer
tagged_answer packet None = []
tagged_answer packet (Some answer) =
    if packet.poisoned then [] else record { tag = packet.tag; answer = answer } ∷ []

-- those that packets carry
unfoldable pub tagged_answers : List PacketFields → List TaggedAnswer
tagged_answers packets = flat_map (λ packet. tagged_answer packet (answer_in packet)) packets

-- those that the packets which left a queue carry
abbrev pub tagged_answers_gone : Topology → QueueId → List Entry → List TaggedAnswer
tagged_answers_gone topology queue journal =
    tagged_answers (take (left journal queue) (entered topology journal queue))

-- the answer of a cube to a host that a packet carries
abbrev pub answer_to : (cube host : ℕ) → PacketFields → List TaggedAnswer
answer_to cube host packet =
    if (packet.cube == cube) && (packet.slid == host)
    then tagged_answer packet (answer_in packet) else []

-- those that packets carry
unfoldable pub answers_to : (cube host : ℕ) → List PacketFields → List TaggedAnswer
answers_to cube host packets = flat_map (answer_to cube host) packets

-- the answers to a host that were lifted in a cube, in the order of the journal
unfoldable pub answers_lifted : Topology → (cube host : ℕ) → List Entry → List TaggedAnswer
answers_lifted topology c h [] = []
answers_lifted topology c h (Lifted cube from port ∷ past) =
    append_if (cube == c)
    (answers_to c h (front_of (contents topology past (Answers cube from)) ∷ []))
    (answers_lifted topology c h past)
answers_lifted topology c h (_ ∷ past) = answers_lifted topology c h past

-- the answers of a cube that a host took: the front of the host's buffer names its cube
unfoldable pub answers_taken : Topology → (cube host : ℕ) → List Entry → List TaggedAnswer
answers_taken topology c h [] = []
answers_taken topology c h (Took host tag answer ∷ past) =
    append_if ((host == h) && ((front_of (contents topology past (Host host))).cube == c))
    (record { tag = tag; answer = answer } ∷ []) (answers_taken topology c h past)
answers_taken topology c h (_ ∷ past) = answers_taken topology c h past

-- A place that is open is that of the copy of the latest packet that was forwarded. Once the
-- packet's gathering has ended the copy is known, also while its last flit is still to be sent.
abbrev pub place_with : Profile → Option PipeFrom → Place → Place
place_with profile None place = place
place_with profile (Some p) place =
    place_fed profile (front_flits p.pipe) (feed_at p.pipe (p.pipe.flits - 1)) place

-- the packets that were begun on a direction for the first time, with their numbers; a NULL in
-- place of a copy that isn't known yet
abbrev pub begun_on : Topology → (direction : ℕ) → List Entry → List PacketFields
begun_on topology direction journal =
    map
    (λ place. packet_in
    (place_with (profile_of topology direction) (pipe_onto topology direction journal) place))
    (places_in (sizes_on topology direction) (toward direction)
    (entries_on topology direction journal))

-- of each of them, whether it came from the output queue, or is a TRET, and is no copy of a packet
-- that was forwarded
unfoldable pub begun_here : (direction : ℕ) → List Entry → List Bool
begun_here d [] = []
begun_here d (Sent direction New flit ∷ past) =
    append_if ((direction == d) && is_some (begins (awaits_first d past) (unsent d past) d))
    (true ∷ []) (begun_here d past)
begun_here d (Sent direction Tret flit ∷ past) =
    append_if (direction == d) (true ∷ []) (begun_here d past)
begun_here d (Through cube port direction ∷ past) =
    append_if (direction == d) (false ∷ []) (begun_here d past)
begun_here d (_ ∷ past) = begun_here d past

-- the packets that are marked so
abbrev pub marked : (marks : List Bool) → List PacketFields → List PacketFields
marked marks packets = map (λ pair. pair.1) (filter (λ pair. pair.0) (zip marks packets))

-- those that weren't accepted yet
abbrev pub underway_on : Topology → (direction : ℕ) → List Entry → List PacketFields
underway_on topology direction journal =
    drop (length (accepted topology direction journal)) (begun_on topology direction journal)

-- what waits on a direction, the foremost first: in the buffer at its end, under way, and in its
-- output queue
abbrev pub waiting_on : Topology → List Entry → (direction : ℕ) → List PacketFields
waiting_on topology journal direction =
    contents topology journal (landing_buffer topology direction)
    ++ (underway_on topology direction journal ++ contents topology journal (Output direction))

-- what waits along a route, the foremost first
unfoldable pub waiting_along : Topology → List Entry → (route : List ℕ) → List PacketFields
waiting_along topology journal [] = []
waiting_along topology journal (direction ∷ route) =
    waiting_along topology journal route ++ waiting_on topology journal direction

-- what waits in the cube of a unit for it, the foremost first: in the unit's queue, and before that
-- in the queue of its vault
abbrev pub waiting_for : Topology → List Entry → RequestUnit → List PacketFields
waiting_for topology journal (units.Bank cube vault bank) =
    contents topology journal (queue_of (units.Bank cube vault bank))
    ++ contents topology journal (Vault cube vault)
waiting_for topology journal (units.Registers cube) =
    contents topology journal (queue_of (units.Registers cube))

-- the requests of a host to a unit that wait anywhere on their way, the foremost first
abbrev pub requests_waiting : Topology → (host : ℕ) → RequestUnit → List Entry →
    List TaggedRequest
requests_waiting topology host unit journal =
    tagged_requests topology host unit
    (waiting_for topology journal unit
    ++ waiting_along topology journal (route_to_cube topology host (unit_cube unit)))

-- the answers of a cube to a host that were lifted and wait on their way, the foremost first
abbrev pub answers_waiting : Topology → (cube host : ℕ) → List Entry → List TaggedAnswer
answers_waiting topology cube host journal =
    answers_to cube host (waiting_along topology journal (route_to_host topology cube host))

-- the requests of a host to a unit that packets carried over each direction of their route
abbrev pub requests_along : Topology → (host : ℕ) → RequestUnit → List Entry →
    List (List TaggedRequest)
requests_along topology host unit journal =
    map (λ direction. tagged_requests topology host unit (accepted topology direction journal))
    (route_to_cube topology host (unit_cube unit))

-- the answers of a cube to a host that packets carried over each direction of their route
abbrev pub answers_along : Topology → (cube host : ℕ) → List Entry → List (List TaggedAnswer)
answers_along topology cube host journal =
    map (λ direction. answers_to cube host (accepted topology direction journal))
    (route_to_host topology cube host)
