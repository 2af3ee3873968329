-- What enters a queue may wait there.
use Rattle.std.proofs.Common.{◌/◌, ◌≡◌, ◌≤◌, ◌<◌, ◌^◌, ◌∙◌, ◌==◌, ◌⊎◌, inl, inr, ℕ, zero, suc, Bool, true, false, not, nat_le, if◌then◌else◌, Option, Some, None, List, [], ◌∷◌, ◌++◌, All, drop, length, refl, sym, ap, subst, arith, eqb-true, leb-true, leb-false}
use Rattle.std.specs.Prelude.{option_map, filter, slice_get}
use Rattle.std.proofs.lemmas.List.Elements.{All-drop, All-head, All-filter, filter_passes, filter-append, All-same}
use Rattle.std.proofs.lemmas.List.Quantifiers.{position-Some}
use Rattle.hmc_codes.specs.Commands.{is_posted}
use Rattle.hmc_codes.specs.Request.{RequestFields, IsRequest}
use Rattle.hmc_codes.specs.Shape.{vault_of}
use Rattle.hmc_codes.specs.declared.answer.Answer.{Answer}
use Rattle.hmc_codes.specs.declared.lift.Lift.{Lift}
use Rattle.hmc_codes.specs.declared.place.Place.{Place}
use Rattle.hmc_codes.specs.declared.place.Place.TheVariants as places
use Rattle.hmc_codes.specs.declared.unit.Unit.{Unit as RequestUnit}
use Rattle.hmc_codes.specs.declared.unit.Unit.TheVariants as units
use Rattle.hmc_packet.specs.Packet.{PacketFields}
use Rattle.hmc_codes.specs.Answer.{CanReply, IsAnswer}
use Rattle.hmc_packet.specs.Transactions.{request_packet, reply_packet, request_in}
use Rattle.hmc_host.specs.Tags.{lowest_free}
use Rattle.hmc_host.specs.Give.{wants_tag}
use Rattle.hmc_host.specs.Host.{items_of}
use Rattle.hmc_script.specs.Items.{ItemFields}
use Rattle.hmc_serial.specs.Machine.{cube_state_at, answer_to}
use Rattle.hmc_serial.proofs.AnswerLemmas.{performed_is_carried}
use Rattle.hmc_entries.specs.declared.outcome.Goal.{Goal}
use Rattle.hmc_entries.specs.declared.outcome.Goal.TheVariants as goals
use Rattle.hmc_packet.specs.declared.outcome.Outcome.{Outcome}
use Rattle.hmc_packet.specs.Landings.{ReceiverEntry, pending, accepted_by}
use Rattle.hmc_send.specs.declared.toward.Toward.{Toward}
use Rattle.hmc_send.specs.LinkEntries.{LinkEntry, receiver_entries, accepted_packets, handed_packets, takes}
use Rattle.hmc_send.specs.LinkLines.{StampedFlit, line}
use Rattle.hmc_send.specs.LinkLines as links
use Rattle.hmc_send.specs.Places.{is_token}
use Rattle.hmc_send.specs.Entries as begun
use Rattle.hmc_send.specs.Entries.{SenderEntry}
use Rattle.hmc_send.specs.LinkSenders.{sender_entries}
use Rattle.hmc_send.proofs.LinkProjections.{receiver-landed, sender-landed_own}
use Rattle.hmc_codes.specs.declared.profile.Profile.{Profile}
use Rattle.hmc_packet.specs.Landings as landings
use Rattle.hmc_wire.specs.LinkLaws.{IsKept}
use Rattle.hmc_schedule.specs.Plan.{HasFlit}
use Rattle.hmc_entries.specs.declared.entry.Entry.{Entry}
use Rattle.hmc_entries.specs.declared.entry.Entry.TheVariants.{Gave, Landed, Shifted, Spread, Executed, Lifted}
use Rattle.hmc_serial.specs.Unit.{is_for_registers}
use Rattle.hmc_journal.specs.Setup.{Setup, Topology, shape_of, graph_of, cubes_in, hosts_in, directions_in, end_of, direction_from, unit_cube}
use Rattle.hmc_journal.specs.Network.{IsNetwork, IsItemOf}
use Rattle.hmc_journal.specs.Next.{lacks_room, goal_at, tag_of}
use Rattle.hmc_crossbar.specs.To.{out_of_cube, request_to, unpoisoned_to}
use Rattle.hmc_codes.specs.declared.family.Family.{Family}
use Rattle.hmc_routes.specs.Ports.{port_to_cube, port_to_host}
use Rattle.hmc_laws.proofs.Machine.{HasCubes, cube_there}
use Rattle.hmc_laws.proofs.Wired.{Wired, not_hosts, EndsAtCube, towards_cube, towards_host}
use Rattle.hmc_journal.specs.Directions.{sent_flits, landed_packets, accepted}
use Rattle.hmc_journal.specs.Links.{toward, landing_mask, link_sizes, link_entries, sizes_on, entries_on}
use Rattle.hmc_journal.specs.Queues.{QueueId, buffer_at, landing_buffer, unless_gone, enters, left, entered, contents, goal_queue, output_from, queue_of, answers_of, unless_posted, tag_number, Arrival, arrival_in, arrival_of, front_of}
use Rattle.hmc_journal.specs.Queues.QueueId.{Output, Port, Vault, Bank, Answers}
use Rattle.hmc_journal.specs.Hosts.{given_count, host_of, tags_out}
use Rattle.hmc_journal.specs.StepView.{StepView, state_of, view_of}
use Rattle.hmc_journal.proofs.EntryRule.{EntryRule, HasFront, IsTagged, HasGiven, HasLanded, HasShifted, HasExecuted, HasLifted, goal_by, goal_of}
use Rattle.hmc_journal.proofs.Moves.{front_is, arrives}
use Rattle.hmc_laws.proofs.Standing.{IsAsking, IsReplying, IsMoving, IsLeaving, GoesTo, IsSmallError, Stands, Stands-alike, request_of_packet, IsAsking-request_packet, IsReplying-reply_packet, replied_cube, All-back, all_get}
use Rattle.hmc_laws.proofs.Standing.IsMoving.{ToCube, ToHost, Spoiled}
use Rattle.hmc_laws.proofs.SmallErrors.{performed_small}
use Rattle.hmc_journal.proofs.LinkKept.{kept-landed}
use Rattle.hmc_laws.proofs.LinkHanded.{own_marks}
use Rattle.hmc_laws.proofs.UnsentFlits.{AreGathered}
use Rattle.hmc_laws.proofs.Piping.{sender_on}
use Rattle.hmc_laws.proofs.PipeSteps.{IsUp, ArePending}
use Rattle.hmc_laws.proofs.GoodLandings.{AreShort}
use Rattle.hmc_laws.proofs.ForwardingPipes.{ArePiped, AreForwarding}
use Rattle.hmc_laws.proofs.Buffers.{coming}
use Rattle.hmc_laws.proofs.AcceptedTokens.{OthersHold, tokens_alike}
use Rattle.hmc_journal.proofs.Projections.{goes_at, flits_of_line, received, handed_are, sent_are}
use Rattle.hmc_journal.proofs.Packets.{inside_goal}

-- of each direction: the buffer at its end holds what was accepted and not taken; that of a host all
-- that was accepted
pub record EndKept (topology : Topology) (past : List Entry) (d : ℕ) : Type 0 where
  pub buffer : contents topology past (landing_buffer topology d) ≡ drop (takes (toward d) (entries_on topology d past)) (filter is_token (accepted topology d past))
  pub inside : takes (toward d) (entries_on topology d past) ≤ length (filter is_token (accepted topology d past))
  pub host : (host : ℕ) → end_of topology d ≡ places.Host host → entered topology past (landing_buffer topology d) ≡ filter is_token (accepted topology d past)

-- the copies on a direction go where it leads
abbrev pub CopiesStand : Topology → List Entry → (d : ℕ) → Type 0
CopiesStand topology past d = OthersHold (Stands topology (Output d)) (own_marks (sender_on topology d past)) (begun.places (sizes_on topology d).profile (sender_on topology d past))

abbrev pub AreWithin : Setup → List Entry → Type 0
AreWithin setup past = (room : QueueId) → left past room ≤ length (entered setup.topology past room)

-- what each entry keeps
pub record Kept (setup : Setup) (past : List Entry) : Type 0 where
  -- the masks under which flits land
  pub masks : All HasFlit setup.schedule
  pub within : AreWithin setup past
  pub stands : (room : QueueId) → All (Stands setup.topology room) (entered setup.topology past room)
  -- every link, also one that isn't there
  pub links : (link : ℕ) → IsKept (link_sizes setup.topology link) (link_entries setup.topology link past)
  pub ends : (d : ℕ) → d < directions_in setup.topology → EndKept setup.topology past d
  -- nothing was sent on a direction that isn't there
  pub none : (d : ℕ) → directions_in setup.topology ≤ d → sent_flits d past ≡ []
  pub state : HasCubes setup.topology (state_of setup past)
  pub tags : (host : ℕ) → length (tags_out host past) ≡ 2048
  -- what is forwarded
  pub gathered : AreGathered setup.topology past
  pub pendings : ArePending setup.topology past
  pub short : AreShort past
  pub up : (d : ℕ) → IsUp setup.topology d past
  pub piped : ArePiped setup.topology past
  pub forwarding : AreForwarding setup.topology past
  pub copies : (d : ℕ) → CopiesStand setup.topology past d

pub contents_stand : (setup : Setup) (past : List Entry) (room : QueueId) → Kept setup past → All (Stands setup.topology room) (contents setup.topology past room)
unfolding contents
contents_stand setup past room kept = All-drop (Stands setup.topology room) (left past room) (entered setup.topology past room) (kept.stands room)

pub front_stands : (setup : Setup) (past : List Entry) (room : QueueId) → Kept setup past → (at : HasFront setup past room) → Stands setup.topology room at.front
front_stands setup past room kept at =
    All-head (Stands setup.topology room) at.front at.rest (All-same (Stands setup.topology room) _ _ (sym at.is) (contents_stand setup past room kept))

-- the packet stands in the room that it enters, if it enters one
abbrev pub EntersRight : Topology → Option QueueId → PacketFields → Type 0
EntersRight topology None packet = Unit {0}
EntersRight topology (Some room) packet = Stands topology room packet

abbrev pub ArrivesRight : Topology → Option Arrival → Type 0
ArrivesRight topology None = Unit {0}
ArrivesRight topology (Some arrival) = Stands topology arrival.queue (arrival.packet tt)

arrives_right : (topology : Topology) (there : Option QueueId) (coming : Unit {0} → PacketFields) (packet : PacketFields) → coming tt ≡ packet → EntersRight topology there packet → ArrivesRight topology (arrival_in there coming)
arrives_right topology None coming packet is right = tt
arrives_right topology (Some queue) coming packet is right = subst (Stands topology queue) (sym is) right

-- where a step doesn't lack room there is a direction
room_by : (topology : Topology) (view : StepView) (found : Option ℕ) → lacks_room topology view (option_map Output found) ≡ false → (d : ℕ) × (found ≡ Some d)
room_by topology view None lacks = absurd (cc)
room_by topology view (Some d) lacks = (d, refl)

pub has_direction : (topology : Topology) (view : StepView) (place : Place) → lacks_room topology view (output_from topology place) ≡ false → (d : ℕ) × (direction_from topology place ≡ Some d)
has_direction topology view place lacks = room_by topology view (direction_from topology place) lacks

-- into the output queue of a direction
pub goes_out : (topology : Topology) (place : Place) (d : ℕ) (packet : PacketFields) → Wired topology → direction_from topology place ≡ Some d → GoesTo topology (end_of topology d) packet → EntersRight topology (output_from topology place) packet
goes_out topology place d packet wires starts goes =
    subst (λ (found : Option ℕ). EntersRight topology (option_map Output found) packet) (sym starts) (record { inside = wires.inside place d starts; goes = goes })

-- what isn't for a host goes to a cube
moves_to : (topology : Topology) (place : Place) (packet : PacketFields) → ((host : ℕ) → place ≡ places.Host host → ⊥) → IsMoving topology packet → GoesTo topology place packet
moves_to topology (places.Host host) packet apart moving = absurd (apart host refl)
moves_to topology (places.Port cube port) packet apart moving = moving

pub at_cube : (topology : Topology) (d : ℕ) (packet : PacketFields) → EndsAtCube topology d → IsMoving topology packet → GoesTo topology (end_of topology d) packet
at_cube topology d packet is moving = subst (λ (p : Place). GoesTo topology p packet) (sym is.is) moving

-- give
pub own_item : (setup : Setup) (past : List Entry) (host : ℕ) (item : ItemFields) → IsNetwork setup → slice_get (items_of host setup.script) (given_count host past) ≡ Some item → (item.host ≡ host) × IsItemOf (hosts_in setup.topology) (cubes_in setup.topology) item
own_item setup past host item network is = (
  eqb-true item.host host (all_get (λ (i : ItemFields). (i.host == host) ≡ true) _ _ item (filter_passes (λ (i : ItemFields). i.host == host) setup.script) is),
  all_get (IsItemOf (hosts_in setup.topology) (cubes_in setup.topology)) _ _ item (All-filter (λ (i : ItemFields). i.host == host) (IsItemOf (hosts_in setup.topology) (cubes_in setup.topology)) setup.script network.items) is,
)

pub tag_small : (awaited : Bool) (tags : List Bool) (tag : Option ℕ) → length tags ≡ 2048 → IsTagged awaited (lowest_free tags) tag → tag_number tag < 2 ^ 11
tag_small true tags tag long is =
    let found = position-Some not tags is.0 true is.1 in
    let same : tag_number tag ≡ is.0 = ap tag_number is.2 in omega (arith, found.0)
tag_small false tags tag long is = let same : tag_number tag ≡ 0 = ap tag_number is in omega arith

pub given_asks : (setup : Setup) (past : List Entry) (host : ℕ) (tag : Option ℕ) (poisoned : Bool) (request : RequestFields) → IsNetwork setup → HasGiven setup past host tag poisoned request → Kept setup past
    → IsAsking setup.topology (request_packet request (tag_number tag) host poisoned)
unfolding host_of
given_asks setup past host tag poisoned request network has kept =
    let own = own_item setup past host has.item network has.is_next in
    let small = tag_small (wants_tag has.item) (tags_out host past) tag (kept.tags host) has.is_tagged in
    let there : host < hosts_in setup.topology = subst (λ (h : ℕ). h < hosts_in setup.topology) own.0 own.1.within.host in
    IsAsking-request_packet setup.topology request (tag_number tag) host poisoned (subst IsRequest (sym has.is_request) own.1.request)
    (subst (λ (r : RequestFields). r.cube < cubes_in setup.topology) (sym has.is_request) own.1.within.cube) small there network.few_hosts

given_enters : (setup : Setup) (past : List Entry) (host : ℕ) (tag : Option ℕ) (poisoned : Bool) (request : RequestFields) → IsNetwork setup → Wired setup.topology → HasGiven setup past host tag poisoned request → Kept setup past
    → EntersRight setup.topology (output_from setup.topology (places.Host host)) (request_packet request (tag_number tag) host poisoned)
given_enters setup past host tag poisoned request network wires has kept =
    let asking = given_asks setup past host tag poisoned request network has kept in
    let away = has_direction setup.topology (view_of setup past) (places.Host host) has.room in
    let inside = wires.inside (places.Host host) away.0 away.1 in
    let starts = wires.starts (places.Host host) away.0 away.1 in
    goes_out setup.topology (places.Host host) away.0 (request_packet request (tag_number tag) host poisoned) wires away.1
    (moves_to setup.topology (end_of setup.topology away.0) (request_packet request (tag_number tag) host poisoned)
    (λ far is. not_hosts setup.topology wires away.0 host far inside starts is) (ToCube asking))

-- send and land
no_flits : (sent : List StampedFlit) → flits_of_line sent ≡ [] → sent ≡ []
no_flits [] is = refl
no_flits (x ∷ sent) is = absurd cc

nothing_lands : (n : ℕ) (sent : List StampedFlit) (front : StampedFlit) → sent ≡ [] → slice_get (drop n sent) 0 ≡ Some front → ⊥
nothing_lands zero [] front empty is = cc
nothing_lands (suc n) [] front empty is = cc
nothing_lands n (x ∷ sent) front empty is = cc

real-by : (setup : Setup) (past : List Entry) (direction : ℕ) (flit : List ℕ) (outcome : Outcome) (far : Bool) → nat_le (directions_in setup.topology) direction ≡ far → HasLanded setup past direction flit outcome → Kept setup past
    → direction < directions_in setup.topology
unfolding line
real-by setup past direction flit outcome true big has kept =
    let none : sent_flits direction past ≡ [] = kept.none direction (leb-true (directions_in setup.topology) direction big) in
    let empty : links.sent_flits (sizes_on setup.topology direction).profile (toward direction) (entries_on setup.topology direction past) ≡ [] = no_flits _ (sym (sent_are setup.topology direction past) ∙ none) in
    absurd (nothing_lands (links.landings (toward direction) (entries_on setup.topology direction past)) _ has.landing.front empty has.landing.is_front)
real-by setup past direction flit outcome false small has kept = leb-false (directions_in setup.topology) direction small

-- a flit lands on a direction that is there
pub landed-real : (setup : Setup) (past : List Entry) (direction : ℕ) (flit : List ℕ) (outcome : Outcome) → HasLanded setup past direction flit outcome → Kept setup past → direction < directions_in setup.topology
landed-real setup past direction flit outcome has kept = real-by setup past direction flit outcome (nat_le (directions_in setup.topology) direction) refl has kept

-- the requests and answers that were accepted stand
pub accepted_stand : (setup : Setup) (d : ℕ) (past : List LinkEntry) → IsKept (sizes_on setup.topology d) past → All (Stands setup.topology (Output d)) (handed_packets (toward d) past)
    → OthersHold (Stands setup.topology (Output d)) (own_marks (sender_entries (sizes_on setup.topology d) (toward d) past)) (begun.places (sizes_on setup.topology d).profile (sender_entries (sizes_on setup.topology d) (toward d) past))
    → All (Stands setup.topology (Output d)) (filter is_token (accepted_packets (sizes_on setup.topology d).profile (toward d) past))
accepted_stand setup d past kept all copies = tokens_alike (Stands setup.topology (Output d)) (Stands-alike setup.topology d) (sizes_on setup.topology d) (toward d) past kept all copies

-- the packets accepted on a direction, by the link's entries
pub accepted_are : (topology : Topology) (d : ℕ) (past : List Entry) → accepted topology d past ≡ accepted_packets (sizes_on topology d).profile (toward d) (entries_on topology d past)
unfolding accepted
accepted_are topology d past = ap (landings.accepted (sizes_on topology d).profile) (received topology d past)

pub kept_landing : (setup : Setup) (d : ℕ) (past : List Entry) (flit : List ℕ) (outcome : Outcome) → HasLanded setup past d flit outcome → Kept setup past
    → IsKept (sizes_on setup.topology d) (LinkEntry.landed (toward d) (landing_mask (sizes_on setup.topology d) (toward d) (entries_on setup.topology d past) flit) flit outcome ∷ entries_on setup.topology d past)
kept_landing setup d past flit outcome has kept =
    kept-landed (sizes_on setup.topology d) (entries_on setup.topology d past) (toward d) has.mask flit outcome (kept.links (d / 2)) has.landing

-- what a landing accepts, by the link's entries
pub landed_on_link : (topology : Topology) (d : ℕ) (past : List Entry) (flit : List ℕ) (outcome : Outcome)
    → landed_packets topology d flit outcome past ≡ accepted_by (sizes_on topology d).profile (pending (receiver_entries (toward d) (entries_on topology d past))) (ReceiverEntry.Land flit outcome)
unfolding landed_packets
landed_on_link topology d past flit outcome = ap (λ r. accepted_by (sizes_on topology d).profile (pending r) (ReceiverEntry.Land flit outcome)) (received topology d past)

pub accepted-landed : (q : Profile) (d : Toward) (mask flit : List ℕ) (outcome : Outcome) (past : List LinkEntry)
    → accepted_packets q d (LinkEntry.landed d mask flit outcome ∷ past) ≡ accepted_packets q d past ++ accepted_by q (pending (receiver_entries d past)) (ReceiverEntry.Land flit outcome)
unfolding landings.accepted
accepted-landed q d mask flit outcome past = ap (landings.accepted q) (receiver-landed d mask flit outcome past)

handed-landed : (d way : Toward) (mask flit : List ℕ) (outcome : Outcome) (past : List LinkEntry) → handed_packets d (LinkEntry.landed way mask flit outcome ∷ past) ≡ handed_packets d past
unfolding handed_packets
handed-landed d way mask flit outcome past = refl

pub landed_stands : (setup : Setup) (d : ℕ) (past : List Entry) (flit : List ℕ) (outcome : Outcome) → HasLanded setup past d flit outcome → Kept setup past
    → All (Stands setup.topology (Output d)) (filter is_token (landed_packets setup.topology d flit outcome past))
landed_stands setup d past flit outcome has kept =
    let P = Stands setup.topology (Output d) in
    let sizes = sizes_on setup.topology d in
    let way = toward d in
    let before = entries_on setup.topology d past in
    let mask = landing_mask sizes way before flit in
    let now : List LinkEntry = LinkEntry.landed way mask flit outcome ∷ before in
    let is : IsKept sizes now = kept_landing setup d past flit outcome has kept in
    let there : All P (handed_packets way before) = All-same P _ _ (sym (handed_are setup.topology d past)) (kept.stands (Output d)) in
    let handed : All P (handed_packets way now) = All-same P _ _ (handed-landed way way mask flit outcome before) there in
    let all : All P (filter is_token (accepted_packets sizes.profile way now)) = accepted_stand setup d now is handed
    (subst (λ (T : List SenderEntry). OthersHold P (own_marks T) (begun.places sizes.profile T)) (sym (sender-landed_own sizes way mask flit outcome before)) (kept.copies d)) in
    let parts : filter is_token (accepted_packets sizes.profile way now) ≡ filter is_token (accepted_packets sizes.profile way before) ++ filter is_token (landed_packets setup.topology d flit outcome past) =
    ap (filter is_token) (accepted-landed sizes.profile way mask flit outcome before) ∙ filter-append is_token (accepted_packets sizes.profile way before) _
    ∙ ap (λ l. filter is_token (accepted_packets sizes.profile way before) ++ filter is_token l) (sym (landed_on_link setup.topology d past flit outcome)) in
    All-back P (filter is_token (accepted_packets sizes.profile way before)) (filter is_token (landed_packets setup.topology d flit outcome past)) (All-same P _ _ (sym parts) all)

in_buffer : (topology : Topology) (d : ℕ) (place : Place) (packet : PacketFields) → d < directions_in topology → end_of topology d ≡ place → GoesTo topology place packet → Stands topology (buffer_at place) packet
in_buffer topology d (places.Host host) packet inside ends goes = record { direction = d; inside = inside; ends = ends; goes = goes }
in_buffer topology d (places.Port cube port) packet inside ends goes = record { direction = d; inside = inside; ends = ends; goes = goes }

landed_first : (setup : Setup) (d : ℕ) (packets : List PacketFields) → d < directions_in setup.topology → All (Stands setup.topology (Output d)) packets → ArrivesRight setup.topology (arrival_of (landing_buffer setup.topology d) packets)
landed_first setup d [] inside all = tt
landed_first setup d (packet ∷ packets) inside all = in_buffer setup.topology d (end_of setup.topology d) packet inside refl (All-head (Stands setup.topology (Output d)) packet packets all).goes

unless_right : (setup : Setup) (d : ℕ) (gone : Bool) (packets : List PacketFields) → d < directions_in setup.topology → All (Stands setup.topology (Output d)) packets → ArrivesRight setup.topology (arrival_of (landing_buffer setup.topology d) (unless_gone gone packets))
unless_right setup d true packets inside all = tt
unless_right setup d false packets inside all = landed_first setup d packets inside all

landed_enters : (setup : Setup) (past : List Entry) (d : ℕ) (flit : List ℕ) (outcome : Outcome) → HasLanded setup past d flit outcome → Kept setup past → ArrivesRight setup.topology (arrival_of (landing_buffer setup.topology d) (coming setup.topology d flit outcome past))
landed_enters setup past d flit outcome has kept =
    unless_right setup d (goes_at setup.topology d outcome past) (filter is_token (landed_packets setup.topology d flit outcome past)) (landed-real setup past d flit outcome has kept) (landed_stands setup d past flit outcome has kept)

-- shift
pub no_vault : (out : Option ℕ) (vault : ℕ) → goal_at (out_of_cube out) ≡ Some (goals.Vault vault) → ⊥
no_vault None vault is = cc
no_vault (Some port) vault is = cc

pub no_registers : (out : Option ℕ) → goal_at (out_of_cube out) ≡ Some goals.Registers → ⊥
no_registers None is = cc
no_registers (Some port) is = cc

pub out_port : (out : Option ℕ) (port : ℕ) → goal_at (out_of_cube out) ≡ Some (goals.Port port) → out ≡ Some port
out_port None port is = absurd (cc)
out_port (Some p) port is = let same : p ≡ port = cc in ap Some same

pub no_port : (registers : Bool) (vault port : ℕ) → (if registers then goals.Registers else goals.Vault vault) ≡ goals.Port port → ⊥
no_port true vault port is = cc
no_port false vault port is = cc

-- where a packet of a family goes
abbrev goal_for : Topology → (cube : ℕ) → PacketFields → Family → Option Goal
goal_for topology cube packet family = goal_at (unpoisoned_to (graph_of topology) (shape_of topology cube) cube packet family)

pub asking_goal : (topology : Topology) (cube : ℕ) (packet : PacketFields) (goal : Goal) → IsAsking topology packet → goal_of topology cube packet ≡ Some goal
    → goal_at (request_to (graph_of topology) (shape_of topology cube) cube packet (packet.cube == cube)) ≡ Some goal
asking_goal topology cube packet goal asking is = sym (ap (goal_for topology cube packet) asking.asks) ∙ is

pub replying_goal : (topology : Topology) (cube : ℕ) (packet : PacketFields) (goal : Goal) → IsReplying topology packet → goal_of topology cube packet ≡ Some goal → goal_at (out_of_cube (port_to_host (graph_of topology) packet.slid cube)) ≡ Some goal
replying_goal topology cube packet goal replying is = sym (ap (goal_for topology cube packet) replying.replies) ∙ is

-- a request that is in its cube
pub record IsHere (topology : Topology) (cube : ℕ) (goal : Goal) (packet : PacketFields) : Type 0 where
  pub asking : IsAsking topology packet
  pub own : packet.cube ≡ cube
  pub is_goal : goal_by (shape_of topology cube) packet ≡ goal

here_by : (topology : Topology) (cube : ℕ) (goal : Goal) (packet : PacketFields) (here : Bool) → (packet.cube == cube) ≡ here → IsAsking topology packet
    → goal_at (request_to (graph_of topology) (shape_of topology cube) cube packet here) ≡ Some goal → ((out : Option ℕ) → goal_at (out_of_cube out) ≡ Some goal → ⊥) → IsHere topology cube goal packet
here_by topology cube goal packet true at asking is inside =
    record { asking = asking; own = eqb-true packet.cube cube at; is_goal = inside_goal (is_for_registers packet.command) (vault_of (shape_of topology cube) packet.address) goal is }
here_by topology cube goal packet false at asking is inside = absurd (inside (port_to_cube (graph_of topology) packet.cube cube) is)

pub is_here : (topology : Topology) (cube : ℕ) (goal : Goal) (packet : PacketFields) → packet.poisoned ≡ false → IsMoving topology packet → goal_of topology cube packet ≡ Some goal → ((out : Option ℕ) → goal_at (out_of_cube out) ≡ Some goal → ⊥) → IsHere topology cube goal packet
is_here topology cube goal packet clean (ToCube asking) is inside = here_by topology cube goal packet (packet.cube == cube) refl asking (asking_goal topology cube packet goal asking is) inside
is_here topology cube goal packet clean (ToHost replying) is inside = absurd (inside (port_to_host (graph_of topology) packet.slid cube) (replying_goal topology cube packet goal replying is))
is_here topology cube goal packet clean (Spoiled spoiled) is inside = absurd (let clash : true ≡ false = sym spoiled.poisoned ∙ clean in cc)

-- one that goes on
onwards_by : (topology : Topology) (cube port d : ℕ) (packet : PacketFields) (here : Bool) → Wired topology → IsAsking topology packet → goal_at (request_to (graph_of topology) (shape_of topology cube) cube packet here) ≡ Some (goals.Port port)
    → direction_from topology (places.Port cube port) ≡ Some d → GoesTo topology (end_of topology d) packet
onwards_by topology cube port d packet true wires asking is starts = absurd (no_port (is_for_registers packet.command) (vault_of (shape_of topology cube) packet.address) port (inside_goal (is_for_registers packet.command) (vault_of (shape_of topology cube) packet.address) (goals.Port port) is))
onwards_by topology cube port d packet false wires asking is starts =
    at_cube topology d packet (towards_cube topology wires packet.cube cube port d (out_port (port_to_cube (graph_of topology) packet.cube cube) port is) starts) (ToCube asking)

-- an answer goes on, or to its host
pub answer_goes : (topology : Topology) (cube port d : ℕ) (packet : PacketFields) → Wired topology → IsReplying topology packet → port_to_host (graph_of topology) packet.slid cube ≡ Some port → direction_from topology (places.Port cube port) ≡ Some d
    → GoesTo topology (end_of topology d) packet
answer_goes topology cube port d packet wires replying towards starts = by_end (towards_host topology wires packet.slid cube port d towards starts)
  where
    by_end : (end_of topology d ≡ places.Host packet.slid) ⊎ EndsAtCube topology d → GoesTo topology (end_of topology d) packet
    by_end (inl is) = subst (λ (p : Place). GoesTo topology p packet) (sym is) (inl (record { replying = replying; slid = refl }))
    by_end (inr is) = at_cube topology d packet is (ToHost replying)

pub goes_onwards : (topology : Topology) (cube port d : ℕ) (packet : PacketFields) → packet.poisoned ≡ false → Wired topology → IsMoving topology packet → goal_of topology cube packet ≡ Some (goals.Port port) → direction_from topology (places.Port cube port) ≡ Some d
    → GoesTo topology (end_of topology d) packet
goes_onwards topology cube port d packet clean wires (ToCube asking) is starts = onwards_by topology cube port d packet (packet.cube == cube) wires asking (asking_goal topology cube packet (goals.Port port) asking is) starts
goes_onwards topology cube port d packet clean wires (Spoiled spoiled) is starts = absurd (let clash : true ≡ false = sym spoiled.poisoned ∙ clean in cc)
goes_onwards topology cube port d packet clean wires (ToHost replying) is starts =
    answer_goes topology cube port d packet wires replying (out_port (port_to_host (graph_of topology) packet.slid cube) port (replying_goal topology cube packet (goals.Port port) replying is)) starts

shifted_by : (setup : Setup) (past : List Entry) (cube port : ℕ) (goal : Goal) → Wired setup.topology → (has : HasShifted setup past cube port goal) → IsMoving setup.topology has.at.front
    → EntersRight setup.topology (goal_queue setup.topology cube goal) has.at.front
shifted_by setup past cube port (goals.Vault vault) wires has moving =
    let here = is_here setup.topology cube (goals.Vault vault) has.at.front has.unpoisoned moving has.is_goal (λ out is. no_vault out vault is) in
    record { asking = here.asking; own = here.own; unpoisoned = has.unpoisoned; is_goal = here.is_goal }
shifted_by setup past cube port goals.Registers wires has moving =
    let here = is_here setup.topology cube goals.Registers has.at.front has.unpoisoned moving has.is_goal (λ out is. no_registers out is) in
    record { asking = here.asking; own = here.own; unpoisoned = has.unpoisoned; is_goal = here.is_goal }
shifted_by setup past cube port (goals.Port out) wires has moving =
    let to = has_direction setup.topology (view_of setup past) (places.Port cube out) has.room in
    goes_out setup.topology (places.Port cube out) to.0 has.at.front wires to.1 (goes_onwards setup.topology cube out to.0 has.at.front has.unpoisoned wires moving has.is_goal to.1)

-- execute
pub asking_at : (topology : Topology) (unit : RequestUnit) (packet : PacketFields) → Stands topology (queue_of unit) packet → IsAsking topology packet × (packet.cube ≡ unit_cube unit)
asking_at topology (units.Bank cube vault bank) packet is = (is.bound.asking, is.bound.own)
asking_at topology (units.Registers cube) packet is = (is.asking, is.own)

pub same_request : (topology : Topology) (packet : PacketFields) (request : RequestFields) (is : IsAsking topology packet) → request_in packet ≡ Some request → request ≡ is.request
same_request topology packet request is found = let other = is.found in cc

pub reply_tag : (posted : Bool) (tag : Option ℕ) (number : ℕ) → posted ≡ false → tag ≡ tag_of posted number → tag_number tag ≡ number
reply_tag true tag number is tagged = cc
reply_tag false tag number is tagged = ap tag_number tagged

-- a request that is executed, in its cube
pub record IsRun (topology : Topology) (unit : RequestUnit) (front : PacketFields) (request : RequestFields) : Type 0 where
  pub asking : IsAsking topology front
  pub is : IsRequest request
  pub own : request.cube ≡ unit_cube unit
  pub there : request.cube < cubes_in topology

pub runs_request : (setup : Setup) (past : List Entry) (unit : RequestUnit) (host : ℕ) (tag : Option ℕ) (request : RequestFields) (answer : Answer) → (has : HasExecuted setup past unit host tag request answer) → Kept setup past
    → IsRun setup.topology unit has.at.front request
runs_request setup past unit host tag request answer has kept =
    let at = asking_at setup.topology unit has.at.front (front_stands setup past (queue_of unit) kept has.at) in
    let cube = (request_of_packet has.at.front request has.is_request).cube in record {
      asking = at.0;
      is = subst IsRequest (sym (same_request setup.topology has.at.front request at.0 has.is_request)) at.0.is_request;
      own = cube ∙ at.1;
      there = subst (λ (n : ℕ). n < cubes_in setup.topology) (sym cube) at.0.cube;
    }

-- the answer to an executed request can be sent
pub record IsSent (answer : Answer) : Type 0 where
  pub carried : CanReply answer
  pub fits : IsAnswer answer
  pub small : IsSmallError answer

pub sends : (setup : Setup) (past : List Entry) (unit : RequestUnit) (host : ℕ) (tag : Option ℕ) (request : RequestFields) (answer : Answer) → HasExecuted setup past unit host tag request answer → Kept setup past
    → is_posted request.command ≡ false → IsSent answer
unfolding answer_to
sends setup past unit host tag request answer has kept answered =
    let run = runs_request setup past unit host tag request answer has kept in
    let state = state_of setup past in
    let before = cube_state_at state request.cube in
    let carried = performed_is_carried before state.slots request (cube_there setup.topology state request.cube kept.state run.there) run.is in record {
      carried = subst CanReply (sym has.is_answer) (carried.carried answered);
      fits = subst IsAnswer (sym has.is_answer) carried.fits;
      small = subst IsSmallError (sym has.is_answer) (performed_small before state.slots request);
    }

pub executed_reply : (setup : Setup) (past : List Entry) (unit : RequestUnit) (host : ℕ) (tag : Option ℕ) (request : RequestFields) (answer : Answer) → IsNetwork setup → HasExecuted setup past unit host tag request answer → Kept setup past
    → is_posted request.command ≡ false → IsLeaving setup.topology (unit_cube unit) (reply_packet answer (tag_number tag) host request.cube)
executed_reply setup past unit host tag request answer network has kept answered =
    let run = runs_request setup past unit host tag request answer has kept in
    let sent = sends setup past unit host tag request answer has kept answered in
    let tag_is : tag_number tag ≡ has.at.front.tag = reply_tag (is_posted request.command) tag has.at.front.tag answered has.is_tag in record {
      replying = IsReplying-reply_packet setup.topology answer (tag_number tag) host request.cube sent.carried sent.fits sent.small
          (subst (λ (n : ℕ). n < 2 ^ 11) (sym tag_is) run.asking.counted.is_packet.ranges.tag) (subst (λ (n : ℕ). n < hosts_in setup.topology) (sym has.is_host) run.asking.slid) network.few_hosts run.there network.graph.few_cubes;
      own = replied_cube answer (tag_number tag) host request.cube sent.carried ∙ run.own;
    }

answers_at : (topology : Topology) (unit : RequestUnit) (packet : PacketFields) → IsLeaving topology (unit_cube unit) packet → Stands topology (answers_of unit) packet
answers_at topology (units.Bank cube vault bank) packet is = is
answers_at topology (units.Registers cube) packet is = is

executed_enters : (setup : Setup) (past : List Entry) (unit : RequestUnit) (host : ℕ) (tag : Option ℕ) (request : RequestFields) (answer : Answer) (posted : Bool) → IsNetwork setup → HasExecuted setup past unit host tag request answer
    → Kept setup past → is_posted request.command ≡ posted → EntersRight setup.topology (unless_posted posted (answers_of unit)) (reply_packet answer (tag_number tag) host request.cube)
executed_enters setup past unit host tag request answer true network has kept is = tt
executed_enters setup past unit host tag request answer false network has kept is = answers_at setup.topology unit _ (executed_reply setup past unit host tag request answer network has kept is)

-- lift
pub lifted_into : (setup : Setup) (past : List Entry) (cube : ℕ) (from : Lift) (port : ℕ) → Wired setup.topology → (has : HasLifted setup past cube from port) → IsReplying setup.topology has.at.front
    → (d : ℕ) × (direction_from setup.topology (places.Port cube port) ≡ Some d) × GoesTo setup.topology (end_of setup.topology d) has.at.front
lifted_into setup past cube from port wires has reply =
    let to = has_direction setup.topology (view_of setup past) (places.Port cube port) has.room in
    (to.0, to.1, answer_goes setup.topology cube port to.0 has.at.front wires reply has.is_port to.1)

-- every entry
pub enters_right : (setup : Setup) (past : List Entry) (entry : Entry) → IsNetwork setup → Wired setup.topology → EntryRule setup past entry → Kept setup past
    → ArrivesRight setup.topology (arrives setup.topology past entry)
unfolding enters
enters_right setup past (Gave host tag poisoned request) network wires right kept =
    arrives_right setup.topology (output_from setup.topology (places.Host host)) _ _ refl (given_enters setup past host tag poisoned request network wires right kept)
enters_right setup past (Landed d flit outcome) network wires right kept = landed_enters setup past d flit outcome right kept
enters_right setup past (Shifted cube port goal) network wires right kept =
    arrives_right setup.topology (goal_queue setup.topology cube goal) _ _ (front_is setup past (Port cube port) right.at)
    (shifted_by setup past cube port goal wires right (front_stands setup past (Port cube port) kept right.at).goes)
enters_right setup past (Spread cube vault bank) network wires right kept =
    arrives_right setup.topology (Some (Bank cube vault bank)) (λ _. front_of (contents setup.topology past (Vault cube vault))) right.at.front (front_is setup past (Vault cube vault) right.at)
    (record { bound = front_stands setup past (Vault cube vault) kept right.at; is_bank = sym right.is_bank })
enters_right setup past (Executed unit host tag request answer) network wires right kept =
    arrives_right setup.topology (unless_posted (is_posted request.command) (answers_of unit)) _ _ refl (executed_enters setup past unit host tag request answer (is_posted request.command) network right kept refl)
enters_right setup past (Lifted cube from port) network wires right kept =
    let into = lifted_into setup past cube from port wires right (front_stands setup past (Answers cube from) kept right.at).replying in
    arrives_right setup.topology (output_from setup.topology (places.Port cube port)) _ _ (front_is setup past (Answers cube from) right.at)
    (goes_out setup.topology (places.Port cube port) into.0 right.at.front wires into.1 into.2)
enters_right setup past _ network wires right kept = tt
