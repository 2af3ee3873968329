-- What a journal says was given, executed, carried, lifted and taken is what its moves say.
use Rattle.std.proofs.Common.{◌≡◌, ◌∙◌, ◌==◌, ◌&&◌, ℕ, zero, suc, Bool, true, false, not, if◌then◌else◌, Option, Some, None, List, [], ◌∷◌, ◌++◌, length, refl, sym, ap, ap₂, subst, append-nil, append_assoc, nat_lt}
use Rattle.hmc_codes.specs.Commands.{is_posted}
use Rattle.hmc_codes.specs.Request.{RequestFields, IsRequest}
use Rattle.hmc_codes.specs.declared.place.Place.TheVariants as places
use Rattle.hmc_codes.specs.declared.unit.Unit.{Unit as RequestUnit}
use Rattle.hmc_packet.specs.Packet.{PacketFields}
use Rattle.hmc_packet.specs.Transactions.{request_packet}
use Rattle.hmc_packet.proofs.TransactionLemmas.{request_in-request_packet}
use Rattle.hmc_packet.specs.declared.outcome.Outcome.{Outcome}
use Rattle.hmc_packet.specs.declared.outcome.Outcome.TheVariants as outcomes
use Rattle.hmc_packet.specs.declared.what.What.TheVariants as what
use Rattle.hmc_host.specs.Tags.{lowest_free}
use Rattle.hmc_journal.specs.Hosts.{host_of}
use Rattle.hmc_hops.specs.Packets.{Packet}
use Rattle.hmc_hops.specs.Flows.{pick, collect, requests_to, given_packets, given_to as hop_given_to}
use Rattle.hmc_hops.specs.Moves.{Move}
use Rattle.hmc_hops.specs.Moves.Move.{Comes, Goes}
use Rattle.hmc_hops.specs.Queues.{QueueId as hops}
use Rattle.hmc_journal.specs.Answers.{tag_of}
use Rattle.hmc_journal.specs.Carried.{tagged_request, tagged_requests, begun_on}
use Rattle.hmc_journal.specs.Choice.{append_if}
use Rattle.hmc_entries.specs.declared.entry.Entry.{Entry}
use Rattle.hmc_entries.specs.declared.entry.Entry.TheVariants.{Gave, Sent, Landed, Unlocked}
use Rattle.hmc_journal.specs.Directions.{unsent, awaits_first, landed_packets}
use Rattle.hmc_journal.specs.Piped.{forwarded_onto}
use Rattle.hmc_journal.specs.Filters.{TaggedRequest, same_unit, given_to}
use Rattle.hmc_journal.specs.Lawful.{Lawful}
use Rattle.hmc_journal.specs.Network.{IsNetwork}
use Rattle.hmc_journal.specs.Queues.{tag_number, contents, QueueId as queues}
use Rattle.hmc_journal.specs.Setup.{Topology, Setup, directions_in, unit_in, unit_cube}
use Rattle.hmc_journal.specs.StepView.{view_of}
use Rattle.hmc_journal.proofs.EntryRule.{IsTagged, HasGiven, entry_rule, lawful_past}
use Rattle.hmc_laws.proofs.Entering.{has_direction, own_item}
use Rattle.hmc_delivery.proofs.Flowing.{requests_seen}
use Rattle.hmc_delivery.proofs.Seen.{seen, spot_of, comes_from, begins_move, lands, goes_past, last_packet, forward_moves, if_there, unlocks, moves_of, moves}

-- ---- one entry adds what its moves add

-- where the packet goes that an unlock spoils
abbrev pub onto_there : Topology → (direction : ℕ) → List Entry → Option ℕ
onto_there topology d past = if_there (nat_lt d (directions_in topology)) (forwarded_onto topology d past)

abbrev pub piece_of : {X : Type 0} → (Move → List X) → List Move → List X
piece_of piece [] = []
piece_of piece (move ∷ []) = piece move
piece_of piece (move ∷ next ∷ rest) = piece_of piece (next ∷ rest) ++ piece move

pub joined_collect : {X : Type 0} (piece : Move → List X) (new moved : List Move) → collect piece (new ++ moved) ≡ collect piece moved ++ piece_of piece new
unfolding collect
joined_collect piece [] moved = sym (append-nil (collect piece moved))
joined_collect piece (move ∷ []) moved = refl
joined_collect piece (move ∷ next ∷ rest) moved =
    ap (λ l. l ++ piece move) (joined_collect piece (next ∷ rest) moved) ∙ append_assoc (collect piece moved) (piece_of piece (next ∷ rest)) (piece move)

-- a filter of entries that says, entry by entry, what the moves say
pub collected : {X : Type 0} (setup : Setup) (piece : Move → List X) (said : List Entry → List X) → said [] ≡ []
    → ((entry : Entry) (past : List Entry) → Lawful setup (entry ∷ past) → said (entry ∷ past) ≡ said past ++ piece_of piece (moves_of setup.topology past entry))
    → (past : List Entry) → Lawful setup past → collect piece (moves setup.topology past) ≡ said past
unfolding moves collect
collected setup piece said first more [] lawful = sym first
collected setup piece said first more (entry ∷ past) lawful =
    joined_collect piece (moves_of setup.topology past entry) (moves setup.topology past)
    ∙ ap (λ l. l ++ piece_of piece (moves_of setup.topology past entry)) (collected setup piece said first more past (lawful_past setup entry past lawful))
    ∙ sym (more entry past lawful)

pub append_when : {X : Type 0} (here : Bool) (x : X) (list : List X) → append_if here (x ∷ []) list ≡ list ++ (if here then x ∷ [] else [])
append_when true x list = refl
append_when false x list = sym (append-nil list)

pub quiet : {X : Type 0} (list : List X) → list ≡ list ++ []
quiet list = sym (append-nil list)

-- a move that adds nothing, whichever it is
pub begins_nothing : {X : Type 0} (piece : Move → List X) (topology : Topology) (past : List Entry) (d : ℕ) (waiting : Bool) (n : ℕ) → ((x : Packet) → piece (Goes (hops.Output d) 0 x) ≡ []) → piece_of piece (begins_move topology past d waiting n) ≡ []
begins_nothing piece topology past d false zero none = none _
begins_nothing piece topology past d false (suc n) none = refl
begins_nothing piece topology past d true n none = refl

pub lands_nothing : {X : Type 0} (piece : Move → List X) (topology : Topology) (d : ℕ) (packets : List PacketFields) → ((x : Packet) → piece (Goes (hops.Line d) 0 x) ≡ []) → piece_of piece (lands topology d packets) ≡ []
lands_nothing piece topology d [] none = refl
lands_nothing piece topology d (p ∷ packets) none = none _

-- a landing that ends a gathering adds nothing more, where these moves add nothing
pub record AddsNothing {X : Type 0} (piece : Move → List X) (d onto : ℕ) : Type 0 where
  pub past_output : (n : ℕ) (x : Packet) → piece (Goes (hops.Output onto) n x) ≡ []
  pub buffer : (x : Packet) → piece (Goes (hops.Buffer d) 0 x) ≡ []
  pub line : (x : Packet) → piece (Comes (hops.Line onto) x) ≡ []

before_nothing : {X : Type 0} (piece : Move → List X) (move : Move) (rest : List Move) → piece move ≡ [] → piece_of piece (move ∷ rest) ≡ piece_of piece rest
before_nothing piece move [] none = none
before_nothing piece move (next ∷ rest) none = ap (λ l. piece_of piece (next ∷ rest) ++ l) none ∙ append-nil (piece_of piece (next ∷ rest))

past_nothing : {X : Type 0} (piece : Move → List X) (topology : Topology) (past : List Entry) (d onto : ℕ) (packets : List PacketFields) (rest : List Move) → AddsNothing piece d onto → piece_of piece (goes_past topology past d onto packets ++ rest) ≡ piece_of piece rest
past_nothing piece topology past d onto [] rest none = refl
past_nothing piece topology past d onto (p ∷ packets) rest none =
    before_nothing piece (Goes (hops.Output onto) (length (contents topology past (queues.Output onto))) (seen topology p)) (Goes (hops.Buffer d) 0 (seen topology p) ∷ rest) (none.past_output _ _)
    ∙ before_nothing piece (Goes (hops.Buffer d) 0 (seen topology p)) rest (none.buffer _)

pub forward_nothing : {X : Type 0} (piece : Move → List X) (topology : Topology) (past journal : List Entry) (d : ℕ) (outcome : Outcome) (onto : Option ℕ) (packets : List PacketFields) (rest : List Move) → ((to : ℕ) → onto ≡ Some to → AddsNothing piece d to)
    → piece_of piece (forward_moves topology past journal d outcome onto packets ++ rest) ≡ piece_of piece rest
forward_nothing piece topology past journal d outcome None packets rest none = refl
forward_nothing piece topology past journal d outcomes.Gathered (Some onto) packets rest none = refl
forward_nothing piece topology past journal d outcomes.Accepted (Some onto) packets rest none = past_nothing piece topology past d onto packets rest (none onto refl)
forward_nothing piece topology past journal d outcomes.Quiet (Some onto) packets rest none = before_nothing piece (Comes (hops.Line onto) (seen topology (last_packet (begun_on topology onto journal)))) rest ((none onto refl).line _)
forward_nothing piece topology past journal d outcomes.Trained (Some onto) packets rest none = before_nothing piece (Comes (hops.Line onto) (seen topology (last_packet (begun_on topology onto journal)))) rest ((none onto refl).line _)
forward_nothing piece topology past journal d outcomes.Poisoned (Some onto) packets rest none = before_nothing piece (Comes (hops.Line onto) (seen topology (last_packet (begun_on topology onto journal)))) rest ((none onto refl).line _)
forward_nothing piece topology past journal d outcomes.Repeat (Some onto) packets rest none = before_nothing piece (Comes (hops.Line onto) (seen topology (last_packet (begun_on topology onto journal)))) rest ((none onto refl).line _)
forward_nothing piece topology past journal d (outcomes.AbortedBad bad) (Some onto) packets rest none = before_nothing piece (Comes (hops.Line onto) (seen topology (last_packet (begun_on topology onto journal)))) rest ((none onto refl).line _)
forward_nothing piece topology past journal d outcomes.AbortedOrder (Some onto) packets rest none = before_nothing piece (Comes (hops.Line onto) (seen topology (last_packet (begun_on topology onto journal)))) rest ((none onto refl).line _)
forward_nothing piece topology past journal d (outcomes.Ran kind) (Some onto) packets rest none = before_nothing piece (Comes (hops.Line onto) (seen topology (last_packet (begun_on topology onto journal)))) rest ((none onto refl).line _)

-- so a landing adds nothing where a packet that leaves the line adds nothing
pub landing_nothing : {X : Type 0} (piece : Move → List X) (topology : Topology) (past journal : List Entry) (d : ℕ) (outcome : Outcome) (onto : Option ℕ) (packets : List PacketFields) → ((to : ℕ) → onto ≡ Some to → AddsNothing piece d to) → ((x : Packet) → piece (Goes (hops.Line d) 0 x) ≡ [])
    → piece_of piece (forward_moves topology past journal d outcome onto packets ++ lands topology d packets) ≡ []
landing_nothing piece topology past journal d outcome onto packets none line =
    forward_nothing piece topology past journal d outcome onto packets (lands topology d packets) none ∙ lands_nothing piece topology d packets line

pub unlocks_nothing : {X : Type 0} (piece : Move → List X) (topology : Topology) (journal : List Entry) (onto : Option ℕ) → ((to : ℕ) (x : Packet) → piece (Comes (hops.Line to) x) ≡ []) → piece_of piece (unlocks topology journal onto) ≡ []
unlocks_nothing piece topology journal None none = refl
unlocks_nothing piece topology journal (Some onto) none = none onto _

pub comes_nothing : {X : Type 0} (piece : Move → List X) (topology : Topology) (found : Option ℕ) (packet : PacketFields) → ((d : ℕ) (x : Packet) → piece (Comes (hops.Output d) x) ≡ []) → piece_of piece (comes_from topology found packet) ≡ []
comes_nothing piece topology None packet none = refl
comes_nothing piece topology (Some d) packet none = none d _

-- ---- given

given_tag : (awaited : Bool) (free tag : Option ℕ) (posted : Bool) → IsTagged awaited free tag → awaited ≡ not posted → tag_of posted (tag_number tag) ≡ tag
given_tag true free tag true is same = absurd (cc)
given_tag true free tag false is same = ap (λ (o : Option ℕ). tag_of false (tag_number o)) is.2 ∙ sym is.2
given_tag false free tag true is same = sym is
given_tag false free tag false is same = absurd (cc)

asked_one : Option ℕ → RequestFields → List TaggedRequest
asked_one tag request = record { tag = tag; request = request } ∷ []

given_value : (host_same unit_same poisoned posted : Bool) (free tag : Option ℕ) (request : RequestFields) → IsTagged (not poisoned && not posted) free tag
    → (if host_same && (not poisoned && unit_same) then record { tag = tag_of posted (tag_number tag); request = request } ∷ [] else []) ≡ (if host_same && (not poisoned && unit_same) then asked_one tag request else [])
unfolding asked_one
given_value false unit_same poisoned posted free tag request is = refl
given_value true unit_same true posted free tag request is = refl
given_value true false false posted free tag request is = refl
given_value true true false posted free tag request is = ap (λ (o : Option ℕ). record { tag = o; request = request } ∷ []) (given_tag (not posted) free tag posted is refl)

gave_said : (setup : Setup) (past : List Entry) (host : ℕ) (unit : RequestUnit) (giver : ℕ) (tag : Option ℕ) (poisoned : Bool) (request : RequestFields) → IsNetwork setup → HasGiven setup past giver tag poisoned request
    → (pick (requests_to host (unit_cube unit) (spot_of unit)) (seen setup.topology (request_packet request (tag_number tag) giver poisoned) ∷ []))
    ≡ (if (giver == host) && (not poisoned && same_unit (unit_in setup.topology request) unit) then record { tag = tag; request = request } ∷ [] else [])
unfolding tagged_requests request_packet host_of asked_one
gave_said setup past host unit giver tag poisoned request network has =
    let packet = request_packet request (tag_number tag) giver poisoned in
    let own = own_item setup past giver has.item network has.is_next in
    let is : IsRequest request = subst IsRequest (sym has.is_request) own.1.request in
    let tagged : IsTagged (not poisoned && not (is_posted request.command)) (lowest_free (host_of setup past giver).tags) tag =
    subst (λ (b : Bool). IsTagged b (lowest_free (host_of setup past giver).tags) tag) (sym (ap₂ (λ (p : Bool) (r : RequestFields). not p && not (is_posted r.command)) has.is_poisoned has.is_request)) has.is_tagged in
    requests_seen setup.topology host unit (packet ∷ [])
    ∙ ap (λ (o : Option RequestFields). tagged_request setup.topology host unit packet o ++ []) (request_in-request_packet request (tag_number tag) giver poisoned is)
    ∙ append-nil (tagged_request setup.topology host unit packet (Some request))
    ∙ given_value (giver == host) (same_unit (unit_in setup.topology request) unit) poisoned (is_posted request.command) (lowest_free (host_of setup past giver).tags) tag request tagged

given_more : (setup : Setup) (host : ℕ) (unit : RequestUnit) → IsNetwork setup → (entry : Entry) (past : List Entry) → Lawful setup (entry ∷ past)
    → given_to setup.topology host unit (entry ∷ past) ≡ given_to setup.topology host unit past ++ (piece_of (λ move. pick (requests_to host (unit_cube unit) (spot_of unit)) (given_packets move)) (moves_of setup.topology past entry))
unfolding given_to moves_of pick
given_more setup host unit network (Gave giver tag poisoned request) past lawful =
    let t = setup.topology in
    let right = entry_rule setup (Gave giver tag poisoned request) past lawful in
    let packet = request_packet request (tag_number tag) giver poisoned in
    let to = has_direction t (view_of setup past) (places.Host giver) right.room in
    let piece = λ (move : Move). pick (requests_to host (unit_cube unit) (spot_of unit)) (given_packets move) in
    append_when ((giver == host) && (not poisoned && same_unit (unit_in t request) unit)) (record { tag = tag; request = request }) (given_to t host unit past)
    ∙ ap (λ l. given_to t host unit past ++ l) (sym (ap (λ (o : Option ℕ). piece_of piece (comes_from t o packet)) to.1 ∙ gave_said setup past host unit giver tag poisoned request network right))
given_more setup host unit network (Sent d what.New flit) past lawful =
    quiet (given_to setup.topology host unit past)
    ∙ ap (λ l. given_to setup.topology host unit past ++ l) (sym (begins_nothing (λ move. pick (requests_to host (unit_cube unit) (spot_of unit)) (given_packets move)) setup.topology past d (awaits_first d past) (unsent d past) (λ x. refl)))
given_more setup host unit network (Landed d flit outcome) past lawful =
    quiet (given_to setup.topology host unit past)
    ∙ ap (λ l. given_to setup.topology host unit past ++ l) (sym (landing_nothing (λ move. pick (requests_to host (unit_cube unit) (spot_of unit)) (given_packets move)) setup.topology past (Landed d flit outcome ∷ past) d outcome (forwarded_onto setup.topology d past) (landed_packets setup.topology d flit outcome past) (λ to is. record { past_output = λ n x. refl; buffer = λ x. refl; line = λ x. refl }) (λ x. refl)))
given_more setup host unit network (Unlocked d) past lawful =
    quiet (given_to setup.topology host unit past)
    ∙ ap (λ l. given_to setup.topology host unit past ++ l) (sym (unlocks_nothing (λ move. pick (requests_to host (unit_cube unit) (spot_of unit)) (given_packets move)) setup.topology (Unlocked d ∷ past) (onto_there setup.topology d past) (λ to x. refl)))
given_more setup host unit network (Sent d what.Tret flit) past lawful = quiet (given_to setup.topology host unit past)
given_more setup host unit network _ past lawful = quiet (given_to setup.topology host unit past)

-- the requests that a host gave to a unit
pub given_are : (setup : Setup) (host : ℕ) (unit : RequestUnit) (past : List Entry) → IsNetwork setup → Lawful setup past → (hop_given_to host (unit_cube unit) (spot_of unit) (moves setup.topology past)) ≡ given_to setup.topology host unit past
unfolding given_to
given_are setup host unit past network lawful =
    collected setup (λ move. pick (requests_to host (unit_cube unit) (spot_of unit)) (given_packets move)) (given_to setup.topology host unit) refl (given_more setup host unit network) past lawful
