-- Where a journal is drained its moves are: the queues of the moves are empty, and their lines have
-- at most TRETs.
use Rattle.std.proofs.Common.{◌≡◌, ◌≤◌, ◌<◌, ◌/◌, ◌∙◌, ℕ, zero, suc, Bool, true, false, if◌then◌else◌, Option, Some, None, List, [], ◌∷◌, ◌++◌, map, filter, refl, sym, ap, ap₂, subst, arith, nat_lt, nat_le, leb-true, leb-false, ne_eqb}
use Rattle.hmc_codes.specs.declared.place.Place.TheVariants as places
use Rattle.hmc_packet.specs.Packet.{PacketFields}
use Rattle.hmc_packet.specs.Transactions.{request_packet}
use Rattle.hmc_packet.specs.declared.outcome.Outcome.{Outcome}
use Rattle.hmc_packet.specs.declared.outcome.Outcome.TheVariants as outcomes
use Rattle.hmc_packet.specs.declared.what.What.TheVariants as what
use Rattle.hmc_send.specs.Places.{is_token}
use Rattle.hmc_hops.specs.Packets.{Packet, Kind, Spot, reply_to, is_token as is_hop_token, Kind as kinds, Spot as spots}
use Rattle.hmc_hops.specs.Map.{Map, End, goal_of, End as ends}
use Rattle.hmc_hops.specs.Queues.{QueueId as HopQueue, is_at, next_queue, first_queue, at_cube, after_line, after_buffer, after_answers, unless_poisoned, QueueId as hops}
use Rattle.hmc_hops.specs.Moves.{Move, enters, remaining, without, without_if, packet_if, answer_queue, contents as hop_contents}
use Rattle.hmc_hops.specs.Moves.Move.{Rests, Comes, Goes, Executes}
use Rattle.hmc_hops.specs.Delivered.{IsNoLine, NoTokens, IsDrained as MovesDrained}
use Rattle.hmc_journal.specs.Piped.{forwarded_onto}
use Rattle.hmc_journal.specs.Counts.{token_counts}
use Rattle.hmc_entries.specs.declared.entry.Entry.{Entry}
use Rattle.hmc_entries.specs.declared.entry.Entry.TheVariants.{Gave, Sent, Landed, Shifted, Dropped, Spread, Executed, Lifted, Took, Discarded, Unlocked}
use Rattle.hmc_journal.specs.Directions.{unsent, awaits_first, landed_packets}
use Rattle.hmc_journal.specs.Drained.{IsDrained}
use Rattle.hmc_journal.specs.Lawful.{Lawful}
use Rattle.hmc_journal.specs.Network.{IsNetwork}
use Rattle.hmc_journal.specs.Queues.{QueueId, landing_buffer, tag_number, QueueId as queues}
use Rattle.hmc_journal.specs.Setup.{Topology, Setup, directions_in, end_of, direction_from}
use Rattle.hmc_delivery.proofs.Agreeing.{IsReal, Agrees}
use Rattle.hmc_delivery.proofs.Awaited.{routes_of, maps_routes}
use Rattle.hmc_laws.proofs.Entering.{Kept, landed-real}
use Rattle.hmc_journal.proofs.EntryRule.{EntryRule, entry_rule, lawful_past}
use Rattle.hmc_delivery.proofs.Hopped.{agrees}
use Rattle.hmc_delivery.proofs.LineMoves.{buffer_hop, buffer_real, token_seen}
use Rattle.hmc_delivery.proofs.Seen.{seen, hop_queue, comes_from, begins_move, lands, forward_moves, if_there, unlocks, moves_of, moves}
use Rattle.hmc_laws.proofs.Sound.{kept}
use Rattle.hmc_delivery.proofs.Transit.{none_in_transit}
use Rattle.hmc_delivery.proofs.Underway.{line_on}
use Rattle.hmc_laws.proofs.Wired.{wired}

-- ---- the buffer of a direction that isn't there holds nothing

-- no move enters it: only landings enter buffers, and these are on directions that are there
abbrev IsNear : (directions : ℕ) → Move → Type 0
IsNear n (Goes (hops.Line e) k x) = e < n
IsNear n (Comes (hops.Buffer e) x) = ⊥
IsNear n _ = Unit {0}

abbrev AreNear : (directions : ℕ) → List Move → Type 0
AreNear n [] = Unit {0}
AreNear n (move ∷ rest) = IsNear n move × AreNear n rest

near-append : (n : ℕ) (new more : List Move) → AreNear n new → AreNear n more → AreNear n (new ++ more)
near-append n [] more near rest = rest
near-append n (move ∷ new) more near rest = (near.0, near-append n new more near.1 rest)

no_reply_there : (kind : Kind) (c : ℕ) (s : Spot) (d : ℕ) → is_at (answer_queue kind c s) (hops.Buffer d) ≡ false
no_reply_there kinds.Asks c s d = refl
no_reply_there kinds.Posts c s d = refl
no_reply_there kinds.Replies c s d = refl
no_reply_there kinds.Returns c s d = refl

not_landed : (token : Bool) (e d : ℕ) → (e ≡ d → ⊥) → is_at (after_line token e) (hops.Buffer d) ≡ false
not_landed true e d apart = ne_eqb e d apart
not_landed false e d apart = refl

not_first : (c : ℕ) (s : Spot) (d : ℕ) → is_at (Some (first_queue c s)) (hops.Buffer d) ≡ false
not_first c spots.Registers d = refl
not_first c (spots.Bank v b) d = refl

not_at_cube : (o : Option ℕ) (c : ℕ) (s : Spot) (d : ℕ) → is_at (at_cube o (first_queue c s)) (hops.Buffer d) ≡ false
not_at_cube None c s d = not_first c s d
not_at_cube (Some e) c s d = refl

not_onwards : (m : Map) (poisoned : Bool) (end : End) (x : Packet) (d : ℕ) → is_at (unless_poisoned poisoned (after_buffer m end x)) (hops.Buffer d) ≡ false
not_onwards m true end x d = refl
not_onwards m false (ends.Host h) x d = refl
not_onwards m false (ends.Cube c) x d = not_at_cube (m.next (goal_of x) c) c x.spot d

not_answered : (o : Option ℕ) (d : ℕ) → is_at (after_answers o) (hops.Buffer d) ≡ false
not_answered None d = refl
not_answered (Some e) d = refl

goes_not : (m : Map) (from : HopQueue) (k : ℕ) (x : Packet) (n d : ℕ) → n ≤ d → IsNear n (Goes from k x) → is_at (next_queue m from x) (hops.Buffer d) ≡ false
goes_not m (hops.Output e) k x n d far near = refl
goes_not m (hops.Line e) k x n d far near = not_landed (is_hop_token x.kind) e d (λ same. omega arith)
goes_not m (hops.Buffer e) k x n d far near = not_onwards m x.poisoned (m.end_of e) x d
goes_not m (hops.Vault c v) k x n d far near = refl
goes_not m (hops.UnitQueue c s) k x n d far near = refl
goes_not m (hops.Answers c from) k x n d far near = not_answered _ d

comes_not : (m : Map) (into : HopQueue) (x : Packet) (n d : ℕ) → IsNear n (Comes into x) → enters m (Comes into x) (hops.Buffer d) ≡ []
comes_not m (hops.Output e) x n d near = refl
comes_not m (hops.Line e) x n d near = refl
comes_not m (hops.Buffer e) x n d near = absurd near
comes_not m (hops.Vault c v) x n d near = refl
comes_not m (hops.UnitQueue c s) x n d near = refl
comes_not m (hops.Answers c from) x n d near = refl

enters_not : (m : Map) (move : Move) (n d : ℕ) → n ≤ d → IsNear n move → enters m move (hops.Buffer d) ≡ []
enters_not m Rests n d far near = refl
enters_not m (Comes into x) n d far near = comes_not m into x n d near
enters_not m (Goes from k x) n d far near = ap (λ (b : Bool). packet_if b x) (goes_not m from k x n d far near)
enters_not m (Executes c s k x answer) n d far near = ap (λ (b : Bool). packet_if b (reply_to x answer)) (no_reply_there x.kind c s d)

without_none : (here : Bool) (k : ℕ) → without_if here k [] ≡ []
unfolding without
without_none true k = refl
without_none false k = refl

leaves_none : (move : Move) (queue : HopQueue) → remaining move queue [] ≡ []
leaves_none Rests queue = refl
leaves_none (Comes into x) queue = refl
leaves_none (Goes from k x) queue = without_none _ k
leaves_none (Executes c s k x answer) queue = without_none _ k

joined_none : (m : Map) (n d : ℕ) (new moved : List Move) → n ≤ d → AreNear n new → hop_contents m moved (hops.Buffer d) ≡ [] → hop_contents m (new ++ moved) (hops.Buffer d) ≡ []
unfolding hop_contents
joined_none m n d [] moved far near none = none
joined_none m n d (move ∷ rest) moved far near none =
    ap₂ (λ (a b : List Packet). a ++ b) (ap (remaining move (hops.Buffer d)) (joined_none m n d rest moved far near.1 none) ∙ leaves_none move (hops.Buffer d)) (enters_not m move n d far near.0)

near_begins : (topology : Topology) (past : List Entry) (d : ℕ) (waiting : Bool) (u n : ℕ) → AreNear n (begins_move topology past d waiting u)
near_begins topology past d false zero n = (tt, tt)
near_begins topology past d false (suc u) n = tt
near_begins topology past d true u n = tt

near_lands : (topology : Topology) (d n : ℕ) (packets : List PacketFields) → d < n → AreNear n (lands topology d packets)
near_lands topology d n [] less = tt
near_lands topology d n (p ∷ packets) less = (less, tt)

near_comes : (topology : Topology) (found : Option ℕ) (packet : PacketFields) (n : ℕ) → AreNear n (comes_from topology found packet)
near_comes topology None packet n = tt
near_comes topology (Some d) packet n = (tt, tt)

near_forward : (topology : Topology) (past journal : List Entry) (d n : ℕ) (outcome : Outcome) (onto : Option ℕ) (packets : List PacketFields) → AreNear n (forward_moves topology past journal d outcome onto packets)
near_forward topology past journal d n outcome None packets = tt
near_forward topology past journal d n outcomes.Gathered (Some onto) packets = tt
near_forward topology past journal d n outcomes.Accepted (Some onto) [] = tt
near_forward topology past journal d n outcomes.Accepted (Some onto) (p ∷ packets) = (tt, (tt, tt))
near_forward topology past journal d n outcomes.Quiet (Some onto) packets = (tt, tt)
near_forward topology past journal d n outcomes.Trained (Some onto) packets = (tt, tt)
near_forward topology past journal d n outcomes.Poisoned (Some onto) packets = (tt, tt)
near_forward topology past journal d n outcomes.Repeat (Some onto) packets = (tt, tt)
near_forward topology past journal d n (outcomes.AbortedBad bad) (Some onto) packets = (tt, tt)
near_forward topology past journal d n outcomes.AbortedOrder (Some onto) packets = (tt, tt)
near_forward topology past journal d n (outcomes.Ran kind) (Some onto) packets = (tt, tt)

near_unlocks : (topology : Topology) (journal : List Entry) (n : ℕ) (onto : Option ℕ) → AreNear n (unlocks topology journal onto)
near_unlocks topology journal n None = tt
near_unlocks topology journal n (Some onto) = (tt, tt)

near_one : (setup : Setup) (past : List Entry) (entry : Entry) → EntryRule setup past entry → Kept setup past → AreNear (directions_in setup.topology) (moves_of setup.topology past entry)
unfolding moves_of
near_one setup past (Gave host tag poisoned request) right keeps = near_comes setup.topology (direction_from setup.topology (places.Host host)) (request_packet request (tag_number tag) host poisoned) (directions_in setup.topology)
near_one setup past (Sent d what.New flit) right keeps = near_begins setup.topology past d (awaits_first d past) (unsent d past) (directions_in setup.topology)
near_one setup past (Sent d what.Tret flit) right keeps = (tt, tt)
near_one setup past (Landed d flit outcome) right keeps =
    let landed = landed_packets setup.topology d flit outcome past in
    near-append (directions_in setup.topology) (forward_moves setup.topology past (Landed d flit outcome ∷ past) d outcome (forwarded_onto setup.topology d past) landed) (lands setup.topology d landed)
    (near_forward setup.topology past (Landed d flit outcome ∷ past) d (directions_in setup.topology) outcome (forwarded_onto setup.topology d past) landed)
    (near_lands setup.topology d (directions_in setup.topology) landed (landed-real setup past d flit outcome right keeps))
near_one setup past (Unlocked d) right keeps =
    near_unlocks setup.topology (Unlocked d ∷ past) (directions_in setup.topology) (if_there (nat_lt d (directions_in setup.topology)) (forwarded_onto setup.topology d past))
near_one setup past (Shifted cube port goal) right keeps = (tt, tt)
near_one setup past (Dropped cube port) right keeps = (tt, tt)
near_one setup past (Spread cube vault bank) right keeps = (tt, tt)
near_one setup past (Executed unit host tag request answer) right keeps = (tt, tt)
near_one setup past (Lifted cube from port) right keeps = (tt, tt)
near_one setup past (Took host tag answer) right keeps = (tt, tt)
near_one setup past (Discarded host) right keeps = (tt, tt)
near_one setup past _ right keeps = tt

far_buffer : (setup : Setup) (m : Map) (past : List Entry) (d : ℕ) → IsNetwork setup → Lawful setup past → directions_in setup.topology ≤ d → hop_contents m (moves setup.topology past) (hops.Buffer d) ≡ []
unfolding moves hop_contents
far_buffer setup m [] d network lawful far = refl
far_buffer setup m (entry ∷ past) d network lawful far =
    let before = lawful_past setup entry past lawful in
    joined_none m (directions_in setup.topology) d (moves_of setup.topology past entry) (moves setup.topology past) far
    (near_one setup past entry (entry_rule setup entry past lawful) (kept setup past network before)) (far_buffer setup m past d network before far)

-- ---- each queue of the moves

empty_queue : (setup : Setup) (past : List Entry) (queue : QueueId) → IsNetwork setup → Lawful setup past → IsDrained setup.topology past → IsReal setup.topology queue → hop_contents (routes_of setup) (moves setup.topology past) (hop_queue setup.topology queue) ≡ []
empty_queue setup past queue network lawful drained real =
    sym ((agrees setup (routes_of setup) past network (maps_routes setup network) lawful).queues queue real) ∙ ap (map (seen setup.topology)) (drained.queues queue)

empty_buffer : (setup : Setup) (past : List Entry) (d : ℕ) (far : Bool) → nat_le (directions_in setup.topology) d ≡ far → IsNetwork setup → Lawful setup past → IsDrained setup.topology past → hop_contents (routes_of setup) (moves setup.topology past) (hops.Buffer d) ≡ []
empty_buffer setup past d true is network lawful drained = far_buffer setup (routes_of setup) past d network lawful (leb-true (directions_in setup.topology) d is)
empty_buffer setup past d false is network lawful drained =
    let t = setup.topology in
    let less = leb-false (directions_in t) d is in
    ap (hop_contents (routes_of setup) (moves t past)) (sym (buffer_hop t d (wired setup network) less)) ∙ empty_queue setup past (landing_buffer t d) network lawful drained (buffer_real t (end_of t d) d less refl)

empty_hop : (setup : Setup) (past : List Entry) (queue : HopQueue) → IsNetwork setup → Lawful setup past → IsDrained setup.topology past → IsNoLine queue → hop_contents (routes_of setup) (moves setup.topology past) queue ≡ []
empty_hop setup past (hops.Output d) network lawful drained no_line = empty_queue setup past (queues.Output d) network lawful drained tt
empty_hop setup past (hops.Line d) network lawful drained no_line = absurd no_line
empty_hop setup past (hops.Buffer d) network lawful drained no_line = empty_buffer setup past d (nat_le (directions_in setup.topology) d) refl network lawful drained
empty_hop setup past (hops.Vault c v) network lawful drained no_line = empty_queue setup past (queues.Vault c v) network lawful drained tt
empty_hop setup past (hops.UnitQueue c (spots.Bank v b)) network lawful drained no_line = empty_queue setup past (queues.Bank c v b) network lawful drained tt
empty_hop setup past (hops.UnitQueue c spots.Registers) network lawful drained no_line = empty_queue setup past (queues.Registers c) network lawful drained tt
empty_hop setup past (hops.Answers c from) network lawful drained no_line = empty_queue setup past (queues.Answers c from) network lawful drained tt

-- ---- lines

no_tokens : (topology : Topology) (packets : List PacketFields) → filter is_token packets ≡ [] → NoTokens (map (seen topology) packets)
no_tokens topology [] none = tt
no_tokens topology (packet ∷ packets) none = by (is_token packet) refl none (no_tokens topology packets)
  where
    by : (token : Bool) → is_token packet ≡ token → (if token then packet ∷ filter is_token packets else filter is_token packets) ≡ [] → (filter is_token packets ≡ [] → NoTokens (map (seen topology) packets)) → NoTokens (map (seen topology) (packet ∷ packets))
    by true is some later = absurd (cc)
    by false is rest later = (token_seen topology packet ∙ is, later rest)

line_none : (setup : Setup) (past : List Entry) (d : ℕ) → Kept setup past → (token_counts setup.topology past d).transit ≡ 0 → filter is_token (line_on setup.topology d past) ≡ []
unfolding token_counts
line_none setup past d keeps transit = none_in_transit setup.topology d past (keeps.links (d / 2)) transit

pub moves_drained : (setup : Setup) (past : List Entry) → IsNetwork setup → Lawful setup past → IsDrained setup.topology past → MovesDrained (routes_of setup) (moves setup.topology past)
moves_drained setup past network lawful drained = record {
  queues = λ queue no_line. empty_hop setup past queue network lawful drained no_line;
  lines = λ d.
      let agreed : Agrees setup.topology (routes_of setup) past (moves setup.topology past) = agrees setup (routes_of setup) past network (maps_routes setup network) lawful in
      subst NoTokens (agreed.lines d) (no_tokens setup.topology (line_on setup.topology d past) (line_none setup past d (kept setup past network lawful) (drained.transit d)));
}
