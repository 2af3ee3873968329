-- Each move of a lawful journal may come after those before it.
use Rattle.std.proofs.Common.{◌≡◌, ◌<◌, ◌∙◌, ◌/◌, ◌==◌, ◌&&◌, ℕ, zero, suc, Bool, true, false, not, Option, Some, None, List, [], ◌∷◌, ◌++◌, map, length, slice_get, refl, sym, ap, subst, append_assoc, eqb-true, nat_lt, lt-ltb, ltb-true}
use Rattle.std.specs.Prelude.{is_none}
use Rattle.std.proofs.lemmas.List.{length-map}
use Rattle.hmc_codes.specs.Commands.{family_of, is_posted}
use Rattle.hmc_codes.specs.Request.{RequestFields}
use Rattle.hmc_codes.specs.Table.{table_line}
use Rattle.hmc_codes.specs.declared.family.Family.{Family}
use Rattle.hmc_codes.specs.declared.family.Family.TheVariants as families
use Rattle.hmc_codes.specs.declared.place.Place.{Place}
use Rattle.hmc_codes.specs.declared.place.Place.TheVariants as places
use Rattle.hmc_codes.specs.declared.unit.Unit.{Unit as RequestUnit}
use Rattle.hmc_packet.specs.Packet.{PacketFields}
use Rattle.hmc_packet.specs.Transactions.{request_packet}
use Rattle.hmc_packet.specs.declared.feed.Feed.TheVariants.{Waiting}
use Rattle.hmc_packet.specs.declared.outcome.Outcome.{Outcome}
use Rattle.hmc_packet.specs.declared.outcome.Outcome.TheVariants as outcomes
use Rattle.hmc_packet.specs.declared.what.What.TheVariants as what
use Rattle.hmc_send.specs.Choice.{view_after, may_begin, is_free}
use Rattle.hmc_send.specs.LinkCalls.{view_in, may_pass_on}
use Rattle.hmc_send.specs.LinkSenders.{given_after, queue_in}
use Rattle.hmc_send.specs.Places.{tret_packet}
use Rattle.hmc_hops.specs.Packets.{Packet, is_request, is_live, is_token as is_hop_token}
use Rattle.hmc_hops.specs.CutThrough.{HasFreeWay}
use Rattle.hmc_hops.specs.OnWay.{IsOnRoute, IsOnWay}
use Rattle.hmc_hops.proofs.Forwarding.{is_forwarded}
use Rattle.hmc_hops.proofs.FreeWay.{stays, opens}
use Rattle.hmc_hops.proofs.OnRoute.{mover_on_way}
use Rattle.hmc_hops.specs.Map.{Map, IsMap}
use Rattle.hmc_hops.specs.Queues.{QueueId as HopQueue, QueueId as hops}
use Rattle.hmc_hops.specs.Moves.{Move, May, MayAll, IsPlaced, IsGiven, leaves as hop_leaves, packet_if as hop_if, contents as hop_contents}
use Rattle.hmc_hops.specs.Moves.Move.{Goes}
use Rattle.hmc_entries.specs.declared.entry.Entry.{Entry}
use Rattle.hmc_entries.specs.declared.entry.Entry.TheVariants.{Gave, Sent, Landed, Shifted, Dropped, Spread, Executed, Lifted, Took, Discarded, Through, Unlocked, Retired, Passed, Idle}
use Rattle.hmc_journal.specs.Carried.{begun_on}
use Rattle.hmc_journal.specs.Choice.{choose}
use Rattle.hmc_journal.specs.Links.{toward, sizes_on, entries_on}
use Rattle.hmc_journal.specs.Piped.{lands_at, while_gathered, forwarded_onto}
use Rattle.hmc_journal.specs.Directions.{unsent, awaits_first, landed_packets}
use Rattle.hmc_journal.specs.Lawful.{Lawful}
use Rattle.hmc_journal.specs.Network.{IsNetwork}
use Rattle.hmc_journal.specs.Queues.{QueueId, begins, contents, front_of, queue_of, tag_number, buffer_at, landing_buffer, QueueId as queues}
use Rattle.hmc_journal.specs.Setup.{Topology, Setup, cubes_in, hosts_in, directions_in, end_of, direction_from, unit_cube}
use Rattle.hmc_journal.specs.StepView.{view_of}
use Rattle.hmc_journal.proofs.EntryRule.{EntryRule, HasFront, HasThrough, entry_rule, lawful_past}
use Rattle.hmc_journal.proofs.Moves.{HasLeaving, front_is}
use Rattle.hmc_laws.proofs.Standing.{IsAsking, IsCounted, IsCounted-moving}
use Rattle.hmc_laws.proofs.Entering.{Kept, front_stands, has_direction, given_asks, landed-real}
use Rattle.hmc_laws.proofs.PipeSteps.{IsNoPipe}
use Rattle.hmc_laws.proofs.Sound.{kept}
use Rattle.hmc_laws.proofs.SoundSends.{has_begun, output_is}
use Rattle.hmc_delivery.proofs.Underway.{line_on, underway-landed}
use Rattle.hmc_laws.proofs.Wired.{Wired, wired}
use Rattle.hmc_delivery.proofs.Seen.{seen, kind_by, spot_of, hop_queue, front_goes, comes_from, begins_move, lands, goes_past, last_packet, copy_comes, forward_moves, if_there, unlocks, moves_of, moves}
use Rattle.hmc_delivery.proofs.Agreeing.{IsMapOf, IsReal, Agrees, not_line}
use Rattle.hmc_delivery.proofs.Forwarded.{ForwardedPacket, forwarded_packet, forwarded_next, come_head}
use Rattle.hmc_delivery.proofs.LineMoves.{buffer_hop, buffer_real, token_seen}
use Rattle.hmc_delivery.proofs.LandingMoves.{Spoils, come_of}
use Rattle.hmc_delivery.proofs.SpoiledCopies.{landing_spoils, unlock_spoils, known_here}
use Rattle.hmc_delivery.proofs.Hopped.{unit_hop, unit_real, at_end, agrees}
use Rattle.hmc_laws.proofs.ForwardingLandings.{forwarded_landed, still_gathered}
use Rattle.hmc_laws.proofs.ForwardingUnlocks.{forwarded_unlocked}
use Rattle.hmc_laws.proofs.ForwardingThroughs.{forwarded_through}
use Rattle.hmc_laws.proofs.ForwardingQuiet.{forwarded_same}
use Rattle.hmc_journal.proofs.Packets.{nothing-front}
use Rattle.hmc_routes.proofs.Joined.{same_place-true}

-- ---- a front has the first place

placed_first : (x y : Packet) (ys list : List Packet) → list ≡ y ∷ ys → y ≡ x → IsPlaced 0 x list
placed_first x y ys list is same = subst (IsPlaced 0 x) (sym is) same

front_placed : (setup : Setup) (m : Map) (past : List Entry) (moved : List Move) (p : QueueId) → Agrees setup.topology m past moved → IsReal setup.topology p → (at : HasFront setup past p)
    → IsPlaced 0 (seen setup.topology (front_of (contents setup.topology past p))) (hop_contents m moved (hop_queue setup.topology p))
front_placed setup m past moved p agrees real at =
    let t = setup.topology in
    placed_first (seen t (front_of (contents t past p))) (seen t at.front) (map (seen t) at.rest) (hop_contents m moved (hop_queue t p)) (sym (agrees.queues p real) ∙ ap (map (seen t)) at.is) (ap (seen t) (sym (front_is setup past p at)))

-- ---- each entry

abbrev MayOf : Map → List Move → List Move → Type 0
MayOf m moved [] = Unit {0}
MayOf m moved (move ∷ []) = May m moved move
MayOf m moved (move ∷ next ∷ rest) = May m ((next ∷ rest) ++ moved) move × MayOf m moved (next ∷ rest)

given_kind : (posted : Bool) → is_request (kind_by families.Ask posted) ≡ true
given_kind true = refl
given_kind false = refl

given_from : (setup : Setup) (m : Map) (past : List Entry) (host : ℕ) (tag : Option ℕ) (poisoned : Bool) (request : RequestFields) (d : ℕ) → IsMapOf setup.topology m → IsAsking setup.topology (request_packet request (tag_number tag) host poisoned)
    → direction_from setup.topology (places.Host host) ≡ Some d → IsGiven m d (seen setup.topology (request_packet request (tag_number tag) host poisoned))
unfolding seen
given_from setup m past host tag poisoned request d map_of asking starts =
    let t = setup.topology in
    let packet = request_packet request (tag_number tag) host poisoned in
    let own : packet.slid ≡ host = (unfold request_packet in refl) in record {
      direction = sym (ap m.from_host own ∙ map_of.from_host host d starts);
      request = ap (λ (f : Family). is_request (kind_by f (is_posted packet.command))) asking.asks ∙ given_kind (is_posted packet.command);
      host = map_of.goal_host packet.slid ∙ lt-ltb packet.slid (hosts_in t) asking.slid;
      cube = map_of.goal_cube packet.cube ∙ lt-ltb packet.cube (cubes_in t) asking.cube;
    }

tret_rests : (topology : Topology) → is_live (seen topology tret_packet) ≡ false
unfolding seen table_line
tret_rests topology = refl

begins_may : (setup : Setup) (m : Map) (past : List Entry) (moved : List Move) (d : ℕ) (waiting : Bool) (n : ℕ) → Agrees setup.topology m past moved → HasLeaving setup past (begins waiting n d) → MayOf m moved (begins_move setup.topology past d waiting n)
begins_may setup m past moved d false zero agreed at = (tt, front_placed setup m past moved (queues.Output d) agreed tt at)
begins_may setup m past moved d false (suc n) agreed at = tt
begins_may setup m past moved d true n agreed at = tt

line_placed : (setup : Setup) (m : Map) (past : List Entry) (moved : List Move) (d : ℕ) (flit : List ℕ) (outcome : Outcome) (p : PacketFields) (rest : List PacketFields) → Wired setup.topology → Kept setup past → Agrees setup.topology m past moved → Kept setup (Landed d flit outcome ∷ past)
    → EntryRule setup past (Landed d flit outcome) → landed_packets setup.topology d flit outcome past ≡ p ∷ rest → IsPlaced 0 (seen setup.topology p) (hop_contents m moved (hops.Line d))
line_placed setup m past moved d flit outcome p rest wires keeps agreed now right is =
    let t = setup.topology in
    let under = underway-landed t d flit outcome past (now.links (d / 2)) (known_here setup past d flit outcome wires keeps right) ∙ ap (λ l. l ++ line_on t d (Landed d flit outcome ∷ past)) is in
    placed_first (seen t p) (seen t p) (map (seen t) (rest ++ line_on t d (Landed d flit outcome ∷ past))) (hop_contents m moved (hops.Line d)) (sym (agreed.lines d) ∙ ap (map (seen t)) under) refl

lands_may : (setup : Setup) (m : Map) (past : List Entry) (moved : List Move) (d : ℕ) (flit : List ℕ) (outcome : Outcome) (landed : List PacketFields) → Wired setup.topology → Kept setup past → Agrees setup.topology m past moved → Kept setup (Landed d flit outcome ∷ past)
    → EntryRule setup past (Landed d flit outcome) → landed_packets setup.topology d flit outcome past ≡ landed → MayAll m moved → MayAll m (lands setup.topology d landed ++ moved)
unfolding MayAll
lands_may setup m past moved d flit outcome [] wires keeps agreed now right is may = may
lands_may setup m past moved d flit outcome (p ∷ rest) wires keeps agreed now right is may = ((tt, line_placed setup m past moved d flit outcome p rest wires keeps agreed now right is), may)

unit_may : (setup : Setup) (m : Map) (past : List Entry) (moved : List Move) (unit : RequestUnit) → Agrees setup.topology m past moved → HasFront setup past (queue_of unit)
    → IsPlaced 0 (seen setup.topology (front_of (contents setup.topology past (queue_of unit)))) (hop_contents m moved (hops.UnitQueue (unit_cube unit) (spot_of unit)))
unit_may setup m past moved unit agreed at =
    let t = setup.topology in
    subst (λ (q : HopQueue). IsPlaced 0 (seen t (front_of (contents t past (queue_of unit)))) (hop_contents m moved q)) (unit_hop t unit) (front_placed setup m past moved (queue_of unit) agreed (unit_real t unit) at)

-- a landing is more than one where what is forwarded ends
abbrev IsOne : Entry → Type 0
IsOne (Landed d flit outcome) = ⊥
IsOne (Unlocked d) = ⊥
IsOne _ = Unit {0}

may_one : (setup : Setup) (m : Map) (past : List Entry) (moved : List Move) (entry : Entry) → IsNetwork setup → Wired setup.topology → IsMapOf setup.topology m → Kept setup past → Kept setup (entry ∷ past) → Agrees setup.topology m past moved → EntryRule setup past entry → IsOne entry
    → MayOf m moved (moves_of setup.topology past entry)
unfolding moves_of
may_one setup m past moved (Landed d flit outcome) network wires map_of keeps now agreed right one = absurd one
may_one setup m past moved (Unlocked d) network wires map_of keeps now agreed right one = absurd one
may_one setup m past moved (Gave host tag poisoned request) network wires map_of keeps now agreed right one =
    let t = setup.topology in
    let packet = request_packet request (tag_number tag) host poisoned in
    let to = has_direction t (view_of setup past) (places.Host host) right.room in
    subst (λ (o : Option ℕ). MayOf m moved (comes_from t o packet)) (sym to.1) (given_from setup m past host tag poisoned request to.0 map_of (given_asks setup past host tag poisoned request network right keeps) to.1)
may_one setup m past moved (Sent d what.New flit) network wires map_of keeps now agreed right one = begins_may setup m past moved d (awaits_first d past) (unsent d past) agreed (has_begun setup past (Sent d what.New flit) right keeps)
may_one setup m past moved (Sent d what.Tret flit) network wires map_of keeps now agreed right one = tret_rests setup.topology
may_one setup m past moved (Shifted cube port goal) network wires map_of keeps now agreed right one =
    (tt, front_placed setup m past moved (queues.Port cube port) agreed (at_end setup.topology (places.Port cube port) right.at.front (front_stands setup past (queues.Port cube port) keeps right.at)) right.at)
may_one setup m past moved (Dropped cube port) network wires map_of keeps now agreed right one =
    (tt, front_placed setup m past moved (queues.Port cube port) agreed (at_end setup.topology (places.Port cube port) right.at.front (front_stands setup past (queues.Port cube port) keeps right.at)) right.at)
may_one setup m past moved (Spread cube vault bank) network wires map_of keeps now agreed right one = (tt, front_placed setup m past moved (queues.Vault cube vault) agreed tt right.at)
may_one setup m past moved (Executed unit host tag request answer) network wires map_of keeps now agreed right one = unit_may setup m past moved unit agreed right.at
may_one setup m past moved (Lifted cube from port) network wires map_of keeps now agreed right one = (tt, front_placed setup m past moved (queues.Answers cube from) agreed tt right.at)
may_one setup m past moved (Took host tag answer) network wires map_of keeps now agreed right one =
    (tt, front_placed setup m past moved (queues.Host host) agreed (at_end setup.topology (places.Host host) right.at.front (front_stands setup past (queues.Host host) keeps right.at)) right.at)
may_one setup m past moved (Discarded host) network wires map_of keeps now agreed right one =
    (tt, front_placed setup m past moved (queues.Host host) agreed (at_end setup.topology (places.Host host) right.at.front (front_stands setup past (queues.Host host) keeps right.at)) right.at)
may_one setup m past moved _ network wires map_of keeps now agreed right one = tt

may_joined : (m : Map) (moved new : List Move) → MayOf m moved new → MayAll m moved → MayAll m (new ++ moved)
unfolding MayAll
may_joined m moved [] now before = before
may_joined m moved (move ∷ []) now before = (now, before)
may_joined m moved (move ∷ next ∷ rest) now before = (now.0, may_joined m moved (next ∷ rest) now.1 before)

-- ---- the way of a packet that is forwarded is free

-- from the end of a direction onto the one that its packet is forwarded onto
abbrev AreFree : Topology → Map → List Entry → List Move → Type 0
AreFree topology m past moved = (e onto : ℕ) → e < directions_in topology → forwarded_onto topology e past ≡ Some onto → HasFreeWay m moved e onto

-- moves that take nothing off a line
abbrev AreOff : ℕ → List Move → Type 0
AreOff e [] = Unit {0}
AreOff e (move ∷ rest) = (hop_leaves move (hops.Line e) ≡ []) × AreOff e rest

off-append : (e : ℕ) (new more : List Move) → AreOff e new → AreOff e more → AreOff e (new ++ more)
off-append e [] more off rest = rest
off-append e (move ∷ new) more off rest = (off.0, off-append e new more off.1 rest)

stays_all : (m : Map) (e onto : ℕ) (new moved : List Move) → IsMap m → AreOff e new → MayAll m (new ++ moved) → HasFreeWay m moved e onto → HasFreeWay m (new ++ moved) e onto
unfolding MayAll
stays_all m e onto [] moved map off may free = free
stays_all m e onto (move ∷ new) moved map off may free = stays m map e onto move (new ++ moved) may.1 may.0 off.0 (stays_all m e onto new moved map off.1 may.1 free)

front_off : (topology : Topology) (past : List Entry) (q : QueueId) (e : ℕ) → AreOff e (front_goes topology past q)
front_off topology past q e = (ap (λ (b : Bool). hop_if b (seen topology (front_of (contents topology past q)))) (not_line topology q e), tt)

begins_off : (topology : Topology) (past : List Entry) (d : ℕ) (waiting : Bool) (n e : ℕ) → AreOff e (begins_move topology past d waiting n)
begins_off topology past d false zero e = (refl, tt)
begins_off topology past d false (suc n) e = tt
begins_off topology past d true n e = tt

comes_off : (topology : Topology) (found : Option ℕ) (packet : PacketFields) (e : ℕ) → AreOff e (comes_from topology found packet)
comes_off topology None packet e = tt
comes_off topology (Some d) packet e = (refl, tt)

lands_off : (topology : Topology) (d e : ℕ) (packets : List PacketFields) → (d == e) ≡ false → AreOff e (lands topology d packets)
lands_off topology d e [] other = tt
lands_off topology d e (p ∷ packets) other = (ap (λ (b : Bool). hop_if b (seen topology p)) other, tt)

past_off : (topology : Topology) (past : List Entry) (d onto e : ℕ) (packets : List PacketFields) → AreOff e (goes_past topology past d onto packets)
past_off topology past d onto e [] = tt
past_off topology past d onto e (p ∷ packets) = (refl, (refl, tt))

forward_off : (topology : Topology) (past journal : List Entry) (d e : ℕ) (outcome : Outcome) (onto : Option ℕ) (packets : List PacketFields) → AreOff e (forward_moves topology past journal d outcome onto packets)
forward_off topology past journal d e outcome None packets = tt
forward_off topology past journal d e outcomes.Gathered (Some onto) packets = tt
forward_off topology past journal d e outcomes.Accepted (Some onto) packets = past_off topology past d onto e packets
forward_off topology past journal d e outcomes.Quiet (Some onto) packets = (refl, tt)
forward_off topology past journal d e outcomes.Trained (Some onto) packets = (refl, tt)
forward_off topology past journal d e outcomes.Poisoned (Some onto) packets = (refl, tt)
forward_off topology past journal d e outcomes.Repeat (Some onto) packets = (refl, tt)
forward_off topology past journal d e (outcomes.AbortedBad bad) (Some onto) packets = (refl, tt)
forward_off topology past journal d e outcomes.AbortedOrder (Some onto) packets = (refl, tt)
forward_off topology past journal d e (outcomes.Ran kind) (Some onto) packets = (refl, tt)

unlocks_off : (topology : Topology) (journal : List Entry) (onto : Option ℕ) (e : ℕ) → AreOff e (unlocks topology journal onto)
unlocks_off topology journal None e = tt
unlocks_off topology journal (Some onto) e = (refl, tt)

-- of entries that land nothing
one_off : (topology : Topology) (past : List Entry) (entry : Entry) (e : ℕ) → IsOne entry → AreOff e (moves_of topology past entry)
unfolding moves_of
one_off topology past (Landed d flit outcome) e one = absurd one
one_off topology past (Unlocked d) e one = absurd one
one_off topology past (Gave host tag poisoned request) e one = comes_off topology (direction_from topology (places.Host host)) (request_packet request (tag_number tag) host poisoned) e
one_off topology past (Sent d what.New flit) e one = begins_off topology past d (awaits_first d past) (unsent d past) e
one_off topology past (Sent d what.Tret flit) e one = (refl, tt)
one_off topology past (Shifted cube port goal) e one = front_off topology past (queues.Port cube port) e
one_off topology past (Dropped cube port) e one = front_off topology past (queues.Port cube port) e
one_off topology past (Spread cube vault bank) e one = front_off topology past (queues.Vault cube vault) e
one_off topology past (Executed unit host tag request answer) e one = (refl, tt)
one_off topology past (Lifted cube from port) e one = front_off topology past (queues.Answers cube from) e
one_off topology past (Took host tag answer) e one = front_off topology past (queues.Host host) e
one_off topology past (Discarded host) e one = front_off topology past (queues.Host host) e
one_off topology past _ e one = tt

-- ---- what is forwarded, entry by entry

-- where it stays so
free_one : (topology : Topology) (m : Map) (past : List Entry) (moved : List Move) (entry : Entry) → IsMap m → IsOne entry → IsNoPipe entry → MayAll m (moves_of topology past entry ++ moved) → AreFree topology m past moved → AreFree topology m (entry ∷ past) (moves_of topology past entry ++ moved)
free_one topology m past moved entry map one quiet may free e onto less is =
    stays_all m e onto (moves_of topology past entry) moved map (one_off topology past entry e one) may (free e onto less (sym (forwarded_same topology e entry past quiet) ∙ is))

gathered_moves : (topology : Topology) (past : List Entry) (d onto : ℕ) (flit : List ℕ) → forwarded_onto topology d past ≡ Some onto → moves_of topology past (Landed d flit outcomes.Gathered) ≡ []
unfolding moves_of landed_packets
gathered_moves topology past d onto flit is =
    ap (λ (o : Option ℕ). forward_moves topology past (Landed d flit outcomes.Gathered ∷ past) d outcomes.Gathered o [] ++ []) is

landed_off : (topology : Topology) (past : List Entry) (d e : ℕ) (flit : List ℕ) (outcome : Outcome) → (d == e) ≡ false → AreOff e (moves_of topology past (Landed d flit outcome))
unfolding moves_of
landed_off topology past d e flit outcome other =
    let landed = landed_packets topology d flit outcome past in
    off-append e (forward_moves topology past (Landed d flit outcome ∷ past) d outcome (forwarded_onto topology d past) landed) (lands topology d landed)
    (forward_off topology past (Landed d flit outcome ∷ past) d e outcome (forwarded_onto topology d past) landed) (lands_off topology d e landed other)

free_landed : (topology : Topology) (m : Map) (past : List Entry) (moved : List Move) (d : ℕ) (flit : List ℕ) (outcome : Outcome) → IsMap m → MayAll m (moves_of topology past (Landed d flit outcome) ++ moved) → AreFree topology m past moved
    → AreFree topology m (Landed d flit outcome ∷ past) (moves_of topology past (Landed d flit outcome) ++ moved)
free_landed topology m past moved d flit outcome map may free e onto less is = by_here (d == e) refl (sym (forwarded_landed topology e d flit outcome past) ∙ is)
  where
    by_here : (here : Bool) → (d == e) ≡ here → choose here (while_gathered outcome (forwarded_onto topology e past)) (forwarded_onto topology e past) ≡ Some onto → HasFreeWay m (moves_of topology past (Landed d flit outcome) ++ moved) e onto
    by_here false at was = stays_all m e onto (moves_of topology past (Landed d flit outcome)) moved map (landed_off topology past d e flit outcome at) may (free e onto less was)
    by_here true at was =
        let still = still_gathered outcome (forwarded_onto topology e past) onto was in
        let one : d ≡ e = eqb-true d e at in
        let none : moves_of topology past (Landed d flit outcome) ≡ [] = ap (λ (o : Outcome). moves_of topology past (Landed d flit o)) still.0 ∙ gathered_moves topology past d onto flit (ap (λ (n : ℕ). forwarded_onto topology n past) one ∙ still.1) in
        subst (λ (l : List Move). HasFreeWay m (l ++ moved) e onto) (sym none) (free e onto less still.1)

free_unlocked : (topology : Topology) (m : Map) (past : List Entry) (moved : List Move) (d : ℕ) → IsMap m → MayAll m (moves_of topology past (Unlocked d) ++ moved) → AreFree topology m past moved → AreFree topology m (Unlocked d ∷ past) (moves_of topology past (Unlocked d) ++ moved)
unfolding moves_of
free_unlocked topology m past moved d map may free e onto less is = by_here (d == e) (sym (forwarded_unlocked topology e d past) ∙ is)
  where
    gone : Option ℕ
    gone = if_there (nat_lt d (directions_in topology)) (forwarded_onto topology d past)

    by_here : (here : Bool) → choose here None (forwarded_onto topology e past) ≡ Some onto → HasFreeWay m (unlocks topology (Unlocked d ∷ past) gone ++ moved) e onto
    by_here true was = absurd (cc)
    by_here false was = stays_all m e onto (unlocks topology (Unlocked d ∷ past) gone) moved map (unlocks_off topology (Unlocked d ∷ past) gone e) may (free e onto less was)

-- it is free at first: nothing waits in the buffer and in the output queue
first_three : (a b c : Bool) → (a && b && c) ≡ true → a ≡ true
first_three true b c is = refl
first_three false true c is = absurd (let clash : false ≡ true = is in cc)
first_three false false c is = absurd (let clash : false ≡ true = is in cc)

front_viewed : (topology : Topology) (direction : ℕ) (past : List Entry) → (view_in (sizes_on topology direction) (toward direction) (entries_on topology direction past) Waiting).given.front
    ≡ slice_get (queue_in (sizes_on topology direction) (toward direction) (entries_on topology direction past)) 0
unfolding view_after given_after
front_viewed topology direction past = refl

none_waits : (setup : Setup) (past : List Entry) (direction flits : ℕ) → Kept setup past → may_pass_on (view_in (sizes_on setup.topology direction) (toward direction) (entries_on setup.topology direction past) Waiting) flits ≡ true → contents setup.topology past (queues.Output direction) ≡ []
none_waits setup past direction flits keeps may =
    let sizes = sizes_on setup.topology direction in
    let view = view_in sizes (toward direction) (entries_on setup.topology direction past) Waiting in
    output_is setup.topology direction past keeps.gathered (keeps.links (direction / 2))
    ∙ nothing-front (queue_in sizes (toward direction) (entries_on setup.topology direction past)) (ap is_none (sym (front_viewed setup.topology direction past)) ∙ first_three (is_none view.given.front) (is_free view) (may_begin view flits) may)

free_through : (setup : Setup) (m : Map) (past : List Entry) (moved : List Move) (cube port direction : ℕ) → Wired setup.topology → Kept setup past → Agrees setup.topology m past moved → HasThrough setup past cube port direction → AreFree setup.topology m past moved
    → AreFree setup.topology m (Through cube port direction ∷ past) moved
free_through setup m past moved cube port direction wires keeps agreed has free e onto less is = by_here (lands_at setup.topology e cube port) refl (sym (forwarded_through setup.topology e cube port direction past) ∙ is)
  where
    t : Topology
    t = setup.topology

    same_ℕ : (a b : ℕ) → ◌≡◌ {A = Option ℕ} (Some a) (Some b) → a ≡ b
    same_ℕ a b same = cc

    by_here : (here : Bool) → lands_at t e cube port ≡ here → choose here (Some direction) (forwarded_onto t e past) ≡ Some onto → HasFreeWay m moved e onto
    by_here false at was = free e onto less was
    by_here true at was =
        let ends : end_of t e ≡ places.Port cube port = same_place-true (end_of t e) (places.Port cube port) at in
        let buffer : hop_contents m moved (hops.Buffer e) ≡ [] =
        ap (hop_contents m moved) (sym (buffer_hop t e wires less)) ∙ sym (agreed.queues (landing_buffer t e) (buffer_real t (end_of t e) e less refl)) ∙ ap (λ (p : Place). map (seen t) (contents t past (buffer_at p))) ends ∙ ap (map (seen t)) has.empty in
        let output : hop_contents m moved (hops.Output direction) ≡ [] = sym (agreed.queues (queues.Output direction) tt) ∙ ap (map (seen t)) (none_waits setup past direction has.head.flits keeps has.may) in
        subst (HasFreeWay m moved e) (same_ℕ direction onto was) (opens m e direction moved buffer output)

-- ---- landings

poisoned_rests : (topology : Topology) (packet : PacketFields) → packet.poisoned ≡ true → is_live (seen topology packet) ≡ false
unfolding seen
poisoned_rests topology packet poisoned = ap (λ (b : Bool). not b && is_hop_token (kind_by (family_of packet.command) (is_posted packet.command))) poisoned

copy_may : (topology : Topology) (m : Map) (journal : List Entry) (onto : ℕ) (moved : List Move) → (last_packet (begun_on topology onto journal)).poisoned ≡ true → MayAll m moved → MayAll m (copy_comes topology journal onto ++ moved)
unfolding MayAll
copy_may topology m journal onto moved poisoned may = (poisoned_rests topology (last_packet (begun_on topology onto journal)) poisoned, may)

route_of : (m : Map) (d : ℕ) (x : Packet) → IsOnWay m (hops.Line d) x → is_live x ≡ true → IsOnRoute m d x
route_of m d x is live = is live

poison_seen : (topology : Topology) (packet : PacketFields) → (seen topology packet).poisoned ≡ packet.poisoned
unfolding seen
poison_seen topology packet = refl

forward_may : (setup : Setup) (m : Map) (past : List Entry) (moved : List Move) (d onto : ℕ) (flit : List ℕ) (landed : List PacketFields) → IsMapOf setup.topology m → Wired setup.topology → Kept setup past → Kept setup (Landed d flit outcomes.Accepted ∷ past) → Agrees setup.topology m past moved
    → EntryRule setup past (Landed d flit outcomes.Accepted) → MayAll m moved → AreFree setup.topology m past moved → forwarded_onto setup.topology d past ≡ Some onto → landed_packets setup.topology d flit outcomes.Accepted past ≡ landed
    → MayAll m (goes_past setup.topology past d onto landed ++ (lands setup.topology d landed ++ moved))
forward_may setup m past moved d onto flit landed map_of wires keeps now agreed right may free forwarded landed_is =
    let t = setup.topology in
    let inside = landed-real setup past d flit outcomes.Accepted right keeps in
    let is : ForwardedPacket t past d onto = forwarded_packet setup past d onto wires keeps inside forwarded in
    let found = come_of setup past d onto flit now is in
    let x = found.0 in
    let come = found.1 in
    let y = seen t x in
    let counted : IsCounted x = IsCounted-moving t x come.clean come.moving in
    let front = line_placed setup m past moved d flit outcomes.Accepted x [] wires keeps agreed now right found.2 in
    let way = free d onto inside forwarded in
    let token : is_hop_token y.kind ≡ true = token_seen t x ∙ ap not counted.layout in
    let live : is_live y ≡ true = live_seen t x come.clean ∙ token in
    let goes = forwarded_next t m past d onto x map_of wires is come.moving come.clean (come_head t past d onto flit x is come).0 in
    let route = route_of m d y (mover_on_way m map_of.is moved may (hops.Line d) 0 y front) live in
    let forwards = is_forwarded m moved d onto y may (record { front = front; token = token; empty = way.empty; goes = goes; apart = way.apart y route.index live route.is goes; other = is.apart }) in
    let many : length (hop_contents m moved (hops.Output onto)) ≡ length (contents t past (queues.Output onto)) = ap length (sym (agreed.queues (queues.Output onto) tt)) ∙ length-map (contents t past (queues.Output onto)) (seen t) in
    subst (λ (l : List PacketFields). MayAll m (goes_past t past d onto l ++ (lands t d l ++ moved))) (sym found.2 ∙ landed_is)
    (subst (λ (n : ℕ). MayAll m (Goes (hops.Output onto) n y ∷ Goes (hops.Buffer d) 0 y ∷ Goes (hops.Line d) 0 y ∷ moved)) many forwards.may)
  where
    live_seen : (topology : Topology) (packet : PacketFields) → packet.poisoned ≡ false → is_live (seen topology packet) ≡ is_hop_token (seen topology packet).kind
    live_seen topology packet clean = ap (λ (b : Bool). not b && is_hop_token (seen topology packet).kind) (poison_seen topology packet ∙ clean)

spoiled_may : (setup : Setup) (m : Map) (past : List Entry) (moved : List Move) (d onto : ℕ) (flit : List ℕ) (outcome : Outcome) → Wired setup.topology → Kept setup past → Kept setup (Landed d flit outcome ∷ past) → Agrees setup.topology m past moved
    → EntryRule setup past (Landed d flit outcome) → MayAll m moved → forwarded_onto setup.topology d past ≡ Some onto → Spoils flit outcome
    → MayAll m (copy_comes setup.topology (Landed d flit outcome ∷ past) onto ++ (lands setup.topology d (landed_packets setup.topology d flit outcome past) ++ moved))
spoiled_may setup m past moved d onto flit outcome wires keeps now agreed right may forwarded ends =
    copy_may setup.topology m (Landed d flit outcome ∷ past) onto (lands setup.topology d (landed_packets setup.topology d flit outcome past) ++ moved) (landing_spoils setup past d onto flit outcome wires keeps right forwarded ends)
    (lands_may setup m past moved d flit outcome (landed_packets setup.topology d flit outcome past) wires keeps agreed now right refl may)

landing_may : (setup : Setup) (m : Map) (past : List Entry) (moved : List Move) (d : ℕ) (flit : List ℕ) (outcome : Outcome) (onto : Option ℕ) → IsMapOf setup.topology m → Wired setup.topology → Kept setup past → Kept setup (Landed d flit outcome ∷ past) → Agrees setup.topology m past moved
    → EntryRule setup past (Landed d flit outcome) → MayAll m moved → AreFree setup.topology m past moved → forwarded_onto setup.topology d past ≡ onto
    → MayAll m (forward_moves setup.topology past (Landed d flit outcome ∷ past) d outcome onto (landed_packets setup.topology d flit outcome past) ++ (lands setup.topology d (landed_packets setup.topology d flit outcome past) ++ moved))
landing_may setup m past moved d flit outcome None map_of wires keeps now agreed right may free forwarded = lands_may setup m past moved d flit outcome (landed_packets setup.topology d flit outcome past) wires keeps agreed now right refl may
landing_may setup m past moved d flit outcomes.Accepted (Some onto) map_of wires keeps now agreed right may free forwarded =
    forward_may setup m past moved d onto flit (landed_packets setup.topology d flit outcomes.Accepted past) map_of wires keeps now agreed right may free forwarded refl
landing_may setup m past moved d flit outcomes.Gathered (Some onto) map_of wires keeps now agreed right may free forwarded =
    lands_may setup m past moved d flit outcomes.Gathered (landed_packets setup.topology d flit outcomes.Gathered past) wires keeps agreed now right refl may
landing_may setup m past moved d flit outcomes.Quiet (Some onto) map_of wires keeps now agreed right may free forwarded = spoiled_may setup m past moved d onto flit outcomes.Quiet wires keeps now agreed right may forwarded (λ pipe. refl)
landing_may setup m past moved d flit outcomes.Trained (Some onto) map_of wires keeps now agreed right may free forwarded = spoiled_may setup m past moved d onto flit outcomes.Trained wires keeps now agreed right may forwarded (λ pipe. refl)
landing_may setup m past moved d flit outcomes.Poisoned (Some onto) map_of wires keeps now agreed right may free forwarded = spoiled_may setup m past moved d onto flit outcomes.Poisoned wires keeps now agreed right may forwarded (λ pipe. refl)
landing_may setup m past moved d flit outcomes.Repeat (Some onto) map_of wires keeps now agreed right may free forwarded = spoiled_may setup m past moved d onto flit outcomes.Repeat wires keeps now agreed right may forwarded (λ pipe. refl)
landing_may setup m past moved d flit (outcomes.AbortedBad bad) (Some onto) map_of wires keeps now agreed right may free forwarded = spoiled_may setup m past moved d onto flit (outcomes.AbortedBad bad) wires keeps now agreed right may forwarded (λ pipe. refl)
landing_may setup m past moved d flit outcomes.AbortedOrder (Some onto) map_of wires keeps now agreed right may free forwarded = spoiled_may setup m past moved d onto flit outcomes.AbortedOrder wires keeps now agreed right may forwarded (λ pipe. refl)
landing_may setup m past moved d flit (outcomes.Ran kind) (Some onto) map_of wires keeps now agreed right may free forwarded = spoiled_may setup m past moved d onto flit (outcomes.Ran kind) wires keeps now agreed right may forwarded (λ pipe. refl)

unlock_may : (setup : Setup) (m : Map) (past : List Entry) (moved : List Move) (d : ℕ) (there : Bool) (onto : Option ℕ) → Wired setup.topology → Kept setup past → MayAll m moved → nat_lt d (directions_in setup.topology) ≡ there → forwarded_onto setup.topology d past ≡ onto
    → MayAll m (unlocks setup.topology (Unlocked d ∷ past) (if_there there onto) ++ moved)
unlock_may setup m past moved d false onto wires keeps may at forwarded = may
unlock_may setup m past moved d true None wires keeps may at forwarded = may
unlock_may setup m past moved d true (Some onto) wires keeps may at forwarded =
    copy_may setup.topology m (Unlocked d ∷ past) onto moved (unlock_spoils setup past d onto wires keeps (ltb-true d (directions_in setup.topology) at) forwarded) may

-- ---- every entry

-- the moves of a lawful journal may come, and the way of what is forwarded is free
record Moved (setup : Setup) (m : Map) (past : List Entry) (moved : List Move) : Type 0 where
  may : MayAll m moved
  free : AreFree setup.topology m past moved

moved_one : (setup : Setup) (m : Map) (past : List Entry) (moved : List Move) (entry : Entry) → IsNetwork setup → Wired setup.topology → IsMapOf setup.topology m → Kept setup past → Kept setup (entry ∷ past) → Agrees setup.topology m past moved → EntryRule setup past entry → Moved setup m past moved
    → IsOne entry → IsNoPipe entry → Moved setup m (entry ∷ past) (moves_of setup.topology past entry ++ moved)
moved_one setup m past moved entry network wires map_of keeps now agreed right before one quiet =
    let may = may_joined m moved (moves_of setup.topology past entry) (may_one setup m past moved entry network wires map_of keeps now agreed right one) before.may in
    record { may = may; free = free_one setup.topology m past moved entry map_of.is one quiet may before.free }

moved_more : (setup : Setup) (m : Map) (past : List Entry) (moved : List Move) (entry : Entry) → IsNetwork setup → Wired setup.topology → IsMapOf setup.topology m → Kept setup past → Kept setup (entry ∷ past) → Agrees setup.topology m past moved → EntryRule setup past entry → Moved setup m past moved
    → Moved setup m (entry ∷ past) (moves_of setup.topology past entry ++ moved)
unfolding moves_of
moved_more setup m past moved (Landed d flit outcome) network wires map_of keeps now agreed right before =
    let t = setup.topology in
    let landed = landed_packets t d flit outcome past in
    let forwarded = forwarded_onto t d past in
    let may = subst (MayAll m) (sym (append_assoc (forward_moves t past (Landed d flit outcome ∷ past) d outcome forwarded landed) (lands t d landed) moved))
    (landing_may setup m past moved d flit outcome forwarded map_of wires keeps now agreed right before.may before.free refl) in
    record { may = may; free = free_landed t m past moved d flit outcome map_of.is may before.free }
moved_more setup m past moved (Unlocked d) network wires map_of keeps now agreed right before =
    let may = unlock_may setup m past moved d (nat_lt d (directions_in setup.topology)) (forwarded_onto setup.topology d past) wires keeps before.may refl refl in
    record { may = may; free = free_unlocked setup.topology m past moved d map_of.is may before.free }
moved_more setup m past moved (Through cube port direction) network wires map_of keeps now agreed right before =
    record { may = before.may; free = free_through setup m past moved cube port direction wires keeps agreed right before.free }
moved_more setup m past moved (Gave host tag poisoned request) network wires map_of keeps now agreed right before = moved_one setup m past moved (Gave host tag poisoned request) network wires map_of keeps now agreed right before tt tt
moved_more setup m past moved (Sent d as_what flit) network wires map_of keeps now agreed right before = moved_one setup m past moved (Sent d as_what flit) network wires map_of keeps now agreed right before tt tt
moved_more setup m past moved (Shifted cube port goal) network wires map_of keeps now agreed right before = moved_one setup m past moved (Shifted cube port goal) network wires map_of keeps now agreed right before tt tt
moved_more setup m past moved (Dropped cube port) network wires map_of keeps now agreed right before = moved_one setup m past moved (Dropped cube port) network wires map_of keeps now agreed right before tt tt
moved_more setup m past moved (Spread cube vault bank) network wires map_of keeps now agreed right before = moved_one setup m past moved (Spread cube vault bank) network wires map_of keeps now agreed right before tt tt
moved_more setup m past moved (Executed unit host tag request answer) network wires map_of keeps now agreed right before = moved_one setup m past moved (Executed unit host tag request answer) network wires map_of keeps now agreed right before tt tt
moved_more setup m past moved (Lifted cube from port) network wires map_of keeps now agreed right before = moved_one setup m past moved (Lifted cube from port) network wires map_of keeps now agreed right before tt tt
moved_more setup m past moved (Took host tag answer) network wires map_of keeps now agreed right before = moved_one setup m past moved (Took host tag answer) network wires map_of keeps now agreed right before tt tt
moved_more setup m past moved (Discarded host) network wires map_of keeps now agreed right before = moved_one setup m past moved (Discarded host) network wires map_of keeps now agreed right before tt tt
moved_more setup m past moved (Retired slot) network wires map_of keeps now agreed right before = moved_one setup m past moved (Retired slot) network wires map_of keeps now agreed right before tt tt
moved_more setup m past moved (Passed direction flit) network wires map_of keeps now agreed right before = moved_one setup m past moved (Passed direction flit) network wires map_of keeps now agreed right before tt tt
moved_more setup m past moved (Idle step cause) network wires map_of keeps now agreed right before = moved_one setup m past moved (Idle step cause) network wires map_of keeps now agreed right before tt tt

moved_all : (setup : Setup) (m : Map) (past : List Entry) → IsNetwork setup → IsMapOf setup.topology m → Lawful setup past → Moved setup m past (moves setup.topology past)
unfolding moves MayAll forwarded_onto
moved_all setup m [] network map_of lawful = record { may = tt; free = λ e onto less is. absurd (cc) }
moved_all setup m (entry ∷ past) network map_of lawful =
    let before = lawful_past setup entry past lawful in
    moved_more setup m past (moves setup.topology past) entry network (wired setup network) map_of (kept setup past network before) (kept setup (entry ∷ past) network lawful) (agrees setup m past network map_of before) (entry_rule setup entry past lawful)
    (moved_all setup m past network map_of before)

-- the moves of a lawful journal may come
pub may_all : (setup : Setup) (m : Map) (past : List Entry) → IsNetwork setup → IsMapOf setup.topology m → Lawful setup past → MayAll m (moves setup.topology past)
may_all setup m past network map_of lawful = (moved_all setup m past network map_of lawful).may
