-- The tags that are out, as the moves of a journal have them; and each request is given under a tag
-- that isn't out.
use Rattle.std.proofs.Common.{◌≡◌, ◌<◌, ◌∙◌, ◌==◌, ◌&&◌, ◌⊎◌, inl, inr, ℕ, zero, suc, Bool, true, false, not, if◌then◌else◌, Option, None, List, [], ◌∷◌, ◌++◌, length, slice_index_or, refl, sym, ap, ap₂, subst, arith, eqb-true, eq-eqb, Some, nat_lt}
use Rattle.std.specs.Prelude.{slice_set, replicate}
use Rattle.std.proofs.lemmas.List.{get_or-set_same, get_or-set_other}
use Rattle.std.proofs.lemmas.List.Quantifiers.{position-Some}
use Rattle.hmc_codes.specs.Commands.{is_posted}
use Rattle.hmc_codes.specs.Request.{RequestFields}
use Rattle.hmc_codes.specs.declared.family.Family.{Family}
use Rattle.hmc_codes.specs.declared.family.Family.TheVariants as families
use Rattle.hmc_codes.specs.declared.place.Place.TheVariants as places
use Rattle.hmc_packet.specs.Packet.{PacketFields}
use Rattle.hmc_packet.specs.Transactions.{request_packet, answer_in}
use Rattle.hmc_packet.specs.declared.outcome.Outcome.{Outcome}
use Rattle.hmc_packet.specs.declared.outcome.Outcome.TheVariants as outcomes
use Rattle.hmc_packet.specs.declared.what.What.TheVariants as what
use Rattle.hmc_host.specs.Give.{wants_tag}
use Rattle.hmc_host.specs.Tags.{none_out, with_out, lowest_free}
use Rattle.hmc_hops.specs.Packets.{Packet}
use Rattle.hmc_hops.specs.Flows.{is_host}
use Rattle.hmc_hops.specs.Map.{Map}
use Rattle.hmc_hops.specs.Moves.{Move}
use Rattle.hmc_hops.specs.Moves.Move.{Comes, Goes}
use Rattle.hmc_hops.specs.Queues.{QueueId as hops}
use Rattle.hmc_hops.specs.Tags.{is_asks, asks_now, takes_now, out_after, is_out as hop_out}
use Rattle.hmc_journal.specs.Choice.{choose}
use Rattle.hmc_entries.specs.declared.entry.Entry.{Entry}
use Rattle.hmc_entries.specs.declared.entry.Entry.TheVariants.{Gave, Sent, Landed, Shifted, Dropped, Took, Discarded, Unlocked}
use Rattle.hmc_journal.specs.Directions.{unsent, awaits_first, landed_packets}
use Rattle.hmc_journal.specs.Carried.{begun_on}
use Rattle.hmc_journal.specs.Piped.{forwarded_onto}
use Rattle.hmc_journal.specs.Hosts.{host_of, tags_out}
use Rattle.hmc_journal.specs.Lawful.{Lawful}
use Rattle.hmc_journal.specs.Network.{IsNetwork}
use Rattle.hmc_journal.specs.Queues.{tag_number, contents, front_of, QueueId as queues}
use Rattle.hmc_journal.specs.Setup.{Topology, Setup, directions_in}
use Rattle.hmc_journal.specs.StepView.{view_of}
use Rattle.hmc_journal.proofs.EntryRule.{EntryRule, IsTagged, HasGiven, HasDiscarded, entry_rule, lawful_past}
use Rattle.hmc_journal.proofs.Moves.{front_is}
use Rattle.hmc_laws.proofs.Standing.{IsAsking, IsFor, IsSpoiled, GoesTo}
use Rattle.hmc_laws.proofs.Entering.{Kept, front_stands, has_direction, given_asks, landed-real}
use Rattle.hmc_laws.proofs.Sound.{kept}
use Rattle.hmc_laws.proofs.Wired.{Wired, wired}
use Rattle.hmc_delivery.proofs.Seen.{seen, kind_by, hop_queue, comes_from, begins_move, lands, goes_past, last_packet, copy_comes, forward_moves, if_there, unlocks, moves_of, moves}
use Rattle.hmc_delivery.proofs.Agreeing.{IsMapOf, end_at}
use Rattle.hmc_delivery.proofs.Hopping.{buffer_end}
use Rattle.hmc_delivery.proofs.Hopped.{at_end}
use Rattle.hmc_delivery.proofs.Forwarded.{forwarded_packet, forwarded_end}
use Rattle.hmc_laws.proofs.UnsentFlits.{same_choice}

-- whether a tag of a host is out
abbrev pub out_of : List Entry → (host tag : ℕ) → Bool
out_of past host tag = slice_index_or (tags_out host past) tag false

set_at : (tags : List Bool) (n t : ℕ) (v same : Bool) → (n == t) ≡ same → n < length tags → slice_index_or (slice_set tags n v) t false ≡ (if same then v else slice_index_or tags t false)
set_at tags n t v true is less = ap (λ (k : ℕ). slice_index_or (slice_set tags n v) k false) (sym (eqb-true n t is)) ∙ get_or-set_same tags n v false less
set_at tags n t v false is less = get_or-set_other tags n t v false (λ e. let clash : true ≡ false = sym (eq-eqb n t (sym e)) ∙ is in cc)

choose_at : (here : Bool) (a b : List Bool) (t : ℕ) → slice_index_or (choose here a b) t false ≡ choose here (slice_index_or a t false) (slice_index_or b t false)
choose_at true a b t = refl
choose_at false a b t = refl

ask_out : (here same before : Bool) → out_after (here && same) false before ≡ choose here (if same then true else before) before
ask_out true true before = refl
ask_out true false before = refl
ask_out false same before = refl

take_out : (here same before : Bool) → out_after false (here && same) before ≡ choose here (if same then false else before) before
take_out true true before = refl
take_out true false before = refl
take_out false same before = refl

-- ---- give

asks_kind : (posted : Bool) → is_asks (kind_by families.Ask posted) ≡ not posted
asks_kind true = refl
asks_kind false = refl

-- what the moves say of a request that is given
pub asks_given : (setup : Setup) (past : List Entry) (host : ℕ) (tag : Option ℕ) (poisoned : Bool) (request : RequestFields) (d h t : ℕ) → (has : HasGiven setup past host tag poisoned request) → IsAsking setup.topology (request_packet request (tag_number tag) host poisoned)
    → asks_now h t (Comes (hops.Output d) (seen setup.topology (request_packet request (tag_number tag) host poisoned))) ≡ (wants_tag has.item && ((host == h) && (tag_number tag == t)))
unfolding seen request_packet
asks_given setup past host tag poisoned request d h t has asking =
    ap (λ (b : Bool). b && ((host == h) && (tag_number tag == t)))
    (ap (λ (k : Bool). not poisoned && k) (ap (λ (f : Family). is_asks (kind_by f (is_posted request.command))) asking.asks ∙ asks_kind (is_posted request.command))
    ∙ ap₂ (λ (p : Bool) (r : RequestFields). not p && not (is_posted r.command)) has.is_poisoned has.is_request)

gave_out : (awaited : Bool) (tags : List Bool) (tag : Option ℕ) (here : Bool) (t : ℕ) → IsTagged awaited (lowest_free tags) tag
    → out_after (awaited && (here && (tag_number tag == t))) false (slice_index_or tags t false) ≡ slice_index_or (choose here (with_out tag tags) tags) t false
gave_out true tags tag here t is =
    let n = is.0 in
    let found = position-Some not tags n true is.1 in
    let number : tag_number tag ≡ n = ap tag_number is.2 in
    ap (λ (k : ℕ). out_after (here && (k == t)) false (slice_index_or tags t false)) number ∙ ask_out here (n == t) (slice_index_or tags t false)
    ∙ ap (λ (b : Bool). choose here b (slice_index_or tags t false)) (sym (set_at tags n t true (n == t) refl found.0))
    ∙ sym (choose_at here (slice_set tags n true) tags t) ∙ ap (λ (o : Option ℕ). slice_index_or (choose here (with_out o tags) tags) t false) (sym is.2)
gave_out false tags tag here t is =
    same_choice here (slice_index_or tags t false) ∙ sym (choose_at here tags tags t) ∙ ap (λ (o : Option ℕ). slice_index_or (choose here (with_out o tags) tags) t false) (sym is)

quiet_ask : (awaited before : Bool) → out_after (awaited && false) false before ≡ before
quiet_ask true before = refl
quiet_ask false before = refl

gave_at : (past : List Entry) (host h t : ℕ) (awaited : Bool) (tag : Option ℕ) (here : Bool) → (host == h) ≡ here → IsTagged awaited (lowest_free (tags_out host past)) tag
    → out_after (awaited && (here && (tag_number tag == t))) false (out_of past h t) ≡ slice_index_or (choose here (with_out tag (tags_out h past)) (tags_out h past)) t false
gave_at past host h t awaited tag false at tagged = quiet_ask awaited (out_of past h t)
gave_at past host h t awaited tag true at tagged =
    gave_out awaited (tags_out h past) tag true t (subst (λ (k : ℕ). IsTagged awaited (lowest_free (tags_out k past)) tag) (eqb-true host h at) tagged)

-- ---- take

pub taken_here : (setup : Setup) (m : Map) (host : ℕ) (packet : PacketFields) (d h t : ℕ) → m.end_of d ≡ end_at (places.Host host) → packet.poisoned ≡ false → takes_now m h t (Goes (hops.Buffer d) 0 (seen setup.topology packet)) ≡ ((host == h) && (packet.tag == t))
unfolding seen
taken_here setup m host packet d h t ends clean = ap₂ (λ e (b : Bool). is_host e h && (not b && (packet.tag == t))) ends clean

pub taken_there : (topology : Topology) (m : Map) (cube port : ℕ) (x : Packet) (d h t : ℕ) → m.end_of d ≡ end_at (places.Port cube port) → takes_now m h t (Goes (hops.Buffer d) 0 x) ≡ false
taken_there topology m cube port x d h t ends = ap (λ e. is_host e h && (not x.poisoned && (x.tag == t))) ends

-- ---- every entry

-- what moves do to a tag
abbrev out_by : Map → (h t : ℕ) → List Move → Bool → Bool
out_by m h t [] before = before
out_by m h t (move ∷ []) before = out_after (asks_now h t move) (takes_now m h t move) before
out_by m h t (move ∷ next ∷ rest) before = out_after (asks_now h t move) (takes_now m h t move) (out_by m h t (next ∷ rest) before)

quiet_begins : (topology : Topology) (m : Map) (past : List Entry) (d : ℕ) (waiting : Bool) (n h t : ℕ) (before : Bool) → out_by m h t (begins_move topology past d waiting n) before ≡ before
quiet_begins topology m past d false zero h t before = refl
quiet_begins topology m past d false (suc n) h t before = refl
quiet_begins topology m past d true n h t before = refl

quiet_lands : (topology : Topology) (m : Map) (d h t : ℕ) (packets : List PacketFields) (before : Bool) → out_by m h t (lands topology d packets) before ≡ before
quiet_lands topology m d h t [] before = refl
quiet_lands topology m d h t (p ∷ packets) before = refl

-- a move that does nothing to it
quiet_first : (m : Map) (h t : ℕ) (move : Move) (rest : List Move) (before : Bool) → asks_now h t move ≡ false → takes_now m h t move ≡ false → out_by m h t rest before ≡ before → out_by m h t (move ∷ rest) before ≡ before
quiet_first m h t move [] before asks takes is = ap₂ (λ (a b : Bool). out_after a b before) asks takes
quiet_first m h t move (next ∷ rest) before asks takes is = ap₂ (λ (a b : Bool). out_after a b (out_by m h t (next ∷ rest) before)) asks takes ∙ is

quiet_past : (topology : Topology) (m : Map) (past : List Entry) (d onto h t : ℕ) (packets : List PacketFields) (rest : List Move) (before : Bool) → ((x : Packet) → takes_now m h t (Goes (hops.Buffer d) 0 x) ≡ false) → out_by m h t rest before ≡ before
    → out_by m h t (goes_past topology past d onto packets ++ rest) before ≡ before
quiet_past topology m past d onto h t [] rest before takes is = is
quiet_past topology m past d onto h t (p ∷ packets) rest before takes is =
    let second = quiet_first m h t (Goes (hops.Buffer d) 0 (seen topology p)) rest before refl (takes (seen topology p)) is in
    quiet_first m h t (Goes (hops.Output onto) (length (contents topology past (queues.Output onto))) (seen topology p)) (Goes (hops.Buffer d) 0 (seen topology p) ∷ rest) before refl refl second

quiet_copy : (topology : Topology) (m : Map) (journal : List Entry) (onto h t : ℕ) (rest : List Move) (before : Bool) → out_by m h t rest before ≡ before → out_by m h t (copy_comes topology journal onto ++ rest) before ≡ before
quiet_copy topology m journal onto h t rest before is = quiet_first m h t (Comes (hops.Line onto) (seen topology (last_packet (begun_on topology onto journal)))) rest before refl refl is

quiet_forward : (topology : Topology) (m : Map) (past journal : List Entry) (d h t : ℕ) (outcome : Outcome) (onto : Option ℕ) (packets : List PacketFields) (rest : List Move) (before : Bool) → ((to : ℕ) → onto ≡ Some to → (x : Packet) → takes_now m h t (Goes (hops.Buffer d) 0 x) ≡ false)
    → out_by m h t rest before ≡ before → out_by m h t (forward_moves topology past journal d outcome onto packets ++ rest) before ≡ before
quiet_forward topology m past journal d h t outcome None packets rest before takes is = is
quiet_forward topology m past journal d h t outcomes.Gathered (Some onto) packets rest before takes is = is
quiet_forward topology m past journal d h t outcomes.Accepted (Some onto) packets rest before takes is = quiet_past topology m past d onto h t packets rest before (takes onto refl) is
quiet_forward topology m past journal d h t outcomes.Quiet (Some onto) packets rest before takes is = quiet_copy topology m journal onto h t rest before is
quiet_forward topology m past journal d h t outcomes.Trained (Some onto) packets rest before takes is = quiet_copy topology m journal onto h t rest before is
quiet_forward topology m past journal d h t outcomes.Poisoned (Some onto) packets rest before takes is = quiet_copy topology m journal onto h t rest before is
quiet_forward topology m past journal d h t outcomes.Repeat (Some onto) packets rest before takes is = quiet_copy topology m journal onto h t rest before is
quiet_forward topology m past journal d h t (outcomes.AbortedBad bad) (Some onto) packets rest before takes is = quiet_copy topology m journal onto h t rest before is
quiet_forward topology m past journal d h t outcomes.AbortedOrder (Some onto) packets rest before takes is = quiet_copy topology m journal onto h t rest before is
quiet_forward topology m past journal d h t (outcomes.Ran kind) (Some onto) packets rest before takes is = quiet_copy topology m journal onto h t rest before is

quiet_unlocks : (topology : Topology) (m : Map) (journal : List Entry) (h t : ℕ) (onto : Option ℕ) (before : Bool) → out_by m h t (unlocks topology journal onto) before ≡ before
quiet_unlocks topology m journal h t None before = refl
quiet_unlocks topology m journal h t (Some onto) before = refl

-- what is discarded is poisoned
pub discards_poison : (setup : Setup) (past : List Entry) (host : ℕ) → (has : HasDiscarded setup past host) → GoesTo setup.topology (places.Host host) has.at.front → has.at.front.poisoned ≡ true
discards_poison setup past host has goes = by_cause has.is_none
  where
    by_goal : answer_in has.at.front ≡ None → IsFor setup.topology host has.at.front ⊎ IsSpoiled setup.topology has.at.front → has.at.front.poisoned ≡ true
    by_goal none (inl is) = absurd (let clash : None ≡ Some is.replying.answer = sym none ∙ is.replying.found in cc)
    by_goal none (inr spoiled) = spoiled.poisoned

    by_cause : (has.at.front.poisoned ≡ true) ⊎ (answer_in has.at.front ≡ None) → has.at.front.poisoned ≡ true
    by_cause (inl poisoned) = poisoned
    by_cause (inr none) = by_goal none goes

-- and what a host takes is an answer to it
pub takes_answer : (topology : Topology) (host : ℕ) (packet : PacketFields) → packet.poisoned ≡ false → GoesTo topology (places.Host host) packet → IsFor topology host packet
takes_answer topology host packet clean (inl is) = is
takes_answer topology host packet clean (inr spoiled) = absurd (let clash : true ≡ false = sym spoiled.poisoned ∙ clean in cc)

poison_off : (here same : Bool) → (here && (not true && same)) ≡ false
poison_off true same = refl
poison_off false same = refl

pub taken_not : (topology : Topology) (m : Map) (packet : PacketFields) (d h t : ℕ) → packet.poisoned ≡ true → takes_now m h t (Goes (hops.Buffer d) 0 (seen topology packet)) ≡ false
unfolding seen
taken_not topology m packet d h t poisoned = ap (λ (b : Bool). is_host (m.end_of d) h && (not b && (packet.tag == t))) poisoned ∙ poison_off (is_host (m.end_of d) h) (packet.tag == t)

out_more : (setup : Setup) (m : Map) (past : List Entry) (entry : Entry) (h t : ℕ) → IsNetwork setup → Wired setup.topology → IsMapOf setup.topology m → Kept setup past → EntryRule setup past entry
    → out_by m h t (moves_of setup.topology past entry) (out_of past h t) ≡ out_of (entry ∷ past) h t
unfolding moves_of tags_out host_of
out_more setup m past (Gave host tag poisoned request) h t network wires map_of keeps right =
    let packet = request_packet request (tag_number tag) host poisoned in
    let to = has_direction setup.topology (view_of setup past) (places.Host host) right.room in
    let asks = asks_given setup past host tag poisoned request to.0 h t right (given_asks setup past host tag poisoned request network right keeps) in
    ap (λ (o : Option ℕ). out_by m h t (comes_from setup.topology o packet) (out_of past h t)) to.1
    ∙ ap (λ (b : Bool). out_after b false (out_of past h t)) asks ∙ gave_at past host h t (wants_tag right.item) tag (host == h) refl right.is_tagged
out_more setup m past (Took host tag answer) h t network wires map_of keeps right =
    let place = places.Host host in
    let came = front_stands setup past (queues.Host host) keeps right.at in
    let ends = buffer_end setup.topology m place map_of wires (at_end setup.topology place right.at.front came) in
    ap (λ (p : PacketFields). out_after false (takes_now m h t (Goes (hop_queue setup.topology (queues.Host host)) 0 (seen setup.topology p))) (out_of past h t)) (front_is setup past (queues.Host host) right.at)
    ∙ ap (λ (b : Bool). out_after false b (out_of past h t)) (taken_here setup m host right.at.front _ h t ends right.unpoisoned)
    ∙ ap (λ (n : ℕ). out_after false ((host == h) && (n == t)) (out_of past h t)) (sym right.is_tag)
    ∙ take_out (host == h) (tag == t) (out_of past h t)
    ∙ ap (λ (b : Bool). choose (host == h) b (out_of past h t)) (sym (set_at (tags_out h past) tag t false (tag == t) refl few))
    ∙ sym (choose_at (host == h) (slice_set (tags_out h past) tag false) (tags_out h past) t)
  where
    few : tag < length (tags_out h past)
    few = let came = front_stands setup past (queues.Host host) keeps right.at in let goes = takes_answer setup.topology host right.at.front right.unpoisoned came.goes in omega (arith, goes.replying.counted.is_packet.ranges.tag, keeps.tags h, right.is_tag)
out_more setup m past (Discarded host) h t network wires map_of keeps right =
    let came = front_stands setup past (queues.Host host) keeps right.at in
    ap (λ (p : PacketFields). out_after false (takes_now m h t (Goes (hop_queue setup.topology (queues.Host host)) 0 (seen setup.topology p))) (out_of past h t)) (front_is setup past (queues.Host host) right.at)
    ∙ ap (λ (b : Bool). out_after false b (out_of past h t)) (taken_not setup.topology m right.at.front _ h t (discards_poison setup past host right came.goes))
out_more setup m past (Shifted cube port goal) h t network wires map_of keeps right =
    let place = places.Port cube port in
    let came = front_stands setup past (queues.Port cube port) keeps right.at in
    ap (λ (b : Bool). out_after false b (out_of past h t)) (taken_there setup.topology m cube port (seen setup.topology (front_of (contents setup.topology past (queues.Port cube port)))) _ h t (buffer_end setup.topology m place map_of wires (at_end setup.topology place right.at.front came)))
out_more setup m past (Dropped cube port) h t network wires map_of keeps right =
    let place = places.Port cube port in
    let came = front_stands setup past (queues.Port cube port) keeps right.at in
    ap (λ (b : Bool). out_after false b (out_of past h t)) (taken_there setup.topology m cube port (seen setup.topology (front_of (contents setup.topology past (queues.Port cube port)))) _ h t (buffer_end setup.topology m place map_of wires (at_end setup.topology place right.at.front came)))
out_more setup m past (Sent d what.New flit) h t network wires map_of keeps right = quiet_begins setup.topology m past d (awaits_first d past) (unsent d past) h t (out_of past h t)
out_more setup m past (Landed d flit outcome) h t network wires map_of keeps right =
    let landed = landed_packets setup.topology d flit outcome past in
    quiet_forward setup.topology m past (Landed d flit outcome ∷ past) d h t outcome (forwarded_onto setup.topology d past) landed (lands setup.topology d landed) (out_of past h t)
    (λ to is x.
    let forwarded = forwarded_packet setup past d to wires keeps (landed-real setup past d flit outcome right keeps) is in
    ap (λ e. is_host e h && (not x.poisoned && (x.tag == t))) (forwarded_end setup.topology m past d to map_of forwarded))
    (quiet_lands setup.topology m d h t landed (out_of past h t))
out_more setup m past (Unlocked d) h t network wires map_of keeps right =
    quiet_unlocks setup.topology m (Unlocked d ∷ past) h t (if_there (nat_lt d (directions_in setup.topology)) (forwarded_onto setup.topology d past)) (out_of past h t)
out_more setup m past _ h t network wires map_of keeps right = refl

joined_out : (m : Map) (h t : ℕ) (new moved : List Move) → hop_out m h t (new ++ moved) ≡ out_by m h t new (hop_out m h t moved)
unfolding hop_out
joined_out m h t [] moved = refl
joined_out m h t (move ∷ []) moved = refl
joined_out m h t (move ∷ next ∷ rest) moved = ap (out_after (asks_now h t move) (takes_now m h t move)) (joined_out m h t (next ∷ rest) moved)

none_out_at : (t : ℕ) → slice_index_or none_out t false ≡ false
unfolding none_out
none_out_at t = all_false 2048 t
  where
    all_false : (n k : ℕ) → slice_index_or (replicate n false) k false ≡ false
    all_false zero k = refl
    all_false (suc n) zero = refl
    all_false (suc n) (suc k) = all_false n k

-- a tag is out where the moves say so
pub outs_agree : (setup : Setup) (m : Map) (past : List Entry) (h t : ℕ) → IsNetwork setup → IsMapOf setup.topology m → Lawful setup past → hop_out m h t (moves setup.topology past) ≡ out_of past h t
unfolding moves hop_out tags_out
outs_agree setup m [] h t network map_of lawful = sym (none_out_at t)
outs_agree setup m (entry ∷ past) h t network map_of lawful =
    let before = lawful_past setup entry past lawful in
    joined_out m h t (moves_of setup.topology past entry) (moves setup.topology past)
    ∙ ap (out_by m h t (moves_of setup.topology past entry)) (outs_agree setup m past h t network map_of before)
    ∙ out_more setup m past entry h t network (wired setup network) map_of (kept setup past network before) (entry_rule setup entry past lawful)
