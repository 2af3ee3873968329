-- Each entry of a lawful journal is its move: the queues of the journal hold what they hold after
-- the moves.
use Rattle.std.proofs.Common.{◌≡◌, ◌/◌, ◌∙◌, ◌==◌, ℕ, zero, suc, Bool, true, false, if◌then◌else◌, Option, Some, None, List, [], ◌∷◌, ◌++◌, map, refl, sym, ap, ap₂, subst, append-nil, append_assoc, eqb-true, nat_lt}
use Rattle.std.specs.Prelude.{option_map}
use Rattle.std.proofs.lemmas.List.{map-append}
use Rattle.hmc_codes.specs.Commands.{family_of, family_of_layout, layout_of, is_posted, is_ask}
use Rattle.hmc_codes.specs.Answer.{CanReply, IsAnswer}
use Rattle.hmc_codes.specs.Request.{RequestFields}
use Rattle.hmc_codes.specs.declared.answer.Answer.{Answer}
use Rattle.hmc_codes.specs.declared.family.Family.{Family}
use Rattle.hmc_codes.specs.declared.family.Family.TheVariants as families
use Rattle.hmc_codes.specs.declared.layout.Layout.{Layout}
use Rattle.hmc_codes.specs.declared.layout.Layout.TheVariants as layouts
use Rattle.hmc_codes.specs.declared.place.Place.TheVariants as places
use Rattle.hmc_codes.specs.declared.unit.Unit.{Unit as RequestUnit}
use Rattle.hmc_codes.specs.declared.unit.Unit.TheVariants as units
use Rattle.hmc_packet.specs.Packet.{PacketFields}
use Rattle.hmc_packet.specs.Transactions.{request_packet, reply_packet, request_in, answer_in}
use Rattle.hmc_packet.proofs.TransactionLemmas.{answer_in-reply_packet}
use Rattle.hmc_packet.specs.declared.what.What.{What}
use Rattle.hmc_packet.specs.declared.what.What.TheVariants as what
use Rattle.hmc_packet.specs.Landings as landings
use Rattle.hmc_send.specs.Entries as senders
use Rattle.hmc_send.specs.LinkSenders.{sender_entries}
use Rattle.hmc_send.specs.Places.{tret_packet}
use Rattle.hmc_wire.specs.LinkLaws.{IsKept}
use Rattle.hmc_hops.specs.Packets.{Packet, Kind, Spot, no_request, reply_to, Kind as kinds, Spot as spots}
use Rattle.hmc_hops.specs.Map.{Map}
use Rattle.hmc_hops.specs.Queues.{QueueId as HopQueue, next_queue, lift_of, same_queue as same_hop, is_at as is_at_hop, QueueId as hops}
use Rattle.hmc_hops.specs.Moves.{Move, answer_queue, packet_if as hop_if, contents as hop_contents}
use Rattle.hmc_hops.specs.Moves.Move.{Comes, Executes}
use Rattle.hmc_entries.specs.declared.entry.Entry.{Entry}
use Rattle.hmc_entries.specs.declared.entry.Entry.TheVariants.{Gave, Sent, Landed, Shifted, Dropped, Spread, Executed, Lifted, Took, Discarded, Through, Unlocked, Retired, Passed, Idle}
use Rattle.hmc_journal.specs.Delivered.{unnumbered}
use Rattle.hmc_journal.specs.Directions.{unsent, awaits_first, receiver_of, landed_packets, accepted}
use Rattle.hmc_journal.specs.Lawful.{Lawful}
use Rattle.hmc_journal.specs.Links.{link_entries, sizes_on, entries_on}
use Rattle.hmc_journal.specs.StepView.{view_of}
use Rattle.hmc_entries.specs.declared.outcome.Goal.{Goal}
use Rattle.hmc_entries.specs.declared.outcome.Goal.TheVariants as goals
use Rattle.hmc_codes.specs.declared.place.Place.{Place}
use Rattle.hmc_journal.specs.Network.{IsNetwork}
use Rattle.hmc_journal.specs.Queues.{QueueId, is_at, arrival_in, arrived, begins, leaves, left, entered, enters, contents, front_of, goal_queue, queue_of, answers_of, unless_posted, tag_number, output_from, QueueId as queues}
use Rattle.hmc_journal.specs.Setup.{Topology, Setup, directions_in, direction_from, unit_cube}
use Rattle.hmc_journal.proofs.EntryRule.{EntryRule, HasFront, HasExecuted, entry_rule, lawful_past}
use Rattle.hmc_journal.proofs.Moves.{HasBegun, arrives, arrived_is, entering, front_is}
use Rattle.hmc_laws.proofs.Standing.{IsAtEnd, request_of_packet, clean_reply, replied_slid, replied_cube, replied_tag}
use Rattle.hmc_laws.proofs.Entering.{Kept, front_stands, has_direction, runs_request, sends, reply_tag, executed_reply}
use Rattle.hmc_laws.proofs.Sound.{kept}
use Rattle.hmc_laws.proofs.SoundSends.{has_begun}
use Rattle.hmc_laws.proofs.SoundTakes.{through_of}
use Rattle.hmc_journal.specs.Piped.{forwarded_onto, pipe_onto}
use Rattle.hmc_laws.proofs.PipeSteps.{IsUp}
use Rattle.hmc_laws.proofs.UnsentFlits.{AreGathered}
use Rattle.hmc_delivery.proofs.LineMoves.{line_off}
use Rattle.hmc_delivery.proofs.LandingMoves.{landed_step}
use Rattle.hmc_delivery.proofs.UnlockMoves.{unlocked_step}
use Rattle.hmc_delivery.proofs.Underway.{line_on, begins_with, new_begun, underway-sent, underway-elsewhere, underway-quiet, underway-through}
use Rattle.hmc_laws.proofs.Wired.{Wired, wired, end_cubes}
use Rattle.hmc_delivery.proofs.Seen.{seen, all_seen, kind_by, spot_of, spot_by, request_or, answer_or, hop_queue, comes_from, begins_move, lands, forward_moves, moves_of, moves}
use Rattle.hmc_delivery.proofs.Agreeing.{IsMapOf, EndsAt, IsReal, Agrees, same_hops, if_seen}
use Rattle.hmc_delivery.proofs.Hopping.{queue-more, still_step, RealTo, front_step, host_next, shifted_next, dropped_next, spread_next, lifted_next}

-- ---- executions

same_packet : (k k' : Kind) (h h' c c' : ℕ) (s s' : Spot) (t t' : ℕ) (p p' : Bool) (r r' : RequestFields) (a a' : Answer) → k ≡ k' → h ≡ h' → c ≡ c' → s ≡ s' → t ≡ t' → p ≡ p' → r ≡ r' → a ≡ a'
    → ◌≡◌ {A = Packet} (record { kind = k; host = h; cube = c; spot = s; tag = t; poisoned = p; request = r; answer = a }) (record { kind = k'; host = h'; cube = c'; spot = s'; tag = t'; poisoned = p'; request = r'; answer = a' })
same_packet k k' h h' c c' s s' t t' p p' r r' a a' k_is h_is c_is s_is t_is p_is r_is a_is = cc

reply_asks : (layout : Layout) → family_of_layout layout ≡ families.Reply → is_ask layout ≡ false
reply_asks layouts.Reply is = refl
reply_asks layouts.Ask is = absurd (cc)
reply_asks _ is = refl

no_request_in : (packet : PacketFields) → family_of packet.command ≡ families.Reply → request_in packet ≡ None
unfolding request_in
no_request_in packet is = rw (reply_asks (layout_of packet.command) is) refl

-- the answer of a request, as it is seen
reply_seen : (topology : Topology) (front : PacketFields) (answer : Answer) (tag host cube : ℕ) → CanReply answer → IsAnswer answer → family_of (reply_packet answer tag host cube).command ≡ families.Reply → tag ≡ front.tag → host ≡ front.slid → cube ≡ front.cube
    → seen topology (reply_packet answer tag host cube) ≡ reply_to (seen topology front) answer
unfolding seen
reply_seen topology front answer tag host cube can fits replies tag_is host_is cube_is =
    let p = reply_packet answer tag host cube in
    let none = no_request_in p replies in
    same_packet (kind_by (family_of p.command) (is_posted p.command)) kinds.Replies p.slid front.slid p.cube front.cube (spot_by topology (request_in p)) spots.Registers p.tag front.tag p.poisoned false (request_or (request_in p)) no_request (answer_or (answer_in p)) answer
    (ap (λ (f : Family). kind_by f (is_posted p.command)) replies) (replied_slid answer tag host cube can ∙ host_is) (replied_cube answer tag host cube can ∙ cube_is) (ap (spot_by topology) none)
    (replied_tag answer tag host cube can ∙ tag_is) (clean_reply answer tag host cube) (ap request_or none) (ap answer_or (answer_in-reply_packet answer tag host cube can fits))

pub unit_hop : (topology : Topology) (unit : RequestUnit) → hop_queue topology (queue_of unit) ≡ hops.UnitQueue (unit_cube unit) (spot_of unit)
unit_hop topology (units.Bank cube vault bank) = refl
unit_hop topology (units.Registers cube) = refl

answers_hop : (topology : Topology) (unit : RequestUnit) → hop_queue topology (answers_of unit) ≡ hops.Answers (unit_cube unit) (lift_of (spot_of unit))
answers_hop topology (units.Bank cube vault bank) = refl
answers_hop topology (units.Registers cube) = refl

pub unit_real : (topology : Topology) (unit : RequestUnit) → IsReal topology (queue_of unit)
unit_real topology (units.Bank cube vault bank) = tt
unit_real topology (units.Registers cube) = tt

answers_real : (topology : Topology) (unit : RequestUnit) → IsReal topology (answers_of unit)
answers_real topology (units.Bank cube vault bank) = tt
answers_real topology (units.Registers cube) = tt

no_line_answer : (kind : Kind) (cube : ℕ) (spot : Spot) (d : ℕ) → is_at_hop (answer_queue kind cube spot) (hops.Line d) ≡ false
no_line_answer kinds.Asks cube spot d = refl
no_line_answer kinds.Posts cube spot d = refl
no_line_answer kinds.Replies cube spot d = refl
no_line_answer kinds.Returns cube spot d = refl

-- what enters the queue of answers
reply_enters : (topology : Topology) (unit : RequestUnit) (q : QueueId) (kind : Kind) (posted : Bool) (reply : PacketFields) (x : Packet) → Wired topology → IsReal topology q → kind ≡ kind_by families.Ask posted → (posted ≡ false → seen topology reply ≡ x)
    → hop_if (is_at (unless_posted posted (answers_of unit)) q) (seen topology reply) ≡ hop_if (is_at_hop (answer_queue kind (unit_cube unit) (spot_of unit)) (hop_queue topology q)) x
reply_enters topology unit q kind true reply x wires real kind_is same = sym (ap (λ (k : Kind). hop_if (is_at_hop (answer_queue k (unit_cube unit) (spot_of unit)) (hop_queue topology q)) x) kind_is)
reply_enters topology unit q kind false reply x wires real kind_is same =
    ap₂ (λ (b : Bool) (y : Packet). hop_if b y)
    (same_hops topology (answers_of unit) q wires (answers_real topology unit) real ∙ ap (λ a. same_hop a (hop_queue topology q)) (answers_hop topology unit)) (same refl)
    ∙ sym (ap (λ (k : Kind). hop_if (is_at_hop (answer_queue k (unit_cube unit) (spot_of unit)) (hop_queue topology q)) x) kind_is)

executed_step : (setup : Setup) (m : Map) (past : List Entry) (moved : List Move) (unit : RequestUnit) (host : ℕ) (tag : Option ℕ) (request : RequestFields) (answer : Answer) → IsNetwork setup → Wired setup.topology → Kept setup past → Agrees setup.topology m past moved
    → HasExecuted setup past unit host tag request answer
    → Agrees setup.topology m (Executed unit host tag request answer ∷ past) (Executes (unit_cube unit) (spot_of unit) 0 (seen setup.topology (front_of (contents setup.topology past (queue_of unit)))) answer ∷ moved)
unfolding entering hop_contents leaves enters seen
executed_step setup m past moved unit host tag request answer network wires keeps agrees has =
    let t = setup.topology in
    let entry = Executed unit host tag request answer in
    let front = front_of (contents t past (queue_of unit)) in
    let front_same : front ≡ has.at.front = front_is setup past (queue_of unit) has.at in
    let run = runs_request setup past unit host tag request answer has keeps in
    let parts = request_of_packet has.at.front request has.is_request in
    let reply = reply_packet answer (tag_number tag) host request.cube in
    let kind_is : (seen t has.at.front).kind ≡ kind_by families.Ask (is_posted request.command) = ap₂ (λ (f : Family) (b : Bool). kind_by f b) run.asking.asks (ap is_posted (sym parts.command)) in
    let replied = λ (answered : is_posted request.command ≡ false).
    (let sent = sends setup past unit host tag request answer has keeps answered in
    let leaving = executed_reply setup past unit host tag request answer network has keeps answered in
    reply_seen t has.at.front answer (tag_number tag) host request.cube sent.carried sent.fits leaving.replying.replies (reply_tag (is_posted request.command) tag has.at.front.tag answered has.is_tag) has.is_host parts.cube) in
    subst (λ (p : PacketFields). Agrees t m (entry ∷ past) (Executes (unit_cube unit) (spot_of unit) 0 (seen t p) answer ∷ moved)) (sym front_same)
    (record {
      queues = λ q real.
          queue-more setup entry past q (same_hop (hops.UnitQueue (unit_cube unit) (spot_of unit)) (hop_queue t q))
          (hop_if (is_at_hop (answer_queue (seen t has.at.front).kind (unit_cube unit) (spot_of unit)) (hop_queue t q)) (reply_to (seen t has.at.front) answer)) (hop_contents m moved (hop_queue t q)) has tt keeps.within
          (same_hops t (queue_of unit) q wires (unit_real t unit) real ∙ ap (λ a. same_hop a (hop_queue t q)) (unit_hop t unit))
          (ap (map (seen t)) (arrived_is (unless_posted (is_posted request.command) (answers_of unit)) (λ _. reply) q) ∙ if_seen t (is_at (unless_posted (is_posted request.command) (answers_of unit)) q) (λ _. reply)
          ∙ reply_enters t unit q (seen t has.at.front).kind (is_posted request.command) reply (reply_to (seen t has.at.front) answer) wires real kind_is replied)
          (agrees.queues q real);
      lines = λ d.
          ap (map (seen t)) (underway-quiet t d entry past tt tt tt) ∙ agrees.lines d
          ∙ sym (ap (λ (b : Bool). hop_contents m moved (hops.Line d) ++ hop_if b (reply_to (seen t has.at.front) answer)) (no_line_answer (seen t has.at.front).kind (unit_cube unit) (spot_of unit) d)
          ∙ append-nil (hop_contents m moved (hops.Line d)));
    })

-- ---- what comes from outside

gave_step : (setup : Setup) (m : Map) (past : List Entry) (moved : List Move) (entry : Entry) (place : Place) (packet : PacketFields) (d : ℕ) → Wired setup.topology → Kept setup past → Agrees setup.topology m past moved → EntryRule setup past entry → HasBegun setup past entry
    → leaves past entry ≡ None → arrives setup.topology past entry ≡ arrival_in (output_from setup.topology place) (λ _. packet) → direction_from setup.topology place ≡ Some d → ((e : ℕ) → line_on setup.topology e (entry ∷ past) ≡ line_on setup.topology e past)
    → Agrees setup.topology m (entry ∷ past) (Comes (hops.Output d) (seen setup.topology packet) ∷ moved)
unfolding entering hop_contents
gave_step setup m past moved entry place packet d wires keeps agrees right begun leaves_is arrives_is starts under =
    let t = setup.topology in
    let x = seen t packet in record {
      queues = λ q real.
          queue-more setup entry past q false (hop_if (same_hop (hops.Output d) (hop_queue t q)) x) (hop_contents m moved (hop_queue t q)) right begun keeps.within (ap (λ (o : Option QueueId). is_at o q) leaves_is)
          (ap (λ a. map (seen t) (arrived q a)) arrives_is ∙ ap (map (seen t)) (arrived_is (output_from t place) (λ _. packet) q) ∙ if_seen t (is_at (output_from t place) q) (λ _. packet)
          ∙ ap (λ (o : Option ℕ). hop_if (is_at (option_map queues.Output o) q) x) starts ∙ ap (λ (b : Bool). hop_if b x) (same_hops t (queues.Output d) q wires tt real))
          (agrees.queues q real);
      lines = λ e. ap (map (seen t)) (under e) ∙ agrees.lines e ∙ sym (append-nil (hop_contents m moved (hops.Line e)));
    }

-- ---- sends

-- what a send adds to a line
added : (topology : Topology) (d e : ℕ) (as_what : What) (flit : List ℕ) (past : List Entry) (same : Bool) → (d == e) ≡ same → IsKept (sizes_on topology d) (entries_on topology d (Sent d as_what flit ∷ past)) → AreGathered topology past → IsUp topology d past
    → map (seen topology) (line_on topology e (Sent d as_what flit ∷ past))
    ≡ map (seen topology) (line_on topology e past) ++ (if same then map (seen topology) (begins_with as_what (awaits_first d past) (unsent d past) (front_of (contents topology past (queues.Output d)))) else [])
added topology d e as_what flit past false is keeps gathered up = ap (map (seen topology)) (underway-elsewhere topology e d as_what flit past is) ∙ sym (append-nil (map (seen topology) (line_on topology e past)))
added topology d e as_what flit past true is keeps gathered up =
    let begun = begins_with as_what (awaits_first d past) (unsent d past) (front_of (contents topology past (queues.Output d))) in
    let here : map (seen topology) (line_on topology d (Sent d as_what flit ∷ past)) ≡ map (seen topology) (line_on topology d past) ++ map (seen topology) begun =
    sym (all_seen topology (line_on topology d (Sent d as_what flit ∷ past))) ∙ ap (map (seen topology)) (underway-sent topology d as_what flit past keeps gathered up)
    ∙ map-append (seen topology) (map unnumbered (line_on topology d past)) (map unnumbered begun) ∙ ap₂ (λ (l k : List Packet). l ++ k) (all_seen topology (line_on topology d past)) (all_seen topology begun) in
    subst (λ (n : ℕ). map (seen topology) (line_on topology n (Sent d as_what flit ∷ past)) ≡ map (seen topology) (line_on topology n past) ++ map (seen topology) begun) (eqb-true d e is) here

one_if_same : (topology : Topology) (same : Bool) (packet : PacketFields) → (if same then map (seen topology) (packet ∷ []) else []) ≡ hop_if same (seen topology packet)
one_if_same topology true packet = refl
one_if_same topology false packet = refl

none_if : (same : Bool) (list : List Packet) → list ≡ [] → (if same then list else []) ≡ []
none_if true list is = is
none_if false list is = refl

-- a flit of a packet under way
begins_not : (setup : Setup) (m : Map) (past : List Entry) (moved : List Move) (d : ℕ) (flit : List ℕ) (waiting : Bool) (n : ℕ) → Kept setup past → Kept setup (Sent d what.New flit ∷ past) → Agrees setup.topology m past moved → EntryRule setup past (Sent d what.New flit)
    → HasBegun setup past (Sent d what.New flit) → awaits_first d past ≡ waiting → unsent d past ≡ n → begins waiting n d ≡ None → new_begun waiting n (front_of (contents setup.topology past (queues.Output d))) ≡ [] → Agrees setup.topology m (Sent d what.New flit ∷ past) moved
unfolding entering leaves enters
begins_not setup m past moved d flit waiting n keeps now agrees right begun waits is none new =
    let t = setup.topology in
    still_step setup m past moved (Sent d what.New flit) agrees right begun keeps.within (ap₂ (λ (b : Bool) (k : ℕ). begins b k d) waits is ∙ none) (λ q. refl)
    (λ e. added t d e what.New flit past (d == e) refl (now.links (d / 2)) keeps.gathered (keeps.up d)
    ∙ ap (λ l. map (seen t) (line_on t e past) ++ l)
    (none_if (d == e) (map (seen t) (new_begun (awaits_first d past) (unsent d past) (front_of (contents t past (queues.Output d)))))
    (ap (map (seen t)) (ap₂ (λ (b : Bool) (k : ℕ). new_begun b k (front_of (contents t past (queues.Output d)))) waits is ∙ new)))
    ∙ append-nil (map (seen t) (line_on t e past)))

begin_step : (setup : Setup) (m : Map) (past : List Entry) (moved : List Move) (d : ℕ) (flit : List ℕ) (waiting : Bool) (n : ℕ) → Wired setup.topology → Kept setup past → Kept setup (Sent d what.New flit ∷ past) → Agrees setup.topology m past moved → EntryRule setup past (Sent d what.New flit)
    → HasBegun setup past (Sent d what.New flit) → awaits_first d past ≡ waiting → unsent d past ≡ n → Agrees setup.topology m (Sent d what.New flit ∷ past) (begins_move setup.topology past d waiting n ++ moved)
unfolding entering hop_contents leaves enters
begin_step setup m past moved d flit false zero wires keeps now agrees right begun waits is =
    let t = setup.topology in
    let front = front_of (contents t past (queues.Output d)) in
    let x = seen t front in record {
      queues = λ q real.
          queue-more setup (Sent d what.New flit) past q (same_hop (hops.Output d) (hop_queue t q)) (hop_if (same_hop (hops.Line d) (hop_queue t q)) x) (hop_contents m moved (hop_queue t q)) right begun keeps.within
          (ap₂ (λ (b : Bool) (n : ℕ). is_at (begins b n d) q) waits is ∙ same_hops t (queues.Output d) q wires tt real) (sym (ap (λ (b : Bool). hop_if b x) (line_off t q d))) (agrees.queues q real);
      lines = λ e.
          added t d e what.New flit past (d == e) refl (now.links (d / 2)) keeps.gathered (keeps.up d)
          ∙ ap₂ (λ (l k : List Packet). l ++ k) (agrees.lines e) (ap₂ (λ (b : Bool) (n : ℕ). if d == e then map (seen t) (new_begun b n front) else []) waits is ∙ one_if_same t (d == e) front);
    }
begin_step setup m past moved d flit false (suc n) wires keeps now agrees right begun waits is = begins_not setup m past moved d flit false (suc n) keeps now agrees right begun waits is refl refl
begin_step setup m past moved d flit true n wires keeps now agrees right begun waits is = begins_not setup m past moved d flit true n keeps now agrees right begun waits is refl refl

tret_step : (setup : Setup) (m : Map) (past : List Entry) (moved : List Move) (d : ℕ) (flit : List ℕ) → Wired setup.topology → Kept setup past → Kept setup (Sent d what.Tret flit ∷ past) → Agrees setup.topology m past moved → EntryRule setup past (Sent d what.Tret flit)
    → Agrees setup.topology m (Sent d what.Tret flit ∷ past) (Comes (hops.Line d) (seen setup.topology tret_packet) ∷ moved)
unfolding entering hop_contents leaves enters
tret_step setup m past moved d flit wires keeps now agrees right =
    let t = setup.topology in
    let x = seen t tret_packet in record {
      queues = λ q real.
          queue-more setup (Sent d what.Tret flit) past q false (hop_if (same_hop (hops.Line d) (hop_queue t q)) x) (hop_contents m moved (hop_queue t q)) right tt keeps.within refl (sym (ap (λ (b : Bool). hop_if b x) (line_off t q d))) (agrees.queues q real);
      lines = λ e.
          added t d e what.Tret flit past (d == e) refl (now.links (d / 2)) keeps.gathered (keeps.up d) ∙ ap₂ (λ (l k : List Packet). l ++ k) (agrees.lines e) (one_if_same t (d == e) tret_packet);
    }

-- a flit that begins no packet
abbrev BeginsNone : What → Type 0
BeginsNone what.New = ⊥
BeginsNone what.Tret = ⊥
BeginsNone _ = Unit {0}

begins_none : (as_what : What) (waiting : Bool) (n : ℕ) (front : PacketFields) → BeginsNone as_what → begins_with as_what waiting n front ≡ []
begins_none what.New waiting n front none = absurd none
begins_none what.Tret waiting n front none = absurd none
begins_none _ waiting n front none = refl

leaves_none : (d : ℕ) (as_what : What) (flit : List ℕ) (past : List Entry) → BeginsNone as_what → leaves past (Sent d as_what flit) ≡ None
unfolding leaves
leaves_none d what.New flit past none = absurd none
leaves_none d what.Tret flit past none = absurd none
leaves_none d _ flit past none = refl

begun_none : (setup : Setup) (d : ℕ) (as_what : What) (flit : List ℕ) (past : List Entry) → BeginsNone as_what → HasBegun setup past (Sent d as_what flit)
begun_none setup d what.New flit past none = absurd none
begun_none setup d what.Tret flit past none = absurd none
begun_none setup d _ flit past none = tt

flit_step : (setup : Setup) (m : Map) (past : List Entry) (moved : List Move) (d : ℕ) (as_what : What) (flit : List ℕ) → Kept setup past → Kept setup (Sent d as_what flit ∷ past) → Agrees setup.topology m past moved → EntryRule setup past (Sent d as_what flit) → BeginsNone as_what
    → Agrees setup.topology m (Sent d as_what flit ∷ past) moved
unfolding entering enters
flit_step setup m past moved d as_what flit keeps now agrees right none =
    let t = setup.topology in
    let front = front_of (contents t past (queues.Output d)) in
    still_step setup m past moved (Sent d as_what flit) agrees right (begun_none setup d as_what flit past none) keeps.within (leaves_none d as_what flit past none) (λ q. refl)
    (λ e. added t d e as_what flit past (d == e) refl (now.links (d / 2)) keeps.gathered (keeps.up d)
    ∙ ap (λ l. map (seen t) (line_on t e past) ++ l) (none_if (d == e) (map (seen t) (begins_with as_what (awaits_first d past) (unsent d past) front)) (ap (map (seen t)) (begins_none as_what (awaits_first d past) (unsent d past) front none)))
    ∙ append-nil (map (seen t) (line_on t e past)))

-- ---- every entry

pub at_end : (topology : Topology) (place : Place) (packet : PacketFields) → IsAtEnd topology place packet → EndsAt topology place
at_end topology place packet came = record { direction = came.direction; inside = came.inside; ends = came.ends }

real_output : (topology : Topology) (found : Option ℕ) → RealTo topology (option_map queues.Output found)
real_output topology None = tt
real_output topology (Some d) = tt

real_goal : (topology : Topology) (cube : ℕ) (goal : Goal) → RealTo topology (goal_queue topology cube goal)
real_goal topology cube (goals.Vault vault) = tt
real_goal topology cube goals.Registers = tt
real_goal topology cube (goals.Port port) = real_output topology (direction_from topology (places.Port cube port))

-- the front, as the rule of an entry has it
front_next : (setup : Setup) (m : Map) (past : List Entry) (p : QueueId) (at : HasFront setup past p) (to : Option HopQueue) → next_queue m (hop_queue setup.topology p) (seen setup.topology at.front) ≡ to
    → next_queue m (hop_queue setup.topology p) (seen setup.topology (front_of (contents setup.topology past p))) ≡ to
front_next setup m past p at to is = ap (λ (x : PacketFields). next_queue m (hop_queue setup.topology p) (seen setup.topology x)) (front_is setup past p at) ∙ is

agrees_more : (setup : Setup) (m : Map) (past : List Entry) (moved : List Move) (entry : Entry) → IsNetwork setup → Wired setup.topology → IsMapOf setup.topology m → Kept setup past → Kept setup (entry ∷ past) → Agrees setup.topology m past moved → EntryRule setup past entry
    → Agrees setup.topology m (entry ∷ past) (moves_of setup.topology past entry ++ moved)
unfolding moves_of leaves enters entering
agrees_more setup m past moved (Gave host tag poisoned request) network wires map_of keeps now agrees right =
    let t = setup.topology in
    let packet = request_packet request (tag_number tag) host poisoned in
    let to = has_direction t (view_of setup past) (places.Host host) right.room in
    subst (λ (o : Option ℕ). Agrees t m (Gave host tag poisoned request ∷ past) (comes_from t o packet ++ moved)) (sym to.1)
    (gave_step setup m past moved (Gave host tag poisoned request) (places.Host host) packet to.0 wires keeps agrees right tt refl refl to.1 (λ e. underway-quiet t e (Gave host tag poisoned request) past tt tt tt))
agrees_more setup m past moved (Sent d what.New flit) network wires map_of keeps now agrees right = begin_step setup m past moved d flit (awaits_first d past) (unsent d past) wires keeps now agrees right (has_begun setup past (Sent d what.New flit) right keeps) refl refl
agrees_more setup m past moved (Sent d what.Tret flit) network wires map_of keeps now agrees right = tret_step setup m past moved d flit wires keeps now agrees right
agrees_more setup m past moved (Sent d what.Train flit) network wires map_of keeps now agrees right = flit_step setup m past moved d what.Train flit keeps now agrees right tt
agrees_more setup m past moved (Sent d what.Clear flit) network wires map_of keeps now agrees right = flit_step setup m past moved d what.Clear flit keeps now agrees right tt
agrees_more setup m past moved (Sent d what.Start flit) network wires map_of keeps now agrees right = flit_step setup m past moved d what.Start flit keeps now agrees right tt
agrees_more setup m past moved (Sent d what.Null flit) network wires map_of keeps now agrees right = flit_step setup m past moved d what.Null flit keeps now agrees right tt
agrees_more setup m past moved (Sent d what.Pret flit) network wires map_of keeps now agrees right = flit_step setup m past moved d what.Pret flit keeps now agrees right tt
agrees_more setup m past moved (Sent d what.Again flit) network wires map_of keeps now agrees right = flit_step setup m past moved d what.Again flit keeps now agrees right tt
agrees_more setup m past moved (Landed d flit outcome) network wires map_of keeps now agrees right =
    let t = setup.topology in
    let landed = landed_packets t d flit outcome past in
    let forwarded = forwarded_onto t d past in
    subst (Agrees t m (Landed d flit outcome ∷ past)) (sym (append_assoc (forward_moves t past (Landed d flit outcome ∷ past) d outcome forwarded landed) (lands t d landed) moved))
    (landed_step setup m past moved d flit outcome forwarded map_of wires keeps now agrees right refl)
agrees_more setup m past moved (Shifted cube port goal) network wires map_of keeps now agrees right =
    let t = setup.topology in
    let came = front_stands setup past (queues.Port cube port) keeps right.at in
    let at = at_end t (places.Port cube port) right.at.front came in
    front_step setup m past moved (Shifted cube port goal) (queues.Port cube port) (goal_queue t cube goal) wires agrees right tt keeps.within refl refl at (real_goal t cube goal)
    (front_next setup m past (queues.Port cube port) right.at (option_map (hop_queue t) (goal_queue t cube goal)) (shifted_next setup m past cube port goal map_of wires at right came.goes)) (λ e. underway-quiet t e (Shifted cube port goal) past tt tt tt)
agrees_more setup m past moved (Dropped cube port) network wires map_of keeps now agrees right =
    let t = setup.topology in
    let came = front_stands setup past (queues.Port cube port) keeps right.at in
    let at = at_end t (places.Port cube port) right.at.front came in
    front_step setup m past moved (Dropped cube port) (queues.Port cube port) None wires agrees right tt keeps.within refl refl at tt
    (front_next setup m past (queues.Port cube port) right.at None (dropped_next setup m past cube port map_of wires at (end_cubes t wires came.direction cube port came.inside came.ends) right came.goes)) (λ e. underway-quiet t e (Dropped cube port) past tt tt tt)
agrees_more setup m past moved (Spread cube vault bank) network wires map_of keeps now agrees right =
    let t = setup.topology in
    front_step setup m past moved (Spread cube vault bank) (queues.Vault cube vault) (Some (queues.Bank cube vault bank)) wires agrees right tt keeps.within refl refl tt tt
    (front_next setup m past (queues.Vault cube vault) right.at (Some (hops.UnitQueue cube (spots.Bank vault bank))) (spread_next setup m past cube vault bank right (front_stands setup past (queues.Vault cube vault) keeps right.at))) (λ e. underway-quiet t e (Spread cube vault bank) past tt tt tt)
agrees_more setup m past moved (Executed unit host tag request answer) network wires map_of keeps now agrees right = executed_step setup m past moved unit host tag request answer network wires keeps agrees right
agrees_more setup m past moved (Lifted cube from port) network wires map_of keeps now agrees right =
    let t = setup.topology in
    front_step setup m past moved (Lifted cube from port) (queues.Answers cube from) (output_from t (places.Port cube port)) wires agrees right tt keeps.within refl refl tt (real_output t (direction_from t (places.Port cube port)))
    (front_next setup m past (queues.Answers cube from) right.at (option_map (hop_queue t) (output_from t (places.Port cube port))) (lifted_next setup m past cube from port map_of right)) (λ e. underway-quiet t e (Lifted cube from port) past tt tt tt)
agrees_more setup m past moved (Took host tag answer) network wires map_of keeps now agrees right =
    let t = setup.topology in
    let at = at_end t (places.Host host) right.at.front (front_stands setup past (queues.Host host) keeps right.at) in
    front_step setup m past moved (Took host tag answer) (queues.Host host) None wires agrees right tt keeps.within refl refl at tt
    (host_next t m host (seen t (front_of (contents t past (queues.Host host)))) map_of wires at) (λ e. underway-quiet t e (Took host tag answer) past tt tt tt)
agrees_more setup m past moved (Discarded host) network wires map_of keeps now agrees right =
    let t = setup.topology in
    let at = at_end t (places.Host host) right.at.front (front_stands setup past (queues.Host host) keeps right.at) in
    front_step setup m past moved (Discarded host) (queues.Host host) None wires agrees right tt keeps.within refl refl at tt
    (host_next t m host (seen t (front_of (contents t past (queues.Host host)))) map_of wires at) (λ e. underway-quiet t e (Discarded host) past tt tt tt)
agrees_more setup m past moved (Unlocked d) network wires map_of keeps now agrees right = unlocked_step setup m past moved d (nat_lt d (directions_in setup.topology)) wires keeps agrees refl
agrees_more setup m past moved (Passed direction flit) network wires map_of keeps now agrees right =
    still_step setup m past moved (Passed direction flit) agrees right tt keeps.within refl (λ q. refl) (λ e. ap (map (seen setup.topology)) (underway-quiet setup.topology e (Passed direction flit) past tt tt tt))
agrees_more setup m past moved (Through cube port direction) network wires map_of keeps now agrees right =
    still_step setup m past moved (Through cube port direction) agrees right tt keeps.within refl (λ q. refl)
    (λ e. ap (map (seen setup.topology)) (underway-through setup.topology e cube port direction past (through_of setup past cube port direction right) (now.links (e / 2))))
agrees_more setup m past moved (Retired slot) network wires map_of keeps now agrees right =
    still_step setup m past moved (Retired slot) agrees right tt keeps.within refl (λ q. refl) (λ e. ap (map (seen setup.topology)) (underway-quiet setup.topology e (Retired slot) past tt tt tt))
agrees_more setup m past moved (Idle step cause) network wires map_of keeps now agrees right =
    still_step setup m past moved (Idle step cause) agrees right tt keeps.within refl (λ q. refl) (λ e. ap (map (seen setup.topology)) (underway-quiet setup.topology e (Idle step cause) past tt tt tt))

-- nothing is under way before anything was done
none_underway : (topology : Topology) (d : ℕ) → line_on topology d [] ≡ []
unfolding accepted landings.accepted receiver_of link_entries senders.places sender_entries pipe_onto
none_underway topology d = refl

-- the queues of a lawful journal hold what they hold after its moves
pub agrees : (setup : Setup) (m : Map) (past : List Entry) → IsNetwork setup → IsMapOf setup.topology m → Lawful setup past → Agrees setup.topology m past (moves setup.topology past)
unfolding moves contents left entered hop_contents
agrees setup m [] network map_of lawful = record { queues = λ q real. refl; lines = λ d. ap (map (seen setup.topology)) (none_underway setup.topology d) }
agrees setup m (entry ∷ past) network map_of lawful =
    let before = lawful_past setup entry past lawful in
    agrees_more setup m past (moves setup.topology past) entry network (wired setup network) map_of (kept setup past network before) (kept setup (entry ∷ past) network lawful) (agrees setup m past network map_of before) (entry_rule setup entry past lawful)
