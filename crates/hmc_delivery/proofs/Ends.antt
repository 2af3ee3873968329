-- The ends of the way of an answer: what left a queue of answers is the first of what was executed
-- into it, and what a host took is the first of what packets carried to it.
use Rattle.std.proofs.Common.{◌≡◌, ◌<◌, ◌∙◌, ◌==◌, ◌&&◌, ℕ, zero, suc, Bool, true, false, not, if◌then◌else◌, Option, Some, None, List, [], ◌∷◌, ◌++◌, All, length, take, filter, refl, sym, ap, subst, eqb-true, append-nil}
use Rattle.std.specs.Prelude.{option_map}
use Rattle.std.proofs.lemmas.List.Elements.{All-head}
use Rattle.hmc_codes.specs.Commands.{is_posted}
use Rattle.hmc_codes.specs.Request.{RequestFields}
use Rattle.hmc_codes.specs.declared.answer.Answer.{Answer}
use Rattle.hmc_codes.specs.declared.lift.Lift.{Lift}
use Rattle.hmc_codes.specs.declared.place.Place.{Place}
use Rattle.hmc_codes.specs.declared.place.Place.TheVariants as places
use Rattle.hmc_codes.specs.declared.unit.Unit.{Unit as RequestUnit}
use Rattle.hmc_codes.specs.declared.unit.Unit.TheVariants as units
use Rattle.hmc_packet.specs.Packet.{PacketFields}
use Rattle.hmc_packet.specs.Transactions.{reply_packet, answer_in}
use Rattle.hmc_packet.specs.declared.what.What.{What}
use Rattle.hmc_packet.specs.declared.what.What.TheVariants.{New}
use Rattle.hmc_packet.proofs.TransactionLemmas.{answer_in-reply_packet}
use Rattle.hmc_send.specs.Places.{is_token}
use Rattle.hmc_journal.specs.Carried.{tagged_answer, tagged_answers, tagged_answers_gone}
use Rattle.hmc_journal.specs.Choice.{append_if}
use Rattle.hmc_journal.specs.Delivered.{IsPrefix, accepted_on, accepted_by}
use Rattle.hmc_journal.specs.Directions.{unsent, awaits_first, landed_packets, accepted}
use Rattle.hmc_journal.specs.Piped.{goes_on, forwarded_onto}
use Rattle.hmc_entries.specs.declared.entry.Entry.{Entry}
use Rattle.hmc_entries.specs.declared.entry.Entry.TheVariants.{Gave, Sent, Landed, Shifted, Executed, Lifted, Took, Discarded}
use Rattle.hmc_entries.specs.declared.outcome.Goal.{Goal}
use Rattle.hmc_entries.specs.declared.outcome.Goal.TheVariants as goals
use Rattle.hmc_journal.specs.Filters.{TaggedAnswer, answered_into, taken_by}
use Rattle.hmc_journal.specs.Lawful.{Lawful}
use Rattle.hmc_journal.specs.Links.{direction_to}
use Rattle.hmc_journal.specs.Network.{IsNetwork}
use Rattle.hmc_journal.specs.Queues.{QueueId, same_queue, is_at, buffer_at, landing_buffer, unless_gone, leaves, enters, answers_of, unless_posted, queue_of, goal_queue, output_from, tag_number, front_of, packet_if, arrival_in, arrived, left, entered, contents}
use Rattle.hmc_journal.specs.Queues.QueueId.{Host, Answers}
use Rattle.hmc_journal.specs.Setup.{Topology, Setup, joins_of, directions_in, other, end_of, direction_from}
use Rattle.hmc_journal.proofs.EntryRule.{EntryRule, HasExecuted, HasTaken, HasDiscarded, entry_rule, lawful_past}
use Rattle.hmc_journal.proofs.Moves.{append_if-append, arrives, arrived_first, arrived_off, begins_off, entered-more, entering, front_is, gone, gone-contents, gone-more, leaving, output_off}
use Rattle.hmc_laws.proofs.Standing.{IsAtEnd, clean_reply, replied_tag}
use Rattle.hmc_laws.proofs.Entering.{Kept, front_stands, sends}
use Rattle.hmc_journal.proofs.Joins.{other_inside, start_is_end}
use Rattle.hmc_laws.proofs.Sound.{kept}
use Rattle.hmc_laws.proofs.SoundSends.{has_begun}
use Rattle.hmc_delivery.proofs.TagsOut.{discards_poison}
use Rattle.hmc_delivery.proofs.Views.{takings_none, takings_append, takings_of_tokens}
use Rattle.hmc_laws.proofs.Wired.{Wired, wired, ends_there}

-- an unpoisoned answer, with its tag
takings_of : (packet : PacketFields) (answer : Answer) → packet.poisoned ≡ false → answer_in packet ≡ Some answer → tagged_answers (packet ∷ []) ≡ record { tag = packet.tag; answer = answer } ∷ []
unfolding tagged_answers
takings_of packet answer clean is =
    ap (λ (a : Option Answer). tagged_answer packet a ++ []) is ∙ ap (λ (b : Bool). (if b then [] else record { tag = packet.tag; answer = answer } ∷ []) ++ []) clean

-- ---- a queue of answers

replied_takings : (setup : Setup) (past : List Entry) (unit : RequestUnit) (host : ℕ) (tag : Option ℕ) (request : RequestFields) (answer : Answer) → HasExecuted setup past unit host tag request answer → Kept setup past
    → is_posted request.command ≡ false → tagged_answers (reply_packet answer (tag_number tag) host request.cube ∷ []) ≡ record { tag = tag_number tag; answer = answer } ∷ []
replied_takings setup past unit host tag request answer has keeps answered =
    let sent = sends setup past unit host tag request answer has keeps answered in
    takings_of (reply_packet answer (tag_number tag) host request.cube) answer (clean_reply answer (tag_number tag) host request.cube) (answer_in-reply_packet answer (tag_number tag) host request.cube sent.carried sent.fits)
    ∙ ap (λ (n : ℕ). record { tag = n; answer = answer } ∷ []) (replied_tag answer (tag_number tag) host request.cube sent.carried)

takings_if : (here : Bool) (packet : PacketFields) (more : List TaggedAnswer) → tagged_answers (packet ∷ []) ≡ more → tagged_answers (packet_if here (λ _. packet)) ≡ append_if here more []
takings_if true packet more is = is
takings_if false packet more is = takings_none

answer_enters : (setup : Setup) (past : List Entry) (unit : RequestUnit) (host : ℕ) (tag : Option ℕ) (request : RequestFields) (answer : Answer) (queue : QueueId) (posted : Bool) → HasExecuted setup past unit host tag request answer → Kept setup past
    → is_posted request.command ≡ posted
    → tagged_answers (arrived queue (arrival_in (unless_posted posted (answers_of unit)) (λ _. reply_packet answer (tag_number tag) host request.cube)))
    ≡ append_if (not posted && same_queue (answers_of unit) queue) (record { tag = tag_number tag; answer = answer } ∷ []) []
answer_enters setup past unit host tag request answer queue true has keeps is = takings_none
answer_enters setup past unit host tag request answer queue false has keeps is =
    takings_if (same_queue (answers_of unit) queue) (reply_packet answer (tag_number tag) host request.cube) (record { tag = tag_number tag; answer = answer } ∷ []) (replied_takings setup past unit host tag request answer has keeps is)

executed_answers : (setup : Setup) (past : List Entry) (unit : RequestUnit) (host : ℕ) (tag : Option ℕ) (request : RequestFields) (answer : Answer) (queue : QueueId) → HasExecuted setup past unit host tag request answer → Kept setup past
    → answered_into queue (Executed unit host tag request answer ∷ past) ≡ answered_into queue past ++ tagged_answers (entering setup.topology past (Executed unit host tag request answer) queue)
unfolding answered_into entering enters
executed_answers setup past unit host tag request answer queue has keeps =
    append_if-append (not (is_posted request.command) && same_queue (answers_of unit) queue) (record { tag = tag_number tag; answer = answer } ∷ []) (answered_into queue past)
    ∙ ap (λ (l : List TaggedAnswer). answered_into queue past ++ l) (sym (answer_enters setup past unit host tag request answer queue (is_posted request.command) has keeps refl))

none_answers : (topology : Topology) (past : List Entry) (entry : Entry) (queue : QueueId) → arrived queue (arrives topology past entry) ≡ [] → answered_into queue past ≡ answered_into queue past ++ tagged_answers (entering topology past entry queue)
unfolding entering
none_answers topology past entry queue off =
    sym (append-nil (answered_into queue past)) ∙ ap (λ (l : List TaggedAnswer). answered_into queue past ++ l) (sym (ap tagged_answers off ∙ takings_none))

buffer_not_answers : (place : Place) (cube : ℕ) (from : Lift) → same_queue (buffer_at place) (Answers cube from) ≡ false
buffer_not_answers (places.Host host) cube from = refl
buffer_not_answers (places.Port c p) cube from = refl

goal_not_answers : (topology : Topology) (c : ℕ) (goal : Goal) (cube : ℕ) (from : Lift) → is_at (goal_queue topology c goal) (Answers cube from) ≡ false
goal_not_answers topology c (goals.Vault vault) cube from = refl
goal_not_answers topology c goals.Registers cube from = refl
goal_not_answers topology c (goals.Port port) cube from = output_off (direction_from topology (places.Port c port)) (Answers cube from) (λ d. refl)

answers-more : (setup : Setup) (cube : ℕ) (from : Lift) (entry : Entry) (past : List Entry) → EntryRule setup past entry → Kept setup past
    → answered_into (Answers cube from) (entry ∷ past) ≡ answered_into (Answers cube from) past ++ tagged_answers (entering setup.topology past entry (Answers cube from))
unfolding answered_into enters
answers-more setup cube from (Executed unit host tag request answer) past right keeps = executed_answers setup past unit host tag request answer (Answers cube from) right keeps
answers-more setup cube from (Landed d flit outcome) past right keeps =
    none_answers setup.topology past (Landed d flit outcome) (Answers cube from) (arrived_first (landing_buffer setup.topology d) (Answers cube from) (unless_gone (goes_on outcome (forwarded_onto setup.topology d past)) (filter is_token (landed_packets setup.topology d flit outcome past))) (buffer_not_answers (end_of setup.topology d) cube from))
answers-more setup cube from (Shifted c here goal) past right keeps = none_answers setup.topology past (Shifted c here goal) (Answers cube from) (arrived_off (goal_queue setup.topology c goal) _ (Answers cube from) (goal_not_answers setup.topology c goal cube from))
answers-more setup cube from (Gave host tag poisoned request) past right keeps =
    none_answers setup.topology past (Gave host tag poisoned request) (Answers cube from) (arrived_off (output_from setup.topology (places.Host host)) _ (Answers cube from) (output_off (direction_from setup.topology (places.Host host)) (Answers cube from) (λ d. refl)))
answers-more setup cube from (Lifted c other out) past right keeps =
    none_answers setup.topology past (Lifted c other out) (Answers cube from) (arrived_off (output_from setup.topology (places.Port c out)) _ (Answers cube from) (output_off (direction_from setup.topology (places.Port c out)) (Answers cube from) (λ d. refl)))
answers-more setup cube from entry past right keeps = none_answers setup.topology past entry (Answers cube from) refl

answers_entered : (setup : Setup) (cube : ℕ) (from : Lift) (past : List Entry) → IsNetwork setup → Lawful setup past → answered_into (Answers cube from) past ≡ tagged_answers (entered setup.topology past (Answers cube from))
unfolding answered_into entered
answers_entered setup cube from [] network lawful = sym takings_none
answers_entered setup cube from (entry ∷ past) network lawful =
    let before = lawful_past setup entry past lawful in
    answers-more setup cube from entry past (entry_rule setup entry past lawful) (kept setup past network before)
    ∙ ap (λ (l : List TaggedAnswer). l ++ tagged_answers (entering setup.topology past entry (Answers cube from))) (answers_entered setup cube from past network before)
    ∙ sym (takings_append (entered setup.topology past (Answers cube from)) (entering setup.topology past entry (Answers cube from)))
    ∙ ap tagged_answers (sym (entered-more setup.topology entry past (Answers cube from)))

-- what left it is the first of what was executed into it
pub lifted_front : (setup : Setup) (past : List Entry) (cube : ℕ) (from : Lift) → IsNetwork setup → Lawful setup past → IsPrefix (tagged_answers_gone setup.topology (Answers cube from) past) (answered_into (Answers cube from) past)
unfolding gone
lifted_front setup past cube from network lawful =
    let queue = Answers cube from in (
      tagged_answers (contents setup.topology past queue),
      answers_entered setup cube from past network lawful ∙ ap tagged_answers (gone-contents setup.topology past queue) ∙ takings_append (gone setup.topology past queue) (contents setup.topology past queue),
    )

-- ---- a host's buffer

took_by : (setup : Setup) (past : List Entry) (host h tag : ℕ) (answer : Answer) (here : Bool) → (host == h) ≡ here → HasTaken setup past host tag answer
    → append_if here (record { tag = tag; answer = answer } ∷ []) (taken_by h past) ≡ taken_by h past ++ tagged_answers (packet_if here (λ _. front_of (contents setup.topology past (Host h))))
took_by setup past host h tag answer false at right = sym (append-nil (taken_by h past)) ∙ ap (λ (l : List TaggedAnswer). taken_by h past ++ l) (sym takings_none)
took_by setup past host h tag answer true at right =
    let front : front_of (contents setup.topology past (Host h)) ≡ right.at.front = ap (λ (n : ℕ). front_of (contents setup.topology past (Host n))) (sym (eqb-true host h at)) ∙ front_is setup past (Host host) right.at in
    ap (λ (n : ℕ). taken_by h past ++ record { tag = n; answer = answer } ∷ []) right.is_tag
    ∙ ap (λ (l : List TaggedAnswer). taken_by h past ++ l) (sym (takings_of right.at.front answer right.unpoisoned right.is_answer) ∙ ap (λ (p : PacketFields). tagged_answers (p ∷ [])) (sym front))

none_taken : (topology : Topology) (past : List Entry) (entry : Entry) (h : ℕ) → is_at (leaves past entry) (Host h) ≡ false → taken_by h past ≡ taken_by h past ++ tagged_answers (leaving topology past entry (Host h))
unfolding leaving
none_taken topology past entry h off =
    sym (append-nil (taken_by h past)) ∙ ap (λ (l : List TaggedAnswer). taken_by h past ++ l) (sym (ap (λ (b : Bool). tagged_answers (packet_if b (λ _. front_of (contents topology past (Host h))))) off ∙ takings_none))

-- a poisoned packet carries no answer
takings_not : (packet : PacketFields) → packet.poisoned ≡ true → tagged_answers (packet ∷ []) ≡ []
unfolding tagged_answers
takings_not packet poisoned = by_found (answer_in packet)
  where
    by_found : (found : Option Answer) → tagged_answer packet found ++ [] ≡ []
    by_found None = refl
    by_found (Some answer) = ap (λ (b : Bool). (if b then [] else record { tag = packet.tag; answer = answer } ∷ []) ++ []) poisoned

discards_none : (setup : Setup) (past : List Entry) (host h : ℕ) (here : Bool) → (host == h) ≡ here → (has : HasDiscarded setup past host) → has.at.front.poisoned ≡ true
    → taken_by h past ≡ taken_by h past ++ tagged_answers (packet_if here (λ _. front_of (contents setup.topology past (Host h))))
discards_none setup past host h false at has poisoned = sym (append-nil (taken_by h past)) ∙ ap (λ (l : List TaggedAnswer). taken_by h past ++ l) (sym takings_none)
discards_none setup past host h true at has poisoned =
    let front : front_of (contents setup.topology past (Host h)) ≡ has.at.front = ap (λ (n : ℕ). front_of (contents setup.topology past (Host n))) (sym (eqb-true host h at)) ∙ front_is setup past (Host host) has.at in
    sym (append-nil (taken_by h past)) ∙ ap (λ (l : List TaggedAnswer). taken_by h past ++ l) (sym (ap (λ (p : PacketFields). tagged_answers (p ∷ [])) front ∙ takings_not has.at.front poisoned))

sent_leaves : (past : List Entry) (d : ℕ) (what : What) (flit : List ℕ) (h : ℕ) → is_at (leaves past (Sent d what flit)) (Host h) ≡ false
unfolding leaves
sent_leaves past d New flit h = begins_off (awaits_first d past) (unsent d past) d (Host h) refl
sent_leaves past d _ flit h = refl

queue_not_host : (unit : RequestUnit) (h : ℕ) → same_queue (queue_of unit) (Host h) ≡ false
queue_not_host (units.Bank c v b) h = refl
queue_not_host (units.Registers c) h = refl

taken-more : (setup : Setup) (h : ℕ) (entry : Entry) (past : List Entry) → EntryRule setup past entry → Kept setup past → taken_by h (entry ∷ past) ≡ taken_by h past ++ tagged_answers (leaving setup.topology past entry (Host h))
unfolding taken_by leaves leaving
taken-more setup h (Took host tag answer) past right keeps = took_by setup past host h tag answer (host == h) refl right
taken-more setup h (Discarded host) past right keeps = discards_none setup past host h (host == h) refl right (discards_poison setup past host right (front_stands setup past (Host host) keeps right.at).goes)
taken-more setup h (Sent d what flit) past right keeps = none_taken setup.topology past (Sent d what flit) h (sent_leaves past d what flit h)
taken-more setup h (Executed unit host tag request answer) past right keeps = none_taken setup.topology past (Executed unit host tag request answer) h (queue_not_host unit h)
taken-more setup h entry past right keeps = none_taken setup.topology past entry h refl

taken_gone : (setup : Setup) (h : ℕ) (past : List Entry) → IsNetwork setup → Lawful setup past → tagged_answers (gone setup.topology past (Host h)) ≡ taken_by h past
unfolding taken_by gone left entered
taken_gone setup h [] network lawful = takings_none
taken_gone setup h (entry ∷ past) network lawful =
    let before = lawful_past setup entry past lawful in
    let right = entry_rule setup entry past lawful in
    let keeps = kept setup past network before in
    ap tagged_answers (gone-more setup entry past right (has_begun setup past entry right keeps) keeps.within (Host h))
    ∙ takings_append (gone setup.topology past (Host h)) (leaving setup.topology past entry (Host h))
    ∙ ap (λ (l : List TaggedAnswer). l ++ tagged_answers (leaving setup.topology past entry (Host h))) (taken_gone setup h past network before)
    ∙ sym (taken-more setup h entry past right keeps)

-- the direction to a host ends there
record IsArriving (topology : Topology) (host d : ℕ) : Type 0 where
  inside : d < directions_in topology
  ends : end_of topology d ≡ places.Host host

arriving_by : (topology : Topology) (host d : ℕ) (found : Option ℕ) → Wired topology → direction_from topology (places.Host host) ≡ found → option_map other found ≡ Some d → IsArriving topology host d
arriving_by topology host d None wires is to = absurd (cc)
arriving_by topology host d (Some e) wires is to =
    let back : other e ≡ d = cc in record {
      inside = subst (λ (n : ℕ). n < directions_in topology) back (other_inside e (length topology.links) (wires.inside (places.Host host) e is));
      ends = ap (end_of topology) (sym back) ∙ sym (start_is_end (joins_of topology) e) ∙ wires.starts (places.Host host) e is;
    }

-- where there is none, nothing came
none_came : (topology : Topology) (host : ℕ) (packets : List PacketFields) → Wired topology → direction_to topology (places.Host host) ≡ None → All (IsAtEnd topology (places.Host host)) packets → packets ≡ []
none_came topology host [] wires none all = refl
none_came topology host (packet ∷ packets) wires none all =
    let at = All-head (IsAtEnd topology (places.Host host)) packet packets all in
    let to : direction_to topology (places.Host host) ≡ Some at.direction = ap (direction_to topology) (sym at.ends) ∙ ends_there topology wires at.direction at.inside in
    let clash : None ≡ Some at.direction = sym none ∙ to in absurd (cc)

take_none : (n : ℕ) (packets : List PacketFields) → packets ≡ [] → take n packets ≡ []
take_none n packets none = ap (take n) none ∙ empty n
  where
    empty : (n : ℕ) → ◌≡◌ {A = List PacketFields} (take n []) []
    empty zero = refl
    empty (suc n) = refl

-- what a host took is the first of what packets carried to it
taken_front_by : (setup : Setup) (past : List Entry) (host : ℕ) (to : Option ℕ) → IsNetwork setup → Lawful setup past → direction_to setup.topology (places.Host host) ≡ to → IsPrefix (taken_by host past) (tagged_answers (accepted_on setup.topology to past))
unfolding gone
taken_front_by setup past host None network lawful to =
    let t = setup.topology in
    let keeps = kept setup past network lawful in
    let none = none_came t host (entered t past (Host host)) (wired setup network) to (keeps.stands (Host host)) in
    let nothing : taken_by host past ≡ [] = sym (taken_gone setup host past network lawful) ∙ ap tagged_answers (take_none (left past (Host host)) (entered t past (Host host)) none) ∙ takings_none in
    (tagged_answers [], ap (λ l. l ++ tagged_answers []) (sym nothing))
taken_front_by setup past host (Some d) network lawful to =
    let t = setup.topology in
    let is = arriving_by t host d (direction_from t (places.Host host)) (wired setup network) refl to in
    let came : entered t past (Host host) ≡ filter is_token (accepted t d past) = ap (λ (p : Place). entered t past (buffer_at p)) (sym is.ends) ∙ ((kept setup past network lawful).ends d is.inside).host host is.ends in (
      tagged_answers (contents t past (Host host)),
      sym (takings_of_tokens (accepted t d past)) ∙ ap tagged_answers (sym came ∙ gone-contents t past (Host host)) ∙ takings_append (gone t past (Host host)) (contents t past (Host host))
          ∙ ap (λ (l : List TaggedAnswer). l ++ tagged_answers (contents t past (Host host))) (taken_gone setup host past network lawful),
    )

pub taken_front : (setup : Setup) (past : List Entry) (host : ℕ) → IsNetwork setup → Lawful setup past → IsPrefix (taken_by host past) (tagged_answers (accepted_by setup.topology host past))
taken_front setup past host network lawful = taken_front_by setup past host (direction_to setup.topology (places.Host host)) network lawful refl
