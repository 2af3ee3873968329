-- What a journal says of each tag of a host is what its moves say.
use Rattle.std.proofs.Common.{◌≡◌, ◌≤◌, ◌∙◌, ◌==◌, ◌&&◌, ℕ, suc, Bool, true, false, not, if◌then◌else◌, Option, Some, List, [], ◌∷◌, ◌++◌, map, length, refl, sym, ap, ap₂, subst}
use Rattle.std.proofs.lemmas.List.{map-append}
use Rattle.hmc_codes.specs.Commands.{is_posted}
use Rattle.hmc_codes.specs.Request.{RequestFields, IsRequest}
use Rattle.hmc_codes.specs.declared.answer.Answer.{Answer}
use Rattle.hmc_codes.specs.declared.family.Family.{Family}
use Rattle.hmc_codes.specs.declared.family.Family.TheVariants as families
use Rattle.hmc_codes.specs.declared.unit.Unit.{Unit as RequestUnit}
use Rattle.hmc_codes.specs.declared.place.Place.TheVariants as places
use Rattle.hmc_packet.specs.Packet.{PacketFields}
use Rattle.hmc_packet.specs.Transactions.{request_packet, request_in, answer_in}
use Rattle.hmc_packet.proofs.TransactionLemmas.{request_in-request_packet}
use Rattle.hmc_packet.specs.declared.what.What.TheVariants as what
use Rattle.hmc_host.specs.Give.{wants_tag}
use Rattle.hmc_host.specs.Tags.{lowest_free}
use Rattle.hmc_hops.specs.Map.{Map, IsMap}
use Rattle.hmc_hops.specs.Moves.{Move, MayAll}
use Rattle.hmc_hops.specs.Moves.Move.{Comes, Goes, Executes}
use Rattle.hmc_hops.specs.Flows.{item_if, is_host}
use Rattle.hmc_hops.specs.Queues.{QueueId as hops}
use Rattle.hmc_hops.specs.Tags.{is_asks, asks_now, executes_now, takes_now, request_of, answer_of, KeepsTags, IsAnswered, asked_under as hop_asked, executed_under as hop_executed, replied_under as hop_replied, answers_under as hop_answers}
use Rattle.hmc_journal.specs.Answers.{tag_of}
use Rattle.hmc_journal.specs.Choice.{append_if}
use Rattle.hmc_journal.specs.Delivered.{IsPrefix}
use Rattle.hmc_entries.specs.declared.entry.Entry.{Entry}
use Rattle.hmc_entries.specs.declared.entry.Entry.TheVariants.{Gave, Sent, Landed, Shifted, Dropped, Executed, Took, Discarded, Unlocked}
use Rattle.hmc_journal.specs.Directions.{unsent, awaits_first, landed_packets}
use Rattle.hmc_journal.specs.Piped.{forwarded_onto}
use Rattle.hmc_journal.specs.Filters.{Completion, same_tag, asked_under, replies_under, answers_under}
use Rattle.hmc_journal.specs.Hosts.{host_of}
use Rattle.hmc_journal.specs.Lawful.{Lawful}
use Rattle.hmc_journal.specs.Network.{IsNetwork}
use Rattle.hmc_journal.specs.Queues.{contents, front_of, tag_number, queue_of, QueueId as queues}
use Rattle.hmc_journal.specs.Setup.{Topology, Setup, direction_from, unit_cube}
use Rattle.hmc_journal.specs.StepView.{view_of}
use Rattle.hmc_journal.proofs.EntryRule.{IsTagged, HasExecuted, entry_rule, lawful_past}
use Rattle.hmc_journal.proofs.Moves.{front_is}
use Rattle.hmc_laws.proofs.Entering.{Kept, front_stands, has_direction, given_asks, own_item, runs_request, landed-real}
use Rattle.hmc_laws.proofs.Sound.{kept}
use Rattle.hmc_laws.proofs.Standing.{request_of_packet}
use Rattle.hmc_laws.proofs.Wired.{wired}
use Rattle.hmc_delivery.proofs.Seen.{seen, kind_by, spot_of, request_or, answer_or, hop_queue, arriving, comes_from, moves_of, moves}
use Rattle.hmc_delivery.proofs.Agreeing.{IsMapOf}
use Rattle.hmc_delivery.proofs.Hopping.{buffer_end}
use Rattle.hmc_delivery.proofs.Forwarded.{forwarded_packet, forwarded_end}
use Rattle.hmc_delivery.proofs.Hopped.{at_end}
use Rattle.hmc_delivery.proofs.MayMove.{may_all}
use Rattle.hmc_delivery.proofs.TagsOut.{asks_given, taken_here, taken_there, taken_not, discards_poison}
use Rattle.hmc_delivery.proofs.Awaiting.{keeps_tags}
use Rattle.hmc_delivery.proofs.Collecting.{piece_of, collected, append_when, quiet, begins_nothing, landing_nothing, unlocks_nothing, onto_there, comes_nothing}
use Rattle.hmc_delivery.proofs.Flowing.{item_when}

-- ---- asked

tag_given : (awaited here : Bool) (free tag : Option ℕ) (t : ℕ) → IsTagged awaited free tag → (here && same_tag tag t) ≡ (awaited && (here && (tag_number tag == t)))
tag_given true here free tag t is = ap (λ (o : Option ℕ). here && same_tag o t) is.2 ∙ sym (ap (λ (o : Option ℕ). here && (tag_number o == t)) is.2)
tag_given false true free tag t is = ap (λ (o : Option ℕ). same_tag o t) is
tag_given false false free tag t is = refl

abbrev asked_piece : (h t : ℕ) → Move → List RequestFields
asked_piece h t move = item_if (asks_now h t move) (request_of move)

asked_more : (setup : Setup) (h t : ℕ) → IsNetwork setup → (entry : Entry) (past : List Entry) → Lawful setup (entry ∷ past)
    → asked_under h t (entry ∷ past) ≡ asked_under h t past ++ (piece_of (asked_piece h t) (moves_of setup.topology past entry))
unfolding asked_under moves_of host_of seen
asked_more setup h t network (Gave host tag poisoned request) past lawful =
    let top = setup.topology in
    let packet = request_packet request (tag_number tag) host poisoned in
    let right = entry_rule setup (Gave host tag poisoned request) past lawful in
    let keeps = kept setup past network (lawful_past setup (Gave host tag poisoned request) past lawful) in
    let to = has_direction top (view_of setup past) (places.Host host) right.room in
    let own = own_item setup past host right.item network right.is_next in
    let is : IsRequest request = subst IsRequest (sym right.is_request) own.1.request in
    let asks = asks_given setup past host tag poisoned request to.0 h t right (given_asks setup past host tag poisoned request network right keeps) in
    let same = tag_given (wants_tag right.item) (host == h) (lowest_free (host_of setup past host).tags) tag t right.is_tagged ∙ sym asks in
    append_when ((host == h) && same_tag tag t) request (asked_under h t past)
    ∙ ap (λ l. asked_under h t past ++ l)
    (ap₂ (λ (b : Bool) (r : RequestFields). if b then r ∷ [] else []) same (sym (ap request_or (request_in-request_packet request (tag_number tag) host poisoned is)))
    ∙ sym (item_when (asks_now h t (Comes (hops.Output to.0) (seen top packet))) (request_or (request_in packet)))
    ∙ ap (λ (o : Option ℕ). piece_of (asked_piece h t) (comes_from top o packet)) (sym to.1))
asked_more setup h t network (Sent d what.New flit) past lawful =
    quiet (asked_under h t past) ∙ ap (λ l. asked_under h t past ++ l) (sym (begins_nothing (asked_piece h t) setup.topology past d (awaits_first d past) (unsent d past) (λ x. refl)))
asked_more setup h t network (Landed d flit outcome) past lawful =
    quiet (asked_under h t past) ∙ ap (λ l. asked_under h t past ++ l) (sym (landing_nothing (asked_piece h t) setup.topology past (Landed d flit outcome ∷ past) d outcome (forwarded_onto setup.topology d past) (landed_packets setup.topology d flit outcome past) (λ to is. record { past_output = λ n x. refl; buffer = λ x. refl; line = λ x. refl }) (λ x. refl)))
asked_more setup h t network (Unlocked d) past lawful =
    quiet (asked_under h t past) ∙ ap (λ l. asked_under h t past ++ l) (sym (unlocks_nothing (asked_piece h t) setup.topology (Unlocked d ∷ past) (onto_there setup.topology d past) (λ to x. refl)))
asked_more setup h t network (Sent d what.Tret flit) past lawful = quiet (asked_under h t past)
asked_more setup h t network _ past lawful = quiet (asked_under h t past)

-- the requests that a host gave under a tag
pub asked_are : (setup : Setup) (h t : ℕ) (past : List Entry) → IsNetwork setup → Lawful setup past → hop_asked h t (moves setup.topology past) ≡ asked_under h t past
unfolding asked_under
asked_are setup h t past network lawful = collected setup (asked_piece h t) (asked_under h t) refl (asked_more setup h t network) past lawful

-- ---- executed

tag_executed : (posted here : Bool) (n t : ℕ) → (here && same_tag (tag_of posted n) t) ≡ (is_asks (kind_by families.Ask posted) && (here && (n == t)))
tag_executed true true n t = refl
tag_executed true false n t = refl
tag_executed false here n t = refl

map_when : {X Y : Type 0} (said : X → Y) (here : Bool) (x : X) (list : List X) → map said (append_if here (x ∷ []) list) ≡ map said list ++ (if here then said x ∷ [] else [])
map_when said true x list = map-append said list (x ∷ [])
map_when said false x list = quiet (map said list)

abbrev done_piece : {Y : Type 0} → (Move → Y) → (h t : ℕ) → Move → List Y
done_piece value h t move = item_if (executes_now h t move) (value move)

-- what is said of a request with its answer is the value of its move
abbrev IsSaid : {Y : Type 0} → Topology → (Completion → Y) → (Move → Y) → Type 0
IsSaid topology said value = (unit : RequestUnit) (packet : PacketFields) (request : RequestFields) (answer : Answer) → request_in packet ≡ Some request
    → said (record { request = request; answer = answer }) ≡ value (Executes (unit_cube unit) (spot_of unit) 0 (seen topology packet) answer)

done_tag : (setup : Setup) (past : List Entry) (unit : RequestUnit) (host : ℕ) (tag : Option ℕ) (request : RequestFields) (answer : Answer) (h t : ℕ) → Kept setup past → (has : HasExecuted setup past unit host tag request answer)
    → ((host == h) && same_tag tag t) ≡ executes_now h t (Executes (unit_cube unit) (spot_of unit) 0 (seen setup.topology has.at.front) answer)
unfolding seen
done_tag setup past unit host tag request answer h t keeps has =
    let front = has.at.front in
    let run = runs_request setup past unit host tag request answer has keeps in
    let parts = request_of_packet front request has.is_request in
    ap₂ (λ (n : ℕ) (o : Option ℕ). (n == h) && same_tag o t) has.is_host has.is_tag
    ∙ ap (λ c. (front.slid == h) && same_tag (tag_of (is_posted c) front.tag) t) parts.command
    ∙ tag_executed (is_posted front.command) (front.slid == h) front.tag t
    ∙ ap (λ (f : Family). is_asks (kind_by f (is_posted front.command)) && ((front.slid == h) && (front.tag == t))) (sym run.asking.asks)

done_more : {Y : Type 0} (setup : Setup) (said : Completion → Y) (value : Move → Y) → IsSaid setup.topology said value → (h t : ℕ) → IsNetwork setup → (entry : Entry) (past : List Entry) → Lawful setup (entry ∷ past)
    → map said (replies_under h t (entry ∷ past)) ≡ map said (replies_under h t past) ++ (piece_of (done_piece value h t) (moves_of setup.topology past entry))
unfolding replies_under moves_of
done_more setup said value agree h t network (Executed unit host tag request answer) past lawful =
    let top = setup.topology in
    let right = entry_rule setup (Executed unit host tag request answer) past lawful in
    let keeps = kept setup past network (lawful_past setup (Executed unit host tag request answer) past lawful) in
    let move = λ (p : PacketFields). Executes (unit_cube unit) (spot_of unit) 0 (seen top p) answer in
    map_when said ((host == h) && same_tag tag t) (record { request = request; answer = answer }) (replies_under h t past)
    ∙ ap (λ l. map said (replies_under h t past) ++ l)
    (ap₂ (λ (b : Bool) y. if b then y ∷ [] else []) (done_tag setup past unit host tag request answer h t keeps right) (agree unit right.at.front request answer right.is_request)
    ∙ sym (item_when (executes_now h t (move right.at.front)) (value (move right.at.front)))
    ∙ ap (λ (p : PacketFields). done_piece value h t (move p)) (sym (front_is setup past (queue_of unit) right.at)))
done_more setup said value agree h t network (Gave giver tag poisoned request) past lawful =
    quiet (map said (replies_under h t past))
    ∙ ap (λ l. map said (replies_under h t past) ++ l) (sym (comes_nothing (done_piece value h t) setup.topology (direction_from setup.topology (places.Host giver)) (request_packet request (tag_number tag) giver poisoned) (λ d x. refl)))
done_more setup said value agree h t network (Sent d what.New flit) past lawful =
    quiet (map said (replies_under h t past)) ∙ ap (λ l. map said (replies_under h t past) ++ l) (sym (begins_nothing (done_piece value h t) setup.topology past d (awaits_first d past) (unsent d past) (λ x. refl)))
done_more setup said value agree h t network (Landed d flit outcome) past lawful =
    quiet (map said (replies_under h t past)) ∙ ap (λ l. map said (replies_under h t past) ++ l) (sym (landing_nothing (done_piece value h t) setup.topology past (Landed d flit outcome ∷ past) d outcome (forwarded_onto setup.topology d past) (landed_packets setup.topology d flit outcome past) (λ to is. record { past_output = λ n x. refl; buffer = λ x. refl; line = λ x. refl }) (λ x. refl)))
done_more setup said value agree h t network (Unlocked d) past lawful =
    quiet (map said (replies_under h t past)) ∙ ap (λ l. map said (replies_under h t past) ++ l) (sym (unlocks_nothing (done_piece value h t) setup.topology (Unlocked d ∷ past) (onto_there setup.topology d past) (λ to x. refl)))
done_more setup said value agree h t network (Sent d what.Tret flit) past lawful = quiet (map said (replies_under h t past))
done_more setup said value agree h t network _ past lawful = quiet (map said (replies_under h t past))

-- the requests that were executed under a tag
pub done_are : (setup : Setup) (h t : ℕ) (past : List Entry) → IsNetwork setup → Lawful setup past → hop_executed h t (moves setup.topology past) ≡ map (λ reply. reply.request) (replies_under h t past)
unfolding replies_under seen
done_are setup h t past network lawful =
    collected setup (done_piece request_of h t) (λ past. map (λ (reply : Completion). reply.request) (replies_under h t past)) refl
    (done_more setup (λ (reply : Completion). reply.request) request_of (λ unit packet request answer is. sym (ap request_or is)) h t network) past lawful

-- and their answers
pub replied_are : (setup : Setup) (h t : ℕ) (past : List Entry) → IsNetwork setup → Lawful setup past → hop_replied h t (moves setup.topology past) ≡ map (λ reply. reply.answer) (replies_under h t past)
unfolding replies_under
replied_are setup h t past network lawful =
    collected setup (done_piece answer_of h t) (λ past. map (λ (reply : Completion). reply.answer) (replies_under h t past)) refl
    (done_more setup (λ (reply : Completion). reply.answer) answer_of (λ unit packet request answer is. refl) h t network) past lawful

-- ---- taken

abbrev took_piece : Map → (h t : ℕ) → Move → List Answer
took_piece m h t move = item_if (takes_now m h t move) (answer_of move)

took_more : (setup : Setup) (m : Map) (h t : ℕ) → IsNetwork setup → IsMapOf setup.topology m → (entry : Entry) (past : List Entry) → Lawful setup (entry ∷ past)
    → answers_under h t (entry ∷ past) ≡ answers_under h t past ++ (piece_of (took_piece m h t) (moves_of setup.topology past entry))
unfolding answers_under moves_of seen
took_more setup m h t network map_of (Took host tag answer) past lawful =
    let top = setup.topology in
    let right = entry_rule setup (Took host tag answer) past lawful in
    let came = front_stands setup past (queues.Host host) (kept setup past network (lawful_past setup (Took host tag answer) past lawful)) right.at in
    let ends = buffer_end top m (places.Host host) map_of (wired setup network) (at_end top (places.Host host) right.at.front came) in
    let move = λ (p : PacketFields). Goes (hop_queue top (queues.Host host)) 0 (seen top p) in
    append_when ((host == h) && (tag == t)) answer (answers_under h t past)
    ∙ ap (λ l. answers_under h t past ++ l)
    (ap₂ (λ (b : Bool) (a : Answer). if b then a ∷ [] else [])
    (ap (λ (n : ℕ). (host == h) && (n == t)) right.is_tag ∙ sym (taken_here setup m host right.at.front (arriving top (places.Host host)) h t ends right.unpoisoned))
    (sym (ap answer_or right.is_answer))
    ∙ sym (item_when (takes_now m h t (move right.at.front)) (answer_or (answer_in right.at.front)))
    ∙ ap (λ (p : PacketFields). took_piece m h t (move p)) (sym (front_is setup past (queues.Host host) right.at)))
took_more setup m h t network map_of (Discarded host) past lawful =
    let right = entry_rule setup (Discarded host) past lawful in
    let top = setup.topology in
    let came = front_stands setup past (queues.Host host) (kept setup past network (lawful_past setup (Discarded host) past lawful)) right.at in
    let d = arriving top (places.Host host) in
    quiet (answers_under h t past)
    ∙ ap (λ l. answers_under h t past ++ l)
    (sym (ap (λ (p : PacketFields). took_piece m h t (Goes (hops.Buffer d) 0 (seen top p))) (front_is setup past (queues.Host host) right.at)
    ∙ ap (λ (b : Bool). item_if b (answer_of (Goes (hops.Buffer d) 0 (seen top right.at.front)))) (taken_not top m right.at.front d h t (discards_poison setup past host right came.goes))))
took_more setup m h t network map_of (Shifted cube port goal) past lawful =
    let top = setup.topology in
    let right = entry_rule setup (Shifted cube port goal) past lawful in
    let came = front_stands setup past (queues.Port cube port) (kept setup past network (lawful_past setup (Shifted cube port goal) past lawful)) right.at in
    let ends = buffer_end top m (places.Port cube port) map_of (wired setup network) (at_end top (places.Port cube port) right.at.front came) in
    let front = seen top (front_of (contents top past (queues.Port cube port))) in
    quiet (answers_under h t past)
    ∙ ap (λ (b : Bool). answers_under h t past ++ (item_if b front.answer)) (sym (taken_there top m cube port front (arriving top (places.Port cube port)) h t ends))
took_more setup m h t network map_of (Dropped cube port) past lawful =
    let top = setup.topology in
    let right = entry_rule setup (Dropped cube port) past lawful in
    let came = front_stands setup past (queues.Port cube port) (kept setup past network (lawful_past setup (Dropped cube port) past lawful)) right.at in
    let ends = buffer_end top m (places.Port cube port) map_of (wired setup network) (at_end top (places.Port cube port) right.at.front came) in
    let front = seen top (front_of (contents top past (queues.Port cube port))) in
    quiet (answers_under h t past)
    ∙ ap (λ (b : Bool). answers_under h t past ++ (item_if b front.answer)) (sym (taken_there top m cube port front (arriving top (places.Port cube port)) h t ends))
took_more setup m h t network map_of (Gave giver tag poisoned request) past lawful =
    quiet (answers_under h t past)
    ∙ ap (λ l. answers_under h t past ++ l) (sym (comes_nothing (took_piece m h t) setup.topology (direction_from setup.topology (places.Host giver)) (request_packet request (tag_number tag) giver poisoned) (λ d x. refl)))
took_more setup m h t network map_of (Sent d what.New flit) past lawful =
    quiet (answers_under h t past) ∙ ap (λ l. answers_under h t past ++ l) (sym (begins_nothing (took_piece m h t) setup.topology past d (awaits_first d past) (unsent d past) (λ x. refl)))
took_more setup m h t network map_of (Landed d flit outcome) past lawful =
    let keeps = kept setup past network (lawful_past setup (Landed d flit outcome) past lawful) in
    quiet (answers_under h t past) ∙ ap (λ l. answers_under h t past ++ l) (sym (landing_nothing (took_piece m h t) setup.topology past (Landed d flit outcome ∷ past) d outcome (forwarded_onto setup.topology d past) (landed_packets setup.topology d flit outcome past) (λ to is.
    let forwarded = forwarded_packet setup past d to (wired setup network) keeps (landed-real setup past d flit outcome (entry_rule setup (Landed d flit outcome) past lawful) keeps) is in
    record { past_output = λ n x. refl; buffer = λ x. ap (λ e. item_if (is_host e h && (not x.poisoned && (x.tag == t))) (answer_of (Goes (hops.Buffer d) 0 x))) (forwarded_end setup.topology m past d to map_of forwarded); line = λ x. refl }) (λ x. refl)))
took_more setup m h t network map_of (Unlocked d) past lawful =
    quiet (answers_under h t past) ∙ ap (λ l. answers_under h t past ++ l) (sym (unlocks_nothing (took_piece m h t) setup.topology (Unlocked d ∷ past) (onto_there setup.topology d past) (λ to x. refl)))
took_more setup m h t network map_of (Sent d what.Tret flit) past lawful = quiet (answers_under h t past)
took_more setup m h t network map_of _ past lawful = quiet (answers_under h t past)

-- the answers that a host took under a tag
pub took_are : (setup : Setup) (m : Map) (h t : ℕ) (past : List Entry) → IsNetwork setup → IsMapOf setup.topology m → Lawful setup past → hop_answers m h t (moves setup.topology past) ≡ answers_under h t past
unfolding answers_under
took_are setup m h t past network map_of lawful = collected setup (took_piece m h t) (answers_under h t) refl (took_more setup m h t network map_of) past lawful

-- ---- together

-- what is promised of each tag of a host
pub record TagsAnswered (h t : ℕ) (past : List Entry) : Type 0 where
  pub answered : IsPrefix (answers_under h t past) (map (λ reply. reply.answer) (replies_under h t past))
  pub replied : IsPrefix (map (λ reply. reply.request) (replies_under h t past)) (asked_under h t past)
  pub out : length (asked_under h t past) ≤ suc (length (answers_under h t past))

-- It holds by the law of tags over every map of routes.
pub tags_answered : (setup : Setup) (m : Map) (past : List Entry) (h t : ℕ) → IsNetwork setup → IsMapOf setup.topology m → ((moved : List Move) (h t : ℕ) → IsMap m → MayAll m moved → KeepsTags m moved → IsAnswered m h t moved) → Lawful setup past → TagsAnswered h t past
tags_answered setup m past h t network map_of law lawful =
    let is = law (moves setup.topology past) h t map_of.is (may_all setup m past network map_of lawful) (keeps_tags setup m past network map_of lawful) in
    let asked = asked_are setup h t past network lawful in
    let done = done_are setup h t past network lawful in
    let replied = replied_are setup h t past network lawful in
    let took = took_are setup m h t past network map_of lawful in record {
      answered = (is.answered.0, sym replied ∙ is.answered.1 ∙ ap (λ l. l ++ is.answered.0) took);
      replied = (is.executed.0, sym asked ∙ is.executed.1 ∙ ap (λ l. l ++ is.executed.0) done);
      out = subst (λ n. n ≤ suc (length (answers_under h t past))) (ap length asked) (subst (λ n. length (hop_asked h t (moves setup.topology past)) ≤ suc n) (ap length took) is.one_out);
    }
