-- What a journal says of the answers that were lifted and taken is what its moves say.
use Rattle.std.proofs.Common.{◌≡◌, ◌∙◌, ◌==◌, ◌&&◌, ℕ, Bool, true, false, if◌then◌else◌, Option, Some, None, List, [], ◌∷◌, ◌++◌, refl, sym, ap, ap₂, append-nil}
use Rattle.hmc_codes.specs.declared.answer.Answer.{Answer}
use Rattle.hmc_codes.specs.declared.place.Place.TheVariants as places
use Rattle.hmc_packet.specs.Packet.{PacketFields}
use Rattle.hmc_packet.specs.Transactions.{request_packet, answer_in}
use Rattle.hmc_packet.specs.declared.what.What.TheVariants as what
use Rattle.hmc_hops.specs.Map.{Map}
use Rattle.hmc_hops.specs.Moves.{Move, packet_if as hop_if}
use Rattle.hmc_hops.specs.Flows.{pick, is_host, lifted_packets, taken_packets, answers_to as hop_answers_to, answers_lifted as hop_lifted, answers_taken as hop_taken}
use Rattle.hmc_journal.specs.Carried.{tagged_answer, answers_to, answers_lifted, answers_taken}
use Rattle.hmc_journal.specs.Choice.{append_if}
use Rattle.hmc_entries.specs.declared.entry.Entry.{Entry}
use Rattle.hmc_entries.specs.declared.entry.Entry.TheVariants.{Gave, Sent, Landed, Shifted, Dropped, Lifted, Took, Discarded, Unlocked}
use Rattle.hmc_journal.specs.Directions.{unsent, awaits_first, landed_packets}
use Rattle.hmc_journal.specs.Piped.{forwarded_onto}
use Rattle.hmc_journal.specs.Filters.{TaggedAnswer}
use Rattle.hmc_journal.specs.Lawful.{Lawful}
use Rattle.hmc_journal.specs.Network.{IsNetwork}
use Rattle.hmc_journal.specs.Queues.{contents, front_of, tag_number, QueueId as queues}
use Rattle.hmc_journal.specs.Setup.{Topology, Setup, direction_from}
use Rattle.hmc_journal.proofs.EntryRule.{entry_rule, lawful_past}
use Rattle.hmc_journal.proofs.Moves.{front_is}
use Rattle.hmc_laws.proofs.Entering.{front_stands, landed-real}
use Rattle.hmc_laws.proofs.Sound.{kept}
use Rattle.hmc_laws.proofs.Wired.{wired}
use Rattle.hmc_delivery.proofs.Seen.{seen, arriving, moves_of, moves}
use Rattle.hmc_delivery.proofs.Agreeing.{IsMapOf}
use Rattle.hmc_delivery.proofs.Hopping.{buffer_end}
use Rattle.hmc_delivery.proofs.Forwarded.{forwarded_packet, forwarded_end}
use Rattle.hmc_delivery.proofs.Hopped.{at_end}
use Rattle.hmc_delivery.proofs.TagsOut.{discards_poison, takes_answer}
use Rattle.hmc_delivery.proofs.Flowing.{answers_seen}
use Rattle.hmc_delivery.proofs.Collecting.{piece_of, collected, quiet, begins_nothing, landing_nothing, unlocks_nothing, onto_there, comes_nothing}

-- ---- lifted

lifted_when : (topology : Topology) (c h : ℕ) (here : Bool) (packet : PacketFields) (list : List TaggedAnswer) → append_if here (answers_to c h (packet ∷ [])) list ≡ list ++ (pick (hop_answers_to c h) (hop_if here (seen topology packet)))
unfolding pick
lifted_when topology c h true packet list = ap (λ l. list ++ l) (sym (answers_seen topology c h (packet ∷ [])))
lifted_when topology c h false packet list = quiet list

abbrev lifted_piece : (c h : ℕ) → Move → List TaggedAnswer
lifted_piece c h move = pick (hop_answers_to c h) (lifted_packets c move)

lifted_more : (setup : Setup) (c h : ℕ) (entry : Entry) (past : List Entry) → Lawful setup (entry ∷ past)
    → answers_lifted setup.topology c h (entry ∷ past) ≡ answers_lifted setup.topology c h past ++ (piece_of (lifted_piece c h) (moves_of setup.topology past entry))
unfolding answers_lifted moves_of pick
lifted_more setup c h (Lifted cube from port) past lawful = lifted_when setup.topology c h (cube == c) (front_of (contents setup.topology past (queues.Answers cube from))) (answers_lifted setup.topology c h past)
lifted_more setup c h (Gave giver tag poisoned request) past lawful =
    quiet (answers_lifted setup.topology c h past)
    ∙ ap (λ l. answers_lifted setup.topology c h past ++ l) (sym (comes_nothing (lifted_piece c h) setup.topology (direction_from setup.topology (places.Host giver)) (request_packet request (tag_number tag) giver poisoned) (λ d x. refl)))
lifted_more setup c h (Sent d what.New flit) past lawful =
    quiet (answers_lifted setup.topology c h past)
    ∙ ap (λ l. answers_lifted setup.topology c h past ++ l) (sym (begins_nothing (lifted_piece c h) setup.topology past d (awaits_first d past) (unsent d past) (λ x. refl)))
lifted_more setup c h (Landed d flit outcome) past lawful =
    quiet (answers_lifted setup.topology c h past)
    ∙ ap (λ l. answers_lifted setup.topology c h past ++ l) (sym (landing_nothing (lifted_piece c h) setup.topology past (Landed d flit outcome ∷ past) d outcome (forwarded_onto setup.topology d past) (landed_packets setup.topology d flit outcome past) (λ to is. record { past_output = λ n x. refl; buffer = λ x. refl; line = λ x. refl }) (λ x. refl)))
lifted_more setup c h (Unlocked d) past lawful =
    quiet (answers_lifted setup.topology c h past)
    ∙ ap (λ l. answers_lifted setup.topology c h past ++ l) (sym (unlocks_nothing (lifted_piece c h) setup.topology (Unlocked d ∷ past) (onto_there setup.topology d past) (λ to x. refl)))
lifted_more setup c h (Sent d what.Tret flit) past lawful = quiet (answers_lifted setup.topology c h past)
lifted_more setup c h _ past lawful = quiet (answers_lifted setup.topology c h past)

-- the answers to a host that were lifted in a cube
pub lifted_are : (setup : Setup) (c h : ℕ) (past : List Entry) → Lawful setup past → (hop_lifted c h (moves setup.topology past)) ≡ answers_lifted setup.topology c h past
unfolding answers_lifted
lifted_are setup c h past lawful = collected setup (lifted_piece c h) (answers_lifted setup.topology c h) refl (lifted_more setup c h) past lawful

-- ---- taken

one_taken : (there : Bool) (packet : PacketFields) (answer : Answer) (list : List TaggedAnswer) → packet.poisoned ≡ false
    → append_if there (record { tag = packet.tag; answer = answer } ∷ []) list ≡ list ++ (if there && true then tagged_answer packet (Some answer) else [])
one_taken true packet answer list clean = ap (λ (b : Bool). list ++ (if b then [] else record { tag = packet.tag; answer = answer } ∷ [])) (sym clean)
one_taken false packet answer list clean = quiet list

taken_said : (topology : Topology) (c host h : ℕ) (here : Bool) (packet : PacketFields) (tag : ℕ) (answer : Answer) (list : List TaggedAnswer) → (host == h) ≡ here → packet.slid ≡ host → packet.poisoned ≡ false → answer_in packet ≡ Some answer → tag ≡ packet.tag
    → append_if (here && (packet.cube == c)) (record { tag = tag; answer = answer } ∷ []) list ≡ list ++ (pick (hop_answers_to c h) (hop_if here (seen topology packet)))
unfolding pick answers_to
taken_said topology c host h false packet tag answer list is own clean found same = quiet list
taken_said topology c host h true packet tag answer list is own clean found same =
    ap (λ (n : ℕ). append_if (packet.cube == c) (record { tag = n; answer = answer } ∷ []) list) same
    ∙ one_taken (packet.cube == c) packet answer list clean
    ∙ ap (λ l. list ++ l)
    (ap₂ (λ (b : Bool) (o : Option Answer). if (packet.cube == c) && b then tagged_answer packet o else []) (sym (ap (λ (n : ℕ). n == h) own ∙ is)) (sym found)
    ∙ sym (append-nil (if (packet.cube == c) && (packet.slid == h) then tagged_answer packet (answer_in packet) else []))
    ∙ sym (answers_seen topology c h (packet ∷ [])))

-- a poisoned answer isn't one
answers_not : (topology : Topology) (c h : ℕ) (packet : PacketFields) → packet.poisoned ≡ true → answers_to c h (packet ∷ []) ≡ []
unfolding answers_to
answers_not topology c h packet poisoned = by_test ((packet.cube == c) && (packet.slid == h)) (answer_in packet)
  where
    by_test : (here : Bool) (found : Option Answer) → (if here then tagged_answer packet found else []) ++ [] ≡ []
    by_test false found = refl
    by_test true None = refl
    by_test true (Some answer) = ap (λ (b : Bool). (if b then [] else record { tag = packet.tag; answer = answer } ∷ []) ++ []) poisoned

spoiled_not : (topology : Topology) (c h : ℕ) (here : Bool) (packet : PacketFields) → packet.poisoned ≡ true → pick (hop_answers_to c h) (hop_if here (seen topology packet)) ≡ []
unfolding pick
spoiled_not topology c h false packet poisoned = refl
spoiled_not topology c h true packet poisoned = answers_seen topology c h (packet ∷ []) ∙ answers_not topology c h packet poisoned

abbrev taken_piece : Map → (c h : ℕ) → Move → List TaggedAnswer
taken_piece m c h move = pick (hop_answers_to c h) (taken_packets m h move)

taken_more : (setup : Setup) (m : Map) (c h : ℕ) → IsNetwork setup → IsMapOf setup.topology m → (entry : Entry) (past : List Entry) → Lawful setup (entry ∷ past)
    → answers_taken setup.topology c h (entry ∷ past) ≡ answers_taken setup.topology c h past ++ (piece_of (taken_piece m c h) (moves_of setup.topology past entry))
unfolding answers_taken moves_of pick
taken_more setup m c h network map_of (Took host tag answer) past lawful =
    let t = setup.topology in
    let list = answers_taken t c h past in
    let right = entry_rule setup (Took host tag answer) past lawful in
    let came = front_stands setup past (queues.Host host) (kept setup past network (lawful_past setup (Took host tag answer) past lawful)) right.at in
    let ends = buffer_end t m (places.Host host) map_of (wired setup network) (at_end t (places.Host host) right.at.front came) in
    ap (λ (p : PacketFields). append_if ((host == h) && (p.cube == c)) (record { tag = tag; answer = answer } ∷ []) list) (front_is setup past (queues.Host host) right.at)
    ∙ taken_said t c host h (host == h) right.at.front tag answer list refl (takes_answer t host right.at.front right.unpoisoned came.goes).slid right.unpoisoned right.is_answer right.is_tag
    ∙ ap₂ (λ e (p : PacketFields). list ++ (pick (hop_answers_to c h) (hop_if (is_host e h) (seen t p)))) (sym ends) (sym (front_is setup past (queues.Host host) right.at))
taken_more setup m c h network map_of (Discarded host) past lawful =
    let right = entry_rule setup (Discarded host) past lawful in
    let t = setup.topology in
    let came = front_stands setup past (queues.Host host) (kept setup past network (lawful_past setup (Discarded host) past lawful)) right.at in
    let d = arriving t (places.Host host) in
    quiet (answers_taken t c h past)
    ∙ ap (λ l. answers_taken t c h past ++ l)
    (sym (ap (λ (p : PacketFields). pick (hop_answers_to c h) (hop_if (is_host (m.end_of d) h) (seen t p))) (front_is setup past (queues.Host host) right.at)
    ∙ spoiled_not t c h (is_host (m.end_of d) h) right.at.front (discards_poison setup past host right came.goes)))
taken_more setup m c h network map_of (Shifted cube port goal) past lawful =
    let t = setup.topology in
    let right = entry_rule setup (Shifted cube port goal) past lawful in
    let came = front_stands setup past (queues.Port cube port) (kept setup past network (lawful_past setup (Shifted cube port goal) past lawful)) right.at in
    let ends = buffer_end t m (places.Port cube port) map_of (wired setup network) (at_end t (places.Port cube port) right.at.front came) in
    quiet (answers_taken t c h past)
    ∙ ap (λ e. answers_taken t c h past ++ (pick (hop_answers_to c h) (hop_if (is_host e h) (seen t (front_of (contents t past (queues.Port cube port))))))) (sym ends)
taken_more setup m c h network map_of (Dropped cube port) past lawful =
    let t = setup.topology in
    let right = entry_rule setup (Dropped cube port) past lawful in
    let came = front_stands setup past (queues.Port cube port) (kept setup past network (lawful_past setup (Dropped cube port) past lawful)) right.at in
    let ends = buffer_end t m (places.Port cube port) map_of (wired setup network) (at_end t (places.Port cube port) right.at.front came) in
    quiet (answers_taken t c h past)
    ∙ ap (λ e. answers_taken t c h past ++ (pick (hop_answers_to c h) (hop_if (is_host e h) (seen t (front_of (contents t past (queues.Port cube port))))))) (sym ends)
taken_more setup m c h network map_of (Gave giver tag poisoned request) past lawful =
    quiet (answers_taken setup.topology c h past)
    ∙ ap (λ l. answers_taken setup.topology c h past ++ l) (sym (comes_nothing (taken_piece m c h) setup.topology (direction_from setup.topology (places.Host giver)) (request_packet request (tag_number tag) giver poisoned) (λ d x. refl)))
taken_more setup m c h network map_of (Sent d what.New flit) past lawful =
    quiet (answers_taken setup.topology c h past)
    ∙ ap (λ l. answers_taken setup.topology c h past ++ l) (sym (begins_nothing (taken_piece m c h) setup.topology past d (awaits_first d past) (unsent d past) (λ x. refl)))
taken_more setup m c h network map_of (Landed d flit outcome) past lawful =
    let keeps = kept setup past network (lawful_past setup (Landed d flit outcome) past lawful) in
    quiet (answers_taken setup.topology c h past)
    ∙ ap (λ l. answers_taken setup.topology c h past ++ l) (sym (landing_nothing (taken_piece m c h) setup.topology past (Landed d flit outcome ∷ past) d outcome (forwarded_onto setup.topology d past) (landed_packets setup.topology d flit outcome past) (λ to is.
    let forwarded = forwarded_packet setup past d to (wired setup network) keeps (landed-real setup past d flit outcome (entry_rule setup (Landed d flit outcome) past lawful) keeps) is in
    record { past_output = λ n x. refl; buffer = λ x. ap (λ e. pick (hop_answers_to c h) (hop_if (is_host e h) x)) (forwarded_end setup.topology m past d to map_of forwarded); line = λ x. refl }) (λ x. refl)))
taken_more setup m c h network map_of (Unlocked d) past lawful =
    quiet (answers_taken setup.topology c h past)
    ∙ ap (λ l. answers_taken setup.topology c h past ++ l) (sym (unlocks_nothing (taken_piece m c h) setup.topology (Unlocked d ∷ past) (onto_there setup.topology d past) (λ to x. refl)))
taken_more setup m c h network map_of (Sent d what.Tret flit) past lawful = quiet (answers_taken setup.topology c h past)
taken_more setup m c h network map_of _ past lawful = quiet (answers_taken setup.topology c h past)

-- the answers of a cube that a host took
pub taken_are : (setup : Setup) (m : Map) (c h : ℕ) (past : List Entry) → IsNetwork setup → IsMapOf setup.topology m → Lawful setup past → (hop_taken m c h (moves setup.topology past)) ≡ answers_taken setup.topology c h past
unfolding answers_taken
taken_are setup m c h past network map_of lawful = collected setup (taken_piece m c h) (answers_taken setup.topology c h) refl (taken_more setup m c h network map_of) past lawful
