-- The answers that wait at a host are awaited: by the law of tags, whose premise is that each
-- request is given under a tag that isn't out.
use Rattle.std.proofs.Common.{◌≡◌, ◌<◌, ◌∙◌, ◌==◌, ◌&&◌, ℕ, zero, suc, Bool, true, false, not, Option, Some, None, List, [], ◌∷◌, ◌++◌, map, length, slice_index_or, refl, sym, ap, ap₂, subst, arith, eqb-true, eq-eqb, not-suc-le-zero, nat_lt}
use Rattle.std.proofs.lemmas.List.{length-map}
use Rattle.std.proofs.lemmas.List.Quantifiers.{position-Some}
use Rattle.std.proofs.lemmas.Bool.{and_parts, not-true}
use Rattle.std.proofs.lemmas.Option.{slice_get-get_or}
use Rattle.hmc_codes.specs.Commands.{is_posted}
use Rattle.hmc_codes.specs.Request.{RequestFields}
use Rattle.hmc_codes.specs.declared.family.Family.{Family}
use Rattle.hmc_codes.specs.declared.place.Place.TheVariants as places
use Rattle.hmc_packet.specs.Packet.{PacketFields}
use Rattle.hmc_packet.specs.Transactions.{request_packet}
use Rattle.hmc_packet.specs.declared.outcome.Outcome.{Outcome}
use Rattle.hmc_packet.specs.declared.outcome.Outcome.TheVariants as outcomes
use Rattle.hmc_packet.specs.declared.what.What.TheVariants as what
use Rattle.hmc_host.specs.Give.{wants_tag}
use Rattle.hmc_host.specs.Tags.{lowest_free}
use Rattle.hmc_hops.specs.Packets.{Packet}
use Rattle.hmc_hops.specs.Flows.{Flow, item_if, pick}
use Rattle.hmc_hops.specs.Map.{Map, IsMap}
use Rattle.hmc_hops.specs.Moves.{Move, MayAll, contents as hop_contents}
use Rattle.hmc_hops.specs.Moves.Move.{Comes, Goes}
use Rattle.hmc_hops.specs.Queues.{QueueId as hops}
use Rattle.hmc_hops.specs.Tags.{errands_of, is_tagged, asks_now, KeepsTags, IsAnswered, is_out as hop_out}
use Rattle.hmc_entries.specs.declared.entry.Entry.{Entry}
use Rattle.hmc_entries.specs.declared.entry.Entry.TheVariants.{Gave, Sent, Landed, Shifted, Dropped, Spread, Executed, Lifted, Took, Discarded, Unlocked}
use Rattle.hmc_journal.specs.Directions.{unsent, awaits_first, landed_packets}
use Rattle.hmc_journal.specs.Carried.{begun_on}
use Rattle.hmc_journal.specs.Piped.{forwarded_onto}
use Rattle.hmc_journal.specs.Hosts.{host_of, tags_out}
use Rattle.hmc_journal.specs.Lawful.{Lawful}
use Rattle.hmc_journal.specs.Network.{IsNetwork}
use Rattle.hmc_journal.specs.QueueInvariant.{IsAnswerFor, AnswersAwaited}
use Rattle.hmc_journal.specs.Queues.{contents, tag_number, QueueId as queues}
use Rattle.hmc_journal.specs.Setup.{Topology, Setup, directions_in}
use Rattle.hmc_journal.specs.StepView.{view_of}
use Rattle.hmc_journal.proofs.EntryRule.{EntryRule, IsTagged, HasGiven, entry_rule, lawful_past}
use Rattle.hmc_laws.proofs.Standing.{IsReplying, IsAtEnd}
use Rattle.hmc_laws.proofs.Entering.{Kept, contents_stand, has_direction, given_asks}
use Rattle.hmc_laws.proofs.Sound.{kept}
use Rattle.hmc_delivery.proofs.Seen.{seen, kind_by, hop_queue, comes_from, begins_move, lands, goes_past, last_packet, copy_comes, forward_moves, if_there, unlocks, moves_of, moves}
use Rattle.hmc_delivery.proofs.Agreeing.{IsMapOf}
use Rattle.hmc_delivery.proofs.Hopped.{at_end, agrees}
use Rattle.hmc_delivery.proofs.MayMove.{may_all}
use Rattle.hmc_delivery.proofs.TagsOut.{out_of, asks_given, takes_answer, outs_agree}

-- ---- each request is given under a tag that isn't out

abbrev KeepsOf : Map → List Move → List Move → Type 0
KeepsOf m moved [] = Unit {0}
KeepsOf m moved (move ∷ []) = (h t : ℕ) → asks_now h t move ≡ true → hop_out m h t moved ≡ false
KeepsOf m moved (move ∷ next ∷ rest) = ((h t : ℕ) → asks_now h t move ≡ true → hop_out m h t ((next ∷ rest) ++ moved) ≡ false) × KeepsOf m moved (next ∷ rest)

-- a move that asks for nothing
asks_not : (m : Map) (moved : List Move) (move : Move) (rest : List Move) → ((h t : ℕ) → asks_now h t move ≡ true → ⊥) → KeepsOf m moved rest → KeepsOf m moved (move ∷ rest)
asks_not m moved move [] never is = λ h t asks. absurd (never h t asks)
asks_not m moved move (next ∷ rest) never is = (λ h t asks. absurd (never h t asks), is)

free_tag : (awaited : Bool) (tags : List Bool) (tag : Option ℕ) (t : ℕ) → awaited ≡ true → IsTagged awaited (lowest_free tags) tag → tag_number tag ≡ t → slice_index_or tags t false ≡ false
free_tag false tags tag t wants is number = absurd (cc)
free_tag true tags tag t wants is number =
    let found = position-Some not tags is.0 false is.1 in
    let same : is.0 ≡ t = sym (ap tag_number is.2) ∙ number in
    ap (λ (n : ℕ). slice_index_or tags n false) (sym same) ∙ not-true (slice_index_or tags is.0 false) found.1

given_keeps : (setup : Setup) (m : Map) (past : List Entry) (host : ℕ) (tag : Option ℕ) (poisoned : Bool) (request : RequestFields) (h t : ℕ) → ((a b : ℕ) → hop_out m a b (moves setup.topology past) ≡ out_of past a b) → (has : HasGiven setup past host tag poisoned request)
    → (wants_tag has.item && ((host == h) && (tag_number tag == t))) ≡ true → hop_out m h t (moves setup.topology past) ≡ false
unfolding host_of
given_keeps setup m past host tag poisoned request h t outs has asks =
    let both = and_parts (wants_tag has.item) ((host == h) && (tag_number tag == t)) asks in
    let same = and_parts (host == h) (tag_number tag == t) both.1 in
    outs h t ∙ ap (λ (n : ℕ). out_of past n t) (sym (eqb-true host h same.0)) ∙ free_tag (wants_tag has.item) (tags_out host past) tag t both.0 has.is_tagged (eqb-true (tag_number tag) t same.1)

begins_keep : (topology : Topology) (m : Map) (past : List Entry) (moved : List Move) (d : ℕ) (waiting : Bool) (n : ℕ) → KeepsOf m moved (begins_move topology past d waiting n)
begins_keep topology m past moved d false zero = λ h t asks. absurd (cc)
begins_keep topology m past moved d false (suc n) = tt
begins_keep topology m past moved d true n = tt

lands_keep : (topology : Topology) (m : Map) (moved : List Move) (d : ℕ) (packets : List PacketFields) → KeepsOf m moved (lands topology d packets)
lands_keep topology m moved d [] = tt
lands_keep topology m moved d (p ∷ packets) = λ h t asks. absurd (cc)

past_keep : (topology : Topology) (m : Map) (past : List Entry) (moved : List Move) (d onto : ℕ) (packets : List PacketFields) (rest : List Move) → KeepsOf m moved rest → KeepsOf m moved (goes_past topology past d onto packets ++ rest)
past_keep topology m past moved d onto [] rest is = is
past_keep topology m past moved d onto (p ∷ packets) rest is =
    asks_not m moved (Goes (hops.Output onto) (length (contents topology past (queues.Output onto))) (seen topology p)) (Goes (hops.Buffer d) 0 (seen topology p) ∷ rest) (λ h t asks. cc)
    (asks_not m moved (Goes (hops.Buffer d) 0 (seen topology p)) rest (λ h t asks. cc) is)

copy_keep : (topology : Topology) (m : Map) (journal : List Entry) (moved : List Move) (onto : ℕ) (rest : List Move) → KeepsOf m moved rest → KeepsOf m moved (copy_comes topology journal onto ++ rest)
copy_keep topology m journal moved onto rest is = asks_not m moved (Comes (hops.Line onto) (seen topology (last_packet (begun_on topology onto journal)))) rest (λ h t asks. cc) is

forward_keeps : (topology : Topology) (m : Map) (past journal : List Entry) (moved : List Move) (d : ℕ) (outcome : Outcome) (onto : Option ℕ) (packets : List PacketFields) (rest : List Move) → KeepsOf m moved rest
    → KeepsOf m moved (forward_moves topology past journal d outcome onto packets ++ rest)
forward_keeps topology m past journal moved d outcome None packets rest is = is
forward_keeps topology m past journal moved d outcomes.Gathered (Some onto) packets rest is = is
forward_keeps topology m past journal moved d outcomes.Accepted (Some onto) packets rest is = past_keep topology m past moved d onto packets rest is
forward_keeps topology m past journal moved d outcomes.Quiet (Some onto) packets rest is = copy_keep topology m journal moved onto rest is
forward_keeps topology m past journal moved d outcomes.Trained (Some onto) packets rest is = copy_keep topology m journal moved onto rest is
forward_keeps topology m past journal moved d outcomes.Poisoned (Some onto) packets rest is = copy_keep topology m journal moved onto rest is
forward_keeps topology m past journal moved d outcomes.Repeat (Some onto) packets rest is = copy_keep topology m journal moved onto rest is
forward_keeps topology m past journal moved d (outcomes.AbortedBad bad) (Some onto) packets rest is = copy_keep topology m journal moved onto rest is
forward_keeps topology m past journal moved d outcomes.AbortedOrder (Some onto) packets rest is = copy_keep topology m journal moved onto rest is
forward_keeps topology m past journal moved d (outcomes.Ran kind) (Some onto) packets rest is = copy_keep topology m journal moved onto rest is

unlocks_keep : (topology : Topology) (m : Map) (journal : List Entry) (moved : List Move) (onto : Option ℕ) → KeepsOf m moved (unlocks topology journal onto)
unlocks_keep topology m journal moved None = tt
unlocks_keep topology m journal moved (Some onto) = λ h t asks. absurd (cc)

keeps_one : (setup : Setup) (m : Map) (past : List Entry) (entry : Entry) → IsNetwork setup → Kept setup past → ((a b : ℕ) → hop_out m a b (moves setup.topology past) ≡ out_of past a b) → EntryRule setup past entry → KeepsOf m (moves setup.topology past) (moves_of setup.topology past entry)
unfolding moves_of
keeps_one setup m past (Gave host tag poisoned request) network keeps outs right =
    let packet = request_packet request (tag_number tag) host poisoned in
    let to = has_direction setup.topology (view_of setup past) (places.Host host) right.room in
    subst (λ (o : Option ℕ). KeepsOf m (moves setup.topology past) (comes_from setup.topology o packet)) (sym to.1)
    (λ h t asks. given_keeps setup m past host tag poisoned request h t outs right (sym (asks_given setup past host tag poisoned request to.0 h t right (given_asks setup past host tag poisoned request network right keeps)) ∙ asks))
keeps_one setup m past (Sent d what.New flit) network keeps outs right = begins_keep setup.topology m past (moves setup.topology past) d (awaits_first d past) (unsent d past)
keeps_one setup m past (Sent d what.Tret flit) network keeps outs right = λ h t asks. absurd (cc)
keeps_one setup m past (Landed d flit outcome) network keeps outs right =
    let landed = landed_packets setup.topology d flit outcome past in
    forward_keeps setup.topology m past (Landed d flit outcome ∷ past) (moves setup.topology past) d outcome (forwarded_onto setup.topology d past) landed (lands setup.topology d landed) (lands_keep setup.topology m (moves setup.topology past) d landed)
keeps_one setup m past (Unlocked d) network keeps outs right =
    unlocks_keep setup.topology m (Unlocked d ∷ past) (moves setup.topology past) (if_there (nat_lt d (directions_in setup.topology)) (forwarded_onto setup.topology d past))
keeps_one setup m past (Shifted cube port goal) network keeps outs right = λ h t asks. absurd (cc)
keeps_one setup m past (Dropped cube port) network keeps outs right = λ h t asks. absurd (cc)
keeps_one setup m past (Spread cube vault bank) network keeps outs right = λ h t asks. absurd (cc)
keeps_one setup m past (Executed unit host tag request answer) network keeps outs right = λ h t asks. absurd (cc)
keeps_one setup m past (Lifted cube from port) network keeps outs right = λ h t asks. absurd (cc)
keeps_one setup m past (Took host tag answer) network keeps outs right = λ h t asks. absurd (cc)
keeps_one setup m past (Discarded host) network keeps outs right = λ h t asks. absurd (cc)
keeps_one setup m past _ network keeps outs right = tt

joined_keep : (m : Map) (new moved : List Move) → KeepsOf m moved new → KeepsTags m moved → KeepsTags m (new ++ moved)
unfolding KeepsTags
joined_keep m [] moved now before = before
joined_keep m (move ∷ []) moved now before = (now, before)
joined_keep m (move ∷ next ∷ rest) moved now before = (now.0, joined_keep m (next ∷ rest) moved now.1 before)

pub keeps_tags : (setup : Setup) (m : Map) (past : List Entry) → IsNetwork setup → IsMapOf setup.topology m → Lawful setup past → KeepsTags m (moves setup.topology past)
unfolding moves KeepsTags
keeps_tags setup m [] network map_of lawful = tt
keeps_tags setup m (entry ∷ past) network map_of lawful =
    let before = lawful_past setup entry past lawful in
    joined_keep m (moves_of setup.topology past entry) (moves setup.topology past)
    (keeps_one setup m past entry network (kept setup past network before) (λ a b. outs_agree setup m past a b network map_of before) (entry_rule setup entry past lawful)) (keeps_tags setup m past network map_of before)

-- ---- an answer that waits at its host

pub record Picked {X : Type 0} (f : Flow X) (list : List Packet) : Type 0 where
  pub first : X
  pub rest : List X
  pub are : pick f list ≡ first ∷ rest

pick_some : {X : Type 0} (f : Flow X) (list : List Packet) (k : ℕ) (default : Packet) → k < length list → f.mine (slice_index_or list k default) ≡ true → Picked f list
unfolding pick
pick_some f [] k default less mine = absurd (not-suc-le-zero less)
pick_some f (x ∷ list) zero default less mine = record { first = f.value x; rest = pick f list; are = ap (λ (b : Bool). item_if b (f.value x) ++ pick f list) mine }
pick_some f (x ∷ list) (suc k) default less mine = by_first (f.mine x) refl (pick_some f list k default (omega arith) mine)
  where
    by_first : (b : Bool) → f.mine x ≡ b → Picked f list → Picked f (x ∷ list)
    by_first true is later = record { first = f.value x; rest = pick f list; are = ap (λ (c : Bool). item_if c (f.value x) ++ pick f list) is }
    by_first false is later = record { first = later.first; rest = later.rest; are = ap (λ (c : Bool). item_if c (f.value x) ++ pick f list) is ∙ later.are }

map_at : {X Y : Type 0} (f : X → Y) (list : List X) (k : ℕ) (x : X) (y : Y) → k < length list → slice_index_or (map f list) k y ≡ f (slice_index_or list k x)
map_at f [] k x y less = absurd (not-suc-le-zero less)
map_at f (z ∷ list) zero x y less = refl
map_at f (z ∷ list) (suc k) x y less = map_at f list k x y (omega arith)

-- the answer has its tag
errand_mine : (topology : Topology) (packet : PacketFields) (host : ℕ) → IsReplying topology packet → packet.slid ≡ host → (errands_of host packet.tag).mine (seen topology packet) ≡ true
unfolding seen
errand_mine topology packet host is own =
    ap₂ (λ (b c : Bool). (not b && c) && ((packet.slid == host) && (packet.tag == packet.tag))) is.unpoisoned (ap (λ (f : Family). is_tagged (kind_by f (is_posted packet.command))) is.replies)
    ∙ ap₂ (λ (b c : Bool). b && c) (eq-eqb packet.slid host own) (eq-eqb packet.tag packet.tag refl)

awaited_at : (setup : Setup) (m : Map) (past : List Entry) (host k : ℕ) (default : PacketFields) → IsNetwork setup → IsMapOf setup.topology m → ((moved : List Move) (h t : ℕ) → IsMap m → MayAll m moved → KeepsTags m moved → IsAnswered m h t moved) → Lawful setup past
    → k < length (contents setup.topology past (queues.Host host)) → IsAnswerFor (host_of setup past host) (slice_index_or (contents setup.topology past (queues.Host host)) k default)
unfolding host_of
awaited_at setup m past host k default network map_of law lawful inside = λ clean.
    let t = setup.topology in
    let keeps = kept setup past network lawful in
    let waiting = contents t past (queues.Host host) in
    let packet = slice_index_or waiting k default in
    let came : IsAtEnd t (places.Host host) packet = contents_stand setup past (queues.Host host) keeps k default inside in
    let goes = takes_answer t host packet clean came.goes in
    let reply = goes.replying in
    let flow = errands_of host packet.tag in
    let there : map (seen t) waiting ≡ hop_contents m (moves t past) (hop_queue t (queues.Host host)) = (agrees setup m past network map_of lawful).queues (queues.Host host) (at_end t (places.Host host) packet came) in
    let picked = pick_some flow (map (seen t) waiting) k (seen t default) (omega (arith, length-map waiting (seen t))) (ap flow.mine (map_at (seen t) waiting k default (seen t default) inside) ∙ errand_mine t packet host reply goes.slid) in
    let answered = law (moves t past) host packet.tag map_of.is (may_all setup m past network map_of lawful) (keeps_tags setup m past network map_of lawful) in
    let out : hop_out m host packet.tag (moves t past) ≡ true = answered.finds (hop_queue t (queues.Host host)) picked.first picked.rest (ap (pick flow) (sym there) ∙ picked.are) in
    let is : out_of past host packet.tag ≡ true = sym (outs_agree setup m past host packet.tag network map_of lawful) ∙ out in
    let few : packet.tag < length (tags_out host past) = omega (arith, reply.counted.is_packet.ranges.tag, keeps.tags host) in record {
      replies = reply.replies;
      out = slice_get-get_or (tags_out host past) packet.tag false few ∙ ap Some is;
    }

-- by the law of tags of moves
pub answers_awaited : (setup : Setup) (m : Map) (past : List Entry) → IsNetwork setup → IsMapOf setup.topology m → ((moved : List Move) (h t : ℕ) → IsMap m → MayAll m moved → KeepsTags m moved → IsAnswered m h t moved) → Lawful setup past → AnswersAwaited setup past
answers_awaited setup m past network map_of law lawful = record { hosts = λ host k default inside. awaited_at setup m past host k default network map_of law lawful inside }
