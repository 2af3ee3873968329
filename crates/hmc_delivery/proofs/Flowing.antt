-- What of a flow packets carry, as the journal and as its moves say it.
use Rattle.std.proofs.Common.{◌≡◌, ◌∙◌, ◌==◌, ◌&&◌, ℕ, Bool, true, false, not, if◌then◌else◌, Option, Some, None, is_some, List, [], ◌∷◌, ◌++◌, map, refl, sym, ap, ap₂}
use Rattle.std.proofs.lemmas.Bool.{false_from_ne_true}
use mathlib.Core.Bool.{and-false, and-true}
use Rattle.hmc_codes.specs.Commands.{layout_of, family_of_layout, is_ask, is_posted}
use Rattle.hmc_codes.specs.Request.{RequestFields}
use Rattle.hmc_codes.specs.declared.answer.Answer.{Answer}
use Rattle.hmc_codes.specs.declared.family.Family.TheVariants as families
use Rattle.hmc_codes.specs.declared.layout.Layout.{Layout}
use Rattle.hmc_codes.specs.declared.layout.Layout.TheVariants as layouts
use Rattle.hmc_codes.specs.declared.unit.Unit.{Unit as RequestUnit}
use Rattle.hmc_codes.specs.declared.unit.Unit.TheVariants as units
use Rattle.hmc_packet.specs.Packet.{PacketFields}
use Rattle.hmc_packet.specs.Transactions.{request_in, answer_in}
use Rattle.hmc_packet.proofs.TransactionLemmas.{answer_in-replies}
use Rattle.hmc_serial.specs.Unit.{is_for_registers, unit_by, unit_of}
use Rattle.hmc_hops.specs.Packets.{is_request, is_reply, same_spot}
use Rattle.hmc_hops.specs.Flows.{item_if, pick, tag_by, requests_to, answers_to as hop_answers_to, tagged_request as hop_request, tagged_answer as hop_answer}
use Rattle.hmc_journal.specs.Answers.{tag_of}
use Rattle.hmc_journal.specs.Carried.{tagged_request, tagged_requests, tagged_answer, answers_to}
use Rattle.hmc_journal.specs.Filters.{TaggedRequest, TaggedAnswer, same_unit}
use Rattle.hmc_journal.specs.Setup.{Topology, unit_in, unit_cube, shape_of}
use Rattle.hmc_laws.proofs.Standing.{request_of_packet}
use Rattle.hmc_delivery.proofs.Seen.{seen, kind_by, kind_of, spot_of, spot_by, request_or, answer_or}

-- ---- requests

kind_request : (layout : Layout) (posted : Bool) → is_request (kind_by (family_of_layout layout) posted) ≡ is_ask layout
kind_request layouts.Ask true = refl
kind_request layouts.Ask false = refl
kind_request layouts.Reply posted = refl
kind_request layouts.Null posted = refl
kind_request layouts.Pret posted = refl
kind_request layouts.Tret posted = refl
kind_request layouts.Irtry posted = refl

asks_some : (packet : PacketFields) → is_some (request_in packet) ≡ is_ask (layout_of packet.command)
unfolding request_in
asks_some packet = by_ask (is_ask (layout_of packet.command)) _
  where
    by_ask : (asks : Bool) (request : RequestFields) → is_some (if asks then Some request else None) ≡ asks
    by_ask true request = refl
    by_ask false request = refl

-- a unit is its cube and its spot
pub unit_parts : (u v : RequestUnit) → same_unit u v ≡ ((unit_cube u == unit_cube v) && same_spot (spot_of u) (spot_of v))
unit_parts (units.Bank c v b) (units.Bank d w a) = refl
unit_parts (units.Bank c v b) (units.Registers d) = sym (and-false (c == d))
unit_parts (units.Registers c) (units.Bank d w a) = sym (and-false (c == d))
unit_parts (units.Registers c) (units.Registers d) = sym (and-true (c == d))

unit_in_cube : (topology : Topology) (request : RequestFields) → unit_cube (unit_in topology request) ≡ request.cube
unfolding unit_of
unit_in_cube topology request = by_registers (is_for_registers request.command)
  where
    by_registers : (registers : Bool) → unit_cube (unit_by registers (shape_of topology request.cube) request) ≡ request.cube
    by_registers true = refl
    by_registers false = refl

-- the test of a packet, either way
same_test : (poisoned host cube spot : Bool) → ((not poisoned && true) && ((host && cube) && spot)) ≡ (host && (not poisoned && (cube && spot)))
same_test true true true true = refl
same_test true true true false = refl
same_test true true false spot = refl
same_test true false cube spot = refl
same_test false true true spot = refl
same_test false true false spot = refl
same_test false false cube spot = refl

pub item_when : {X : Type 0} (b : Bool) (x : X) → item_if b x ≡ (if b then x ∷ [] else [])
item_when true x = refl
item_when false x = refl

pub posted_tag : (posted : Bool) (tag : ℕ) → tag_by (kind_by families.Ask posted) tag ≡ tag_of posted tag
posted_tag true tag = refl
posted_tag false tag = refl

no_item : (poisoned : Bool) (other : Bool) (x : TaggedRequest) → (item_if ((not poisoned && false) && other) x) ≡ []
no_item true other x = refl
no_item false other x = refl

ask_family : (layout : Layout) → is_ask layout ≡ true → family_of_layout layout ≡ families.Ask
ask_family layouts.Ask is = refl
ask_family layouts.Reply is = absurd (cc)
ask_family layouts.Null is = absurd (cc)
ask_family layouts.Pret is = absurd (cc)
ask_family layouts.Tret is = absurd (cc)
ask_family layouts.Irtry is = absurd (cc)

one_request : (topology : Topology) (host : ℕ) (unit : RequestUnit) (packet : PacketFields) (found : Option RequestFields) → request_in packet ≡ found
    → (item_if ((requests_to host (unit_cube unit) (spot_of unit)).mine (seen topology packet)) (hop_request (seen topology packet))) ≡ tagged_request topology host unit packet found
unfolding seen
one_request topology host unit packet None is =
    let other = ((packet.slid == host) && (packet.cube == unit_cube unit)) && same_spot (spot_by topology (request_in packet)) (spot_of unit) in
    ap (λ (b : Bool). item_if ((not packet.poisoned && b) && other) (hop_request (seen topology packet)))
    (kind_request (layout_of packet.command) (is_posted packet.command) ∙ sym (asks_some packet) ∙ ap is_some is)
    ∙ no_item packet.poisoned other (hop_request (seen topology packet))
one_request topology host unit packet (Some request) is =
    let asks : is_ask (layout_of packet.command) ≡ true = sym (asks_some packet) ∙ ap is_some is in
    let parts = request_of_packet packet request is in
    let there = (packet.slid == host) && (packet.cube == unit_cube unit) in
    let value : TaggedRequest = record { tag = tag_of (is_posted request.command) packet.tag; request = request } in
    ap₂ (λ (b : Bool) (o : Option RequestFields). (item_if ((not packet.poisoned && b) && (there && same_spot (spot_by topology o) (spot_of unit))) (record { tag = tag_by (kind_of packet) packet.tag; request = request_or o })))
    (kind_request (layout_of packet.command) (is_posted packet.command) ∙ asks) is
    ∙ item_when {X = TaggedRequest} ((not packet.poisoned && true) && (there && same_spot (spot_of (unit_in topology request)) (spot_of unit))) (record { tag = tag_by (kind_of packet) packet.tag; request = request })
    ∙ ap₂ (λ (b : Bool) (t : Option ℕ). if b then record { tag = t; request = request } ∷ [] else [])
    (same_test packet.poisoned (packet.slid == host) (packet.cube == unit_cube unit) (same_spot (spot_of (unit_in topology request)) (spot_of unit))
    ∙ ap (λ (u : Bool). (packet.slid == host) && (not packet.poisoned && u)) (ap (λ (c : ℕ). (c == unit_cube unit) && same_spot (spot_of (unit_in topology request)) (spot_of unit)) (sym parts.cube ∙ sym (unit_in_cube topology request)) ∙ sym (unit_parts (unit_in topology request) unit)))
    (ap (λ f. tag_by (kind_by f (is_posted packet.command)) packet.tag) (ask_family (layout_of packet.command) asks) ∙ posted_tag (is_posted packet.command) packet.tag ∙ ap (λ c. tag_of (is_posted c) packet.tag) (sym parts.command))

pub requests_seen : (topology : Topology) (host : ℕ) (unit : RequestUnit) (packets : List PacketFields) → (pick (requests_to host (unit_cube unit) (spot_of unit)) (map (seen topology) packets)) ≡ tagged_requests topology host unit packets
unfolding pick tagged_requests
requests_seen topology host unit [] = refl
requests_seen topology host unit (packet ∷ packets) =
    let f = requests_to host (unit_cube unit) (spot_of unit) in
    ap₂ (λ (l k : List TaggedRequest). l ++ k) (one_request topology host unit packet (request_in packet) refl) (requests_seen topology host unit packets)

-- ---- answers

kind_reply : (layout : Layout) (posted : Bool) → is_reply (kind_by (family_of_layout layout) posted) ≡ true → family_of_layout layout ≡ families.Reply
kind_reply layouts.Reply posted is = refl
kind_reply layouts.Ask true is = absurd (cc)
kind_reply layouts.Ask false is = absurd (cc)
kind_reply layouts.Null posted is = absurd (cc)
kind_reply layouts.Pret posted is = absurd (cc)
kind_reply layouts.Tret posted is = absurd (cc)
kind_reply layouts.Irtry posted is = absurd (cc)

item_answer : (b : Bool) (x : TaggedAnswer) → (item_if b x) ≡ (if b then x ∷ [] else [])
item_answer true x = refl
item_answer false x = refl

same_answer : (poisoned host cube : Bool) (value : TaggedAnswer) → (if (not poisoned && true) && (host && cube) then value ∷ [] else []) ≡ (if cube && host then (if poisoned then [] else value ∷ []) else [])
same_answer true true true value = refl
same_answer true true false value = refl
same_answer true false true value = refl
same_answer true false false value = refl
same_answer false true true value = refl
same_answer false true false value = refl
same_answer false false true value = refl
same_answer false false false value = refl

no_answer_item : (poisoned other here : Bool) (x : TaggedAnswer) → (item_if ((not poisoned && false) && other) x) ≡ (if here then [] else [])
no_answer_item true other true x = refl
no_answer_item true other false x = refl
no_answer_item false other true x = refl
no_answer_item false other false x = refl

reply_when : (layout : Layout) (posted : Bool) → family_of_layout layout ≡ families.Reply → is_reply (kind_by (family_of_layout layout) posted) ≡ true
reply_when layout posted is = ap (λ f. is_reply (kind_by f posted)) is

one_answer : (topology : Topology) (cube host : ℕ) (packet : PacketFields) (found : Option Answer) → answer_in packet ≡ found
    → (item_if ((hop_answers_to cube host).mine (seen topology packet)) (hop_answer (seen topology packet))) ≡ (if (packet.cube == cube) && (packet.slid == host) then tagged_answer packet found else [])
unfolding seen
one_answer topology cube host packet None is =
    let reply = is_reply (kind_of packet) in
    let none : reply ≡ false = false_from_ne_true reply (λ yes. let some : is_some (answer_in packet) ≡ true = (answer_in-replies packet).1 (kind_reply (layout_of packet.command) (is_posted packet.command) yes) in let clash : false ≡ true = sym (ap is_some is) ∙ some in cc) in
    ap (λ (b : Bool). item_if ((not packet.poisoned && b) && ((packet.slid == host) && (packet.cube == cube))) (hop_answer (seen topology packet))) none
    ∙ no_answer_item packet.poisoned ((packet.slid == host) && (packet.cube == cube)) ((packet.cube == cube) && (packet.slid == host)) (hop_answer (seen topology packet))
one_answer topology cube host packet (Some answer) is =
    let replies = (answer_in-replies packet).0 (ap is_some is) in
    let reply : is_reply (kind_of packet) ≡ true = reply_when (layout_of packet.command) (is_posted packet.command) replies in
    ap₂ (λ (b : Bool) (o : Option Answer). (item_if ((not packet.poisoned && b) && ((packet.slid == host) && (packet.cube == cube))) (record { tag = packet.tag; answer = answer_or o }))) reply is
    ∙ item_answer ((not packet.poisoned && true) && ((packet.slid == host) && (packet.cube == cube))) (record { tag = packet.tag; answer = answer })
    ∙ same_answer packet.poisoned (packet.slid == host) (packet.cube == cube) (record { tag = packet.tag; answer = answer })

pub answers_seen : (topology : Topology) (cube host : ℕ) (packets : List PacketFields) → (pick (hop_answers_to cube host) (map (seen topology) packets)) ≡ answers_to cube host packets
unfolding pick answers_to
answers_seen topology cube host [] = refl
answers_seen topology cube host (packet ∷ packets) =
    let f = hop_answers_to cube host in
    ap₂ (λ (l k : List TaggedAnswer). l ++ k) (one_answer topology cube host packet (answer_in packet) refl) (answers_seen topology cube host packets)
