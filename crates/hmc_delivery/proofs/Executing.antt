-- What a journal says that units executed is what its moves say.
use Rattle.std.proofs.Common.{◌≡◌, ◌∙◌, ◌==◌, ◌&&◌, ℕ, Bool, if◌then◌else◌, Option, List, [], ◌∷◌, ◌++◌, refl, sym, ap, ap₂}
use Rattle.hmc_codes.specs.Commands.{is_posted}
use Rattle.hmc_codes.specs.Request.{RequestFields}
use Rattle.hmc_codes.specs.declared.answer.Answer.{Answer}
use Rattle.hmc_codes.specs.declared.family.Family.TheVariants as families
use Rattle.hmc_codes.specs.declared.place.Place.TheVariants as places
use Rattle.hmc_codes.specs.declared.unit.Unit.{Unit as RequestUnit}
use Rattle.hmc_packet.specs.Packet.{PacketFields}
use Rattle.hmc_packet.specs.Transactions.{request_packet, request_in}
use Rattle.hmc_packet.specs.declared.what.What.TheVariants as what
use Rattle.hmc_hops.specs.Packets.{same_spot}
use Rattle.hmc_hops.specs.Flows.{tag_by, executed_requests, executed_by as hop_executed_by}
use Rattle.hmc_hops.specs.Moves.Move.{Executes}
use Rattle.hmc_journal.specs.Answers.{tag_of}
use Rattle.hmc_entries.specs.declared.entry.Entry.{Entry}
use Rattle.hmc_entries.specs.declared.entry.Entry.TheVariants.{Gave, Sent, Landed, Executed, Unlocked}
use Rattle.hmc_journal.specs.Directions.{unsent, awaits_first, landed_packets}
use Rattle.hmc_journal.specs.Piped.{forwarded_onto}
use Rattle.hmc_journal.specs.Filters.{TaggedRequest, same_unit, executed_by}
use Rattle.hmc_journal.specs.Lawful.{Lawful}
use Rattle.hmc_journal.specs.Network.{IsNetwork}
use Rattle.hmc_journal.specs.Queues.{tag_number, queue_of}
use Rattle.hmc_journal.specs.Setup.{Setup, direction_from, unit_cube}
use Rattle.hmc_journal.proofs.EntryRule.{HasExecuted, entry_rule, lawful_past}
use Rattle.hmc_journal.proofs.Moves.{front_is}
use Rattle.hmc_laws.proofs.Standing.{request_of_packet}
use Rattle.hmc_laws.proofs.Entering.{Kept, runs_request}
use Rattle.hmc_laws.proofs.Sound.{kept}
use Rattle.hmc_delivery.proofs.Seen.{seen, kind_by, kind_of, spot_of, request_or, moves_of, moves}
use Rattle.hmc_delivery.proofs.Flowing.{unit_parts, posted_tag, item_when}
use Rattle.hmc_delivery.proofs.Collecting.{piece_of, collected, append_when, quiet, begins_nothing, landing_nothing, unlocks_nothing, onto_there, comes_nothing}

-- ---- executed

-- the value of a request that is executed
executed_said : (setup : Setup) (past : List Entry) (host : ℕ) (unit here : RequestUnit) (giver : ℕ) (tag : Option ℕ) (request : RequestFields) (answer : Answer) → Kept setup past → (has : HasExecuted setup past here giver tag request answer)
    → (executed_requests host (unit_cube unit) (spot_of unit) (Executes (unit_cube here) (spot_of here) 0 (seen setup.topology has.at.front) answer))
    ≡ (if (giver == host) && same_unit here unit then record { tag = tag; request = request } ∷ [] else [])
unfolding seen
executed_said setup past host unit here giver tag request answer keeps has =
    let t = setup.topology in
    let front = has.at.front in
    let run = runs_request setup past here giver tag request answer has keeps in
    let parts = request_of_packet front request has.is_request in
    item_when {X = TaggedRequest} ((front.slid == host) && ((unit_cube here == unit_cube unit) && same_spot (spot_of here) (spot_of unit))) (record { tag = tag_by (kind_of front) front.tag; request = request_or (request_in front) })
    ∙ ap₂ (λ (b : Bool) (o : Option ℕ). if b then record { tag = o; request = request_or (request_in front) } ∷ [] else [])
    (ap₂ (λ (n : ℕ) (b : Bool). (n == host) && b) (sym has.is_host) (sym (unit_parts here unit)))
    (ap (λ f. tag_by (kind_by f (is_posted front.command)) front.tag) run.asking.asks ∙ posted_tag (is_posted front.command) front.tag ∙ ap (λ c. tag_of (is_posted c) front.tag) (sym parts.command) ∙ sym has.is_tag)
    ∙ ap (λ (r : RequestFields). if (giver == host) && same_unit here unit then record { tag = tag; request = r } ∷ [] else []) (ap request_or has.is_request)

executed_more : (setup : Setup) (host : ℕ) (unit : RequestUnit) → IsNetwork setup → (entry : Entry) (past : List Entry) → Lawful setup (entry ∷ past)
    → executed_by host unit (entry ∷ past) ≡ executed_by host unit past ++ (piece_of (executed_requests host (unit_cube unit) (spot_of unit)) (moves_of setup.topology past entry))
unfolding executed_by moves_of
executed_more setup host unit network (Executed here giver tag request answer) past lawful =
    let t = setup.topology in
    let right = entry_rule setup (Executed here giver tag request answer) past lawful in
    let keeps = kept setup past network (lawful_past setup (Executed here giver tag request answer) past lawful) in
    append_when ((giver == host) && same_unit here unit) (record { tag = tag; request = request }) (executed_by host unit past)
    ∙ ap (λ l. executed_by host unit past ++ l)
    (sym (ap (λ (p : PacketFields). executed_requests host (unit_cube unit) (spot_of unit) (Executes (unit_cube here) (spot_of here) 0 (seen t p) answer)) (front_is setup past (queue_of here) right.at)
    ∙ executed_said setup past host unit here giver tag request answer keeps right))
executed_more setup host unit network (Gave giver tag poisoned request) past lawful =
    quiet (executed_by host unit past)
    ∙ ap (λ l. executed_by host unit past ++ l) (sym (comes_nothing (executed_requests host (unit_cube unit) (spot_of unit)) setup.topology (direction_from setup.topology (places.Host giver)) (request_packet request (tag_number tag) giver poisoned) (λ d x. refl)))
executed_more setup host unit network (Sent d what.New flit) past lawful =
    quiet (executed_by host unit past)
    ∙ ap (λ l. executed_by host unit past ++ l) (sym (begins_nothing (executed_requests host (unit_cube unit) (spot_of unit)) setup.topology past d (awaits_first d past) (unsent d past) (λ x. refl)))
executed_more setup host unit network (Landed d flit outcome) past lawful =
    quiet (executed_by host unit past)
    ∙ ap (λ l. executed_by host unit past ++ l) (sym (landing_nothing (executed_requests host (unit_cube unit) (spot_of unit)) setup.topology past (Landed d flit outcome ∷ past) d outcome (forwarded_onto setup.topology d past) (landed_packets setup.topology d flit outcome past) (λ to is. record { past_output = λ n x. refl; buffer = λ x. refl; line = λ x. refl }) (λ x. refl)))
executed_more setup host unit network (Unlocked d) past lawful =
    quiet (executed_by host unit past)
    ∙ ap (λ l. executed_by host unit past ++ l) (sym (unlocks_nothing (executed_requests host (unit_cube unit) (spot_of unit)) setup.topology (Unlocked d ∷ past) (onto_there setup.topology d past) (λ to x. refl)))
executed_more setup host unit network (Sent d what.Tret flit) past lawful = quiet (executed_by host unit past)
executed_more setup host unit network _ past lawful = quiet (executed_by host unit past)

-- the requests of a host that a unit executed
pub executed_are : (setup : Setup) (host : ℕ) (unit : RequestUnit) (past : List Entry) → IsNetwork setup → Lawful setup past → (hop_executed_by host (unit_cube unit) (spot_of unit) (moves setup.topology past)) ≡ executed_by host unit past
unfolding executed_by
executed_are setup host unit past network lawful =
    collected setup (executed_requests host (unit_cube unit) (spot_of unit)) (executed_by host unit) refl (executed_more setup host unit network) past lawful
