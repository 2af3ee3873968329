-- What packets accepted on a direction carried is what left its line, by the moves.
use Rattle.std.proofs.Common.{◌≡◌, ◌≤◌, ◌∙◌, ◌==◌, ℕ, Bool, true, false, List, [], ◌∷◌, ◌++◌, map, length, refl, sym, ap, arith, append-nil, eqb-true}
use Rattle.hmc_codes.specs.declared.place.Place.TheVariants as places
use Rattle.hmc_packet.specs.Packet.{PacketFields, null_packet}
use Rattle.hmc_packet.specs.Transactions.{request_packet}
use Rattle.hmc_packet.specs.Landings as landings
use Rattle.hmc_packet.specs.declared.outcome.Outcome.{Outcome}
use Rattle.hmc_packet.specs.declared.what.What.TheVariants as what
use Rattle.hmc_hops.specs.Flows.{Flow, pick, collect}
use Rattle.hmc_hops.specs.Moves.{Move, packet_if as hop_if, leaves as hop_leaves}
use Rattle.hmc_hops.specs.Queues.{QueueId as hops}
use Rattle.hmc_entries.specs.declared.entry.Entry.{Entry}
use Rattle.hmc_entries.specs.declared.entry.Entry.TheVariants.{Gave, Sent, Landed, Shifted, Dropped, Spread, Executed, Lifted, Took, Discarded, Through, Unlocked, Retired, Passed, Idle}
use Rattle.hmc_journal.specs.Directions.{unsent, awaits_first, receiver_of, landed_packets, accepted}
use Rattle.hmc_journal.specs.Piped.{forwarded_onto}
use Rattle.hmc_journal.specs.Lawful.{Lawful}
use Rattle.hmc_journal.specs.Queues.{tag_number}
use Rattle.hmc_journal.specs.Setup.{Topology, Setup, direction_from}
use Rattle.hmc_laws.proofs.Buffers.{accepted-same, few_landed, accepted_more, accepted_off}
use Rattle.hmc_delivery.proofs.Collecting.{piece_of, collected, quiet, begins_nothing, forward_nothing, unlocks_nothing, onto_there, comes_nothing}
use Rattle.hmc_delivery.proofs.Seen.{seen, comes_from, begins_move, lands, moves_of, moves}
use Rattle.hmc_journal.proofs.Projections.{IsNoLanding}

-- what is read off packets, and off those that are seen
pub record IsRead {X : Type 0} (topology : Topology) (f : Flow X) (said : List PacketFields → List X) : Type 0 where
  pub none : said [] ≡ []
  pub null : said (null_packet ∷ []) ≡ []
  pub append : (xs ys : List PacketFields) → said (xs ++ ys) ≡ said xs ++ said ys
  pub seen_as : (packets : List PacketFields) → (pick f (map (seen topology) packets)) ≡ said packets

abbrev off_line : {X : Type 0} → Flow X → ℕ → Move → List X
off_line f d move = pick f (hop_leaves move (hops.Line d))

quiet_entry : {X : Type 0} (topology : Topology) (f : Flow X) (said : List PacketFields → List X) (d : ℕ) (entry : Entry) (past : List Entry) (new : List Move) → IsNoLanding entry → piece_of (off_line f d) new ≡ []
    → said (accepted topology d (entry ∷ past)) ≡ said (accepted topology d past) ++ (piece_of (off_line f d) new)
quiet_entry topology f said d entry past new no_landing nothing =
    ap said (accepted-same topology d entry past no_landing) ∙ quiet (said (accepted topology d past)) ∙ ap (λ l. said (accepted topology d past) ++ l) (sym nothing)

landed_on : {X : Type 0} (topology : Topology) (f : Flow X) (said : List PacketFields → List X) (d e : ℕ) (flit : List ℕ) (outcome : Outcome) (past : List Entry) (landed : List PacketFields) (same : Bool) → IsRead topology f said
    → landed_packets topology e flit outcome past ≡ landed → length landed ≤ 1 → (e == d) ≡ same
    → said (accepted topology d (Landed e flit outcome ∷ past)) ≡ said (accepted topology d past) ++ (piece_of (off_line f d) (lands topology e landed))
unfolding pick
landed_on topology f said d e flit outcome past [] false reads is few at = ap said (accepted_off topology d e flit outcome past at) ∙ quiet (said (accepted topology d past))
landed_on topology f said d e flit outcome past [] true reads is few at =
    let same : e ≡ d = eqb-true e d at in
    ap said (ap (λ (n : ℕ). accepted topology d (Landed n flit outcome ∷ past)) same ∙ accepted_more topology d flit outcome past ∙ ap (λ (n : ℕ). accepted topology d past ++ landed_packets topology n flit outcome past) (sym same)
    ∙ ap (λ l. accepted topology d past ++ l) is ∙ append-nil (accepted topology d past)) ∙ quiet (said (accepted topology d past))
landed_on topology f said d e flit outcome past (p ∷ []) false reads is few at =
    ap said (accepted_off topology d e flit outcome past at) ∙ quiet (said (accepted topology d past))
    ∙ ap (λ (b : Bool). said (accepted topology d past) ++ (pick f (hop_if b (seen topology p)))) (sym at)
landed_on topology f said d e flit outcome past (p ∷ []) true reads is few at =
    let same : e ≡ d = eqb-true e d at in
    ap said (ap (λ (n : ℕ). accepted topology d (Landed n flit outcome ∷ past)) same ∙ accepted_more topology d flit outcome past ∙ ap (λ (n : ℕ). accepted topology d past ++ landed_packets topology n flit outcome past) (sym same)
    ∙ ap (λ l. accepted topology d past ++ l) is)
    ∙ reads.append (accepted topology d past) (p ∷ []) ∙ ap (λ l. said (accepted topology d past) ++ l) (sym (reads.seen_as (p ∷ [])))
    ∙ ap (λ (b : Bool). said (accepted topology d past) ++ (pick f (hop_if b (seen topology p)))) (sym at)
landed_on topology f said d e flit outcome past (p ∷ q ∷ rest) same reads is few at = absurd (omega arith)

carried_more : {X : Type 0} (setup : Setup) (f : Flow X) (said : List PacketFields → List X) (d : ℕ) → IsRead setup.topology f said → (entry : Entry) (past : List Entry) → Lawful setup (entry ∷ past)
    → said (accepted setup.topology d (entry ∷ past)) ≡ said (accepted setup.topology d past) ++ (piece_of (off_line f d) (moves_of setup.topology past entry))
unfolding moves_of pick
carried_more setup f said d reads (Landed e flit outcome) past lawful =
    let t = setup.topology in
    let landed = landed_packets t e flit outcome past in
    landed_on t f said d e flit outcome past landed (e == d) reads refl (few_landed t e flit outcome past) refl
    ∙ ap (λ l. said (accepted t d past) ++ l)
    (sym (forward_nothing (off_line f d) t past (Landed e flit outcome ∷ past) e outcome (forwarded_onto t e past) landed (lands t e landed) (λ to is. record { past_output = λ n x. refl; buffer = λ x. refl; line = λ x. refl })))
carried_more setup f said d reads (Gave giver tag poisoned request) past lawful =
    quiet_entry setup.topology f said d (Gave giver tag poisoned request) past (comes_from setup.topology (direction_from setup.topology (places.Host giver)) (request_packet request (tag_number tag) giver poisoned)) tt
    (comes_nothing (off_line f d) setup.topology (direction_from setup.topology (places.Host giver)) (request_packet request (tag_number tag) giver poisoned) (λ n x. refl))
carried_more setup f said d reads (Sent e what.New flit) past lawful = quiet_entry setup.topology f said d (Sent e what.New flit) past (begins_move setup.topology past e (awaits_first e past) (unsent e past)) tt (begins_nothing (off_line f d) setup.topology past e (awaits_first e past) (unsent e past) (λ x. refl))
carried_more setup f said d reads (Sent e what.Tret flit) past lawful = quiet_entry setup.topology f said d (Sent e what.Tret flit) past (moves_of setup.topology past (Sent e what.Tret flit)) tt refl
carried_more setup f said d reads (Sent e what.Train flit) past lawful = quiet_entry setup.topology f said d (Sent e what.Train flit) past [] tt refl
carried_more setup f said d reads (Sent e what.Clear flit) past lawful = quiet_entry setup.topology f said d (Sent e what.Clear flit) past [] tt refl
carried_more setup f said d reads (Sent e what.Start flit) past lawful = quiet_entry setup.topology f said d (Sent e what.Start flit) past [] tt refl
carried_more setup f said d reads (Sent e what.Null flit) past lawful = quiet_entry setup.topology f said d (Sent e what.Null flit) past [] tt refl
carried_more setup f said d reads (Sent e what.Pret flit) past lawful = quiet_entry setup.topology f said d (Sent e what.Pret flit) past [] tt refl
carried_more setup f said d reads (Sent e what.Again flit) past lawful = quiet_entry setup.topology f said d (Sent e what.Again flit) past [] tt refl
carried_more setup f said d reads (Shifted cube port goal) past lawful = quiet_entry setup.topology f said d (Shifted cube port goal) past (moves_of setup.topology past (Shifted cube port goal)) tt refl
carried_more setup f said d reads (Dropped cube port) past lawful = quiet_entry setup.topology f said d (Dropped cube port) past (moves_of setup.topology past (Dropped cube port)) tt refl
carried_more setup f said d reads (Spread cube vault bank) past lawful = quiet_entry setup.topology f said d (Spread cube vault bank) past (moves_of setup.topology past (Spread cube vault bank)) tt refl
carried_more setup f said d reads (Executed unit giver tag request answer) past lawful = quiet_entry setup.topology f said d (Executed unit giver tag request answer) past (moves_of setup.topology past (Executed unit giver tag request answer)) tt refl
carried_more setup f said d reads (Lifted cube from port) past lawful = quiet_entry setup.topology f said d (Lifted cube from port) past (moves_of setup.topology past (Lifted cube from port)) tt refl
carried_more setup f said d reads (Took giver tag answer) past lawful = quiet_entry setup.topology f said d (Took giver tag answer) past (moves_of setup.topology past (Took giver tag answer)) tt refl
carried_more setup f said d reads (Discarded giver) past lawful = quiet_entry setup.topology f said d (Discarded giver) past (moves_of setup.topology past (Discarded giver)) tt refl
carried_more setup f said d reads (Unlocked e) past lawful =
    quiet_entry setup.topology f said d (Unlocked e) past (moves_of setup.topology past (Unlocked e)) tt (unlocks_nothing (off_line f d) setup.topology (Unlocked e ∷ past) (onto_there setup.topology e past) (λ to x. refl))
carried_more setup f said d reads (Passed e flit) past lawful = quiet_entry setup.topology f said d (Passed e flit) past [] tt refl
carried_more setup f said d reads (Through cube port direction) past lawful = quiet_entry setup.topology f said d (Through cube port direction) past [] tt refl
carried_more setup f said d reads (Retired slot) past lawful = quiet_entry setup.topology f said d (Retired slot) past [] tt refl
carried_more setup f said d reads (Idle step cause) past lawful = quiet_entry setup.topology f said d (Idle step cause) past [] tt refl

-- what was accepted, by the moves
pub carried : {X : Type 0} (setup : Setup) (f : Flow X) (said : List PacketFields → List X) (d : ℕ) → IsRead setup.topology f said → (past : List Entry) → Lawful setup past
    → (collect (λ move. pick f (hop_leaves move (hops.Line d))) (moves setup.topology past)) ≡ said (accepted setup.topology d past)
unfolding accepted receiver_of landings.accepted
carried setup f said d reads past lawful = collected setup (off_line f d) (λ past. said (accepted setup.topology d past)) reads.none (carried_more setup f said d reads) past lawful
