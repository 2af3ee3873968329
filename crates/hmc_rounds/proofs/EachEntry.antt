-- Each kind of entry of the cube and of the host is a move.
use Rattle.std.proofs.Common.{◌≡◌, ◌<◌, ◌/◌, ◌%◌, ◌^◌, ◌∙◌, ◌⊎◌, ◌==◌, inl, inr, ℕ, Bool, true, false, if◌then◌else◌, Option, Some, List, ◌∷◌, refl, sym, ap, ap₂, subst, arith}
use Rattle.std.specs.Prelude.{option_map}
use Rattle.std.proofs.lemmas.Nat.{pow_pos}
use Rattle.hmc_codes.specs.Commands.{is_posted}
use Rattle.hmc_codes.specs.Request.{RequestFields}
use Rattle.hmc_codes.specs.Shape.{vault_of, bank_of}
use Rattle.hmc_codes.specs.declared.answer.Answer.{Answer}
use Rattle.hmc_codes.specs.declared.lift.Lift.{Lift}
use Rattle.hmc_codes.specs.declared.place.Place.{Place}
use Rattle.hmc_codes.specs.declared.place.Place.TheVariants as places
use Rattle.hmc_codes.specs.declared.unit.Unit.{Unit as RequestUnit}
use Rattle.hmc_packet.specs.Packet.{PacketFields}
use Rattle.hmc_packet.specs.Transactions.{reply_packet}
use Rattle.hmc_send.specs.declared.toward.Toward.{Toward}
use Rattle.hmc_send.specs.LinkEntries.{LinkEntry, other, put_if}
use Rattle.hmc_send.specs.LinkEntries.LinkEntry.{handed, taken}
use Rattle.hmc_serial.specs.Unit.{is_for_registers}
use Rattle.hmc_rounds.proofs.Alone.{plain_before, clash_places}
use Rattle.hmc_link_state.specs.Round.{Moves}
use Rattle.hmc_link_state.specs.Steps.{Doing}
use Rattle.hmc_entries.specs.declared.outcome.Goal.{Goal}
use Rattle.hmc_entries.specs.declared.outcome.Goal.TheVariants as goals
use Rattle.hmc_entries.specs.declared.entry.Entry.{Entry}
use Rattle.hmc_entries.specs.declared.entry.Entry.TheVariants.{Shifted, Dropped, Spread, Executed, Lifted, Took, Discarded}
use Rattle.hmc_journal.specs.Lawful.{Lawful}
use Rattle.hmc_journal.specs.Links.{put_on, link_entries, sizes_on, entries_on, direction_to}
use Rattle.hmc_journal.specs.Queues.{leaves, enters, contents, front_of, output_from, queue_of, answers_of, unless_posted, arrival_in, tag_number}
use Rattle.hmc_journal.specs.Queues.QueueId.{Output, Port, Answers}
use Rattle.hmc_journal.specs.Setup.{Setup, Topology, shape_of, start_of, direction_from, directions_in}
use Rattle.hmc_journal.specs.StepView.{view_of}
use Rattle.hmc_journal.proofs.EntryRule.{entry_rule, lawful_past}
use Rattle.hmc_laws.proofs.Entering.{enters_right, has_direction}
use Rattle.hmc_journal.proofs.Moves.{arrives}
use Rattle.hmc_laws.proofs.Sound.{kept}
use Rattle.hmc_laws.proofs.Standing.{IsBound}
use Rattle.hmc_laws.proofs.Wired.{Wired, wired}
use Rattle.hmc_rounds.specs.Counted.{counted}
use Rattle.hmc_rounds.specs.LinkPart.{IsPlain, link_of}
use Rattle.hmc_rounds.specs.CubeQueues.{vaults_in, banks_in}
use Rattle.hmc_rounds.proofs.EntryMoves.{Scene, kept_entries, moved_by}
use Rattle.hmc_rounds.proofs.Lengths.{queue_entered}
use Rattle.hmc_rounds.proofs.Placed.{Placed, IsLiftThere, at_none, at_port, at_vault, at_bank, at_registers, at_answers, at_out, at_host}
use Rattle.hmc_rounds.proofs.Sides.{LinkMoved, numbers_of, sides_same, sides_on, taken_forth, taken_back, handed_back}
use Rattle.hmc_rounds.proofs.Single.{Joined}

put_forth : (t : Topology) (j : Joined t) (there : Option ℕ) → there ≡ Some j.forth →
    (entry : Toward → LinkEntry) (past : List LinkEntry) →
    put_on 0 there entry past ≡ entry j.requests ∷ past
put_forth t j there is entry past =
    ap (λ o. put_on 0 o entry past) is
    ∙ ap₂ (λ (n : ℕ) (w : Toward). put_if (n == 0) (entry w) past) j.link_forth j.way_forth

put_back : (t : Topology) (j : Joined t) (there : Option ℕ) → there ≡ Some j.back →
    (entry : Toward → LinkEntry) (past : List LinkEntry) →
    put_on 0 there entry past ≡ entry (other j.requests) ∷ past
put_back t j there is entry past =
    ap (λ o. put_on 0 o entry past) is
    ∙ ap₂ (λ (n : ℕ) (w : Toward). put_if (n == 0) (entry w) past) j.link_back j.way_back

-- what leaves a port of the cube leaves by the direction of answers
pub out_is_back : (t : Topology) (j : Joined t) → Wired t → (out d : ℕ) →
    direction_from t (places.Port 0 out) ≡ Some d → d ≡ j.back
out_is_back t j wires out d from =
    let less : d < directions_in t = wires.inside (places.Port 0 out) d from in
    by_either (j.either d (subst (λ (n : ℕ). d < n) j.two less))
  where
    by_either : (d ≡ j.forth) ⊎ (d ≡ j.back) → d ≡ j.back
    by_either (inr same) = same
    by_either (inl same) =
        absurd (clash_places (start_of t d) 0 0 out (ap (start_of t) same
        ∙ wires.starts (places.Host 0) j.forth j.from_host)
        (wires.starts (places.Port 0 out) d from))

-- the link's numbers after an entry
no_entry : (setup : Setup) (doings : List LinkEntry → List Doing) (sc : Scene setup doings)
    (entry : Entry) (past : List Entry) →
    entries_on setup.topology 0 (entry ∷ past) ≡ entries_on setup.topology 0 past
    → LinkMoved (link_of setup.topology doings past) (link_of setup.topology doings (entry ∷ past))
no_entry setup doings sc entry past is =
    let size = sizes_on setup.topology 0 in
    let before = entries_on setup.topology 0 past in
    subst (λ (es : List LinkEntry). LinkMoved (numbers_of size doings before)
    (numbers_of size doings es)) (sym is)
    (sides_same (numbers_of size doings before).forth (numbers_of size doings before).back)

port_taken : (setup : Setup) (doings : List LinkEntry → List Doing) (sc : Scene setup doings)
    (entry : Entry) (past : List Entry) → Lawful setup (entry ∷ past) →
    entries_on setup.topology 0 (entry ∷ past) ≡ taken sc.joined.requests
    ∷ entries_on setup.topology 0 past
    → LinkMoved (link_of setup.topology doings past) (link_of setup.topology doings (entry ∷ past))
port_taken setup doings sc entry past lawful is =
    let size = sizes_on setup.topology 0 in
    let before = entries_on setup.topology 0 past in
    let keeps : IsPlain size (taken sc.joined.requests ∷ before) =
    subst (IsPlain size) is (kept_entries setup (entry ∷ past) sc.network sc.joined lawful) in
    subst (λ (es : List LinkEntry). LinkMoved (numbers_of size doings before)
    (numbers_of size doings es)) (sym is)
    (taken_forth size sc.joined.requests doings sc.part before keeps)

host_taken : (setup : Setup) (doings : List LinkEntry → List Doing) (sc : Scene setup doings)
    (entry : Entry) (past : List Entry) → Lawful setup (entry ∷ past) →
    entries_on setup.topology 0 (entry ∷ past) ≡ taken (other sc.joined.requests)
    ∷ entries_on setup.topology 0 past
    → LinkMoved (link_of setup.topology doings past) (link_of setup.topology doings (entry ∷ past))
host_taken setup doings sc entry past lawful is =
    let size = sizes_on setup.topology 0 in
    let before = entries_on setup.topology 0 past in
    let keeps : IsPlain size (taken (other sc.joined.requests) ∷ before) =
    subst (IsPlain size) is (kept_entries setup (entry ∷ past) sc.network sc.joined lawful) in
    subst (λ (es : List LinkEntry). LinkMoved (numbers_of size doings before)
    (numbers_of size doings es)) (sym is)
    (taken_back size sc.joined.requests doings sc.part before keeps)

back_handed : (setup : Setup) (doings : List LinkEntry → List Doing) (sc : Scene setup doings)
    (entry : Entry) (past : List Entry) (packet : PacketFields) → Lawful setup (entry ∷ past)
    → entries_on setup.topology 0 (entry ∷ past) ≡ handed (other sc.joined.requests) packet
    ∷ entries_on setup.topology 0 past →
    LinkMoved (link_of setup.topology doings past) (link_of setup.topology doings (entry ∷ past))
back_handed setup doings sc entry past packet lawful is =
    let size = sizes_on setup.topology 0 in
    let before = entries_on setup.topology 0 past in
    let keeps : IsPlain size (handed (other sc.joined.requests) packet ∷ before) =
    subst (IsPlain size) is (kept_entries setup (entry ∷ past) sc.network sc.joined lawful) in
    subst (λ (es : List LinkEntry). LinkMoved (numbers_of size doings before)
    (numbers_of size doings es)) (sym is)
    (handed_back size sc.joined.requests doings sc.part packet before keeps)

taken_on : (setup : Setup) (doings : List LinkEntry → List Doing) (sc : Scene setup doings)
    (entry : Entry) (past : List Entry) (packet : PacketFields) → Lawful setup (entry ∷ past)
    → entries_on setup.topology 0 (entry ∷ past) ≡ handed (other sc.joined.requests) packet
    ∷ taken sc.joined.requests ∷ entries_on setup.topology 0 past →
    LinkMoved (link_of setup.topology doings past) (link_of setup.topology doings (entry ∷ past))
taken_on setup doings sc entry past packet lawful is =
    let size = sizes_on setup.topology 0 in
    let way = sc.joined.requests in
    let before = entries_on setup.topology 0 past in
    let now : List LinkEntry = handed (other way) packet ∷ taken way ∷ before in
    let keeps : IsPlain size now =
    subst (IsPlain size) is (kept_entries setup (entry ∷ past) sc.network sc.joined lawful) in
    let middle = numbers_of size doings (taken way ∷ before) in
    subst (λ (es : List LinkEntry). LinkMoved (numbers_of size doings before)
    (numbers_of size doings es)) (sym is)
    (sides_on (numbers_of size doings before).forth (numbers_of size doings before).back
    middle.forth middle.back (numbers_of size doings now).forth (numbers_of size doings now).back
    (taken_forth size way doings sc.part before
    (plain_before size (handed (other way) packet) (taken way ∷ before) keeps))
    (handed_back size way doings sc.part packet (taken way ∷ before) keeps))

-- ---- where goals are

named_vault : (registers : Bool) (v vault : ℕ) →
    (if registers then goals.Registers else goals.Vault v) ≡ goals.Vault vault → v ≡ vault
named_vault true v vault is = cc
named_vault false v vault is = cc

pub below_power : (n bits : ℕ) → n % 2 ^ bits < 2 ^ bits
below_power n bits = let some : 0 < 2 ^ bits = pow_pos bits in omega arith

pub vault_there : (t : Topology) (vault : ℕ) (packet : PacketFields) →
    IsBound t 0 (goals.Vault vault) packet → vault < vaults_in t
vault_there t vault packet is =
    let named : vault_of (shape_of t 0) packet.address ≡ vault =
    named_vault (is_for_registers packet.command) (vault_of (shape_of t 0) packet.address) vault
    is.is_goal in
    subst (λ (n : ℕ). n < vaults_in t) named
    (below_power (packet.address / (shape_of t 0).block) (shape_of t 0).vault_bits)

pub bank_there : (t : Topology) (bank : ℕ) (packet : PacketFields) →
    bank ≡ bank_of (shape_of t 0) packet.address → bank < banks_in t
bank_there t bank packet is =
    subst (λ (n : ℕ). n < banks_in t) (sym is)
    (below_power (packet.address / (shape_of t 0).block / 2 ^ (shape_of t 0).vault_bits)
    (shape_of t 0).bank_bits)

-- ---- the entries

abbrev pub IsMove : (setup : Setup) (doings : List LinkEntry → List Doing) → Entry → List Entry →
    Type 0
IsMove setup doings entry past =
    (b b' : Bool) →
    Moves (counted setup.topology doings past b) (counted setup.topology doings (entry ∷ past) b')

pub dropped_moves : (setup : Setup) (doings : List LinkEntry → List Doing) (sc : Scene setup doings)
    (past : List Entry) → Lawful setup (Dropped 0 sc.joined.port ∷ past) →
    IsMove setup doings (Dropped 0 sc.joined.port) past
unfolding leaves enters link_entries
dropped_moves setup doings sc past lawful =
    let t = setup.topology in
    let j = sc.joined in
    let is : entries_on t 0 (Dropped 0 j.port ∷ past) ≡ taken j.requests ∷ entries_on t 0 past =
    put_forth t j (direction_to t (places.Port 0 j.port)) j.to_port taken
    (link_entries t 0 past) in
    moved_by setup doings sc (Dropped 0 j.port) past lawful
    (port_taken setup doings sc (Dropped 0 j.port) past lawful is) 1 0 0 0 0 0 0 0 0 0 0 0
    (at_port t j) (at_none t j) (omega arith) (omega arith)

pub to_vault_moves : (setup : Setup) (doings : List LinkEntry → List Doing)
    (sc : Scene setup doings) (past : List Entry) (vault : ℕ) →
    Lawful setup (Shifted 0 sc.joined.port (goals.Vault vault) ∷ past) →
    IsMove setup doings (Shifted 0 sc.joined.port (goals.Vault vault)) past
unfolding leaves enters link_entries
to_vault_moves setup doings sc past vault lawful =
    let t = setup.topology in
    let j = sc.joined in
    let entry = Shifted 0 j.port (goals.Vault vault) in
    let before = lawful_past setup entry past lawful in
    let is : entries_on t 0 (entry ∷ past) ≡ taken j.requests ∷ entries_on t 0 past =
    put_forth t j (direction_to t (places.Port 0 j.port)) j.to_port taken
    (link_entries t 0 past) in
    let bound : IsBound t 0 (goals.Vault vault) (front_of (contents t past (Port 0 j.port))) =
    enters_right setup past entry sc.network (wired setup sc.network)
    (entry_rule setup entry past lawful) (kept setup past sc.network before) in
    moved_by setup doings sc entry past lawful (port_taken setup doings sc entry past lawful is) 1 0
    0 0 0 0 0 1 0 0 0 0 (at_port t j)
    (at_vault t j vault (vault_there t vault (front_of (contents t past (Port 0 j.port))) bound))
    (omega arith) (omega arith)

pub to_registers_moves : (setup : Setup) (doings : List LinkEntry → List Doing)
    (sc : Scene setup doings) (past : List Entry) →
    Lawful setup (Shifted 0 sc.joined.port goals.Registers ∷ past) →
    IsMove setup doings (Shifted 0 sc.joined.port goals.Registers) past
unfolding leaves enters link_entries
to_registers_moves setup doings sc past lawful =
    let t = setup.topology in
    let j = sc.joined in
    let entry = Shifted 0 j.port goals.Registers in
    let is : entries_on t 0 (entry ∷ past) ≡ taken j.requests ∷ entries_on t 0 past =
    put_forth t j (direction_to t (places.Port 0 j.port)) j.to_port taken
    (link_entries t 0 past) in
    moved_by setup doings sc entry past lawful (port_taken setup doings sc entry past lawful is) 1 0
    0 0 0 0 0 0 1 0 0 0 (at_port t j) (at_registers t j) (omega arith) (omega arith)

-- an output queue that a packet of the cube enters
out_placed : (t : Topology) (j : Joined t) (place : Place) (packet : Unit {0} → PacketFields) →
    direction_from t place ≡ Some j.back →
    Placed t j (queue_entered (arrival_in (output_from t place) packet)) 0 0 0 0 1 0
out_placed t j place packet is =
    subst (λ (o : Option ℕ). Placed t j (queue_entered (arrival_in (option_map Output o) packet)) 0
    0 0 0 1 0) (sym is) (at_out t j)

pub to_port_moves : (setup : Setup) (doings : List LinkEntry → List Doing) (sc : Scene setup doings)
    (past : List Entry) (out : ℕ) →
    Lawful setup (Shifted 0 sc.joined.port (goals.Port out) ∷ past) →
    IsMove setup doings (Shifted 0 sc.joined.port (goals.Port out)) past
unfolding leaves enters link_entries
to_port_moves setup doings sc past out lawful =
    let t = setup.topology in
    let j = sc.joined in
    let entry = Shifted 0 j.port (goals.Port out) in
    let wires = wired setup sc.network in
    let rule = entry_rule setup entry past lawful in
    let to = has_direction t (view_of setup past) (places.Port 0 out) rule.room in
    let from : direction_from t (places.Port 0 out) ≡ Some j.back =
    to.1 ∙ ap Some (out_is_back t j wires out to.0 to.1) in
    let packet = front_of (contents t past (Port 0 j.port)) in
    let took : put_on 0 (direction_to t (places.Port 0 j.port)) taken
    (link_entries t 0 past) ≡ taken j.requests ∷ link_entries t 0 past =
    put_forth t j (direction_to t (places.Port 0 j.port)) j.to_port taken
    (link_entries t 0 past) in
    let is : entries_on t 0 (entry ∷ past) ≡ handed (other j.requests) packet ∷ taken j.requests
    ∷ entries_on t 0 past =
    ap (put_on 0 (direction_from t (places.Port 0 out)) (λ d. handed d packet)) took
    ∙ put_back t j (direction_from t (places.Port 0 out)) from (λ d. handed d packet)
    (taken j.requests ∷ link_entries t 0 past) in
    moved_by setup doings sc entry past lawful
    (taken_on setup doings sc entry past packet lawful is) 1 0 0 0 0 0 0 0 0 0 1 0 (at_port t j)
    (out_placed t j (places.Port 0 out) (λ _. packet) from) (omega arith) (omega arith)

pub shifted_moves : (setup : Setup) (doings : List LinkEntry → List Doing) (sc : Scene setup doings)
    (past : List Entry) (goal : Goal) → Lawful setup (Shifted 0 sc.joined.port goal ∷ past) →
    IsMove setup doings (Shifted 0 sc.joined.port goal) past
shifted_moves setup doings sc past (goals.Vault vault) lawful =
    to_vault_moves setup doings sc past vault lawful
shifted_moves setup doings sc past goals.Registers lawful =
    to_registers_moves setup doings sc past lawful
shifted_moves setup doings sc past (goals.Port out) lawful =
    to_port_moves setup doings sc past out lawful

pub spread_moves : (setup : Setup) (doings : List LinkEntry → List Doing) (sc : Scene setup doings)
    (past : List Entry) (vault bank : ℕ) → vault < vaults_in setup.topology →
    Lawful setup (Spread 0 vault bank ∷ past) → IsMove setup doings (Spread 0 vault bank) past
unfolding leaves enters link_entries
spread_moves setup doings sc past vault bank less lawful =
    let t = setup.topology in
    let j = sc.joined in
    let rule = entry_rule setup (Spread 0 vault bank) past lawful in
    moved_by setup doings sc (Spread 0 vault bank) past lawful
    (no_entry setup doings sc (Spread 0 vault bank) past refl) 0 1 0 0 0 0 0 0 1 0 0 0
    (at_vault t j vault less)
    (at_bank t j vault bank less (bank_there t bank rule.at.front rule.is_bank)) (omega arith)
    (omega arith)

executed_by : (setup : Setup) (doings : List LinkEntry → List Doing) (sc : Scene setup doings)
    (past : List Entry) (unit : RequestUnit) (host : ℕ) (tag : Option ℕ) (request : RequestFields)
    (answer : Answer) (posted : Bool) → is_posted request.command ≡ posted
    → Placed setup.topology sc.joined (Some (queue_of unit)) 0 0 1 0 0 0 →
    Placed setup.topology sc.joined (Some (answers_of unit)) 0 0 0 1 0 0
    → Lawful setup (Executed unit host tag request answer ∷ past) →
    IsMove setup doings (Executed unit host tag request answer) past
unfolding leaves enters link_entries
executed_by setup doings sc past unit host tag request answer true is from to lawful =
    let t = setup.topology in
    let entry = Executed unit host tag request answer in
    let none : Placed t sc.joined (queue_entered (arrives t past entry)) 0 0 0 0 0 0 =
    subst (λ (b : Bool). Placed t sc.joined
    (queue_entered
    (arrival_in (unless_posted b (answers_of unit))
    (λ _. reply_packet answer (tag_number tag) host request.cube))) 0 0 0 0 0 0) (sym is)
    (at_none t sc.joined) in
    moved_by setup doings sc entry past lawful (no_entry setup doings sc entry past refl) 0 0 1 0 0
    0 0 0 0 0 0 0 from none (omega arith) (omega arith)
executed_by setup doings sc past unit host tag request answer false is from to lawful =
    let t = setup.topology in
    let entry = Executed unit host tag request answer in
    let some : Placed t sc.joined (queue_entered (arrives t past entry)) 0 0 0 1 0 0 =
    subst (λ (b : Bool). Placed t sc.joined
    (queue_entered
    (arrival_in (unless_posted b (answers_of unit))
    (λ _. reply_packet answer (tag_number tag) host request.cube))) 0 0 0 1 0 0) (sym is) to in
    moved_by setup doings sc entry past lawful (no_entry setup doings sc entry past refl) 0 0 1 0 0
    0 0 0 0 1 0 0 from some (omega arith) (omega arith)

pub executed_moves : (setup : Setup) (doings : List LinkEntry → List Doing)
    (sc : Scene setup doings) (past : List Entry) (unit : RequestUnit) (host : ℕ) (tag : Option ℕ)
    (request : RequestFields) (answer : Answer)
    → Placed setup.topology sc.joined (Some (queue_of unit)) 0 0 1 0 0 0 →
    Placed setup.topology sc.joined (Some (answers_of unit)) 0 0 0 1 0 0
    → Lawful setup (Executed unit host tag request answer ∷ past) →
    IsMove setup doings (Executed unit host tag request answer) past
executed_moves setup doings sc past unit host tag request answer from to lawful =
    executed_by setup doings sc past unit host tag request answer (is_posted request.command) refl
    from to lawful

pub lifted_moves : (setup : Setup) (doings : List LinkEntry → List Doing) (sc : Scene setup doings)
    (past : List Entry) (from : Lift) (port : ℕ) → IsLiftThere setup.topology from →
    Lawful setup (Lifted 0 from port ∷ past) → IsMove setup doings (Lifted 0 from port) past
unfolding leaves enters link_entries
lifted_moves setup doings sc past from port there lawful =
    let t = setup.topology in
    let j = sc.joined in
    let entry = Lifted 0 from port in
    let wires = wired setup sc.network in
    let rule = entry_rule setup entry past lawful in
    let to = has_direction t (view_of setup past) (places.Port 0 port) rule.room in
    let out : direction_from t (places.Port 0 port) ≡ Some j.back =
    to.1 ∙ ap Some (out_is_back t j wires port to.0 to.1) in
    let packet = front_of (contents t past (Answers 0 from)) in
    let is : entries_on t 0 (entry ∷ past) ≡ handed (other j.requests) packet
    ∷ entries_on t 0 past =
    put_back t j (direction_from t (places.Port 0 port)) out (λ d. handed d packet)
    (link_entries t 0 past) in
    moved_by setup doings sc entry past lawful
    (back_handed setup doings sc entry past packet lawful is) 0 0 0 1 0 0 0 0 0 0 1 0
    (at_answers t j from there) (out_placed t j (places.Port 0 port) (λ _. packet) out)
    (omega arith) (omega arith)

pub took_moves : (setup : Setup) (doings : List LinkEntry → List Doing) (sc : Scene setup doings)
    (past : List Entry) (tag : ℕ) (answer : Answer) → Lawful setup (Took 0 tag answer ∷ past) →
    IsMove setup doings (Took 0 tag answer) past
unfolding leaves enters link_entries
took_moves setup doings sc past tag answer lawful =
    let t = setup.topology in
    let j = sc.joined in
    let is : entries_on t 0 (Took 0 tag answer ∷ past) ≡ taken (other j.requests)
    ∷ entries_on t 0 past =
    put_back t j (direction_to t (places.Host 0)) j.to_host taken (link_entries t 0 past) in
    moved_by setup doings sc (Took 0 tag answer) past lawful
    (host_taken setup doings sc (Took 0 tag answer) past lawful is) 0 0 0 0 0 1 0 0 0 0 0 0
    (at_host t j) (at_none t j) (omega arith) (omega arith)

pub discarded_moves : (setup : Setup) (doings : List LinkEntry → List Doing)
    (sc : Scene setup doings) (past : List Entry) → Lawful setup (Discarded 0 ∷ past) →
    IsMove setup doings (Discarded 0) past
unfolding leaves enters link_entries
discarded_moves setup doings sc past lawful =
    let t = setup.topology in
    let j = sc.joined in
    let is : entries_on t 0 (Discarded 0 ∷ past) ≡ taken (other j.requests) ∷ entries_on t 0 past =
    put_back t j (direction_to t (places.Host 0)) j.to_host taken (link_entries t 0 past) in
    moved_by setup doings sc (Discarded 0) past lawful
    (host_taken setup doings sc (Discarded 0) past lawful is) 0 0 0 0 0 1 0 0 0 0 0 0 (at_host t j)
    (at_none t j) (omega arith) (omega arith)
