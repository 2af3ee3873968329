-- What an entry changes of how many packets are in each queue.
use Rattle.std.proofs.Common.{◌≡◌, ◌≤◌, ◌+◌, ◌∙◌, ℕ, suc, Bool, true, false, Option, Some, None, List, [], ◌∷◌, length, refl, sym, ap, subst, arith, length-append}
use Rattle.hmc_packet.specs.Packet.{PacketFields}
use Rattle.hmc_entries.specs.declared.entry.Entry.{Entry}
use Rattle.hmc_journal.specs.Setup.{Setup}
use Rattle.hmc_journal.specs.Network.{IsNetwork}
use Rattle.hmc_journal.specs.Lawful.{Lawful}
use Rattle.hmc_journal.specs.Queues.{QueueId, same_queue, is_at, leaves, one_if, packet_if, Arrival, arrived, contents}
use Rattle.hmc_journal.proofs.EntryRule.{HasFront, entry_rule, lawful_past}
use Rattle.hmc_journal.proofs.Moves.{HasLeaving, has_leaving, same_queue_is, arrives, entering}
use Rattle.hmc_laws.proofs.Contents.{pop, contents-more}
use Rattle.hmc_laws.proofs.Sound.{kept}
use Rattle.hmc_laws.proofs.SoundSends.{has_begun}
use Rattle.hmc_journal.specs.UnderWay.{count_in}
use Rattle.hmc_rounds.proofs.Totals.{flat_sum, sum_plus, count}

abbrev pub queue_entered : Option Arrival → Option QueueId
queue_entered None = None
queue_entered (Some arrival) = Some arrival.queue

if_length : (here : Bool) (packet : Unit {0} → PacketFields) →
    length (packet_if here packet) ≡ one_if here
if_length true packet = refl
if_length false packet = refl

pub arrived_length : (room : QueueId) (to : Option Arrival) →
    length (arrived room to) ≡ one_if (is_at (queue_entered to) room)
arrived_length room None = refl
arrived_length room (Some arrival) = if_length (same_queue arrival.queue room) arrival.packet

pop_length : (goes : Bool) (packets : List PacketFields) → (goes ≡ true → 1 ≤ length packets) →
    length (pop goes packets) + one_if goes ≡ length packets
pop_length false packets some = omega arith
pop_length true [] some = absurd (let z : 1 ≤ 0 = some refl in omega (arith, z))
pop_length true (p ∷ packets) some = omega arith

front_some : (setup : Setup) (past : List Entry) (room : QueueId) → HasFront setup past room →
    1 ≤ length (contents setup.topology past room)
front_some setup past room at =
    let long : length (contents setup.topology past room) ≡ suc (length at.rest) =
    ap length at.is in omega (arith, long)

some_if : (setup : Setup) (past : List Entry) (from : Option QueueId) (room : QueueId) →
    HasLeaving setup past from → is_at from room ≡ true →
    1 ≤ length (contents setup.topology past room)
some_if setup past None room has is = cc
some_if setup past (Some there) room has is =
    front_some setup past room (subst (HasFront setup past) (same_queue_is there room is) has)

-- a queue
pub room_more : (setup : Setup) (entry : Entry) (past : List Entry) → IsNetwork setup →
    Lawful setup (entry ∷ past) → (room : QueueId)
    → length (contents setup.topology (entry ∷ past) room) + one_if (is_at (leaves past entry) room)
    ≡ length (contents setup.topology past room)
    + one_if (is_at (queue_entered (arrives setup.topology past entry)) room)
unfolding entering
room_more setup entry past network lawful room =
    let right = entry_rule setup entry past lawful in
    let keeps = kept setup past network (lawful_past setup entry past lawful) in
    let begun = has_begun setup past entry right keeps in
    let more =
    ap length (contents-more setup entry past room right begun keeps.within)
    ∙ length-append (pop (is_at (leaves past entry) room) (contents setup.topology past room))
    (entering setup.topology past entry room) in
    let popped =
    pop_length (is_at (leaves past entry) room) (contents setup.topology past room)
    (some_if setup past (leaves past entry) room (has_leaving setup past entry right begun)) in
    let came : length (entering setup.topology past entry room) ≡ one_if
    (is_at (queue_entered (arrives setup.topology past entry)) room) =
    arrived_length room (arrives setup.topology past entry) in
    by_sums (length (contents setup.topology (entry ∷ past) room))
    (length (pop (is_at (leaves past entry) room) (contents setup.topology past room)))
    (length (entering setup.topology past entry room))
    (one_if (is_at (leaves past entry) room)) (length (contents setup.topology past room))
    (one_if (is_at (queue_entered (arrives setup.topology past entry)) room)) more popped came
  where
    by_sums : (now popped came gone before to : ℕ) → now ≡ popped + came → popped + gone ≡ before →
        came ≡ to → now + gone ≡ before + to
    by_sums now popped came gone before to a b c = omega arith

-- some queues
pub held_more : (setup : Setup) (entry : Entry) (past : List Entry) → IsNetwork setup →
    Lawful setup (entry ∷ past) → (rooms : List QueueId)
    → count_in setup.topology (entry ∷ past) rooms
    + count (leaves past entry) rooms ≡ count_in setup.topology past rooms
    + count (queue_entered (arrives setup.topology past entry)) rooms
held_more setup entry past network lawful rooms =
    let t = setup.topology in
    ap (λ (n : ℕ). n + count (leaves past entry) rooms) (flat_sum (contents t (entry ∷ past)) rooms)
    ∙ sum_plus (λ q. length (contents t (entry ∷ past) q)) (λ q. length (contents t past q))
    (λ q. one_if (is_at (leaves past entry) q))
    (λ q. one_if (is_at (queue_entered (arrives t past entry)) q))
    (room_more setup entry past network lawful) rooms
    ∙ sym (ap (λ (n : ℕ). n + count (queue_entered (arrives t past entry)) rooms)
    (flat_sum (contents t past) rooms))
