-- How one entry changes what left a queue and what entered it.
use Rattle.std.proofs.Common.{◌≡◌, ◌≤◌, ◌<◌, ◌+◌, ◌&&◌, ◌∙◌, ◌==◌, ℕ, zero, suc, Bool, true, false, Option, Some, None, List, [], ◌∷◌, ◌++◌, length, take, drop, get_or, slice_index_or, refl, sym, ap, ap₂, subst, arith, eqb-true, eq-eqb, append-nil, length-append, length-drop, zero-add, take-append-drop}
use Rattle.std.proofs.lemmas.Bool.{and_parts}
use Rattle.hmc_journal.specs.Choice.{append_if}
use Rattle.std.specs.Prelude.{option_map}
use Rattle.std.proofs.lemmas.List.{take-append-le, drop_more, take_more}
use Rattle.hmc_codes.proofs.General.{two_equal}
use Rattle.hmc_codes.proofs.Places.{lift_is, lift_same}
use Rattle.hmc_packet.specs.declared.what.What.TheVariants.{New}
use Rattle.hmc_packet.specs.Packet.{PacketFields, null_packet}
use Rattle.hmc_entries.specs.declared.entry.Entry.{Entry}
use Rattle.hmc_entries.specs.declared.entry.Entry.TheVariants.{Sent, Shifted, Dropped, Spread, Executed, Lifted, Took, Discarded}
use Rattle.hmc_journal.specs.Setup.{Setup, Topology}
use Rattle.hmc_journal.specs.Directions.{unsent, awaits_first}
use Rattle.hmc_journal.specs.Queues.{QueueId, same_lift, same_queue, is_at, leaves, enters, begins, Arrival, arrival_in, arrival_of, arrived, front_of, one_if, packet_if, left, entered, contents}
use Rattle.hmc_journal.specs.Queues.QueueId.{Output, Port, Host, Vault, Bank, Registers, Answers}
use Rattle.hmc_journal.proofs.EntryRule.{EntryRule, HasFront}

-- two queues with one name are one
pub same_queue_is : (here there : QueueId) → same_queue here there ≡ true → here ≡ there
same_queue_is (Output d) (Output e) is = ap Output (eqb-true d e is)
same_queue_is (Port c p) (Port d q) is = let both = two_equal c d p q is in ap₂ Port both.0 both.1
same_queue_is (Host h) (Host k) is = ap Host (eqb-true h k is)
same_queue_is (Vault c v) (Vault d w) is = let both = two_equal c d v w is in ap₂ Vault both.0 both.1
same_queue_is (Bank c v b) (Bank d w a) is =
    let both = and_parts (c == d) ((v == w) && (b == a)) is in
    let cube : c ≡ d = eqb-true c d both.0 in
    let rest = two_equal v w b a both.1 in
    let vault : v ≡ w = rest.0 in
    let bank : b ≡ a = rest.1 in cc
same_queue_is (Registers c) (Registers d) is = ap Registers (eqb-true c d is)
same_queue_is (Answers c from) (Answers d to) is =
    let both = and_parts (c == d) (same_lift from to) is in ap₂ Answers (eqb-true c d both.0) (lift_is from to both.1)
same_queue_is _ _ is = cc

pub same_queue_refl : (here : QueueId) → same_queue here here ≡ true
same_queue_refl (Output d) = eq-eqb d d refl
same_queue_refl (Port c p) = rw (eq-eqb c c refl) (eq-eqb p p refl)
same_queue_refl (Host h) = eq-eqb h h refl
same_queue_refl (Vault c v) = rw (eq-eqb c c refl) (eq-eqb v v refl)
same_queue_refl (Bank c v b) = rw (eq-eqb c c refl, eq-eqb v v refl) (eq-eqb b b refl)
same_queue_refl (Registers c) = eq-eqb c c refl
same_queue_refl (Answers c from) = rw (eq-eqb c c refl) (lift_same from)

-- what is begun, or taken, elsewhere isn't so here
pub begins_off : (waiting : Bool) (count direction : ℕ) (room : QueueId) → same_queue (Output direction) room ≡ false → is_at (begins waiting count direction) room ≡ false
begins_off true count direction room off = refl
begins_off false zero direction room off = off
begins_off false (suc count) direction room off = refl

pub output_off : (direction : Option ℕ) (room : QueueId) → ((d : ℕ) → same_queue (Output d) room ≡ false) → is_at (option_map Output direction) room ≡ false
output_off None room off = refl
output_off (Some d) room off = off d

pub append_if-append : {X : Type 0} (here : Bool) (more list : List X) → append_if here more list ≡ list ++ append_if here more []
append_if-append true more list = refl
append_if-append false more list = sym (append-nil list)

-- the front of a list, where something leaves it
pub gone_plain : (leaving : Bool) (n : ℕ) (xs more : List PacketFields) → n ≤ length xs → (leaving ≡ true → n < length xs)
    → take (one_if leaving + n) (xs ++ more) ≡ take n xs ++ packet_if leaving (λ _. front_of (drop n xs))
gone_plain false n xs more within some =
    ap (λ (k : ℕ). take k (xs ++ more)) (zero-add n) ∙ take-append-le n xs more within ∙ sym (append-nil (take n xs))
gone_plain true n xs more within some =
    let inside : n < length xs = some refl in
    let front : get_or xs n null_packet ≡ front_of (drop n xs) = sym (ap (λ (l : List PacketFields). slice_index_or l 0 null_packet) (drop_more xs n null_packet inside)) in
    let next : 1 + n ≡ n + 1 = omega arith in
    ap (λ (k : ℕ). take k (xs ++ more)) next ∙ take-append-le (n + 1) xs more (omega arith) ∙ take_more xs n null_packet inside
    ∙ ap (λ (p : PacketFields). take n xs ++ p ∷ []) front

pub within_plain : (leaving : Bool) (n : ℕ) (xs more : List PacketFields) → n ≤ length xs → (leaving ≡ true → n < length xs) → one_if leaving + n ≤ length (xs ++ more)
within_plain false n xs more within some = omega (arith, length-append xs more)
within_plain true n xs more within some = let inside : n < length xs = some refl in omega (arith, length-append xs more)

-- what has left a room
unfoldable pub gone : Topology → List Entry → QueueId → List PacketFields
gone topology past room = take (left past room) (entered topology past room)

pub gone-contents : (topology : Topology) (past : List Entry) (room : QueueId) → entered topology past room ≡ gone topology past room ++ contents topology past room
unfolding gone contents
gone-contents topology past room = sym (take-append-drop (left past room) (entered topology past room))

-- the packet that an entry takes out of a room, and the one that it puts in
unfoldable pub leaving : Topology → List Entry → Entry → QueueId → List PacketFields
leaving topology past entry room = packet_if (is_at (leaves past entry) room) (λ _. front_of (contents topology past room))

abbrev pub arrives : Topology → List Entry → Entry → Option Arrival
arrives topology past entry = enters topology (contents topology past) past entry

unfoldable pub entering : Topology → List Entry → Entry → QueueId → List PacketFields
entering topology past entry room = arrived room (arrives topology past entry)

-- what arrives in a queue that is, or isn't, this one
pub arrived_is : (there : Option QueueId) (packet : Unit {0} → PacketFields) (room : QueueId) → arrived room (arrival_in there packet) ≡ packet_if (is_at there room) packet
arrived_is None packet room = refl
arrived_is (Some queue) packet room = refl

pub arrived_off : (there : Option QueueId) (packet : Unit {0} → PacketFields) (room : QueueId) → is_at there room ≡ false → arrived room (arrival_in there packet) ≡ []
arrived_off there packet room off = arrived_is there packet room ∙ ap (λ (b : Bool). packet_if b packet) off

-- the first of some packets
pub arrived_first : (queue room : QueueId) (packets : List PacketFields) → same_queue queue room ≡ false → arrived room (arrival_of queue packets) ≡ []
arrived_first queue room [] off = refl
arrived_first queue room (packet ∷ packets) off = ap (λ (b : Bool). packet_if b (λ _. packet)) off

pub entered-more : (topology : Topology) (entry : Entry) (past : List Entry) (room : QueueId) → entered topology (entry ∷ past) room ≡ entered topology past room ++ entering topology past entry room
unfolding entered entering contents
entered-more topology entry past room = refl

-- a room from which something leaves has a front
abbrev pub HasLeaving : Setup → List Entry → Option QueueId → Type 0
HasLeaving setup past None = Unit {0}
HasLeaving setup past (Some room) = HasFront setup past room

-- of a flit that begins a packet
abbrev pub HasBegun : Setup → List Entry → Entry → Type 0
HasBegun setup past (Sent direction New flit) = HasLeaving setup past (begins (awaits_first direction past) (unsent direction past) direction)
HasBegun setup past _ = Unit {0}

pub has_leaving : (setup : Setup) (past : List Entry) (entry : Entry) → EntryRule setup past entry → HasBegun setup past entry → HasLeaving setup past (leaves past entry)
unfolding leaves
has_leaving setup past (Sent direction New flit) right begun = begun
has_leaving setup past (Shifted cube port goal) right begun = right.at
has_leaving setup past (Dropped cube port) right begun = right.at
has_leaving setup past (Spread cube vault bank) right begun = right.at
has_leaving setup past (Executed unit host tag request answer) right begun = right.at
has_leaving setup past (Lifted cube from port) right begun = right.at
has_leaving setup past (Took host tag answer) right begun = right.at
has_leaving setup past (Discarded host) right begun = right.at
has_leaving setup past _ right begun = tt

pub front_inside : (setup : Setup) (past : List Entry) (room : QueueId) → HasFront setup past room → left past room < length (entered setup.topology past room)
unfolding contents
front_inside setup past room at =
    let long : length (drop (left past room) (entered setup.topology past room)) ≡ suc (length at.rest) = ap length at.is in
    omega (arith, length-drop (left past room) (entered setup.topology past room))

pub leaving_inside : (setup : Setup) (past : List Entry) (room : QueueId) (from : Option QueueId) → HasLeaving setup past from → is_at from room ≡ true → left past room < length (entered setup.topology past room)
leaving_inside setup past room None has is = cc
leaving_inside setup past room (Some here) has is = front_inside setup past room (subst (HasFront setup past) (same_queue_is here room is) has)

pub front_is : (setup : Setup) (past : List Entry) (room : QueueId) (at : HasFront setup past room) → front_of (contents setup.topology past room) ≡ at.front
front_is setup past room at = ap front_of at.is

-- no more left a room than entered it
pub within-more : (setup : Setup) (entry : Entry) (past : List Entry) → EntryRule setup past entry → HasBegun setup past entry → ((room : QueueId) → left past room ≤ length (entered setup.topology past room))
    → (room : QueueId) → left (entry ∷ past) room ≤ length (entered setup.topology (entry ∷ past) room)
unfolding left entered
within-more setup entry past right begun within room =
    within_plain (is_at (leaves past entry) room) (left past room) (entered setup.topology past room) _ (within room)
    (leaving_inside setup past room (leaves past entry) (has_leaving setup past entry right begun))

pub gone-more : (setup : Setup) (entry : Entry) (past : List Entry) → EntryRule setup past entry → HasBegun setup past entry → ((room : QueueId) → left past room ≤ length (entered setup.topology past room))
    → (room : QueueId) → gone setup.topology (entry ∷ past) room ≡ gone setup.topology past room ++ leaving setup.topology past entry room
unfolding gone left entered leaving contents
gone-more setup entry past right begun within room =
    gone_plain (is_at (leaves past entry) room) (left past room) (entered setup.topology past room) _ (within room)
    (leaving_inside setup past room (leaves past entry) (has_leaving setup past entry right begun))
