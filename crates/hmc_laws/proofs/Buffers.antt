-- What an entry changes of the buffers at the ends of directions.
use Rattle.std.proofs.Common.{◌≡◌, ◌≤◌, ◌+◌, ◌∙◌, ◌==◌, ℕ, Bool, true, false, Option, Some, None, List, [], ◌∷◌, ◌++◌, length, refl, ap, arith, append-nil, zero-add, eq-eqb}
use Rattle.std.specs.Prelude.{option_map, filter, Result, Ok, Err}
use Rattle.hmc_codes.specs.Commands.{is_posted}
use Rattle.hmc_codes.specs.declared.unit.Unit.{Unit as RequestUnit}
use Rattle.hmc_codes.specs.declared.unit.Unit.TheVariants as units
use Rattle.hmc_packet.specs.declared.bad.Bad.{Bad}
use Rattle.hmc_packet.specs.declared.outcome.Outcome.{Outcome}
use Rattle.hmc_packet.specs.declared.outcome.Outcome.TheVariants as outcomes
use Rattle.hmc_packet.specs.declared.seen.Seen.{Seen}
use Rattle.hmc_packet.specs.declared.what.What.TheVariants.{New}
use Rattle.hmc_packet.specs.Landings.{ReceiverEntry, pending, packets_in}
use Rattle.hmc_packet.specs.Landings as landings
use Rattle.hmc_packet.specs.Packet.{PacketFields}
use Rattle.hmc_packet.specs.Reading.{read_of}
use Rattle.hmc_send.specs.LinkEntries.{put_if}
use Rattle.hmc_send.specs.Places.{is_token}
use Rattle.hmc_entries.specs.declared.outcome.Goal.{Goal}
use Rattle.hmc_entries.specs.declared.outcome.Goal.TheVariants as goals
use Rattle.hmc_entries.specs.declared.entry.Entry.{Entry}
use Rattle.hmc_entries.specs.declared.entry.Entry.TheVariants.{Gave, Sent, Landed, Shifted, Dropped, Spread, Executed, Lifted, Took, Discarded, Through, Unlocked, Retired, Passed, Idle}
use Rattle.hmc_journal.specs.Setup.{Topology}
use Rattle.hmc_journal.specs.Directions.{unsent, awaits_first, receiver_of, profile_of, landed_packets, accepted}
use Rattle.hmc_journal.specs.Queues.{QueueId, same_queue, leaves, one_if, packet_if, arrival_in, arrival_of, arrived, goal_queue, queue_of, answers_of, unless_posted, landing_buffer, unless_gone, enters, left, entered}
use Rattle.hmc_journal.specs.Queues.QueueId.{Output, Port, Host, Vault, Bank, Registers, Answers}
use Rattle.hmc_journal.specs.Piped.{forwarded_onto, goes_on}
use Rattle.hmc_journal.proofs.Moves.{begins_off}
use Rattle.hmc_journal.proofs.Projections.{IsNoLanding}

-- the buffer of a port or of a host
abbrev pub IsBuffer : QueueId → Type 0
IsBuffer (Port cube port) = Unit {0}
IsBuffer (Host host) = Unit {0}
IsBuffer _ = ⊥

not-outputs : (queue : QueueId) → IsBuffer queue → (d : ℕ) → same_queue (Output d) queue ≡ false
not-outputs (Port cube port) is d = refl
not-outputs (Host host) is d = refl
not-outputs (Output e) is d = absurd is
not-outputs (Vault cube vault) is d = absurd is
not-outputs (Bank cube vault bank) is d = absurd is
not-outputs (Registers cube) is d = absurd is
not-outputs (Answers cube from) is d = absurd is

-- ---- what enters

nothing-output : (queue : QueueId) → IsBuffer queue → (direction : Option ℕ) (packet : Unit {0} → PacketFields) → arrived queue (arrival_in (option_map Output direction) packet) ≡ []
nothing-output queue is None packet = refl
nothing-output queue is (Some d) packet = ap (λ (b : Bool). packet_if b packet) (not-outputs queue is d)

in-goal : (topology : Topology) (queue : QueueId) → IsBuffer queue → (cube : ℕ) (goal : Goal) (packet : Unit {0} → PacketFields) → arrived queue (arrival_in (goal_queue topology cube goal) packet) ≡ []
in-goal topology queue is cube (goals.Port port) packet = nothing-output queue is _ packet
in-goal topology (Port c p) is cube (goals.Vault vault) packet = refl
in-goal topology (Host host) is cube (goals.Vault vault) packet = refl
in-goal topology (Port c p) is cube goals.Registers packet = refl
in-goal topology (Host host) is cube goals.Registers packet = refl
in-goal topology (Output e) is cube (goals.Vault vault) packet = absurd is
in-goal topology (Vault c v) is cube (goals.Vault vault) packet = absurd is
in-goal topology (Bank c v b) is cube (goals.Vault vault) packet = absurd is
in-goal topology (Registers c) is cube (goals.Vault vault) packet = absurd is
in-goal topology (Answers c from) is cube (goals.Vault vault) packet = absurd is
in-goal topology (Output e) is cube goals.Registers packet = absurd is
in-goal topology (Vault c v) is cube goals.Registers packet = absurd is
in-goal topology (Bank c v b) is cube goals.Registers packet = absurd is
in-goal topology (Registers c) is cube goals.Registers packet = absurd is
in-goal topology (Answers c from) is cube goals.Registers packet = absurd is

in-answers : (queue : QueueId) → IsBuffer queue → (posted : Bool) (unit : RequestUnit) (packet : Unit {0} → PacketFields) → arrived queue (arrival_in (unless_posted posted (answers_of unit)) packet) ≡ []
in-answers queue is true unit packet = refl
in-answers (Port c p) is false (units.Bank cube vault bank) packet = refl
in-answers (Port c p) is false (units.Registers cube) packet = refl
in-answers (Host host) is false (units.Bank cube vault bank) packet = refl
in-answers (Host host) is false (units.Registers cube) packet = refl
in-answers (Output e) is false unit packet = absurd is
in-answers (Vault c v) is false unit packet = absurd is
in-answers (Bank c v b) is false unit packet = absurd is
in-answers (Registers c) is false unit packet = absurd is
in-answers (Answers c from) is false unit packet = absurd is

in-bank : (queue : QueueId) → IsBuffer queue → (cube vault bank : ℕ) (packet : Unit {0} → PacketFields) → arrived queue (arrival_in (Some (Bank cube vault bank)) packet) ≡ []
in-bank (Port c p) is cube vault bank packet = refl
in-bank (Host host) is cube vault bank packet = refl
in-bank (Output e) is cube vault bank packet = absurd is
in-bank (Vault c v) is cube vault bank packet = absurd is
in-bank (Bank c v b) is cube vault bank packet = absurd is
in-bank (Registers c) is cube vault bank packet = absurd is
in-bank (Answers c from) is cube vault bank packet = absurd is

more-none : (list more : List PacketFields) → more ≡ [] → list ++ more ≡ list
more-none list more none = ap (λ l. list ++ l) none ∙ append-nil list

pub entered-same : (topology : Topology) (queue : QueueId) → IsBuffer queue → (entry : Entry) (past : List Entry) → IsNoLanding entry → entered topology (entry ∷ past) queue ≡ entered topology past queue
unfolding entered enters
entered-same topology queue is (Landed direction flit outcome) past quiet = absurd quiet
entered-same topology queue is (Gave host tag poisoned request) past quiet = more-none _ _ (nothing-output queue is _ _)
entered-same topology queue is (Lifted cube from port) past quiet = more-none _ _ (nothing-output queue is _ _)
entered-same topology queue is (Shifted cube port goal) past quiet = more-none _ _ (in-goal topology queue is cube goal _)
entered-same topology queue is (Spread cube vault bank) past quiet = more-none _ _ (in-bank queue is cube vault bank _)
entered-same topology queue is (Executed unit host tag request answer) past quiet = more-none _ _ (in-answers queue is (is_posted request.command) unit _)
entered-same topology queue is (Sent direction what flit) past quiet = append-nil _
entered-same topology queue is (Dropped cube port) past quiet = append-nil _
entered-same topology queue is (Took host tag answer) past quiet = append-nil _
entered-same topology queue is (Discarded host) past quiet = append-nil _
entered-same topology queue is (Unlocked direction) past quiet = append-nil _
entered-same topology queue is (Passed direction flit) past quiet = append-nil _
entered-same topology queue is (Through cube port direction) past quiet = append-nil _
entered-same topology queue is (Retired slot) past quiet = append-nil _
entered-same topology queue is (Idle step cause) past quiet = append-nil _

-- what is accepted changes at landings alone
unlocked-same : (topology : Topology) (d : ℕ) (here : Bool) (past : List ReceiverEntry) → landings.accepted (profile_of topology d) (put_if here ReceiverEntry.Unlock past) ≡ landings.accepted (profile_of topology d) past
unfolding landings.accepted
unlocked-same topology d true past = append-nil (landings.accepted (profile_of topology d) past)
unlocked-same topology d false past = refl

pub accepted-same : (topology : Topology) (d : ℕ) (entry : Entry) (past : List Entry) → IsNoLanding entry → accepted topology d (entry ∷ past) ≡ accepted topology d past
unfolding accepted receiver_of
accepted-same topology d (Landed direction flit outcome) past quiet = absurd quiet
accepted-same topology d (Unlocked direction) past quiet = unlocked-same topology d (direction == d) (receiver_of d past)
accepted-same topology d _ past quiet = refl

-- a landing accepts one packet at most
at_most_one : (result : Result Seen Bad) → length (packets_in result) ≤ 1
at_most_one (Ok seen) = omega arith
at_most_one (Err bad) = omega arith

pub few_landed : (topology : Topology) (d : ℕ) (flit : List ℕ) (outcome : Outcome) (past : List Entry) → length (landed_packets topology d flit outcome past) ≤ 1
unfolding landed_packets
few_landed topology d flit outcomes.Accepted past = at_most_one (read_of (profile_of topology d) (pending (receiver_of d past) ++ flit ∷ []))
few_landed topology d flit outcomes.Poisoned past = at_most_one (read_of (profile_of topology d) (pending (receiver_of d past) ++ flit ∷ []))
few_landed topology d flit _ past = omega arith

first-arrives : (queue : QueueId) (packets : List PacketFields) → same_queue queue queue ≡ true → length packets ≤ 1 → arrived queue (arrival_of queue packets) ≡ packets
first-arrives queue [] same few = refl
first-arrives queue (p ∷ []) same few = ap (λ (b : Bool). packet_if b (λ _. p)) same
first-arrives queue (p ∷ q ∷ packets) same few = absurd (omega arith)

pub tokens-few : (packets : List PacketFields) → length packets ≤ 1 → length (filter is_token packets) ≤ 1
tokens-few [] few = omega arith
tokens-few (p ∷ []) few = by_token (is_token p) refl
  where
    by_token : (t : Bool) → is_token p ≡ t → length (filter is_token (p ∷ [])) ≤ 1
    by_token true is = rw is (omega arith)
    by_token false is = rw is (omega arith)
tokens-few (p ∷ q ∷ packets) few = absurd (omega arith)

-- the requests and answers that a landing accepts
abbrev pub tokens_landed : Topology → (direction : ℕ) → (flit : List ℕ) → Outcome → List Entry → List PacketFields
tokens_landed topology d flit outcome past = filter is_token (landed_packets topology d flit outcome past)

-- what a landing puts into the buffer: all of them, unless they go on at once
abbrev pub coming : Topology → (direction : ℕ) → (flit : List ℕ) → Outcome → List Entry → List PacketFields
coming topology d flit outcome past = unless_gone (goes_on outcome (forwarded_onto topology d past)) (tokens_landed topology d flit outcome past)

few_coming : (gone : Bool) (packets : List PacketFields) → length packets ≤ 1 → length (unless_gone gone packets) ≤ 1
few_coming true packets few = omega arith
few_coming false packets few = few

-- a landing on this direction
pub landed-enters : (topology : Topology) (d : ℕ) (flit : List ℕ) (outcome : Outcome) (past : List Entry) → same_queue (landing_buffer topology d) (landing_buffer topology d) ≡ true
    → entered topology (Landed d flit outcome ∷ past) (landing_buffer topology d) ≡ entered topology past (landing_buffer topology d) ++ coming topology d flit outcome past
unfolding entered enters
landed-enters topology d flit outcome past same =
    ap (λ l. entered topology past (landing_buffer topology d) ++ l)
    (first-arrives (landing_buffer topology d) (coming topology d flit outcome past) same
    (few_coming (goes_on outcome (forwarded_onto topology d past)) (tokens_landed topology d flit outcome past) (tokens-few (landed_packets topology d flit outcome past) (few_landed topology d flit outcome past))))

pub accepted_more : (topology : Topology) (d : ℕ) (flit : List ℕ) (outcome : Outcome) (past : List Entry) → accepted topology d (Landed d flit outcome ∷ past) ≡ accepted topology d past ++ landed_packets topology d flit outcome past
unfolding accepted receiver_of landed_packets landings.accepted
accepted_more topology d flit outcome past =
    let here : (d == d) ≡ true = eq-eqb d d refl in
    ap (λ (b : Bool). landings.accepted (profile_of topology d) (put_if b (ReceiverEntry.Land flit outcome) (receiver_of d past))) here

-- and one on another direction changes nothing here
pub landed-off : (topology : Topology) (d direction : ℕ) (flit : List ℕ) (outcome : Outcome) (past : List Entry) → same_queue (landing_buffer topology direction) (landing_buffer topology d) ≡ false
    → entered topology (Landed direction flit outcome ∷ past) (landing_buffer topology d) ≡ entered topology past (landing_buffer topology d)
unfolding entered enters
landed-off topology d direction flit outcome past other = more-none _ _ (first-off (landing_buffer topology direction) (landing_buffer topology d) (coming topology direction flit outcome past) other)
  where
    first-off : (queue here : QueueId) (packets : List PacketFields) → same_queue queue here ≡ false → arrived here (arrival_of queue packets) ≡ []
    first-off queue here [] quiet = refl
    first-off queue here (p ∷ packets) quiet = ap (λ (b : Bool). packet_if b (λ _. p)) quiet

pub accepted_off : (topology : Topology) (d direction : ℕ) (flit : List ℕ) (outcome : Outcome) (past : List Entry) → (direction == d) ≡ false → accepted topology d (Landed direction flit outcome ∷ past) ≡ accepted topology d past
unfolding accepted receiver_of
accepted_off topology d direction flit outcome past off = ap (λ (b : Bool). landings.accepted (profile_of topology d) (put_if b (ReceiverEntry.Land flit outcome) (receiver_of d past))) off

-- ---- what leaves

-- nothing leaves a buffer by it
abbrev pub IsNoTaking : Entry → Type 0
IsNoTaking (Shifted cube port goal) = ⊥
IsNoTaking (Dropped cube port) = ⊥
IsNoTaking (Took host tag answer) = ⊥
IsNoTaking (Discarded host) = ⊥
IsNoTaking _ = Unit {0}

-- a queue in a cube is no buffer
in-cube-port : (cube port : ℕ) (unit : RequestUnit) → same_queue (queue_of unit) (Port cube port) ≡ false
in-cube-port cube port (units.Bank c v b) = refl
in-cube-port cube port (units.Registers c) = refl

in-cube-host : (host : ℕ) (unit : RequestUnit) → same_queue (queue_of unit) (Host host) ≡ false
in-cube-host host (units.Bank c v b) = refl
in-cube-host host (units.Registers c) = refl

none-left : (leaving : Bool) (n : ℕ) → leaving ≡ false → one_if leaving + n ≡ n
none-left leaving n is = ap (λ (b : Bool). one_if b + n) is ∙ zero-add n

left-port : (cube port : ℕ) (entry : Entry) (past : List Entry) → IsNoTaking entry → left (entry ∷ past) (Port cube port) ≡ left past (Port cube port)
unfolding left leaves
left-port c p (Sent direction New flit) past quiet = none-left _ _ (begins_off (awaits_first direction past) (unsent direction past) direction (Port c p) refl)
left-port c p (Executed unit host tag request answer) past quiet = none-left _ _ (in-cube-port c p unit)
left-port c p (Shifted cube port goal) past quiet = absurd quiet
left-port c p (Dropped cube port) past quiet = absurd quiet
left-port c p (Took host tag answer) past quiet = absurd quiet
left-port c p (Discarded host) past quiet = absurd quiet
left-port c p _ past quiet = zero-add _

left-host : (host : ℕ) (entry : Entry) (past : List Entry) → IsNoTaking entry → left (entry ∷ past) (Host host) ≡ left past (Host host)
unfolding left leaves
left-host h (Sent direction New flit) past quiet = none-left _ _ (begins_off (awaits_first direction past) (unsent direction past) direction (Host h) refl)
left-host h (Executed unit host tag request answer) past quiet = none-left _ _ (in-cube-host h unit)
left-host h (Shifted cube port goal) past quiet = absurd quiet
left-host h (Dropped cube port) past quiet = absurd quiet
left-host h (Took host tag answer) past quiet = absurd quiet
left-host h (Discarded host) past quiet = absurd quiet
left-host h _ past quiet = zero-add _

pub left-same : (queue : QueueId) → IsBuffer queue → (entry : Entry) (past : List Entry) → IsNoTaking entry → left (entry ∷ past) queue ≡ left past queue
left-same (Port cube port) is entry past quiet = left-port cube port entry past quiet
left-same (Host host) is entry past quiet = left-host host entry past quiet
left-same (Output d) is entry past quiet = absurd is
left-same (Vault cube vault) is entry past quiet = absurd is
left-same (Bank cube vault bank) is entry past quiet = absurd is
left-same (Registers cube) is entry past quiet = absurd is
left-same (Answers cube from) is entry past quiet = absurd is
