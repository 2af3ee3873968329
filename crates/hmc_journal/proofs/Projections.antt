-- What a journal says of a direction is what the entries of its link say of it.
use Rattle.std.proofs.Common.{◌≡◌, ◌≢◌, ◌∙◌, ◌/◌, ◌%◌, ◌==◌, ◌&&◌, ℕ, Bool, true, false, if◌then◌else◌, Option, Some, None, List, [], ◌∷◌, ◌++◌, map, refl, sym, ap, arith, eqb-true, eq-eqb, append-nil}
use Rattle.std.proofs.lemmas.Bool.{and_parts, false_from_ne_true}
use Rattle.std.specs.Prelude.{option_map}
use Rattle.std.proofs.lemmas.List.{map-append}
use Rattle.hmc_codes.specs.declared.place.Place.{Place}
use Rattle.hmc_codes.specs.declared.place.Place.TheVariants as places
use Rattle.hmc_packet.specs.declared.feed.Feed.{Feed}
use Rattle.hmc_packet.specs.declared.outcome.Outcome.{Outcome}
use Rattle.hmc_packet.specs.Parts.{lng_of}
use Rattle.hmc_packet.specs.Landings.{ReceiverEntry}
use Rattle.hmc_packet.specs.Packet.{PacketFields}
use Rattle.hmc_send.specs.declared.toward.Toward.{Toward}
use Rattle.hmc_send.specs.declared.toward.Toward.TheVariants.{Forth, Back}
use Rattle.hmc_send.specs.LinkEntries.{LinkEntry, same_way, put_if, push_if, count_if, receiver_entries, handed_packets}
use Rattle.hmc_send.specs.LinkLines.{StampedFlit}
use Rattle.hmc_send.specs.LinkLines as lines
use Rattle.hmc_journal.specs.Choice.{append_if}
use Rattle.hmc_entries.specs.declared.outcome.Goal.{Goal}
use Rattle.hmc_entries.specs.declared.outcome.Goal.TheVariants as goals
use Rattle.hmc_entries.specs.declared.entry.Entry.{Entry}
use Rattle.hmc_entries.specs.declared.entry.Entry.TheVariants.{Gave, Sent, Landed, Shifted, Dropped, Spread, Executed, Lifted, Took, Discarded, Through, Unlocked, Retired, Passed, Idle}
use Rattle.hmc_codes.specs.Commands.{is_posted}
use Rattle.hmc_codes.specs.declared.unit.Unit.{Unit as RequestUnit}
use Rattle.hmc_codes.specs.declared.unit.Unit.TheVariants as units
use Rattle.hmc_packet.specs.Transactions.{request_packet}
use Rattle.hmc_journal.specs.Setup.{Topology, end_of, direction_from}
use Rattle.hmc_journal.specs.Queues.{buffer_at, goal_queue, answers_of, unless_posted, tag_number, front_of, packet_if, arrival_in, arrival_of, arrived, enters, entered, contents}
use Rattle.hmc_journal.specs.Queues.QueueId.{Output, Port, Answers}
use Rattle.hmc_journal.specs.Directions.{sent_flits, receiver_of, profile_of}
use Rattle.hmc_journal.specs.Links.{toward, put_on, taken_at, handed_on, landing_mask, fed_after, taken_if, forwarded_on, gathered_at, direction_to, link_sizes, link_entries, entries_on}
use Rattle.hmc_journal.specs.Piped.{forwarded_onto, goes_on, pipe_onto}

-- an entry that is no landing
abbrev pub IsNoLanding : Entry → Type 0
IsNoLanding (Landed direction flit outcome) = ⊥
IsNoLanding _ = Unit {0}

-- two directions are one where they are of one link and of one way
way-self : (way : Toward) → same_way way way ≡ true
way-self Forth = refl
way-self Back = refl

parity : (d e : ℕ) (a b : Bool) → (d % 2 == 0) ≡ a → (e % 2 == 0) ≡ b → same_way (if a then Forth else Back) (if b then Forth else Back) ≡ true → d % 2 ≡ e % 2
parity d e true true da eb same = eqb-true (d % 2) 0 da ∙ sym (eqb-true (e % 2) 0 eb)
parity d e false false da eb same =
    let odd : d % 2 ≢ 0 = λ is. (let clash : true ≡ false = sym (eq-eqb (d % 2) 0 is) ∙ da in cc) in
    let other : e % 2 ≢ 0 = λ is. (let clash : true ≡ false = sym (eq-eqb (e % 2) 0 is) ∙ eb in cc) in
    omega (arith, odd, other)
parity d e true false da eb same = cc
parity d e false true da eb same = cc

same_by : (d e : ℕ) (same : Bool) → (e == d) ≡ same → same ≡ ((e / 2 == d / 2) && same_way (toward d) (toward e))
same_by d e true is =
    let one : e ≡ d = eqb-true e d is in
    let link : (e / 2 == d / 2) ≡ true = eq-eqb (e / 2) (d / 2) (ap (λ n. n / 2) one) in
    let way : same_way (toward d) (toward e) ≡ true = ap (λ n. same_way (toward d) (toward n)) one ∙ way-self (toward d) in
    rw (link, way) refl
same_by d e false is =
    sym (false_from_ne_true ((e / 2 == d / 2) && same_way (toward d) (toward e))
    (λ both.
    let parts = and_parts (e / 2 == d / 2) (same_way (toward d) (toward e)) both in
    let half : e / 2 ≡ d / 2 = eqb-true (e / 2) (d / 2) parts.0 in
    let rest : d % 2 ≡ e % 2 = parity d e (d % 2 == 0) (e % 2 == 0) refl refl parts.1 in
    let one : e ≡ d = omega arith in
    let clash : true ≡ false = sym (eq-eqb e d one) ∙ is in cc))

pub same_direction : (d e : ℕ) → (e == d) ≡ ((e / 2 == d / 2) && same_way (toward d) (toward e))
same_direction d e = same_by d e (e == d) refl

-- ---- what is put on another link, or is nothing to a direction, changes nothing of it

pub put_on-same : {X : Type 0} (f : List LinkEntry → X) (link : ℕ) (direction : Option ℕ) (entry : Toward → LinkEntry) (past : List LinkEntry) → ((d : Toward) → f (entry d ∷ past) ≡ f past) → f (put_on link direction entry past) ≡ f past
put_on-same f link None entry past same = refl
put_on-same f link (Some direction) entry past same = put-same (direction / 2 == link)
  where
    put-same : (here : Bool) → f (put_if here (entry (toward direction)) past) ≡ f past
    put-same true = same (toward direction)
    put-same false = refl

pub handed_on-same : {X : Type 0} (f : List LinkEntry → X) (topology : Topology) (link cube : ℕ) (goal : Goal) (packet : PacketFields) (past : List LinkEntry) → ((d : Toward) → f (LinkEntry.handed d packet ∷ past) ≡ f past) → f (handed_on topology link cube goal packet past) ≡ f past
handed_on-same f topology link cube (goals.Port port) packet past same = put_on-same f link _ (λ d. LinkEntry.handed d packet) past same
handed_on-same f topology link cube (goals.Vault vault) packet past same = refl
handed_on-same f topology link cube goals.Registers packet past same = refl

-- what a send in a direction of a link is fed
abbrev pub feed_in : Topology → (link direction : ℕ) → List Entry → Toward → Feed
feed_in topology link direction past way = fed_after (link_sizes topology link) way (link_entries topology link past) (pipe_onto topology direction past)

-- what goes on at once is taken too
pub taken_if-same : {X : Type 0} (f : List LinkEntry → X) (gone : Bool) (link direction : ℕ) (past : List LinkEntry) → ((d : Toward) → f (LinkEntry.taken d ∷ past) ≡ f past) → f (taken_if gone link direction past) ≡ f past
taken_if-same f false link direction past same = refl
taken_if-same f true link direction past same = put_on-same f link (Some direction) LinkEntry.taken past same

-- whether a landing goes on at once
abbrev pub goes_at : Topology → (direction : ℕ) → Outcome → List Entry → Bool
goes_at topology direction outcome past = goes_on outcome (forwarded_onto topology direction past)

-- a packet that is forwarded
pub forwarded_on-same : {X : Type 0} (f : List LinkEntry → X) (link direction : ℕ) (came : List (List ℕ)) (past : List LinkEntry) → ((d : Toward) (head : List ℕ) (flits : ℕ) → f (LinkEntry.through d head flits ∷ past) ≡ f past) → f (forwarded_on link direction came past) ≡ f past
forwarded_on-same f link direction [] past same = refl
forwarded_on-same f link direction (head ∷ rest) past same = put_on-same f link (Some direction) (λ d. LinkEntry.through d head (lng_of head)) past (λ d. same d head (lng_of head))

-- the flits that a packet has which is forwarded at a port
abbrev pub came_at : Topology → (cube port : ℕ) → List Entry → List (List ℕ)
came_at topology cube port past = gathered_at (direction_to topology (places.Port cube port)) past

-- what an entry that only hands or takes packets leaves
pub record IsBlind {X : Type 0} (f : List LinkEntry → X) : Type 0 where
  pub handed : (d : Toward) (packet : PacketFields) (past : List LinkEntry) → f (LinkEntry.handed d packet ∷ past) ≡ f past
  pub taken : (d : Toward) (past : List LinkEntry) → f (LinkEntry.taken d ∷ past) ≡ f past

pub shifted-same : {X : Type 0} (f : List LinkEntry → X) → IsBlind f → (topology : Topology) (link cube port : ℕ) (goal : Goal) (packet : PacketFields) (past : List LinkEntry) →
    f (handed_on topology link cube goal packet (taken_at topology link (places.Port cube port) past)) ≡ f past
shifted-same f blind topology link cube port goal packet past =
    let before = taken_at topology link (places.Port cube port) past in
    handed_on-same f topology link cube goal packet before (λ d. blind.handed d packet before)
    ∙ put_on-same f link _ LinkEntry.taken past (λ d. blind.taken d past)

-- ---- the receiver

received-put : (here way : Bool) (d : Toward) (x : ReceiverEntry) (entry : LinkEntry) (past : List LinkEntry) → receiver_entries d (entry ∷ past) ≡ put_if way x (receiver_entries d past)
    → receiver_entries d (put_if here entry past) ≡ put_if (here && way) x (receiver_entries d past)
received-put true way d x entry past is = is
received-put false way d x entry past is = refl

blind_receiver : (d : Toward) → IsBlind (receiver_entries d)
unfolding receiver_entries
blind_receiver d = record { handed = λ e packet past. refl; taken = λ e past. refl }

received-step : (topology : Topology) (d : ℕ) (entry : Entry) (past : List Entry) → receiver_of d past ≡ receiver_entries (toward d) (entries_on topology d past)
    → receiver_of d (entry ∷ past) ≡ receiver_entries (toward d) (entries_on topology d (entry ∷ past))
unfolding receiver_of link_entries receiver_entries
received-step topology d (Gave host tag poisoned request) past is = is ∙ sym (put_on-same (receiver_entries (toward d)) (d / 2) _ (λ way. LinkEntry.handed way _) (entries_on topology d past) (λ e. refl))
received-step topology d (Sent direction what flit) past is =
    is ∙ sym (put_on-same (receiver_entries (toward d)) (d / 2) (Some direction) (λ way. LinkEntry.sent way (feed_in topology (d / 2) direction past way) what flit) (entries_on topology d past) (λ e. refl))
received-step topology d (Landed direction flit outcome) past is =
    ap (put_if (direction == d) (ReceiverEntry.Land flit outcome)) is
    ∙ ap (λ (b : Bool). put_if b (ReceiverEntry.Land flit outcome) (receiver_entries (toward d) (entries_on topology d past))) (same_direction d direction)
    ∙ sym (received-put (direction / 2 == d / 2) (same_way (toward d) (toward direction)) (toward d) (ReceiverEntry.Land flit outcome) _ (entries_on topology d past) refl)
    ∙ sym (taken_if-same (receiver_entries (toward d)) (goes_at topology direction outcome past) (d / 2) direction _ (λ e. refl))
received-step topology d (Unlocked direction) past is =
    ap (put_if (direction == d) ReceiverEntry.Unlock) is
    ∙ ap (λ (b : Bool). put_if b ReceiverEntry.Unlock (receiver_entries (toward d) (entries_on topology d past))) (same_direction d direction)
    ∙ sym (received-put (direction / 2 == d / 2) (same_way (toward d) (toward direction)) (toward d) ReceiverEntry.Unlock _ (entries_on topology d past) refl)
received-step topology d (Shifted cube port goal) past is = is ∙ sym (shifted-same (receiver_entries (toward d)) (blind_receiver (toward d)) topology (d / 2) cube port goal _ (entries_on topology d past))
received-step topology d (Dropped cube port) past is = is ∙ sym (put_on-same (receiver_entries (toward d)) (d / 2) _ LinkEntry.taken (entries_on topology d past) (λ e. refl))
received-step topology d (Lifted cube from port) past is = is ∙ sym (put_on-same (receiver_entries (toward d)) (d / 2) _ (λ way. LinkEntry.handed way _) (entries_on topology d past) (λ e. refl))
received-step topology d (Took host tag answer) past is = is ∙ sym (put_on-same (receiver_entries (toward d)) (d / 2) _ LinkEntry.taken (entries_on topology d past) (λ e. refl))
received-step topology d (Discarded host) past is = is ∙ sym (put_on-same (receiver_entries (toward d)) (d / 2) _ LinkEntry.taken (entries_on topology d past) (λ e. refl))
received-step topology d (Spread cube vault bank) past is = is
received-step topology d (Executed unit host tag request answer) past is = is
received-step topology d (Passed direction flit) past is = is
received-step topology d (Through cube port direction) past is = is ∙ sym (forwarded_on-same (receiver_entries (toward d)) (d / 2) direction (came_at topology cube port past) (entries_on topology d past) (λ e head flits. refl))
received-step topology d (Retired slot) past is = is
received-step topology d (Idle step cause) past is = is

pub received : (topology : Topology) (d : ℕ) (past : List Entry) → receiver_of d past ≡ receiver_entries (toward d) (entries_on topology d past)
unfolding receiver_of link_entries receiver_entries
received topology d [] = refl
received topology d (entry ∷ past) = received-step topology d entry past (received topology d past)

-- ---- the flits that were sent

-- without their stamps
abbrev pub flits_of_line : List StampedFlit → List (List ℕ)
flits_of_line sent = map (λ x. x.flit) sent

abbrev pub link_flits : Topology → ℕ → List LinkEntry → List (List ℕ)
link_flits topology d past = flits_of_line (lines.sent_flits (profile_of topology d) (toward d) past)

blind_sent : (topology : Topology) (d : ℕ) → IsBlind (link_flits topology d)
unfolding lines.sent_flits
blind_sent topology d = record { handed = λ e packet past. refl; taken = λ e past. refl }

pushed-flit : (way : Bool) (x : StampedFlit) (sent : List StampedFlit) → flits_of_line (push_if way x sent) ≡ append_if way (x.flit ∷ []) (flits_of_line sent)
pushed-flit true x sent = map-append (λ (y : StampedFlit). y.flit) sent (x ∷ [])
pushed-flit false x sent = refl

sent-put : (topology : Topology) (d : ℕ) (here way : Bool) (entry : LinkEntry) (flit : List ℕ) (past : List LinkEntry) → link_flits topology d (entry ∷ past) ≡ append_if way (flit ∷ []) (link_flits topology d past)
    → link_flits topology d (put_if here entry past) ≡ append_if (here && way) (flit ∷ []) (link_flits topology d past)
sent-put topology d true way entry flit past is = is
sent-put topology d false way entry flit past is = refl

sent-step : (topology : Topology) (d : ℕ) (entry : Entry) (past : List Entry) → sent_flits d past ≡ link_flits topology d (entries_on topology d past)
    → sent_flits d (entry ∷ past) ≡ link_flits topology d (entries_on topology d (entry ∷ past))
unfolding sent_flits link_entries lines.sent_flits
sent-step topology d (Sent direction what flit) past is =
    ap (append_if (direction == d) (flit ∷ [])) is
    ∙ ap (λ (b : Bool). append_if b (flit ∷ []) (link_flits topology d (entries_on topology d past))) (same_direction d direction)
    ∙ sym (sent-put topology d (direction / 2 == d / 2) (same_way (toward d) (toward direction)) _ flit (entries_on topology d past) (pushed-flit (same_way (toward d) (toward direction)) _ _))
sent-step topology d (Gave host tag poisoned request) past is = is ∙ sym (put_on-same (link_flits topology d) (d / 2) _ (λ way. LinkEntry.handed way _) (entries_on topology d past) (λ e. refl))
sent-step topology d (Landed direction flit outcome) past is =
    is ∙ sym (put_on-same (link_flits topology d) (d / 2) (Some direction) (λ way. LinkEntry.landed way (landing_mask (link_sizes topology (d / 2)) way (entries_on topology d past) flit) flit outcome) (entries_on topology d past) (λ e. refl))
    ∙ sym (taken_if-same (link_flits topology d) (goes_at topology direction outcome past) (d / 2) direction _ (λ e. refl))
sent-step topology d (Unlocked direction) past is = is ∙ sym (put_on-same (link_flits topology d) (d / 2) (Some direction) LinkEntry.unlocked (entries_on topology d past) (λ e. refl))
sent-step topology d (Shifted cube port goal) past is = is ∙ sym (shifted-same (link_flits topology d) (blind_sent topology d) topology (d / 2) cube port goal _ (entries_on topology d past))
sent-step topology d (Dropped cube port) past is = is ∙ sym (put_on-same (link_flits topology d) (d / 2) _ LinkEntry.taken (entries_on topology d past) (λ e. refl))
sent-step topology d (Lifted cube from port) past is = is ∙ sym (put_on-same (link_flits topology d) (d / 2) _ (λ way. LinkEntry.handed way _) (entries_on topology d past) (λ e. refl))
sent-step topology d (Took host tag answer) past is = is ∙ sym (put_on-same (link_flits topology d) (d / 2) _ LinkEntry.taken (entries_on topology d past) (λ e. refl))
sent-step topology d (Discarded host) past is = is ∙ sym (put_on-same (link_flits topology d) (d / 2) _ LinkEntry.taken (entries_on topology d past) (λ e. refl))
sent-step topology d (Spread cube vault bank) past is = is
sent-step topology d (Executed unit host tag request answer) past is = is
sent-step topology d (Passed direction flit) past is = is
sent-step topology d (Through cube port direction) past is = is ∙ sym (forwarded_on-same (link_flits topology d) (d / 2) direction (came_at topology cube port past) (entries_on topology d past) (λ e head flits. refl))
sent-step topology d (Retired slot) past is = is
sent-step topology d (Idle step cause) past is = is

pub sent_are : (topology : Topology) (d : ℕ) (past : List Entry) → sent_flits d past ≡ link_flits topology d (entries_on topology d past)
unfolding sent_flits link_entries lines.sent_flits
sent_are topology d [] = refl
sent_are topology d (entry ∷ past) = sent-step topology d entry past (sent_are topology d past)

-- ---- the flits that landed, except one that passed

unfoldable pub landed_count : ℕ → List Entry → ℕ
landed_count d [] = 0
landed_count d (Landed direction flit outcome ∷ past) = count_if (direction == d) (landed_count d past)
landed_count d (_ ∷ past) = landed_count d past

blind_landings : (d : Toward) → IsBlind (lines.landings d)
unfolding lines.landings
blind_landings d = record { handed = λ e packet past. refl; taken = λ e past. refl }

counted-put : (here way : Bool) (d : Toward) (entry : LinkEntry) (past : List LinkEntry) → lines.landings d (entry ∷ past) ≡ count_if way (lines.landings d past)
    → lines.landings d (put_if here entry past) ≡ count_if (here && way) (lines.landings d past)
counted-put true way d entry past is = is
counted-put false way d entry past is = refl

landed-step : (topology : Topology) (d : ℕ) (entry : Entry) (past : List Entry) → landed_count d past ≡ lines.landings (toward d) (entries_on topology d past)
    → landed_count d (entry ∷ past) ≡ lines.landings (toward d) (entries_on topology d (entry ∷ past))
unfolding landed_count link_entries lines.landings
landed-step topology d (Landed direction flit outcome) past is =
    ap (count_if (direction == d)) is
    ∙ ap (λ (b : Bool). count_if b (lines.landings (toward d) (entries_on topology d past))) (same_direction d direction)
    ∙ sym (counted-put (direction / 2 == d / 2) (same_way (toward d) (toward direction)) (toward d) _ (entries_on topology d past) refl)
    ∙ sym (taken_if-same (lines.landings (toward d)) (goes_at topology direction outcome past) (d / 2) direction _ (λ e. refl))
landed-step topology d (Gave host tag poisoned request) past is = is ∙ sym (put_on-same (lines.landings (toward d)) (d / 2) _ (λ way. LinkEntry.handed way _) (entries_on topology d past) (λ e. refl))
landed-step topology d (Sent direction what flit) past is =
    is ∙ sym (put_on-same (lines.landings (toward d)) (d / 2) (Some direction) (λ way. LinkEntry.sent way (feed_in topology (d / 2) direction past way) what flit) (entries_on topology d past) (λ e. refl))
landed-step topology d (Unlocked direction) past is = is ∙ sym (put_on-same (lines.landings (toward d)) (d / 2) (Some direction) LinkEntry.unlocked (entries_on topology d past) (λ e. refl))
landed-step topology d (Shifted cube port goal) past is = is ∙ sym (shifted-same (lines.landings (toward d)) (blind_landings (toward d)) topology (d / 2) cube port goal _ (entries_on topology d past))
landed-step topology d (Dropped cube port) past is = is ∙ sym (put_on-same (lines.landings (toward d)) (d / 2) _ LinkEntry.taken (entries_on topology d past) (λ e. refl))
landed-step topology d (Lifted cube from port) past is = is ∙ sym (put_on-same (lines.landings (toward d)) (d / 2) _ (λ way. LinkEntry.handed way _) (entries_on topology d past) (λ e. refl))
landed-step topology d (Took host tag answer) past is = is ∙ sym (put_on-same (lines.landings (toward d)) (d / 2) _ LinkEntry.taken (entries_on topology d past) (λ e. refl))
landed-step topology d (Discarded host) past is = is ∙ sym (put_on-same (lines.landings (toward d)) (d / 2) _ LinkEntry.taken (entries_on topology d past) (λ e. refl))
landed-step topology d (Spread cube vault bank) past is = is
landed-step topology d (Executed unit host tag request answer) past is = is
landed-step topology d (Passed direction flit) past is = is
landed-step topology d (Through cube port direction) past is = is ∙ sym (forwarded_on-same (lines.landings (toward d)) (d / 2) direction (came_at topology cube port past) (entries_on topology d past) (λ e head flits. refl))
landed-step topology d (Retired slot) past is = is
landed-step topology d (Idle step cause) past is = is

pub landed_are : (topology : Topology) (d : ℕ) (past : List Entry) → landed_count d past ≡ lines.landings (toward d) (entries_on topology d past)
unfolding landed_count link_entries lines.landings
landed_are topology d [] = refl
landed_are topology d (entry ∷ past) = landed-step topology d entry past (landed_are topology d past)

-- ---- the packets that entered an output queue

entered-put : (here way : Bool) (packet : PacketFields) (list : List PacketFields) (d e : Toward) (past : List LinkEntry) → same_way d e ≡ way → list ≡ handed_packets d past
    → list ++ packet_if (here && way) (λ _. packet) ≡ handed_packets d (put_if here (LinkEntry.handed e packet) past)
unfolding handed_packets
entered-put true true packet list d e past same is = rw same (ap (λ l. l ++ packet ∷ []) is)
entered-put true false packet list d e past same is = rw same (append-nil list ∙ is)
entered-put false way packet list d e past same is = append-nil list ∙ is

entered-by : (d : ℕ) (direction : Option ℕ) (packet : PacketFields) (list : List PacketFields) (past : List LinkEntry) → list ≡ handed_packets (toward d) past
    → list ++ arrived (Output d) (arrival_in (option_map Output direction) (λ _. packet)) ≡ handed_packets (toward d) (put_on (d / 2) direction (λ way. LinkEntry.handed way packet) past)
entered-by d None packet list past is = append-nil list ∙ is
entered-by d (Some e) packet list past is =
    ap (λ (b : Bool). list ++ packet_if b (λ _. packet)) (same_direction d e)
    ∙ entered-put (e / 2 == d / 2) (same_way (toward d) (toward e)) packet list (toward d) (toward e) past refl is

not-output : (d : ℕ) (place : Place) (packets : List PacketFields) → arrived (Output d) (arrival_of (buffer_at place) packets) ≡ []
not-output d (places.Host host) [] = refl
not-output d (places.Host host) (packet ∷ packets) = refl
not-output d (places.Port cube port) [] = refl
not-output d (places.Port cube port) (packet ∷ packets) = refl

not-answers : (d : ℕ) (posted : Bool) (unit : RequestUnit) (packet : Unit {0} → PacketFields) → arrived (Output d) (arrival_in (unless_posted posted (answers_of unit)) packet) ≡ []
not-answers d true unit packet = refl
not-answers d false (units.Bank cube vault bank) packet = refl
not-answers d false (units.Registers cube) packet = refl

-- what a port puts into an output queue
shifted-by : (topology : Topology) (d cube : ℕ) (goal : Goal) (packet : PacketFields) (list : List PacketFields) (past : List LinkEntry) → list ≡ handed_packets (toward d) past
    → list ++ arrived (Output d) (arrival_in (goal_queue topology cube goal) (λ _. packet)) ≡ handed_packets (toward d) (handed_on topology (d / 2) cube goal packet past)
shifted-by topology d cube (goals.Vault vault) packet list past is = append-nil list ∙ is
shifted-by topology d cube goals.Registers packet list past is = append-nil list ∙ is
shifted-by topology d cube (goals.Port port) packet list past is = entered-by d (direction_from topology (places.Port cube port)) packet list past is

nothing-more : (list : List PacketFields) (more : List PacketFields) (entries : List PacketFields) → more ≡ [] → list ≡ entries → list ++ more ≡ entries
nothing-more list more entries none is = ap (λ m. list ++ m) none ∙ append-nil list ∙ is

handed-step : (topology : Topology) (d : ℕ) (entry : Entry) (past : List Entry) → entered topology past (Output d) ≡ handed_packets (toward d) (entries_on topology d past)
    → entered topology (entry ∷ past) (Output d) ≡ handed_packets (toward d) (entries_on topology d (entry ∷ past))
unfolding entered enters contents link_entries handed_packets
handed-step topology d (Gave host tag poisoned request) past is = entered-by d (direction_from topology (places.Host host)) (request_packet request (tag_number tag) host poisoned) _ _ is
handed-step topology d (Lifted cube from port) past is = entered-by d (direction_from topology (places.Port cube port)) (front_of (contents topology past (Answers cube from))) _ _ is
handed-step topology d (Shifted cube port goal) past is =
    shifted-by topology d cube goal (front_of (contents topology past (Port cube port))) _ (taken_at topology (d / 2) (places.Port cube port) (entries_on topology d past))
    (is ∙ sym (put_on-same (handed_packets (toward d)) (d / 2) _ LinkEntry.taken (entries_on topology d past) (λ e. refl)))
handed-step topology d (Landed direction flit outcome) past is =
    nothing-more _ _ _ (not-output d (end_of topology direction) _)
    (is ∙ sym (put_on-same (handed_packets (toward d)) (d / 2) (Some direction) (λ way. LinkEntry.landed way (landing_mask (link_sizes topology (d / 2)) way (entries_on topology d past) flit) flit outcome) (entries_on topology d past) (λ e. refl))
    ∙ sym (taken_if-same (handed_packets (toward d)) (goes_at topology direction outcome past) (d / 2) direction _ (λ e. refl)))
handed-step topology d (Executed unit host tag request answer) past is = nothing-more _ _ _ (not-answers d (is_posted request.command) unit _) is
handed-step topology d (Spread cube vault bank) past is = append-nil _ ∙ is
handed-step topology d (Sent direction what flit) past is =
    append-nil _ ∙ is ∙ sym (put_on-same (handed_packets (toward d)) (d / 2) (Some direction) (λ way. LinkEntry.sent way (feed_in topology (d / 2) direction past way) what flit) (entries_on topology d past) (λ e. refl))
handed-step topology d (Unlocked direction) past is = append-nil _ ∙ is ∙ sym (put_on-same (handed_packets (toward d)) (d / 2) (Some direction) LinkEntry.unlocked (entries_on topology d past) (λ e. refl))
handed-step topology d (Dropped cube port) past is = append-nil _ ∙ is ∙ sym (put_on-same (handed_packets (toward d)) (d / 2) _ LinkEntry.taken (entries_on topology d past) (λ e. refl))
handed-step topology d (Took host tag answer) past is = append-nil _ ∙ is ∙ sym (put_on-same (handed_packets (toward d)) (d / 2) _ LinkEntry.taken (entries_on topology d past) (λ e. refl))
handed-step topology d (Discarded host) past is = append-nil _ ∙ is ∙ sym (put_on-same (handed_packets (toward d)) (d / 2) _ LinkEntry.taken (entries_on topology d past) (λ e. refl))
handed-step topology d (Passed direction flit) past is = append-nil _ ∙ is
handed-step topology d (Through cube port direction) past is = append-nil _ ∙ is ∙ sym (forwarded_on-same (handed_packets (toward d)) (d / 2) direction (came_at topology cube port past) (entries_on topology d past) (λ e head flits. refl))
handed-step topology d (Retired slot) past is = append-nil _ ∙ is
handed-step topology d (Idle step cause) past is = append-nil _ ∙ is

pub handed_are : (topology : Topology) (d : ℕ) (past : List Entry) → entered topology past (Output d) ≡ handed_packets (toward d) (entries_on topology d past)
unfolding entered link_entries handed_packets
handed_are topology d [] = refl
handed_are topology d (entry ∷ past) = handed-step topology d entry past (handed_are topology d past)
