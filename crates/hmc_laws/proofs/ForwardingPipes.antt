-- The pipe of each direction, and the packets that are gathered while they are forwarded: what is
-- kept of them.
use Rattle.std.proofs.Common.{◌≡◌, ◌≤◌, ◌<◌, ◌+◌, ◌-◌, ◌∙◌, ◌==◌, ℕ, zero, suc, Bool, true, false, if◌then◌else◌, Option, Some, None, List, [], ◌∷◌, ◌++◌, length, drop, refl, sym, ap, subst, arith, zero-add}
use Rattle.std.specs.Prelude.{is_none}
use Rattle.hmc_codes.specs.Commands.{family_of}
use Rattle.hmc_codes.specs.Link.{LinkFields}
use Rattle.hmc_codes.specs.declared.place.Place.{Place as End}
use Rattle.hmc_codes.specs.declared.profile.Profile.{Profile}
use Rattle.hmc_packet.specs.declared.feed.Feed.{Feed}
use Rattle.hmc_packet.specs.declared.feed.Feed.TheVariants.{Waiting, Whole, Last}
use Rattle.hmc_packet.specs.declared.head.Head.{Head}
use Rattle.hmc_packet.specs.declared.what.What.{What}
use Rattle.hmc_packet.specs.Head.{head_in}
use Rattle.hmc_packet.specs.Landings.{pending}
use Rattle.hmc_packet.specs.Packet.{PacketFields}
use Rattle.hmc_packet.specs.Spelling.{FitsProfile, spelling}
use Rattle.hmc_through.specs.Pipe.{PipeFields, flit_at, whole_fed, last_fed, feed_at}
use Rattle.hmc_send.specs.declared.toward.Toward.{Toward}
use Rattle.hmc_send.specs.declared.numbers.Numbers.{Numbers}
use Rattle.hmc_send.specs.Entries.{SenderEntry, Part, UnderWay, unfinished, last_begun, with_place, under_way, through_place}
use Rattle.hmc_send.specs.LinkEntries.{LinkEntry}
use Rattle.hmc_send.specs.LinkSenders.{sender_entries}
use Rattle.hmc_send.specs.Places.{Place, place_at}
use Rattle.hmc_wire.proofs.OpenPlaces.{AreKnown}
use Rattle.hmc_wire.proofs.Places.{packet_of}
use Rattle.hmc_journal.specs.Directions.{profile_of, receiver_of}
use Rattle.hmc_journal.specs.Piped.{PipeFrom, forwarded_onto, pipe_onto, fed}
use Rattle.hmc_entries.specs.declared.entry.Entry.{Entry}
use Rattle.hmc_journal.specs.Queues.{QueueId, buffer_at, is_at, one_if, leaves, left, entered, landing_buffer, contents}
use Rattle.hmc_journal.specs.Setup.{Topology, directions_in, end_of, direction_from}
use Rattle.hmc_journal.specs.ThroughSteps.{port_by}
use Rattle.hmc_journal.proofs.LinkKept.{known_at}
use Rattle.hmc_laws.proofs.OpenSends.{sent_on, OpenAfter}
use Rattle.hmc_laws.proofs.OpenSends.OpenAfter.{AllKnown, SameUp, Grows, Fills}
use Rattle.hmc_laws.proofs.Buffers.{IsBuffer}
use Rattle.hmc_laws.proofs.Piping.{up_on}
use Rattle.hmc_laws.proofs.Standing.{IsMoving}
use Rattle.hmc_codes.specs.declared.place.Place.TheVariants as ends
use Rattle.hmc_send.specs.Entries as entries

-- ---- an open place is under way

abbrev pub IsAwaited : Place → Type 0
IsAwaited (Place.known packet) = ⊥
IsAwaited (Place.awaited head count numbers) = Unit {0}

abbrev pub Waits : Option UnderWay → Type 0
Waits None = ⊥
Waits (Some begun) = IsAwaited begun.place

not_waiting : (place : Place) (u : Option Part) → is_none (packet_of place) ≡ false →
    Waits (with_place place u) → ⊥
not_waiting place None known waits = waits
not_waiting (Place.known packet) (Some part) known waits = waits
not_waiting (Place.awaited head count numbers) (Some part) known waits = let clash : true ≡ false =
    known in cc

pub known_waits : (q : Profile) (T : List SenderEntry) → AreKnown (entries.places q T) →
    Waits (under_way q T) → ⊥
known_waits q T known waits =
    not_waiting (place_at (entries.places q T) (last_begun q T)) (unfinished T)
    (known_at (entries.places q T) (last_begun q T - 1) known) waits

-- while a packet is gathered no last flit is fed
no_last_by : (pipe : PipeFields) (at : ℕ) (last here : Bool) (half : List ℕ) (slid errstat : ℕ)
    (good : Bool) → (if last then Waiting else (if here then Whole (flit_at pipe at) else Waiting))
    ≡ Last half slid errstat good → ⊥
no_last_by pipe at true here half slid errstat good is = cc
no_last_by pipe at false true half slid errstat good is = cc
no_last_by pipe at false false half slid errstat good is = cc

no_last : (pipe : PipeFields) (at : ℕ) (last : Bool) (found : Option Bool) (half : List ℕ)
    (slid errstat : ℕ) (good : Bool) → found ≡ None →
    (if last then last_fed pipe at found else whole_fed pipe at found)
    ≡ Last half slid errstat good → ⊥
no_last pipe at last None half slid errstat good none is =
    no_last_by pipe at last _ half slid errstat good is
no_last pipe at last (Some g) half slid errstat good none is = let clash : Some g ≡ None = none in
    cc

up_waits : (up : Option UnderWay) (part : Part) (head : List ℕ) (count : ℕ) (numbers : Numbers) → up
    ≡ Some (record { part = part; place = Place.awaited head count numbers }) → Waits up
up_waits up part head count numbers is = subst Waits (sym is) tt

-- so a send leaves the place open
pub waits_sent : (link : LinkFields) (d : Toward) (feed : Feed) (as_what : What) (flit : List ℕ)
    (past : List LinkEntry) (p : PipeFrom) → p.pipe.good ≡ None → feed
    ≡ fed (through_place (under_way link.profile (sender_entries link d past))) (Some p)
    → OpenAfter link d feed as_what flit past →
    Waits (under_way link.profile (sender_entries link d past)) →
    Waits (under_way link.profile (sent_on link d feed as_what flit past))
waits_sent link d feed as_what flit past p none fed_is (AllKnown before known) waits =
    absurd (known_waits link.profile (sender_entries link d past) before waits)
waits_sent link d feed as_what flit past p none fed_is (SameUp same) waits =
    subst Waits (sym same) waits
waits_sent link d feed as_what flit past p none fed_is
    (Grows part head count numbers under whole new after) waits =
    up_waits _ (record part { sent = part.sent ++ flit ∷ [] }) head count numbers after
waits_sent link d feed as_what flit past p none fed_is
    (Fills part head count numbers half slid errstat good under last new after) waits =
    let gives : feed_at p.pipe (length part.sent) ≡ Last half slid errstat good =
    sym (ap (λ (u : Option UnderWay). fed (through_place u) (Some p)) under) ∙ sym fed_is
    ∙ last in
    absurd (no_last p.pipe (length part.sent) (suc (length part.sent) == p.pipe.flits) p.pipe.good
    half slid errstat good none gives)

-- ---- what is known of a pipe

-- the port at which its packet is gathered, and its way from there
pub record Way (topology : Topology) (p : PipeFrom) (d : ℕ) : Type 0 where
  pub cube : ℕ
  pub port : ℕ
  pub onward : ℕ
  pub head : Head
  pub inside : p.from < directions_in topology
  pub lands : end_of topology p.from ≡ ends.Port cube port
  pub is_head : head_in (flit_at p.pipe 0) ≡ Some head
  pub is_onward : port_by topology cube head (family_of head.command) ≡ Some onward
  pub starts : direction_from topology (ends.Port cube onward) ≡ Some d

-- its packet is still being gathered
pub record IsGathering (topology : Topology) (past : List Entry) (d : ℕ) (p : PipeFrom) : Type 0
  where
    pub forwarded : forwarded_onto topology p.from past ≡ Some d
    pub came : p.pipe.came ≡ pending (receiver_of p.from past)
    pub up : Waits (up_on topology d past)

-- its packet was accepted: the flits that came are this one
pub record IsGood (topology : Topology) (p : PipeFrom) : Type 0 where
  pub packet : PacketFields
  pub moving : IsMoving topology packet
  pub clean : packet.poisoned ≡ false
  pub rrp : ℕ
  pub fits : FitsProfile p.pipe.profile packet rrp
  pub spelled : p.pipe.came ≡ spelling p.pipe.profile packet rrp

pub record PipeKept (topology : Topology) (past : List Entry) (d : ℕ) (p : PipeFrom) : Type 0 where
  pub way : Way topology p d
  pub some : 1 ≤ length p.pipe.came
  pub profile : p.pipe.profile ≡ profile_of topology p.from
  pub gathering : p.pipe.good ≡ None → IsGathering topology past d p
  pub good : p.pipe.good ≡ Some true → IsGood topology p

abbrev pub OnPipe : Topology → List Entry → (d : ℕ) → Option PipeFrom → Type 0
OnPipe topology past d None = Unit {0}
OnPipe topology past d (Some p) = PipeKept topology past d p

abbrev pub ArePiped : Topology → List Entry → Type 0
ArePiped topology past = (d : ℕ) → OnPipe topology past d (pipe_onto topology d past)

-- a packet is forwarded from the end of a direction onto another
pub record IsForwarding (topology : Topology) (past : List Entry) (e d : ℕ) : Type 0 where
  pub pipe : PipeFrom
  pub is : pipe_onto topology d past ≡ Some pipe
  pub from : pipe.from ≡ e
  pub gathers : pipe.pipe.good ≡ None
  pub empty : contents topology past (landing_buffer topology e) ≡ []

abbrev pub AreForwarding : Topology → List Entry → Type 0
AreForwarding topology past = (e d : ℕ) → e < directions_in topology →
    forwarded_onto topology e past ≡ Some d → IsForwarding topology past e d

-- ---- buffers that stay empty

pub is_buffer : (place : End) → IsBuffer (buffer_at place)
is_buffer (ends.Host host) = tt
is_buffer (ends.Port cube port) = tt

empty_drop : (n : ℕ) (more : Bool) (l : List PacketFields) → drop n l ≡ [] →
    drop (one_if more + n) l ≡ []
empty_drop n false l is = ap (λ (k : ℕ). drop k l) (zero-add n) ∙ is
empty_drop n true l is = by_list n l is
  where
    drop_none : (k : ℕ) → ◌≡◌ {A = List PacketFields} (drop k []) []
    drop_none zero = refl
    drop_none (suc k) = refl

    by_list : (n : ℕ) (l : List PacketFields) → drop n l ≡ [] → drop (1 + n) l ≡ []
    by_list n [] is = drop_none (1 + n)
    by_list zero (x ∷ l) is = absurd cc
    by_list (suc n) (x ∷ l) is = let e : 1 + suc n ≡ suc (1 + n) = omega arith in
        ap (λ (k : ℕ). drop k (x ∷ l)) e ∙ by_list n l is

pub stays_empty : (topology : Topology) (entry : Entry) (past : List Entry) (queue : QueueId) →
    entered topology (entry ∷ past) queue ≡ entered topology past queue →
    contents topology past queue ≡ [] → contents topology (entry ∷ past) queue ≡ []
unfolding contents left
stays_empty topology entry past queue same empty =
    ap (drop (one_if (is_at (leaves past entry) queue) + left past queue)) same
    ∙ empty_drop (left past queue) (is_at (leaves past entry) queue)
    (entered topology past queue) empty
