-- A link keeps its laws where a packet is taken from it, or handed to it.
use Rattle.std.proofs.Common.{◌≡◌, ◌<◌, ◌/◌, ◌==◌, ◌∙◌, ℕ, zero, suc, Bool, true, false, not, nat_le, nat_lt, Option, Some, List, [], ◌∷◌, drop, length, refl, sym, ap, subst, arith, lt-ltb, leb-false, eqb-true}
use Rattle.std.specs.Prelude.{filter, option_map}
use Rattle.hmc_packet.specs.Packet.{PacketFields}
use Rattle.hmc_entries.specs.declared.entry.Entry.{Entry}
use Rattle.hmc_journal.specs.Setup.{Setup, Topology, directions_in, direction_from}
use Rattle.hmc_codes.specs.declared.profile.Profile.{Profile}
use Rattle.hmc_codes.specs.declared.profile.Profile.TheVariants.{One, Two}
use Rattle.hmc_packet.specs.declared.outcome.Outcome.{Outcome}
use Rattle.hmc_packet.specs.Tail.{FitsField, tail_layout}
use Rattle.hmc_send.specs.declared.toward.Toward.{Toward}
use Rattle.hmc_send.specs.LinkCalls.{has_room, holds_packet}
use Rattle.hmc_send.specs.LinkEntries.{LinkEntry, put_if, accepted_packets, takes}
use Rattle.hmc_send.specs.LinkSenders.{queue_in}
use Rattle.hmc_send.specs.Places.{is_token}
use Rattle.hmc_wire.specs.Conditions.{IsHanded}
use Rattle.hmc_wire.specs.LinkLaws.{IsKept}
use Rattle.hmc_journal.specs.Directions.{receiver_of, accepted}
use Rattle.hmc_journal.specs.Links.{toward, put_on, handed_at, taken_at, handed_on, direction_to, landing_mask, link_sizes, link_entries, sizes_on, entries_on}
use Rattle.hmc_journal.specs.Waiting.{lacks_room}
use Rattle.hmc_journal.specs.Queues.{QueueId, buffer_at, contents, output_from, landing_buffer}
use Rattle.hmc_journal.specs.Queues.QueueId.{Output}
use Rattle.hmc_journal.proofs.LinkKept.{kept-handed, kept-taken, room_taken}
use Rattle.hmc_journal.proofs.Projections.{put_on-same, received}
use Rattle.hmc_codes.specs.declared.place.Place.{Place as End}
use Rattle.hmc_entries.specs.declared.outcome.Goal.{Goal}
use Rattle.hmc_laws.proofs.UnsentFlits.{AreGathered}
use Rattle.hmc_journal.specs.StepView.{view_of}
use Rattle.hmc_journal.proofs.EntryRule.{HasFront, HasShifted, HasLanded, HasThrough}
use Rattle.hmc_laws.proofs.Standing.{IsCounted, IsAtEnd, IsCounted-moving}
use Rattle.hmc_laws.proofs.Entering.{Kept, accepted_are, has_direction, kept_landing}
use Rattle.hmc_laws.proofs.Wired.{Wired, ends_there}
use Rattle.hmc_laws.proofs.PipeSteps.{IsThrough}
use Rattle.hmc_packet.specs.Landings.{pending}
use Rattle.hmc_codes.specs.declared.place.Place.TheVariants as ends
use Rattle.hmc_entries.specs.declared.outcome.Goal.TheVariants as goals
use Rattle.hmc_laws.proofs.SoundSends.{output_is}

fits_either : (profile : Profile) (errstat : ℕ) → errstat < 8 →
    FitsField (tail_layout profile).errstat errstat
fits_either One errstat few = omega arith
fits_either Two errstat few = few

is_handed : (profile : Profile) (packet : PacketFields) → IsCounted packet → IsHanded profile packet
is_handed profile packet is =
    record { packet_is = is.is_packet; errstat = fits_either profile packet.errstat is.errstat }

counted_token : (packet : PacketFields) → IsCounted packet → is_token packet ≡ true
counted_token packet is = ap not is.layout

room_by : (size n : ℕ) → nat_le size n ≡ false → nat_lt n size ≡ true
room_by size n is = lt-ltb n size (leb-false size n is)

-- where a step doesn't lack room the link has room
has_room_at : (setup : Setup) (past : List Entry) (d : ℕ) (to : Option QueueId) →
    AreGathered setup.topology past → IsKept (sizes_on setup.topology d)
    (entries_on setup.topology d past) → to ≡ Some (Output d) →
    lacks_room setup.topology (view_of setup past) to ≡ false
    → has_room (sizes_on setup.topology d) (toward d) (entries_on setup.topology d past) ≡ true
unfolding view_of
has_room_at setup past d to gathered kept is lacks =
    let full : nat_le (sizes_on setup.topology d).output
    (length (contents setup.topology past (Output d))) ≡ false =
    sym (ap (lacks_room setup.topology (view_of setup past)) is) ∙ lacks in
    room_by (sizes_on setup.topology d).output
    (length (queue_in (sizes_on setup.topology d) (toward d)
    (entries_on setup.topology d past)))
    (ap (λ (l : List PacketFields). nat_le (sizes_on setup.topology d).output (length l))
    (sym (output_is setup.topology d past gathered kept)) ∙ full)

-- one more entry of the link of a direction is one of this link, or not
put-kept : (topology : Topology) (link d : ℕ) (entry : LinkEntry)
    (before : (i : ℕ) → List LinkEntry) (here : Bool) → (d / 2 == link) ≡ here →
    IsKept (link_sizes topology link) (before link) →
    IsKept (link_sizes topology (d / 2)) (entry ∷ before (d / 2))
    → IsKept (link_sizes topology link) (put_if here entry (before link))
put-kept topology link d entry before true at is more =
    subst (λ (i : ℕ). IsKept (link_sizes topology i) (entry ∷ before i)) (eqb-true (d / 2) link at)
    more
put-kept topology link d entry before false at is more = is

pub put-on-kept : (topology : Topology) (link d : ℕ) (found : Option ℕ) (entry : Toward → LinkEntry)
    (before : (i : ℕ) → List LinkEntry) → found ≡ Some d →
    IsKept (link_sizes topology link) (before link) →
    IsKept (sizes_on topology d) (entry (toward d) ∷ before (d / 2))
    → IsKept (link_sizes topology link) (put_on link found entry (before link))
put-on-kept topology link d found entry before at is more =
    subst (λ (o : Option ℕ). IsKept (link_sizes topology link) (put_on link o entry (before link)))
    (sym at) (put-kept topology link d (entry (toward d)) before (d / 2 == link) refl is more)

-- a buffer that has a front holds a packet
pub more_than : (n : ℕ) (l : List PacketFields) (front : PacketFields) (rest : List PacketFields) →
    drop n l ≡ front ∷ rest → n < length l
more_than n [] front rest is = absurd (none n is)
  where
    none : (k : ℕ) → drop k [] ≡ front ∷ rest → ⊥
    none zero at = cc
    none (suc k) at = cc
more_than zero (x ∷ l) front rest is = omega arith
more_than (suc n) (x ∷ l) front rest is = let less = more_than n l front rest is in omega arith

holds_at : (setup : Setup) (past : List Entry) (d : ℕ) → d < directions_in setup.topology →
    Kept setup past → HasFront setup past (landing_buffer setup.topology d) →
    holds_packet (sizes_on setup.topology d) (toward d) (entries_on setup.topology d past) ≡ true
holds_at setup past d less kept at =
    let e = kept.ends d less in
    let inside =
    more_than (takes (toward d) (entries_on setup.topology d past))
    (filter is_token (accepted setup.topology d past)) at.front at.rest
    (sym e.buffer ∙ at.is) in
    let same : length (filter is_token (accepted setup.topology d past))
    ≡ length (filter is_token (accepted_packets (sizes_on setup.topology d).profile (toward d)
    (entries_on setup.topology d past))) =
    ap (λ l. length (filter is_token l)) (accepted_are setup.topology d past) in
    lt-ltb _ _ (omega arith)

-- the front of the buffer at a place, and the direction that it came by
pub taken-kept : (setup : Setup) (past : List Entry) (place : End) (packet : PacketFields)
    (link : ℕ) → Wired setup.topology → Kept setup past → IsAtEnd setup.topology place packet →
    HasFront setup past (buffer_at place)
    → IsKept (link_sizes setup.topology link)
    (taken_at setup.topology link place (link_entries setup.topology link past))
taken-kept setup past place packet link wires kept came at =
    let d = came.direction in
    let front : HasFront setup past (landing_buffer setup.topology d) =
    subst (λ (p : End). HasFront setup past (buffer_at p)) (sym came.ends) at in
    put-on-kept setup.topology link d (direction_to setup.topology place) LinkEntry.taken
    (λ i. link_entries setup.topology i past)
    (ap (direction_to setup.topology) (sym came.ends)
    ∙ ends_there setup.topology wires d came.inside) (kept.links link)
    (kept-taken (sizes_on setup.topology d) (entries_on setup.topology d past) (toward d)
    (kept.links (d / 2)) (holds_at setup past d came.inside kept front))

-- a packet is handed at a place, after entries which leave the room there
pub handed-kept : (setup : Setup) (past : List Entry) (place : End) (packet : PacketFields)
    (link : ℕ) (before : (i : ℕ) → List LinkEntry) → Kept setup past → IsCounted packet
    → lacks_room setup.topology (view_of setup past) (output_from setup.topology place) ≡ false →
    ((i : ℕ) → IsKept (link_sizes setup.topology i) (before i))
    → ((d : ℕ) → has_room (sizes_on setup.topology d) (toward d) (before (d / 2))
    ≡ has_room (sizes_on setup.topology d) (toward d) (entries_on setup.topology d past))
    → IsKept (link_sizes setup.topology link)
    (handed_at setup.topology link place packet (before link))
handed-kept setup past place packet link before kept counted lacks all same =
    let to = has_direction setup.topology (view_of setup past) place lacks in
    let d = to.0 in
    put-on-kept setup.topology link d (direction_from setup.topology place)
    (λ way. LinkEntry.handed way packet) before to.1 (all link)
    (kept-handed (sizes_on setup.topology d) (before (d / 2)) (toward d) packet (all (d / 2))
    (same d ∙ has_room_at setup past d (output_from setup.topology place) kept.gathered
    (kept.links (d / 2)) (ap (option_map Output) to.1) lacks)
    (counted_token packet counted) (is_handed _ packet counted))

pub link-shifted : (setup : Setup) (past : List Entry) (cube port : ℕ) (goal : Goal) (link : ℕ) →
    Wired setup.topology → Kept setup past → (has : HasShifted setup past cube port goal) →
    IsAtEnd setup.topology (ends.Port cube port) has.at.front
    → IsKept (link_sizes setup.topology link)
    (handed_on setup.topology link cube goal has.at.front
    (taken_at setup.topology link (ends.Port cube port)
    (link_entries setup.topology link past)))
link-shifted setup past cube port (goals.Vault vault) link wires kept has came =
    taken-kept setup past (ends.Port cube port) has.at.front link wires kept came has.at
link-shifted setup past cube port goals.Registers link wires kept has came =
    taken-kept setup past (ends.Port cube port) has.at.front link wires kept came has.at
link-shifted setup past cube port (goals.Port out) link wires kept has came =
    handed-kept setup past (ends.Port cube out) has.at.front link
    (λ i. taken_at setup.topology i (ends.Port cube port) (link_entries setup.topology i past))
    kept (IsCounted-moving setup.topology has.at.front has.unpoisoned came.goes) has.room
    (λ i. taken-kept setup past (ends.Port cube port) has.at.front i wires kept came has.at)
    (λ d. put_on-same (has_room (sizes_on setup.topology d) (toward d)) (d / 2)
    (direction_to setup.topology (ends.Port cube port)) LinkEntry.taken
    (entries_on setup.topology d past) (λ way. room_taken (sizes_on setup.topology d) (toward d)
    way (entries_on setup.topology d past)))

-- what is gathered where a packet is forwarded
pub gathers_is : (setup : Setup) (past : List Entry) (cube port d : ℕ)
    (has : HasThrough setup past cube port d) → pending (receiver_of has.from past)
    ≡ has.flit ∷ has.rest
gathers_is setup past cube port d has = ap pending (received setup.topology has.from past)
    ∙ has.gathered

abbrev pub through_of : (setup : Setup) (past : List Entry) (cube port d : ℕ) →
    HasThrough setup past cube port d → IsThrough setup.topology past cube port
through_of setup past cube port d has =
    record {
      from = has.from;
      arrives = has.arrives;
      head = has.flit;
      rest = has.rest;
      came =
          gathers_is setup past cube port d has;
    }

-- a landing, and what leaves at once is taken
pub landed-kept : (setup : Setup) (past : List Entry) (d : ℕ) (flit : List ℕ) (outcome : Outcome)
    (link : ℕ) → HasLanded setup past d flit outcome → Kept setup past → (here : Bool) →
    (d / 2 == link) ≡ here
    → IsKept (link_sizes setup.topology link)
    (put_if here (LinkEntry.landed (toward d)
    (landing_mask (link_sizes setup.topology link) (toward d)
    (link_entries setup.topology link past) flit) flit outcome)
    (link_entries setup.topology link past))
landed-kept setup past d flit outcome link right kept false at = kept.links link
landed-kept setup past d flit outcome link right kept true at =
    subst (λ (i : ℕ). IsKept (link_sizes setup.topology i)
    (LinkEntry.landed (toward d) (landing_mask (link_sizes setup.topology i) (toward d)
    (link_entries setup.topology i past) flit) flit outcome ∷ link_entries setup.topology i
    past))
    (eqb-true (d / 2) link at) (kept_landing setup d past flit outcome right kept)
