-- What a sender holds, what a send sees of it, and what each call leaves of it.
use Rattle.std.specs.Prelude.{◌≡◌, ◌≤◌, ◌<◌, ℕ, suc, ◌+◌, ◌-◌, min, Bool, true, false, ◌==◌, ◌&&◌, nat_le, is_none, if◌then◌else◌, List, [], ◌∷◌, ◌++◌, length, map, slice_get, Option, Some, None}
use Rattle.hmc_codes.specs.Profile.{modulus_of}
use Rattle.hmc_codes.specs.declared.profile.Profile.{Profile}
use Rattle.hmc_packet.specs.declared.feed.Feed.{Feed}
use Rattle.hmc_packet.specs.declared.feed.Feed.TheVariants.{Waiting, Whole, Last}
use Rattle.hmc_packet.specs.declared.kind.Kind.{Kind}
use Rattle.hmc_packet.specs.declared.kind.Kind.TheVariants as kind
use Rattle.hmc_packet.specs.declared.what.What.{What}
use Rattle.hmc_packet.specs.declared.what.What.TheVariants as what
use Rattle.hmc_packet.specs.Packet.{PacketFields, flits_of}
use Rattle.hmc_irtry.specs.Burst.{BurstFields, empty_burst, next_of}
use Rattle.hmc_retry.specs.RetryBuffer.{RetryFields, opening_buffer, after_put, after_next, after_acknowledge, packet_at}
use Rattle.hmc_tokens.specs.Account.{code_for}
use Rattle.hmc_send.specs.declared.state.State.{State}
use Rattle.hmc_send.specs.declared.sent.Sent.{Sent}
use Rattle.hmc_send.specs.declared.sent.Sent.TheVariants.{Out, Starved}
use Rattle.hmc_send.specs.Choice.{SendView, first_flit}
use Rattle.hmc_send.specs.Kept.{CanBeSent}
use Rattle.hmc_send.specs.Copies.{copy_of, place_fed}
use Rattle.hmc_send.specs.Entries.{Given, Part, UnderWay, or_null, part_with, part_after, with_place, enough_others, shows_pointer}
use Rattle.hmc_send.specs.declared.numbers.Numbers.{Numbers}
use Rattle.hmc_send.specs.Places.{Place, flits_in, numbers_after, next_packet, tret_packet, flit_of}

-- a new sender
abbrev pub opening_sender : (retry : ℕ) → Profile → State
opening_sender retry profile = record {
  retry = opening_buffer retry profile;
  profile = profile;
  pointer = 0;
  number = 0;
  under_way = None;
  burst = empty_burst;
  go_back = false;
  is_open = false;
  others = enough_others;
  shown = 0;
}

-- a place whose packet isn't kept yet
abbrev pub open_place : Place → List Place
open_place (Place.known packet) = []
open_place (Place.awaited head flits numbers) = Place.awaited head flits numbers ∷ []

abbrev pub open_places : Option UnderWay → List Place
open_places None = []
open_places (Some begun) = open_place begun.place

-- the places that are not acknowledged: the kept packets, and an open place
abbrev pub places_held : State → List Place
places_held held = map Place.known held.retry.kept ++ open_places held.under_way

-- how many of them need not be sent again
abbrev pub position_held : State → ℕ
position_held held = held.retry.position + length (open_places held.under_way)

-- the room for packets that may have to be sent again
abbrev pub room_held : State → ℕ
room_held held = held.retry.flits - flits_in (places_held held)

-- the flits of a place whose packet isn't kept yet
abbrev pub open_flits_at : Place → ℕ
open_flits_at (Place.known packet) = 0
open_flits_at (Place.awaited head flits numbers) = flits

abbrev pub open_flits : Option UnderWay → ℕ
open_flits None = 0
open_flits (Some begun) = open_flits_at begun.place

-- what a send sees
abbrev pub view_held : State → Given → SendView
view_held held given = record {
  given = given;
  under_way = held.under_way;
  burst = next_of held.burst.kind held.burst.left;
  go_back = held.go_back;
  may_start = nat_le enough_others held.others;
  again = slice_get (places_held held) (position_held held);
  pointer = held.pointer;
  number = held.number;
  is_open = held.is_open;
  room = room_held held;
  shown = held.shown;
}

-- ---- what a flit leaves

-- one IRTRY more is sent: the next of the burst, or the first of a burst of this kind
abbrev pub burst_after : Kind → (kind : Kind) → (left : ℕ) → BurstFields
burst_after begun kind left =
    if left == 0 then record { kind = begun; left = 31 }
    else record { kind = kind; left = left - 1 }

abbrev pub is_clear : Kind → Bool
is_clear kind.Clear = true
is_clear kind.Start = false

-- a burst of Clears begins: all kept packets are to be sent again, and no go-back is due
abbrev pub with_irtry : Kind → State → State
with_irtry kind held =
    let goes_back = is_clear kind && held.burst.left == 0 in
    record held {
      burst = burst_after kind held.burst.kind held.burst.left;
      go_back = if goes_back then false else held.go_back;
      retry = record held.retry { position = if goes_back then 0 else held.retry.position };
    }

-- the next IRTRY, if one is due, is sent
abbrev pub irtry_begun : Option Kind → State → State
irtry_begun None held = held
irtry_begun (Some kind) held = with_irtry kind held

-- a packet with its numbers is kept, and has flits left, or none
abbrev pub with_kept : PacketFields → Option Part → State → State
with_kept packet part held = record held {
  retry = after_put packet held.retry;
  pointer = packet.frp;
  number = packet.seq;
  under_way = with_place (Place.known packet) part;
}

-- the next packet, with its numbers
abbrev pub next_held : State → (due : ℕ) → PacketFields → PacketFields
next_held held due packet =
    next_packet held.retry.profile held.pointer held.number (code_for due) packet

-- the packet of an open place is kept once its last flit is fed
abbrev pub awaited_kept : Profile → (sent : List (List ℕ)) → Numbers → Feed → RetryFields
    → RetryFields
awaited_kept profile sent n (Last half slid errstat good) retry =
    after_put (copy_of profile sent half slid errstat good n) retry
awaited_kept profile sent n Waiting retry = retry
awaited_kept profile sent n (Whole flit) retry = retry

abbrev pub retry_fed : Profile → (sent : List (List ℕ)) → Feed → Place → RetryFields → RetryFields
retry_fed profile sent feed (Place.known packet) retry = retry
retry_fed profile sent feed (Place.awaited head flits n) retry =
    awaited_kept profile sent n feed retry

-- a flit of a packet that is sent for the first time
abbrev pub after_new : Given → (flit : List ℕ) → Option UnderWay → State → State
after_new given flit None held =
    with_kept (next_held held given.due (or_null given.front)) (part_after false flit None) held
after_new given flit (Some begun) held = record held {
  retry = retry_fed held.retry.profile begun.part.sent given.feed begun.place held.retry;
  under_way = with_place
      (place_fed held.retry.profile begun.part.sent given.feed begun.place)
      (part_with begun.part flit);
}

-- a flit of a packet that is sent again
abbrev pub after_again : (flit : List ℕ) → Option UnderWay → State → State
after_again flit None held = record held {
  retry = after_next held.retry;
  under_way = with_place
      (Place.known (packet_at held.retry.kept held.retry.position)) (part_after true flit None);
}
after_again flit (Some begun) held = record held {
  under_way = with_place begun.place (part_with begun.part flit);
}

-- what the packets, bursts and kept packets are after a flit
abbrev pub moved_on : Given → What → (flit : List ℕ) → State → State
moved_on given what.New flit held = after_new given flit held.under_way held
moved_on given what.Again flit held = after_again flit held.under_way held
moved_on given what.Tret flit held = with_kept (next_held held given.due tret_packet) None held
moved_on given what.Clear flit held = with_irtry kind.Clear held
moved_on given what.Start flit held = with_irtry kind.Start held
moved_on given _ flit held = held

abbrev pub others_after : What → ℕ → ℕ
others_after what.Start others = 0
others_after _ others = min (suc others) enough_others

abbrev pub part_of : Option UnderWay → Option Part
part_of None = None
part_of (Some begun) = Some begun.part

-- after a flit
abbrev pub after_sent : Given → What → (flit : List ℕ) → State → State
after_sent given as_what flit held = record (moved_on given as_what flit held) {
  others = others_after as_what held.others;
  shown =
      if shows_pointer as_what flit (part_of held.under_way) then given.own.rrp else held.shown;
}

-- after a send
abbrev pub after_send : Given → Sent → State → State
after_send given (Out flit as_what) held = after_sent given as_what flit held
after_send given Starved held = held

-- the same, where the packet under way is known

-- after a flit of the packet under way, or after none
abbrev pub after_part : Profile → (rrp : ℕ) → Feed → Sent → UnderWay → State → State
after_part profile rrp feed Starved begun held = held
after_part profile rrp feed (Out flit as_what) begun held = record held {
  retry = retry_fed profile begun.part.sent feed begun.place held.retry;
  under_way = with_place (place_fed profile begun.part.sent feed begun.place)
      (part_with begun.part flit);
  others = min (suc held.others) enough_others;
  shown = if is_none (part_with begun.part flit) then rrp else held.shown;
}

-- one more flit was sent, which wasn't the last
abbrev pub longer : (flit : List ℕ) → Option UnderWay → Option UnderWay
longer flit None = None
longer flit (Some begun) = Some (record begun {
  part = record begun.part { sent = begun.part.sent ++ flit ∷ [] };
})

-- the kept packets after the last flit
abbrev pub retry_with : Profile → Option UnderWay → Feed → RetryFields → RetryFields
retry_with profile None feed retry = retry
retry_with profile (Some begun) feed retry =
    retry_fed profile begun.part.sent feed begun.place retry

-- after the first flit of a packet
abbrev pub with_begun : PacketFields → (again : Bool) → (rrp : ℕ) → (flit : List ℕ) → State → State
with_begun packet again rrp flit held = record held {
  under_way = with_place (Place.known packet) (part_after again flit None);
  others = min (suc held.others) enough_others;
  shown = if is_none (part_after again flit None) then rrp else held.shown;
}

-- a kept packet again, if there is one to be sent
abbrev pub again_sent : Profile → (rrp : ℕ) → Option PacketFields → Option Sent
again_sent profile rrp None = None
again_sent profile rrp (Some packet) = Some (first_flit profile rrp what.Again packet)

abbrev pub again_begun : Profile → (rrp : ℕ) → Option PacketFields → State → State
again_begun profile rrp None held = held
again_begun profile rrp (Some packet) held =
    with_begun packet true rrp (flit_of profile packet rrp 0)
    (record held { retry = after_next held.retry })

-- after the first flit of a packet that is kept
abbrev pub with_new : PacketFields → (rrp : ℕ) → (flit : List ℕ) → State → State
with_new packet rrp flit held = with_begun packet false rrp flit (record held {
  retry = after_put packet held.retry;
  pointer = packet.frp;
  number = packet.seq;
})

-- the same by the profile that the sender has
abbrev pub next_first : State → (due : ℕ) → PacketFields → PacketFields
next_first held due packet =
    next_packet held.profile held.pointer held.number (code_for due) packet

-- after a send of none of the cases before new packets
abbrev pub after_first : Given → Sent → State → State
after_first given (Out flit what.New) held =
    with_new (next_first held given.due (or_null given.front)) given.own.rrp flit held
after_first given (Out flit what.Tret) held =
    with_new (next_first held given.due tret_packet) given.own.rrp flit held
after_first given sent held = record held {
  shown = given.own.rrp;
  others = min (suc held.others) enough_others;
}

-- ---- what the other calls leave

-- a run of Starts was counted
abbrev pub after_ran : State → State
after_ran held = record held { go_back = true; is_open = true }

-- a return pointer acknowledges so many packets, or is stray
abbrev pub after_acknowledged : (rrp : ℕ) → Option ℕ → State → State
after_acknowledged rrp count held = record held {
  retry = after_acknowledge rrp count held.retry;
}

-- the numbers of a cut-through of so many flits
abbrev pub through_numbers : State → (flits due : ℕ) → Numbers
through_numbers held flits due =
    numbers_after held.retry.profile held.pointer held.number flits (code_for due)

-- a cut-through is begun
abbrev pub after_through : (head : List ℕ) → (flits due : ℕ) → State → State
after_through head flits due held = record held {
  pointer = (through_numbers held flits due).frp;
  number = (through_numbers held flits due).seq;
  under_way = Some (record {
    part = record { again = false; flits = flits; sent = [] };
    place = Place.awaited head flits (through_numbers held flits due);
  });
}

-- ---- what is asked of a send

-- what is fed to an open place fits it: whole flits before the last one, and what makes the last
-- flit at its place, of a copy as long as the place
abbrev pub FitsPart : Profile → Part → (flits : ℕ) → Numbers → Feed → Type 0
FitsPart profile part flits n Waiting = Unit {0}
FitsPart profile part flits n (Whole flit) = (suc (length part.sent) == part.flits) ≡ false
FitsPart profile part flits n (Last half slid errstat good) =
    ((suc (length part.sent) == part.flits) ≡ true)
    × (flits_of (copy_of profile part.sent half slid errstat good n) ≡ flits)
    × (n.frp < modulus_of profile →
    CanBeSent profile (copy_of profile part.sent half slid errstat good n))

-- of a place with its packet the feed is passed over
abbrev pub FitsPlace : Profile → Part → Place → Feed → Type 0
FitsPlace profile part (Place.known packet) feed = Unit {0}
FitsPlace profile part (Place.awaited head flits n) feed = FitsPart profile part flits n feed

-- an open place is begun for the first time, after all others were sent
pub record FitsOpen (retry : RetryFields) (part : Part) (flits : ℕ) (n : Numbers) (feed : Feed)
    : Type 0 where
  pub first_time : part.again ≡ false
  pub at_end : retry.position ≡ length retry.kept
  pub fits : FitsPart retry.profile part flits n feed

abbrev pub IsFedAt : RetryFields → Part → Place → Feed → Type 0
IsFedAt retry part (Place.known packet) feed = Unit {0}
IsFedAt retry part (Place.awaited head flits n) feed = FitsOpen retry part flits n feed

pub record MaySend (held : State) (given : Given) : Type 0 where
  pub within : held.retry.position ≤ length held.retry.kept
  pub fed : (begun : UnderWay) → held.under_way ≡ Some begun →
      IsFedAt held.retry begun.part begun.place given.feed
