-- What a send gives: the first of ten cases that applies.
use Rattle.std.specs.Prelude.{ℕ, Bool, true, false, not, ◌==◌, ◌&&◌, nat_lt, nat_le, if◌then◌else◌, List, length, slice_get, Option, Some, None, is_none}
use Rattle.hmc_codes.specs.Flit.{zero_flit}
use Rattle.hmc_codes.specs.declared.profile.Profile.{Profile}
use Rattle.hmc_packet.specs.declared.feed.Feed.{Feed}
use Rattle.hmc_packet.specs.declared.kind.Kind.{Kind}
use Rattle.hmc_packet.specs.declared.kind.Kind.TheVariants as kind
use Rattle.hmc_packet.specs.declared.view.Mode.{Mode}
use Rattle.hmc_packet.specs.declared.view.Mode.TheVariants as mode
use Rattle.hmc_packet.specs.declared.what.What.{What}
use Rattle.hmc_packet.specs.declared.what.What.TheVariants as what
use Rattle.hmc_packet.specs.Irtry.{irtry_flit}
use Rattle.hmc_packet.specs.Packet.{PacketFields, flits_of}
use Rattle.hmc_packet.specs.Spelling.{training_flit}
use Rattle.hmc_tokens.specs.Account.{code_for}
use Rattle.hmc_send.specs.declared.sent.Sent.{Sent}
use Rattle.hmc_send.specs.declared.sent.Sent.TheVariants.{Out, Starved}
use Rattle.hmc_send.specs.Copies.{fed_flit}
use Rattle.hmc_send.specs.Entries.{SenderEntry, Given, Part, UnderWay, or_null, under_way, places, clears, starts, are_bursts, go_back, is_open, enough_others, others, position, room, shown_pointer}
use Rattle.hmc_send.specs.Places.{Place, pointer_of, number_of, next_packet, tret_packet, pret_packet, flit_of, packet_in}

-- what a send sees: what it is given, and of the sender's entries
pub record SendView : Type 0 where
  pub given : Given
  -- the packet that is begun and unfinished
  pub under_way : Option UnderWay
  -- the kind of a burst that isn't whole
  pub burst : Option Kind
  pub go_back : Bool
  -- enough other flits were sent after the last Start
  pub may_start : Bool
  -- the place after the position, if there is one
  pub again : Option Place
  -- FRP and SEQ of the last place, 0 where there is none
  pub pointer : ℕ
  pub number : ℕ
  pub is_open : Bool
  pub room : ℕ
  pub shown : ℕ

-- the kind of a burst that isn't whole, of so many Clears and Starts
abbrev pub burst_of : (clears starts : ℕ) → Option Kind
burst_of clears starts =
    if not (are_bursts clears) then Some kind.Clear else
    if not (are_bursts starts) then Some kind.Start else None

-- what a send sees after a sender's entries
unfoldable pub view_after : Profile → (retry : ℕ) → List SenderEntry → Given → SendView
view_after profile retry past given = record {
  given = given;
  under_way = under_way profile past;
  burst = burst_of (clears past) (starts past);
  go_back = go_back past;
  may_start = nat_le enough_others (others past);
  again = slice_get (places profile past) (position profile past);
  pointer = pointer_of profile (places profile past);
  number = number_of (places profile past);
  is_open = is_open past;
  room = room profile retry past;
  shown = shown_pointer past;
}

abbrev pub is_train : Mode → Bool
is_train mode.Train = true
is_train _ = false

abbrev pub is_abort : Mode → Bool
is_abort mode.Abort = true
is_abort _ = false

-- what a kind of IRTRY is sent as
abbrev pub what_of : Kind → What
what_of kind.Clear = what.Clear
what_of kind.Start = what.Start

-- an IRTRY
abbrev pub irtry_sent : Profile → (rrp : ℕ) → Kind → Sent
irtry_sent profile rrp kind = Out (irtry_flit profile kind rrp) (what_of kind)

-- the first flit of a packet
abbrev pub first_flit : Profile → (rrp : ℕ) → What → PacketFields → Sent
first_flit profile rrp as_what packet = Out (flit_of profile packet rrp 0) as_what

-- the next packet, with its numbers
abbrev pub next_of_view : Profile → SendView → PacketFields → PacketFields
next_of_view profile s packet =
    next_packet profile s.pointer s.number (code_for s.given.due) packet

-- a packet of so many flits may be begun: it has tokens and room
abbrev pub may_begin : SendView → (flits : ℕ) → Bool
may_begin s flits = nat_le flits s.given.held && nat_le flits s.room

-- the front of the queue may be begun
abbrev pub may_take : SendView → Option PacketFields → Bool
may_take s None = false
may_take s (Some packet) = may_begin s (flits_of packet)

-- tokens may be returned alone
abbrev pub may_return : SendView → Bool
may_return s = nat_lt 0 s.given.due && nat_le 1 s.room

-- 9 the return pointer alone, where it isn't the one shown last; 10 a NULL
abbrev pub pointer_sent : Profile → (rrp shown : ℕ) → Sent
pointer_sent profile rrp shown =
    if not (rrp == shown) then Out (flit_of profile pret_packet rrp 0) what.Pret
    else Out zero_flit what.Null

abbrev pub pointer_or_null : Profile → SendView → Sent
pointer_or_null profile s = pointer_sent profile s.given.own.rrp s.shown

-- 7 the front of the queue; 8 tokens alone
abbrev pub first_time : Profile → SendView → Sent
first_time profile s =
    let rrp = s.given.own.rrp in
    if s.is_open && may_take s s.given.front
    then first_flit profile rrp what.New (next_of_view profile s (or_null s.given.front))
    else if s.is_open && may_return s
    then first_flit profile rrp what.Tret (next_of_view profile s tret_packet)
    else pointer_or_null profile s

-- 6 a packet again
abbrev pub again_or : Profile → SendView → Option Place → Sent
again_or profile s (Some place) =
    first_flit profile s.given.own.rrp what.Again (packet_in place)
again_or profile s None = first_time profile s

-- an IRTRY goes before packets: 3 of a burst that isn't whole; 4 a Clear where a go-back is due;
-- 5 a Start in Abort, after enough other flits
abbrev pub irtry_due : (burst : Option Kind) → Mode → (go_back may_start : Bool) → Option Kind
irtry_due (Some kind) mode go_back may_start = Some kind
irtry_due None mode go_back may_start =
    if go_back then Some kind.Clear else
    if is_abort mode && may_start then Some kind.Start else None

abbrev pub irtry_of : SendView → Option Kind
irtry_of s = irtry_due s.burst s.given.own.mode s.go_back s.may_start

abbrev pub irtry_or : Profile → SendView → Option Kind → Sent
irtry_or profile s (Some kind) = irtry_sent profile s.given.own.rrp kind
irtry_or profile s None = again_or profile s s.again

-- what a packet under way is sent as
abbrev pub part_what : Part → What
part_what part = if part.again then what.Again else what.New

-- the next flit of a packet under way; None where a cut-through's isn't there
abbrev pub next_flit : Profile → (rrp : ℕ) → Feed → Place → Part → Option (List ℕ)
next_flit profile rrp feed (Place.known packet) part =
    Some (flit_of profile packet rrp (length part.sent))
next_flit profile rrp feed (Place.awaited head flits n) part =
    fed_flit profile n part.sent rrp feed

-- a flit of the packet under way, if it is there
abbrev pub unless_starved : What → Option (List ℕ) → Sent
unless_starved as_what None = Starved
unless_starved as_what (Some flit) = Out flit as_what

-- 2 the next flit of a packet under way
abbrev pub going_on : Profile → SendView → Option UnderWay → Sent
going_on profile s None = irtry_or profile s (irtry_of s)
going_on profile s (Some begun) =
    unless_starved (part_what begun.part)
    (next_flit profile s.given.own.rrp s.given.feed begun.place begun.part)

-- 1 a training flit, or 2 to 10
unfoldable pub choice : Profile → SendView → Sent
choice profile s =
    if is_train s.given.own.mode then Out training_flit what.Train
    else going_on profile s s.under_way

-- none of the cases before new packets applies, and the sender is open
abbrev pub is_free : SendView → Bool
is_free s =
    s.is_open && not (is_train s.given.own.mode)
    && is_none s.under_way && is_none (irtry_of s) && is_none s.again
