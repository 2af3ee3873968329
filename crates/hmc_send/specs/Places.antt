-- The places of a direction: the sequenced packets that its sender began, in the order in which it
-- began them for the first time.
use Rattle.std.specs.Prelude.{ℕ, ◌+◌, ◌-◌, ◌%◌, Bool, true, not, List, [], ◌∷◌, length, slice_index_or, sum_by}
use Rattle.hmc_codes.specs.Commands.{layout_of, is_flow}
use Rattle.hmc_codes.specs.Profile.{modulus_of}
use Rattle.hmc_codes.specs.declared.command.Command.TheVariants.{Tret, Pret}
use Rattle.hmc_codes.specs.declared.profile.Profile.{Profile}
use Rattle.hmc_packet.specs.Packet.{PacketFields, flits_of, null_packet}
use Rattle.hmc_packet.specs.Spelling.{spelling}
use Rattle.hmc_send.specs.declared.numbers.Numbers.{Numbers}

-- A place has a packet with its numbers. That of a cut-through is open until the last flit of its
-- packet is sent: its head, its length in flits and its numbers are known.
pub data Place : Type 0 where
  known : PacketFields → Place
  awaited : (head : List ℕ) → (flits : ℕ) → Numbers → Place

-- the length of a place's packet
abbrev pub flits_at : Place → ℕ
flits_at (Place.known packet) = flits_of packet
flits_at (Place.awaited head flits numbers) = flits

-- the numbers of a place
abbrev pub numbers_at : Place → Numbers
numbers_at (Place.known packet) =
    record { frp = packet.frp; seq = packet.seq; rtc = packet.rtc }
numbers_at (Place.awaited head flits numbers) = numbers

-- a packet that takes tokens: a request or a response
abbrev pub is_token : PacketFields → Bool
is_token packet = not (is_flow (layout_of packet.command))

-- a place whose packet takes tokens; only such packets are passed on
abbrev pub takes_tokens : Place → Bool
takes_tokens (Place.known packet) = is_token packet
takes_tokens (Place.awaited head flits numbers) = true

-- the flits of all places
abbrev pub flits_in : List Place → ℕ
flits_in places = sum_by flits_at places

-- the FRP of the last place: the flits of all, modulo the profile's number
abbrev pub pointer_of : Profile → List Place → ℕ
pointer_of profile places = flits_in places % modulus_of profile

-- its SEQ: the number of places modulo 8
abbrev pub number_of : List Place → ℕ
number_of places = length places % 8

-- the numbers of the packet after those with this pointer and this number
abbrev pub numbers_after : Profile → (pointer number flits rtc : ℕ) → Numbers
numbers_after profile pointer number flits rtc = record {
  frp = (pointer + flits) % modulus_of profile;
  seq = (number + 1) % 8;
  rtc = rtc;
}

-- a packet with its numbers
abbrev pub with_numbers : Numbers → PacketFields → PacketFields
with_numbers n packet = record packet { frp = n.frp; seq = n.seq; rtc = n.rtc }

-- the next packet, with its numbers
abbrev pub next_packet : Profile → (pointer number rtc : ℕ) → PacketFields → PacketFields
next_packet profile pointer number rtc packet =
    with_numbers (numbers_after profile pointer number (flits_of packet) rtc) packet

-- the packet that returns tokens alone, before it has its numbers
abbrev pub tret_packet : PacketFields
tret_packet = record null_packet { command = Tret }

-- the packet that shows a return pointer alone
abbrev pub pret_packet : PacketFields
pret_packet = record null_packet { command = Pret }

-- a flit of a packet, from 0, that is sent with a return pointer
unfoldable pub flit_of : Profile → PacketFields → (rrp at : ℕ) → List ℕ
flit_of profile packet rrp at = slice_index_or (spelling profile packet rrp) at []

-- the place with a number, from 1
abbrev pub place_at : List Place → (number : ℕ) → Place
place_at places number = slice_index_or places (number - 1) (Place.known null_packet)

-- the packet of a place that has one
abbrev pub packet_in : Place → PacketFields
packet_in (Place.known packet) = packet
packet_in (Place.awaited head flits numbers) = null_packet

-- a list with its last place changed
abbrev pub with_last : (Place → Place) → List Place → List Place
with_last change [] = []
with_last change (place ∷ []) = change place ∷ []
with_last change (place ∷ next ∷ rest) = place ∷ with_last change (next ∷ rest)
