-- Packets as plain numbers.
use Rattle.std.specs.Prelude.{ℕ, ◌+◌, ◌/◌, ◌%◌, ◌^◌, ◌==◌, ◌&&◌, ◌||◌, not, nat_lt, nat_le, if◌then◌else◌, Bool, true, false, List, length, take, Option, Some, None, Result, Ok, Err}
use Rattle.hmc_codes.specs.Bytes.{padded_bytes}
use Rattle.hmc_codes.specs.Codes.{command_of}
use Rattle.hmc_codes.specs.Commands.{allows_of, code_of, layout_of}
use Rattle.hmc_codes.specs.Profile.{modulus_of}
use Rattle.hmc_codes.specs.declared.command.Command.{Command}
use Rattle.hmc_codes.specs.declared.layout.Layout.{Layout}
use Rattle.hmc_codes.specs.declared.layout.Layout.TheVariants as layouts
use Rattle.hmc_codes.specs.declared.profile.Profile.{Profile}
use Rattle.hmc_codes.specs.declared.profile.Profile.TheVariants.{One, Two}
use Rattle.hmc_packet.specs.Packet.{PacketFields}
use Rattle.hmc_packet.specs.Spelling.{spelling}
use Rattle.hmc_packet.specs.declared.bad.Bad.{Bad}
use Rattle.hmc_packet.specs.declared.seen.Seen.{Seen}
use Rattle.hmc_codec.specs.declared.plain.PlainPacket.{PlainPacket}

-- a link's profile
abbrev pub profile_of : (two : Bool) → Profile
profile_of true = Two
profile_of false = One

-- the numbers of a packet and its return pointer
abbrev pub plain_of : Seen → PlainPacket
plain_of seen = record {
  address = seen.packet.address;
  length = length seen.packet.payload;
  tag = seen.packet.tag;
  frp = seen.packet.frp;
  rrp = seen.rrp;
  command = code_of seen.packet.command;
  cube = seen.packet.cube;
  slid = seen.packet.slid;
  errstat = seen.packet.errstat;
  rtc = seen.packet.rtc;
  seq = seen.packet.seq;
  flag = seen.packet.flag;
  poisoned = seen.packet.poisoned;
  payload = padded_bytes 256 seen.packet.payload;
}

-- the same of what was read
abbrev pub plain_read : Result Seen Bad → Result PlainPacket Bad
plain_read (Ok seen) = Ok (plain_of seen)
plain_read (Err bad) = Err bad

-- each field fits its bits
abbrev pub is_in_range : PlainPacket → Bool
is_in_range plain =
    (nat_lt plain.tag 2048 && nat_lt plain.frp 2048 && nat_lt plain.errstat 128)
    && (nat_lt plain.cube 8 && nat_lt plain.slid 8 && nat_lt plain.rtc 8 && nat_lt plain.seq 8)
    && nat_lt plain.address (2 ^ 34)

-- a packet between the two ends of a link has no fields of a transaction, and can't be poisoned
abbrev pub is_flow : PlainPacket → Bool
is_flow plain =
    ((plain.tag == 0) && (plain.address == 0) && (plain.cube == 0) && (plain.slid == 0))
    && (plain.errstat == 0) && not plain.flag && not plain.poisoned

-- it returns no tokens and is not counted
abbrev pub is_uncounted : PlainPacket → Bool
is_uncounted plain = (plain.rtc == 0) && (plain.seq == 0)

-- each field is as the layout has it
abbrev pub is_laid_out : Layout → PlainPacket → Bool
is_laid_out layouts.Null plain = is_flow plain && (is_uncounted plain && (plain.frp == 0))
is_laid_out layouts.Pret plain = is_flow plain && (is_uncounted plain && (plain.frp == 0))
is_laid_out layouts.Tret plain = is_flow plain
is_laid_out layouts.Irtry plain =
    is_flow plain && (is_uncounted plain && ((plain.frp == 1) || (plain.frp == 2)))
is_laid_out layouts.Ask plain = not plain.flag && (plain.errstat == 0)
is_laid_out layouts.Reply plain = plain.address == 0

-- the payload is whole flits, as many as the command allows
abbrev pub is_filled : Command → (payload : List ℕ) → Bool
is_filled command payload =
    (length payload % 16 == 0) && allows_of command (1 + length payload / 16)

-- the numbers, this command and this payload are a packet
abbrev pub is_packet : PlainPacket → Command → (payload : List ℕ) → Bool
is_packet plain command payload =
    is_in_range plain && (is_laid_out (layout_of command) plain && is_filled command payload)

-- the fields of a packet of this command and payload
abbrev pub fields_of : PlainPacket → Command → (payload : List ℕ) → PacketFields
fields_of plain command payload = record {
  command = command;
  tag = plain.tag;
  address = plain.address;
  cube = plain.cube;
  slid = plain.slid;
  flag = plain.flag;
  errstat = plain.errstat;
  rtc = plain.rtc;
  seq = plain.seq;
  frp = plain.frp;
  poisoned = plain.poisoned;
  payload = payload;
}

-- the bytes of payload that count, if there are as many
abbrev pub payload_of : PlainPacket → Option (List ℕ)
payload_of plain =
    (if nat_le plain.length 256 then Some (take plain.length plain.payload) else None)

-- the packet of this command and payload, if they are one
abbrev pub packet_with : PlainPacket → Command → (payload : List ℕ) → Option PacketFields
packet_with plain command payload =
    (if is_packet plain command payload then Some (fields_of plain command payload) else None)

abbrev pub packet_filled : PlainPacket → Command → Option (List ℕ) → Option PacketFields
packet_filled plain command None = None
packet_filled plain command (Some payload) = packet_with plain command payload

abbrev pub packet_by : PlainPacket → Option Command → Option PacketFields
packet_by plain None = None
packet_by plain (Some command) = packet_filled plain command (payload_of plain)

-- the packet that the numbers name, if they are one
abbrev pub packet_named : PlainPacket → Option PacketFields
packet_named plain = packet_by plain (command_of plain.command)

-- the numbers of errors that fit a tail
abbrev pub errstats_of : Profile → ℕ
errstats_of One = 128
errstats_of Two = 8

-- a packet may be sent with this return pointer on a link of a profile; that of a NULL is 0
abbrev pub fits_profile : Profile → PlainPacket → Bool
fits_profile profile plain =
    nat_lt plain.rrp (modulus_of profile) && nat_lt plain.frp (modulus_of profile)
    && nat_lt plain.errstat (errstats_of profile)
    && (not (plain.command == 0) || (plain.rrp == 0))

-- the flits of a packet, if there is one that fits the profile
abbrev pub spelled_as : Profile → PlainPacket → Option PacketFields → Option (List (List ℕ))
spelled_as profile plain None = None
spelled_as profile plain (Some packet) =
    (if fits_profile profile plain then Some (spelling profile packet plain.rrp) else None)

abbrev pub spelled_by : Profile → PlainPacket → Option (List (List ℕ))
spelled_by profile plain = spelled_as profile plain (packet_named plain)
