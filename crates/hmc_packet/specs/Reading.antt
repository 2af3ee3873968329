-- What flits read as, and the first test that they fail.
use Rattle.std.specs.Prelude.{◌≡◌, ◌≢◌, ◌<◌, ℕ, Bool, true, false, not, ◌==◌, ◌&&◌, nat_le, if◌then◌else◌, List, [], ◌∷◌, length, Option, Some, None, Result, Ok, Err}
use Rattle.std.specs.List.{concat}
use Rattle.std.specs.Option.{ok_or}
use Rattle.std.specs.Str.{bytes_eq}
use Rattle.hmc_codes.specs.declared.profile.Profile.{Profile}
use Rattle.hmc_codes.specs.Commands.{layout_of, allows_of, is_flow}
use Rattle.hmc_codes.specs.declared.command.Command.{Command}
use Rattle.hmc_codes.specs.declared.layout.Layout.{Layout}
use Rattle.hmc_codes.specs.declared.layout.Layout.TheVariants as layouts
use Rattle.hmc_crc.specs.Remainder.{crc_of}
use Rattle.hmc_packet.specs.declared.bad.Bad.{Bad}
use Rattle.hmc_packet.specs.declared.bad.Bad.TheVariants as bads
use Rattle.hmc_packet.specs.declared.header.Header.{Header}
use Rattle.hmc_packet.specs.declared.tail.Tail.{Tail}
use Rattle.hmc_packet.specs.declared.seen.Seen.{Seen}
use Rattle.hmc_packet.specs.Bits.{bits_from}
use Rattle.hmc_packet.specs.Parts.{header_in, payload_in, tail_in, check_in, covered_in, lng_of}
use Rattle.hmc_codes.specs.Codes.{command_of}
use Rattle.hmc_packet.specs.Header.{header_of, header_is_clean}
use Rattle.hmc_packet.specs.Tail.{FitsField, tail_layout, tail_of, tail_is_clean}
use Rattle.hmc_codes.specs.Profile.{modulus_of}
use Rattle.hmc_packet.specs.Packet.{PacketFields, IsPacket, null_packet}
use Rattle.hmc_packet.specs.Spelling.{FitsProfile, inverse, bytes_of, spelling}
use Rattle.hmc_codes.specs.Flit.{zero_flit}

-- the flit is all zero
unfoldable pub is_null : List ℕ → Bool
is_null flit = bytes_eq flit zero_flit

-- a NULL, and no flit after it
unfoldable pub is_null_alone : List (List ℕ) → Bool
is_null_alone (flit ∷ []) = is_null flit
is_null_alone _ = false

-- Length: LNG is 1 to 17, and there are so many flits
unfoldable pub has_length : List (List ℕ) → Bool
has_length [] = false
has_length (flit ∷ rest) =
    (nat_le 1 (lng_of flit) && nat_le (lng_of flit) 17) && length (flit ∷ rest) == lng_of flit

-- a command that has the code and allows the length; NULL has no header of its own
unfoldable pub fitting : ℕ → ℕ → Option Command → Option Command
fitting code lng None = None
fitting code lng (Some command) =
    if not (code == 0) && allows_of command lng then Some command else None

-- Command: the header's code is in the table, is not 0, and allows the header's LNG
unfoldable pub command_in : ℕ → Option Command
command_in header =
    let code = bits_from 0 7 header in
    fitting code (bits_from 7 5 header) (command_of code)

-- Reserved: what has to be zero is
unfoldable pub is_clean : (profile : Profile) → Layout → List ℕ → Bool
is_clean profile layout bytes =
    header_is_clean layout (header_in bytes) && tail_is_clean profile layout (tail_in bytes)

-- Crc: the check is right, or it is the inverse of the right one. Then the packet is poisoned,
-- which a flow packet can't be
unfoldable pub poison_in : Layout → ℕ → ℕ → Option Bool
poison_in layout check right =
    if check == right then Some false else
    if not (is_flow layout) && check == inverse right then Some true else None

-- the SLID of a response is in its header, and of any other packet in its tail
abbrev pub slid_in : Layout → Header → Tail → ℕ
slid_in layouts.Reply header tail = header.slid
slid_in _ header tail = tail.slid

-- the packet with these fields of header and tail
unfoldable pub packet_from : Layout → Command → Header → Tail → Bool → List ℕ → PacketFields
packet_from layout command header tail poisoned payload = record {
  command = command;
  tag = header.tag;
  address = header.address;
  cube = header.cube;
  slid = slid_in layout header tail;
  flag = header.flag;
  errstat = tail.errstat;
  rtc = tail.rtc;
  seq = tail.seq;
  frp = tail.frp;
  poisoned = poisoned;
  payload = payload;
}

-- a packet and its return pointer, of bytes that pass the tests
unfoldable pub seen_in : (profile : Profile) → Command → Bool → List ℕ → Seen
seen_in profile command poisoned bytes =
    let layout = layout_of command in
    let tail = tail_of profile layout (tail_in bytes) in
    let header = header_of layout (header_in bytes) in
    record {
      packet = packet_from layout command header tail poisoned (payload_in bytes);
      rrp = tail.rrp;
    }

-- the next step, unless this one failed
infixl 10 ◌>>=◌
abbrev pub ◌>>=◌ : {A B : Type 0} → Result A Bad → (A → Result B Bad) → Result B Bad
(Ok x) >>= f = f x
(Err bad) >>= f = Err bad

-- whether bytes of a layout are poisoned, or the first test of Reserved and Crc that fails
abbrev pub poison_read : (profile : Profile) → Layout → List ℕ → Result Bool Bad
poison_read profile layout bytes =
    if is_clean profile layout bytes
    then ok_or (poison_in layout (check_in bytes) (crc_of (covered_in bytes))) bads.Crc
    else Err bads.Reserved

-- the command and whether the packet is poisoned, or the first test of three that fails
unfoldable pub judgement_of : (profile : Profile) → List ℕ → Result (Command × Bool) Bad
judgement_of profile bytes = do
  command ← ok_or (command_in (header_in bytes)) bads.Command
  poisoned ← poison_read profile (layout_of command) bytes
  Ok (command, poisoned)

-- what bytes as long as their header says read as
unfoldable pub bytes_read : (profile : Profile) → List ℕ → Result Seen Bad
bytes_read profile bytes = do
  found ← judgement_of profile bytes
  Ok (seen_in profile found.0 found.1 bytes)

-- a NULL is read before any test; else the tests are Length, Command, Reserved and Crc, in this
-- order
unfoldable pub read_of : (profile : Profile) → List (List ℕ) → Result Seen Bad
read_of profile flits =
    if is_null_alone flits then Ok (record { packet = null_packet; rrp = 0 }) else
    if has_length flits then bytes_read profile (concat flits) else Err bads.Length

-- the bytes are those of the packet that was seen, which is not a NULL
pub record AreBytesOf (profile : Profile) (bytes : List ℕ) (seen : Seen) : Type 0 where
  pub packet : IsPacket seen.packet
  pub pointer : seen.rrp < modulus_of profile
  pub forward : seen.packet.frp < modulus_of profile
  pub errstat : FitsField (tail_layout profile).errstat seen.packet.errstat
  pub bytes_are : bytes ≡ bytes_of profile seen.packet seen.rrp
  pub other : layout_of seen.packet.command ≢ layouts.Null

-- the flits are the spelling of what was seen
pub record IsSpelled (profile : Profile) (flits : List (List ℕ)) (seen : Seen) : Type 0 where
  pub packet : IsPacket seen.packet
  pub pointer : FitsProfile profile seen.packet seen.rrp
  pub spelled : flits ≡ spelling profile seen.packet seen.rrp
