-- The bytes and the flits of a packet.
use Rattle.std.specs.Prelude.{◌≡◌, ◌<◌, ◌-◌, ◌^◌, ℕ, Bool, if◌then◌else◌, List, [], ◌∷◌, ◌++◌, replicate}
use Rattle.std.specs.Int.{w32, w64, to_le_bytes}
use Rattle.std.specs.Simd.{first_chunks}
use Rattle.hmc_codes.specs.declared.profile.Profile.{Profile}
use Rattle.hmc_codes.specs.Commands.{code_of, layout_of}
use Rattle.hmc_codes.specs.Flit.{zero_flit}
use Rattle.hmc_codes.specs.declared.layout.Layout.{Layout}
use Rattle.hmc_codes.specs.declared.layout.Layout.TheVariants as layouts
use Rattle.hmc_codes.specs.declared.command.Command.TheVariants.{Null}
use Rattle.hmc_crc.specs.Remainder.{crc_of}
use Rattle.hmc_packet.specs.declared.header.Header.{Header}
use Rattle.hmc_packet.specs.declared.tail.Tail.{Tail}
use Rattle.hmc_packet.specs.Header.{header_word}
use Rattle.hmc_packet.specs.Tail.{FitsField, tail_layout, tail_word}
use Rattle.hmc_codes.specs.Profile.{modulus_of}
use Rattle.hmc_packet.specs.Packet.{PacketFields, flits_of}

-- a packet may be sent with a return pointer on a link of a profile: both pointers and the error
-- number fit its tail
pub record FitsProfile (profile : Profile) (p : PacketFields) (rrp : ℕ) : Type 0 where
  pub below : rrp < modulus_of profile
  pub forward : p.frp < modulus_of profile
  pub errstat : FitsField (tail_layout profile).errstat p.errstat
  pub null : p.command ≡ Null → rrp ≡ 0

-- what a packet's header carries
abbrev pub header_fields : PacketFields → Header
header_fields p = record {
  code = code_of p.command;
  flits = flits_of p;
  tag = p.tag;
  address = p.address;
  flag = p.flag;
  slid = p.slid;
  cube = p.cube;
}

-- what its tail carries
abbrev pub tail_fields : PacketFields → ℕ → Tail
tail_fields p rrp = record {
  rrp = rrp;
  frp = p.frp;
  seq = p.seq;
  slid = p.slid;
  errstat = p.errstat;
  rtc = p.rtc;
}

-- eight bytes of a word, the lowest first
unfoldable pub word_bytes : ℕ → List ℕ
word_bytes word = to_le_bytes w64 word

-- four bytes of half a word
unfoldable pub half_bytes : ℕ → List ℕ
half_bytes half = to_le_bytes w32 half

-- what the check covers: the header, the payload, and the tail's fields
unfoldable pub covered : (profile : Profile) → PacketFields → ℕ → List ℕ
covered profile p rrp =
    let layout = layout_of p.command in
    word_bytes (header_word layout (header_fields p))
    ++ (p.payload ++ half_bytes (tail_word profile layout (tail_fields p rrp)))

-- 32 bits, each inverted
abbrev pub inverse : ℕ → ℕ
inverse bits = 2 ^ 32 - 1 - bits

-- the check that a packet carries: a poisoned one the inverse of the right one
unfoldable pub check_of : Bool → List ℕ → ℕ
check_of poisoned bytes = if poisoned then inverse (crc_of bytes) else crc_of bytes

-- the bytes of a packet other than a NULL
unfoldable pub bytes_of : (profile : Profile) → PacketFields → ℕ → List ℕ
bytes_of profile p rrp =
    covered profile p rrp ++ half_bytes (check_of p.poisoned (covered profile p rrp))

-- this many flits of 16 bytes
unfoldable pub cut : ℕ → List ℕ → List (List ℕ)
cut count bytes = first_chunks 16 count bytes

-- the flit that trains a receiver: no packet begins with it
unfoldable pub training_flit : List ℕ
training_flit = replicate 16 0x5a

-- by layout: a NULL is all zero
unfoldable pub flits_with : (profile : Profile) → Layout → PacketFields → ℕ → List (List ℕ)
flits_with profile layouts.Null p rrp = zero_flit ∷ []
flits_with profile _ p rrp = cut (flits_of p) (bytes_of profile p rrp)

-- the flits of a packet that is sent with a return pointer
unfoldable pub spelling : (profile : Profile) → PacketFields → ℕ → List (List ℕ)
spelling profile p rrp = flits_with profile (layout_of p.command) p rrp
