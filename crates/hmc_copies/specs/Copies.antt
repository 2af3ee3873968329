-- The copy of a packet that is forwarded before it has come whole: what it has of the flits that
-- came. A pipe (hmc_through) has these flits; one that never came is zero.
use Rattle.std.specs.Prelude.{◌≡◌, ℕ, ◌-◌, ◌%◌, ◌^◌, true, not, List, [], take, drop, slice_index_or, Some}
use Rattle.hmc_codes.specs.Commands.{layout_of}
use Rattle.hmc_codes.specs.declared.layout.Layout.TheVariants.{Ask, Reply}
use Rattle.hmc_codes.specs.declared.profile.Profile.{Profile}
use Rattle.hmc_packet.specs.declared.tail.Tail.{Tail}
use Rattle.hmc_packet.specs.Copy.{layout_named}
use Rattle.hmc_packet.specs.Head.{named_by}
use Rattle.hmc_packet.specs.Packet.{PacketFields, IsPacket, flits_of}
use Rattle.hmc_packet.specs.Parts.{half_of}
use Rattle.hmc_packet.specs.Spelling.{spelling}
use Rattle.hmc_packet.specs.Tail.{tail_layout, tail_of}
use Rattle.hmc_send.specs.Places.{Place, numbers_at, is_token}
use Rattle.hmc_send.specs.declared.numbers.Numbers.{Numbers}
use Rattle.hmc_through.specs.Pipe.{PipeFields, flit_at, front_flits}

-- the last one
abbrev pub last_flit : PipeFields → List ℕ
last_flit pipe = flit_at pipe (pipe.flits - 1)

-- its tail, read in the profile of the link on which it came, by the layout that the first flit
-- names
abbrev pub last_tail : PipeFields → Tail
last_tail pipe =
    tail_of pipe.profile (layout_named (named_by (flit_at pipe 0)))
    (half_of (take 4 (drop 8 (last_flit pipe))))

-- as many low bits of an error number as a profile has place for
abbrev pub errstat_on : Profile → (errstat : ℕ) → ℕ
errstat_on profile errstat = errstat % 2 ^ (tail_layout profile).errstat.width

-- A packet that is sent on a link of a profile is the copy of what came, with these numbers.
pub record IsCopy (profile : Profile) (pipe : PipeFields) (n : Numbers) (packet : PacketFields)
    : Type 0 where
  -- it is a request or a response
  pub packet_is : IsPacket packet
  pub token : is_token packet ≡ true
  -- it has as many flits, and those before the last one are those that came
  pub flits : flits_of packet ≡ pipe.flits
  pub front : (rrp : ℕ) →
      take (pipe.flits - 1) (spelling profile packet rrp) ≡ front_flits pipe
  -- the first eight bytes of its last flit are those of the last one that came
  pub half : (rrp : ℕ) →
      take 8 (slice_index_or (spelling profile packet rrp) (pipe.flits - 1) [])
      ≡ take 8 (last_flit pipe)
  -- so is the SLID of a request, and the ERRSTAT of a response
  pub slid : layout_of packet.command ≡ Ask → packet.slid ≡ (last_tail pipe).slid
  pub errstat : layout_of packet.command ≡ Reply →
      packet.errstat ≡ errstat_on profile (last_tail pipe).errstat
  -- it has the numbers of its own direction
  pub numbers : numbers_at (Place.known packet) ≡ n
  -- the gathering has ended, and the copy isn't poisoned exactly where the packet was accepted
  pub good : pipe.good ≡ Some (not packet.poisoned)
