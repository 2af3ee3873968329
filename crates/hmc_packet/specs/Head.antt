-- What a packet's first flit alone shows.
use Rattle.std.specs.Prelude.{◌≡◌, ℕ, ◌&&◌, not, if◌then◌else◌, List, Option, Some, None, option_and_then}
use Rattle.hmc_codes.specs.Commands.{layout_of, is_flow}
use Rattle.hmc_codes.specs.declared.command.Command.{Command}
use Rattle.hmc_codes.specs.declared.layout.Layout.{Layout}
use Rattle.hmc_codes.specs.declared.layout.Layout.TheVariants as layouts
use Rattle.hmc_packet.specs.declared.head.Head.{Head}
use Rattle.hmc_packet.specs.Bits.{bits_from}
use Rattle.hmc_packet.specs.Header.{header_of, header_is_clean}
use Rattle.hmc_packet.specs.Packet.{PacketFields, flits_of}
use Rattle.hmc_packet.specs.Parts.{header_in}
use Rattle.hmc_packet.specs.Reading.{command_in}

-- the command that a flit names as a packet's first one
unfoldable pub named_by : List ℕ → Option Command
named_by flit = command_in (header_in flit)

-- the head of a request or a response, if the reserved bits of its header are zero
unfoldable pub head_with : Layout → Command → ℕ → Option Head
head_with layout command header =
    if not (is_flow layout) && header_is_clean layout header
    then Some (record {
      command = command;
      flits = bits_from 7 5 header;
      cube = (header_of layout header).cube;
      slid = (header_of layout header).slid;
    }) else None

-- the head, unless the flit names no request and no response
unfoldable pub head_in : List ℕ → Option Head
head_in flit =
    option_and_then (λ command. head_with (layout_of command) command (header_in flit))
    (named_by flit)

-- a request's SLID is in its tail
abbrev pub head_slid : Layout → ℕ → ℕ
head_slid layouts.Reply slid = slid
head_slid _ slid = 0

-- the head of a packet
abbrev pub packet_head : PacketFields → Head
packet_head p = record {
  command = p.command;
  flits = flits_of p;
  cube = p.cube;
  slid = head_slid (layout_of p.command) p.slid;
}

-- what headers and payloads carry is the same; tails and checks may differ
pub record SameHead (p q : PacketFields) : Type 0 where
  pub command : p.command ≡ q.command
  pub tag : p.tag ≡ q.tag
  pub address : p.address ≡ q.address
  pub cube : p.cube ≡ q.cube
  pub flag : p.flag ≡ q.flag
  pub slid : layout_of p.command ≡ layouts.Reply → p.slid ≡ q.slid
  pub payload : p.payload ≡ q.payload
