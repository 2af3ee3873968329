-- A copy of a packet that leaves before the packet has come whole: what the last flit of the packet
-- gives to it, and which packet it is.
use Rattle.std.specs.Prelude.{◌≡◌, ◌-◌, ◌*◌, ℕ, List, Bool, not, length, take, drop, Option, Some, None}
use Rattle.hmc_codes.specs.Bytes.{IsBytes}
use Rattle.hmc_codes.specs.Commands.{layout_of}
use Rattle.hmc_codes.specs.declared.command.Command.{Command}
use Rattle.hmc_codes.specs.declared.layout.Layout.{Layout}
use Rattle.hmc_codes.specs.declared.layout.Layout.TheVariants as layouts
use Rattle.hmc_codes.specs.declared.profile.Profile.{Profile}
use Rattle.hmc_packet.specs.declared.feed.Feed.{Feed}
use Rattle.hmc_packet.specs.declared.feed.Feed.TheVariants.{Last}
use Rattle.hmc_packet.specs.declared.head.Head.{Head}
use Rattle.hmc_packet.specs.declared.tail.Tail.{Tail}
use Rattle.hmc_packet.specs.Head.{named_by, head_in}
use Rattle.hmc_packet.specs.Header.{header_of}
use Rattle.hmc_packet.specs.Packet.{PacketFields}
use Rattle.hmc_packet.specs.Parts.{half_of, header_in}
use Rattle.hmc_packet.specs.Reading.{packet_from}
use Rattle.hmc_packet.specs.Tail.{IsTail, tail_of}

-- the layout that a first flit names; where it names no command, that of a request
abbrev pub layout_named : Option Command → Layout
layout_named None = layouts.Ask
layout_named (Some command) = layout_of command

-- its first eight bytes, and the SLID or ERRSTAT of its tail
unfoldable pub last_feed : Profile → Layout → List ℕ → (good : Bool) → Feed
last_feed profile layout flit good =
    let tail = tail_of profile layout (half_of (take 4 (drop 8 flit))) in
    Last (take 8 flit) tail.slid tail.errstat good

-- the same, of a packet that begins with this flit
abbrev pub last_feed_of : Profile → (first last : List ℕ) → (good : Bool) → Feed
last_feed_of profile first last good = last_feed profile (layout_named (named_by first)) last good

-- these are bytes before the tail, header and payload, as many as their header names flits
pub record IsFront (bytes : List ℕ) (head : Head) : Type 0 where
  pub are_bytes : IsBytes bytes
  pub names : head_in bytes ≡ Some head
  pub size : length bytes ≡ 16 * head.flits - 8

-- these are fields of a tail after such a header: a request has no error number
pub record IsTailAfter (profile : Profile) (command : Command) (t : Tail) : Type 0 where
  pub fits : IsTail profile t
  pub errstat : layout_of command ≡ layouts.Ask → t.errstat ≡ 0

-- the packet with these bytes before its tail and these fields of its tail: good, or poisoned
unfoldable pub copied_packet : Command → (bytes : List ℕ) → Tail → (good : Bool) → PacketFields
copied_packet command bytes tail good =
    packet_from (layout_of command) command (header_of (layout_of command) (header_in bytes)) tail
    (not good) (drop 8 bytes)
