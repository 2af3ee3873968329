-- The move of a packet from one intake to another.
use Rattle.std.specs.Prelude.{Bool, if◌then◌else◌, List, [], ◌∷◌, take, drop}
use Rattle.hmc_packet.specs.Packet.{PacketFields}
use Rattle.hmc_tokens.specs.declared.moving.Moved.{Moved}
use Rattle.hmc_tokens.specs.declared.moving.Moved.TheVariants.{Empty, Full, Done}
use Rattle.hmc_tokens.specs.declared.moving.Shift.{Shift}
use Rattle.hmc_tokens.specs.declared.moving.Shift.TheVariants as shifts

-- nothing where there is no packet, else nothing where there is no room for the front, and else the
-- front
abbrev pub moved_by : List PacketFields → (room : PacketFields → Bool) → Moved
moved_by [] room = Empty
moved_by (front ∷ rest) room = (if room front then Done front else Full)

-- the packets that a move moved
abbrev pub moved_packets : Moved → List PacketFields
moved_packets (Done packet) = packet ∷ []
moved_packets _ = []

-- the same of a move that doesn't show its packet
abbrev pub shifted_by : List PacketFields → (room : PacketFields → Bool) → Shift
shifted_by [] room = shifts.Empty
shifted_by (front ∷ rest) room = (if room front then shifts.Done else shifts.Full)

-- the packets that it moved, of those that were there
abbrev pub shifted_packets : Shift → List PacketFields → List PacketFields
shifted_packets shifts.Done packets = take 1 packets
shifted_packets _ packets = []

-- those that it left
abbrev pub kept_packets : Shift → List PacketFields → List PacketFields
kept_packets shifts.Done packets = drop 1 packets
kept_packets _ packets = packets
