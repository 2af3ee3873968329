-- Small words of the definitions of queues.
use Rattle.std.specs.Prelude.{ℕ, Bool, true, false, List, [], ◌∷◌, slice_index_or, Option, Some, None}
use Rattle.hmc_packet.specs.Packet.{PacketFields, null_packet}
pub use Rattle.hmc_codes.specs.Places.{same_lift}
pub use Rattle.hmc_hops.specs.Moves.{one_if}

-- the first packet, or a NULL where there is none
abbrev pub front_of : List PacketFields → PacketFields
front_of packets = slice_index_or packets 0 null_packet

-- a request without a tag carries 0
abbrev pub tag_number : Option ℕ → ℕ
tag_number None = 0
tag_number (Some tag) = tag

-- the packet where a test holds; it is computed only there
abbrev pub packet_if : Bool → (Unit {0} → PacketFields) → List PacketFields
packet_if true packet = packet tt ∷ []
packet_if false packet = []
