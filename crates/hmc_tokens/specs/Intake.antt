-- Room in an intake.
use Rattle.std.specs.Prelude.{ℕ, ◌+◌, Bool, nat_le, List, sum_by}
use Rattle.hmc_packet.specs.Packet.{PacketFields}

-- there is room for a packet after these packets
abbrev pub has_room : List PacketFields → (size : ℕ) → (cost : PacketFields → ℕ) → PacketFields
    → Bool
has_room packets size cost packet = nat_le (sum_by cost packets + cost packet) size
