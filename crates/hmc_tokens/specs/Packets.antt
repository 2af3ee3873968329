-- The packets that an intake keeps.
use Rattle.std.specs.Prelude.{◌≡◌, ℕ, ◌≤◌, ◌<◌, ◌^◌, List, All, length, sum_by}
use Rattle.hmc_packet.specs.Packet.{PacketFields, flits_of}

-- packets, the front first, and the number that there is room for
pub record PacketListFields : Type 0 where
  pub packets : List PacketFields
  pub most : ℕ

-- a packet as long as a packet may be
abbrev pub IsShort : PacketFields → Type 0
IsShort packet = flits_of packet ≤ 17

-- what every list of packets keeps: memory is reserved for as many as it may have, and their flits
-- are counted
pub record AreKept (packets : List PacketFields) (most reserved counted : ℕ) : Type 0 where
  pub within : length packets ≤ most
  pub enough : most ≤ reserved
  pub small : most < 2 ^ 16
  pub counts : counted ≡ sum_by flits_of packets
  pub short : All IsShort packets
