-- One cube, as the contracts see it.
use Rattle.std.specs.Prelude.{ℕ, ◌+◌, ◌^◌, List, [], length, replicate, slice_index_or, slice_set, sum_by}
use Rattle.hmc_codes.specs.Shape.{ShapeFields}
use Rattle.hmc_packet.specs.Packet.{PacketFields}
use Rattle.hmc_serial.specs.Cube.{CubeState, opening}
use Rattle.hmc_vault.specs.Vault.{VaultFields, opening_vault, held_by}

-- memory and registers, the vaults, the requests that wait for the registers, and their answers;
-- each queue has room for `size` packets
pub record CubeFields : Type 0 where
  pub state : CubeState
  pub vaults : List VaultFields
  pub register_queue : List PacketFields
  pub answers : List PacketFields
  pub size : ℕ

-- at first the memory is zero and no queue holds a packet
abbrev pub opening_cube : (number : ℕ) → ShapeFields → (size : ℕ) → CubeFields
opening_cube number shape size = record {
  state = opening shape number;
  vaults = replicate (2 ^ shape.vault_bits) (opening_vault shape.bank_bits size);
  register_queue = [];
  answers = [];
  size = size;
}

-- the value for a vault that isn't there
abbrev pub no_vault : VaultFields
no_vault = record { vault_queue = []; banks = []; answers = []; size = 0 }

-- the vault with a number
abbrev pub vault_at : CubeFields → ℕ → VaultFields
vault_at cube vault = slice_index_or cube.vaults vault no_vault

-- the cube with another vault in its place
abbrev pub with_vault : CubeFields → ℕ → VaultFields → CubeFields
with_vault cube place vault = record cube { vaults = slice_set cube.vaults place vault }

-- the number of packets in all queues
abbrev pub held_in_cube : CubeFields → ℕ
held_in_cube cube = sum_by held_by cube.vaults + length cube.register_queue + length cube.answers
