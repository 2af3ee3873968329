-- One vault, as the contracts see it.
use Rattle.std.specs.Prelude.{◌≤◌, ℕ, ◌+◌, ◌^◌, List, [], length, replicate, slice_index_or, sum_by}
use Rattle.std.specs.List.{All}
use Rattle.hmc_packet.specs.Packet.{PacketFields}
use Rattle.hmc_vault.specs.Packets.{IsForBanks}

-- the vault queue, a queue per bank, and the answers queue; each has room for `size` packets
pub record VaultFields : Type 0 where
  pub vault_queue : List PacketFields
  pub banks : List (List PacketFields)
  pub answers : List PacketFields
  pub size : ℕ

-- at first no queue holds a packet
abbrev pub opening_vault : (bank_bits size : ℕ) → VaultFields
opening_vault bank_bits size =
    record { vault_queue = []; banks = replicate (2 ^ bank_bits) []; answers = []; size = size }

-- the queue of a bank
abbrev pub bank_at : VaultFields → ℕ → List PacketFields
bank_at vault bank = slice_index_or vault.banks bank []

-- the number of packets in all queues
abbrev pub held_by : VaultFields → ℕ
held_by vault = length vault.vault_queue + sum_by length vault.banks + length vault.answers

-- what each vault keeps: no queue has more packets than its size, and requests to banks wait in it
pub record IsVault (vault : VaultFields) : Type 0 where
  pub vault_queue_fits : length vault.vault_queue ≤ vault.size
  pub banks_fit : All (λ queue. length queue ≤ vault.size) vault.banks
  pub answers_fit : length vault.answers ≤ vault.size
  pub requests : All IsForBanks vault.vault_queue
  pub bank_requests : All (All IsForBanks) vault.banks
