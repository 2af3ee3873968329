-- How a vault keeps its queues.
use Rattle.std.specs.Prelude.{◌≡◌, ◌≤◌, ◌<◌, ◌^◌, ℕ, List, [], length, map, sum_by}
use Rattle.std.specs.List.{All}
use Rattle.hmc_codes.specs.Limits.{most_bank_bits}
use Rattle.hmc_tokens.specs.declared.queue.Queue.{Queue}
use Rattle.hmc_tokens.specs.Queue.{packets_of, size_of}
use Rattle.hmc_vault.specs.Packets.{IsForBanks}
use Rattle.hmc_vault.specs.Vault.{VaultFields}

-- the vault of these queues
abbrev pub vault_of_queues : (vault_queue : Queue) (banks : List Queue) (answers : Queue) →
    VaultFields
vault_of_queues vault_queue banks answers = record {
  vault_queue = packets_of vault_queue;
  banks = map packets_of banks;
  answers = packets_of answers;
  size = size_of vault_queue;
}

-- a queue of a bank: it has the size of the vault's queues, and holds requests to a bank
pub record IsBankQueue (vault_queue queue : Queue) : Type 0 where
  pub size : size_of queue ≡ size_of vault_queue
  pub requests : All IsForBanks (packets_of queue)

-- an empty queue of a size
pub record IsOpening (room : ℕ) (queue : Queue) : Type 0 where
  pub size : size_of queue ≡ room
  pub empty : packets_of queue ≡ []

-- what each vault keeps
pub record IsVaultOfQueues (vault_queue : Queue) (banks : List Queue)
    (answers : Queue) : Type 0 where
  pub small : size_of vault_queue < 2 ^ 8
  pub few : length banks ≤ 2 ^ most_bank_bits
  pub bank_queues : All (IsBankQueue vault_queue) banks
  pub answers_size : size_of answers ≡ size_of vault_queue
  pub requests : All IsForBanks (packets_of vault_queue)

-- the number of packets in some queues
abbrev pub held_in : List Queue → ℕ
held_in queues = sum_by (λ queue. length (packets_of queue)) queues
