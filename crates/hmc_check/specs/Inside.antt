-- The packets in the queues inside cubes, by the names of the journal.
use Rattle.std.specs.Prelude.{◌≡◌, ◌<◌, ◌^◌, ℕ, List, [], length}
use Rattle.hmc_packet.specs.Packet.{PacketFields}
use Rattle.hmc_case.specs.Setup.{CubeSetupFields}
use Rattle.hmc_queues.specs.Queues.{CubeQueuesFields, packets_at, queues_at, seats, IsQueue}
use Rattle.hmc_queues.specs.declared.queue_name.QueueName.{QueueName}
use Rattle.hmc_queues.specs.declared.queue_name.QueueName.TheVariants as names
use Rattle.hmc_journal.specs.Queues.{QueueId}
use Rattle.hmc_journal.specs.Queues.QueueId.{Vault, Bank, Registers, Answers}

-- a queue of a cube
abbrev pub queue_at : (cube : ℕ) → QueueName → QueueId
queue_at cube (names.Vault vault) = Vault cube vault
queue_at cube (names.Bank vault bank) = Bank cube vault bank
queue_at cube names.Registers = Registers cube
queue_at cube (names.Answers from) = Answers cube from

-- the packets in a queue inside a cube
abbrev pub inside_of : List CubeQueuesFields → QueueId → List PacketFields
inside_of cubes (Vault cube vault) = packets_at cubes cube (names.Vault vault)
inside_of cubes (Bank cube vault bank) = packets_at cubes cube (names.Bank vault bank)
inside_of cubes (Registers cube) = packets_at cubes cube names.Registers
inside_of cubes (Answers cube from) = packets_at cubes cube (names.Answers from)
inside_of cubes _ = []

-- a cube has the queues that its setup says
pub record QueuesFit (setup : CubeSetupFields) (queues : CubeQueuesFields) : Type 0 where
  pub vaults : queues.vaults ≡ 2 ^ setup.shape.vault_bits
  pub banks : queues.banks ≡ 2 ^ setup.shape.bank_bits
  pub size : queues.size ≡ setup.queue
  pub count : length queues.queues ≡ seats queues.vaults queues.banks

-- a queue of a cube that is there, and in whose place the list has one
pub record IsOpen (queues : List CubeQueuesFields) (cube : ℕ) (name : QueueName) : Type 0 where
  pub is : IsQueue queues cube name
  pub count : length (queues_at queues cube).queues
      ≡ seats (queues_at queues cube).vaults (queues_at queues cube).banks
