-- How a cube keeps its queues.
use Rattle.std.specs.Prelude.{◌≡◌, ℕ, List, [], All, length, map}
use Rattle.hmc_tokens.specs.declared.queue.Queue.{Queue}
use Rattle.hmc_tokens.specs.Queue.{packets_of, size_of}
use Rattle.hmc_queues.specs.Queues.{CubeQueuesFields, seats}

abbrev pub view_of_queues : (vaults banks size : ℕ) → List Queue → CubeQueuesFields
view_of_queues vaults banks size queues = record {
  vaults = vaults;
  banks = banks;
  size = size;
  queues = map packets_of queues;
}

abbrev pub HasSize : ℕ → Queue → Type 0
HasSize size queue = size_of queue ≡ size

-- an empty queue of a size
pub record IsOpening (size : ℕ) (queue : Queue) : Type 0 where
  pub size_is : size_of queue ≡ size
  pub empty : packets_of queue ≡ []

-- what each cube keeps
pub record AreQueues (vaults banks size : ℕ) (queues : List Queue) : Type 0 where
  pub count : length queues ≡ seats vaults banks
  pub sizes : All (HasSize size) queues
