-- Each queue that was added is empty.
use Rattle.std.proofs.Common.{ℕ, ◌≡◌, ◌-◌, map, length}
use Rattle.hmc_trace.specs.Queues.{queue_of}
use Rattle.hmc_trace.proofs.queues.Queues.grow.Given as goal

abbrev pub invariant-queues : goal.invariant-queues
invariant-queues l = (t : ℕ) → queue_of (map (λ queue. queue.items) l.self-inside.queues.items) t
    ≡ queue_of l.fn.self t

abbrev pub decreases-queues : goal.decreases-queues
decreases-queues l = 65536 - length l.self-inside.queues.items
