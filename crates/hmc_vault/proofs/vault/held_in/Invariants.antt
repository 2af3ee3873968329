-- The packets so far, at most 255 a queue.
use Rattle.std.proofs.Common.{◌≡◌, ◌≤◌, ◌*◌, take}
use Rattle.hmc_vault.specs.Kept.{held_in}
use Rattle.hmc_vault.proofs.vault.held_in.Given as goal

abbrev pub invariant-loop-queue : goal.invariant-loop-queue
invariant-loop-queue l = (l.held ≡ held_in (take l.queue-index l.queues)) × (l.held ≤ 255 * l.queue-index)
