-- The queues so far are empty and have the size.
use Rattle.std.proofs.Common.{◌≡◌, [], map}
use Rattle.std.specs.Prelude.{replicate, All}
use Rattle.hmc_tokens.specs.Queue.{packets_of}
use Rattle.hmc_queues.specs.Kept.{IsOpening}
use Rattle.hmc_queues.proofs.cube_queues.empty_queues.Given as goal

abbrev pub invariant-loop-i : goal.invariant-loop-i
invariant-loop-i l = (map packets_of l.queues.items ≡ replicate l.i []) × All (IsOpening l.size) l.queues.items
