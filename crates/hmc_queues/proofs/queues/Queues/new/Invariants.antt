-- The queues of the cubes so far are empty.
use Rattle.std.proofs.Common.{◌≡◌, map, take}
use Rattle.hmc_queues.specs.Queues.{opening_queues}
use Rattle.hmc_queues.proofs.queues.Queues.new.Given as goal

abbrev pub invariant-loop-setup : goal.invariant-loop-setup
invariant-loop-setup l = l.cubes.items ≡ map opening_queues (take l.setup-index l.setups)
