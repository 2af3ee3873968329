-- By induction on the journal.
use Rattle.hmc_laws.proofs.QueueInvariant.{queue_invariant}
use Rattle.hmc_laws.proofs.laws.lawful_keeps_queues.Goals as goal

pub returns : goal.returns
returns c = queue_invariant
