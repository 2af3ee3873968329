-- What has room in a queue stays within its size.
use Rattle.hmc_tokens.proofs.QueueLemmas.{one_more}
use Rattle.hmc_tokens.proofs.queue.QueueIntake.put.Goals as goal

pub invariant_of-self : goal.invariant_of-self
invariant_of-self c = record { within = one_more _ _ _ _ _ c.push_back.ensures.packets c.push_back.ensures.most c.requires }
