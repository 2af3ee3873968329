-- The test leaves out only queues in which nothing can wait.
use Rattle.hmc_promises.proofs.Guaranteeing.{drained_tested}
use Rattle.hmc_promises.proofs.laws.drained_is_tested.Goals as goal

pub returns : goal.returns
returns c = drained_tested
