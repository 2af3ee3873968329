-- By the laws of journals.
use Rattle.hmc_promises.proofs.Guaranteeing.{step_guarantees}
use Rattle.hmc_promises.proofs.laws.lawful_guarantees.Goals as goal

pub returns : goal.returns
returns c = step_guarantees
