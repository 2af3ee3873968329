use Rattle.hmc_ordered.proofs.Running.{runs_are_ordered}
use Rattle.hmc_ordered.proofs.laws.runs_are_ordered.Goals as goal

pub returns : goal.returns
returns c = runs_are_ordered
