use Rattle.hmc_ordered.proofs.Earlier.{earlier_is_ordered}
use Rattle.hmc_ordered.proofs.laws.earlier_is_ordered.Goals as goal

pub returns : goal.returns
returns c = earlier_is_ordered
