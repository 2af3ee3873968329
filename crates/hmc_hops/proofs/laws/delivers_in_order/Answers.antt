use Rattle.hmc_hops.proofs.Delivering.{delivered}
use Rattle.hmc_hops.proofs.laws.delivers_in_order.Goals as goal

pub returns : goal.returns
returns c = delivered
