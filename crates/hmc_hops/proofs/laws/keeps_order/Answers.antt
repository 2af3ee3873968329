use Rattle.hmc_hops.proofs.Order.{is_queue}
use Rattle.hmc_hops.proofs.laws.keeps_order.Goals as goal

pub returns : goal.returns
returns c = is_queue
