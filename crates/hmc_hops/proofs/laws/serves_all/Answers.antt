use Rattle.hmc_hops.proofs.Delivering.{all_served}
use Rattle.hmc_hops.proofs.laws.serves_all.Goals as goal

pub returns : goal.returns
returns c = all_served
