use Rattle.hmc_hops.proofs.Drops.{drop_step}
use Rattle.hmc_hops.proofs.laws.moves_fronts.Goals as goal

pub returns : goal.returns
returns c = drop_step
