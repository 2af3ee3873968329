-- Where the network is drained, each request that was given has its answer.
use Rattle.hmc_accesses.proofs.Drained.{all_are_loaded}
use Rattle.hmc_accesses.proofs.laws.all_are_loaded.Goals as goal

pub returns : goal.returns
returns c = all_are_loaded
