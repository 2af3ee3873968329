-- Each unit executes in the order of the script, and so it is under each tag.
use Rattle.hmc_accesses.proofs.Loaded.{values_are_loaded}
use Rattle.hmc_accesses.proofs.laws.values_are_loaded.Goals as goal

pub returns : goal.returns
returns c = values_are_loaded
