-- By induction on the accesses.
use Rattle.hmc_accesses.proofs.Performed.{is_performed}
use Rattle.hmc_accesses.proofs.laws.compiled_is_performed.Goals as goal

pub returns : goal.returns
returns c = is_performed
