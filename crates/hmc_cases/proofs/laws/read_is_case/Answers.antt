-- Step by step, as a case is read.
use Rattle.hmc_cases.proofs.Cases.{read_is_case}
use Rattle.hmc_cases.proofs.laws.read_is_case.Goals as goal

pub returns : goal.returns
returns c = read_is_case
