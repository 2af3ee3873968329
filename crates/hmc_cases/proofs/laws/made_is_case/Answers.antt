-- Part by part, as a case is made.
use Rattle.hmc_cases.proofs.Made.{made_is_case}
use Rattle.hmc_cases.proofs.laws.made_is_case.Goals as goal

pub returns : goal.returns
returns c = made_is_case
