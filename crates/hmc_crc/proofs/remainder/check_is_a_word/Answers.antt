-- Both are lemmas on the definition.
use Rattle.hmc_crc.proofs.Check.{crc_of-lt, length-remainder}
use Rattle.hmc_crc.proofs.remainder.check_is_a_word.Goals as goal

pub returns-clause-below : goal.returns-clause-below
returns-clause-below c = crc_of-lt

pub returns-clause-coefficients : goal.returns-clause-coefficients
returns-clause-coefficients c = length-remainder
