-- The lines that were read are the lines of the printed text.
use Rattle.hmc_log.proofs.Reprinted.{printed_is_read}
use Rattle.hmc_log.proofs.laws.printed_is_read.Goals as goal

pub returns : goal.returns
returns c = printed_is_read
