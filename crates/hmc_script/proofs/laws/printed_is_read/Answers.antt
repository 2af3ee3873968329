use Rattle.hmc_script.proofs.LawLemmas.{printed_is_read}
use Rattle.hmc_script.proofs.laws.printed_is_read.Goals as goal

pub returns : goal.returns
returns c = printed_is_read
