-- By induction on the journal.
use Rattle.hmc_laws.proofs.Order.{is_scripted}
use Rattle.hmc_laws.proofs.laws.lawful_is_scripted.Goals as goal

pub returns : goal.returns
returns c = is_scripted
