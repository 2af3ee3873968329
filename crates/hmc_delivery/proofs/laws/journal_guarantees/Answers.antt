-- From the laws of lawful journals.
use Rattle.hmc_delivery.proofs.Guaranteeing.{guarantees}
use Rattle.hmc_delivery.proofs.laws.journal_guarantees.Goals as goal

pub returns : goal.returns
returns c = guarantees
