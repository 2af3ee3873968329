-- The journal of a case is lawful, and was at every moment.
use Rattle.hmc_promises.proofs.Guaranteeing.{moment_guarantees}
use Rattle.hmc_promises.proofs.laws.journal_keeps_guarantees.Goals as goal

pub returns : goal.returns
returns c = moment_guarantees
