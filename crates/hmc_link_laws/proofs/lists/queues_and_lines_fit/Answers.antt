use Rattle.hmc_link_laws.proofs.Fits.{queue-fits, line-fits}
use Rattle.hmc_link_laws.proofs.lists.queues_and_lines_fit.Goals as goal

pub returns-clause-queue : goal.returns-clause-queue
returns-clause-queue c = queue-fits

pub returns-clause-line : goal.returns-clause-line
returns-clause-line c = line-fits
