-- The log was read for the case, line by line.
use Rattle.hmc_verdict.proofs.Fits.{subject_fits, subject_untagged}
use Rattle.hmc_verdict.proofs.laws.read_logs_fit.Goals as goal

pub returns-clause-untagged : goal.returns-clause-untagged
returns-clause-untagged c = subject_untagged

pub returns-clause-fit : goal.returns-clause-fit
returns-clause-fit c = subject_fits
