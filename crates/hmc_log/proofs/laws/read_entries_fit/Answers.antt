-- Each entry that was added fits.
use Rattle.hmc_log.proofs.Fits.{read_entries_fit}
use Rattle.hmc_log.proofs.laws.read_entries_fit.Goals as goal

pub returns : goal.returns
returns c = read_entries_fit
