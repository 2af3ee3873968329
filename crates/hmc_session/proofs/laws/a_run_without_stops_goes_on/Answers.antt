-- No entry is of no kind.
use Rattle.hmc_session.proofs.Known.{goes_on}
use Rattle.hmc_session.proofs.laws.a_run_without_stops_goes_on.Goals as goal

pub returns : goal.returns
returns c = goes_on
