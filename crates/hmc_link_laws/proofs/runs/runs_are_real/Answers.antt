use Rattle.hmc_link_laws.proofs.RealRuns.{real-run}
use Rattle.hmc_link_laws.proofs.runs.runs_are_real.Goals as goal

pub returns : goal.returns
returns c = real-run
