use Rattle.hmc_link_laws.proofs.RealRuns.{line-is}
use Rattle.hmc_link_laws.proofs.runs.lines_are_of_numbers.Goals as goal

pub returns : goal.returns
returns c = line-is
