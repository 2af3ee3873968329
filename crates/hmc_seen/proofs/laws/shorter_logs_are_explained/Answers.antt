use Rattle.hmc_seen.proofs.Shorter.{shorter}
use Rattle.hmc_seen.proofs.laws.shorter_logs_are_explained.Goals as goal

pub returns : goal.returns
returns c = shorter
