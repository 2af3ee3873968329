use Rattle.hmc_seen.proofs.Explaining.{explained, by_own}
use Rattle.hmc_seen.proofs.laws.runs_are_explained.Goals as goal

pub returns : goal.returns
returns c = record { explained = explained; own = by_own }
