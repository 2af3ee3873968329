use Rattle.hmc_seen.proofs.Explaining.{explained_to}
use Rattle.hmc_seen.proofs.Lines.{lines_of_end}
use Rattle.hmc_seen.proofs.laws.ends_are_explained.Goals as goal

pub returns : goal.returns
returns c = record { explained = explained_to; lines = lines_of_end }
