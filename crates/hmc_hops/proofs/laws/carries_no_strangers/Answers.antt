use Rattle.hmc_hops.proofs.Strangers.{requests_none, answers_none}
use Rattle.hmc_hops.proofs.laws.carries_no_strangers.Goals as goal

pub returns : goal.returns
returns c = record { requests = requests_none; answers = answers_none }
