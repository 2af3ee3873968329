use Rattle.hmc_schedule.proofs.CountdownLemmas.{of-noise}
use Rattle.hmc_schedule.proofs.rounds_left.Countdown.of.Goals as goal

pub returns-clause-same : goal.returns-clause-same
returns-clause-same c = λ steps. of-noise c.args.noise steps c.requires
