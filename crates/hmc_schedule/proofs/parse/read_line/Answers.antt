use Rattle.hmc_schedule.proofs.ParseLemmas.{still_good}
use Rattle.hmc_schedule.proofs.parse.read_line.Goals as goal

pub returns-in-Ok-clause-read : goal.returns-in-Ok-clause-read
returns-in-Ok-clause-read c =
    still_good c.args.plan.now c.args.number (record { steps = c.args.written.now.steps; noise = c.args.noise.now }) (record { steps = c.follow.new.written.steps; noise = c.follow.new.noise }) c.in-Ok.meaning c.follow.result c.requires.read c.in-Ok.ensures.works c.follow.ensures.value
