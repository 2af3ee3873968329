use Rattle.hmc_schedule.proofs.meaning.noise_or_one.Goals as goal

pub returns-then-eq-clause-works : goal.returns-then-eq-clause-works
returns-then-eq-clause-works c = c.noise_meaning.ensures.works c.args.plan.now
