use Rattle.hmc_schedule.proofs.meaning.statement.Goals as goal

pub returns-then-eq-clause-works : goal.returns-then-eq-clause-works
returns-then-eq-clause-works c = c.rounds.ensures.works c.args.plan.now
