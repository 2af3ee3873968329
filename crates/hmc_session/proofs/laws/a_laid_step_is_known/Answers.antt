-- Its parts are those of the plan.
use Rattle.hmc_session.proofs.Known.{known_step, known_run}
use Rattle.hmc_session.proofs.laws.a_laid_step_is_known.Goals as goal

pub returns-clause-step : goal.returns-clause-step
returns-clause-step c = known_step

pub returns-clause-run : goal.returns-clause-run
returns-clause-run c = known_run
