-- What is known of laid steps.
use Rattle.hmc_c.proofs.Known.{nexted_known, none_nexted, none_ran, ran_known}
use Rattle.hmc_c.proofs.laws.a_laid_step_is_known.Goals as goal

pub returns-clause-next : goal.returns-clause-next
returns-clause-next c = none_nexted

pub returns-clause-after_next : goal.returns-clause-after_next
returns-clause-after_next c = nexted_known

pub returns-clause-run : goal.returns-clause-run
returns-clause-run c = none_ran

pub returns-clause-after_run : goal.returns-clause-after_run
returns-clause-after_run c = ran_known
