-- Its journal is whole, and a case has one.
use Rattle.hmc_session.proofs.Running.{run, guaranteed}
use Rattle.hmc_session.proofs.laws.a_session_is_a_run.Goals as goal

pub returns-clause-run : goal.returns-clause-run
returns-clause-run c = run

pub returns-clause-guarantees : goal.returns-clause-guarantees
returns-clause-guarantees c = guaranteed
