use Rattle.std.proofs.Common.{ap, sym}
use Rattle.hmc_session.specs.Running.{ended_by}
use Rattle.hmc_session.proofs.run.ended_by.Goals as goal

pub returns-in-Over : goal.returns-in-Over
returns-in-Over c = ap ended_by (sym c.in-Over.is)
