-- A run that ended well has status 0.
use Rattle.std.proofs.Common.{ap, sym}
use Rattle.hmc_replay.specs.Causes.{status_of}
use Rattle.hmc_replay.proofs.top.status_of.Goals as goal

pub returns-in-Ok : goal.returns-in-Ok
returns-in-Ok c = sym (ap status_of c.in-Ok.is)
