-- The network stands for the case.
use Rattle.std.proofs.Common.{sym}
use Rattle.hmc_check.proofs.Following.{opening_at}
use Rattle.hmc_check.proofs.checker.check.Goals as goal

pub check_in-requires : goal.check_in-requires
check_in-requires g c = (_, opening_at _ _ _ c.in-Ok.ensures (sym c.schedule.ensures))
