-- Every whole lawful journal is the one.
use Rattle.std.proofs.Common.{sym}
use Rattle.hmc_check.proofs.Following.{opening_at}
use Rattle.hmc_check.proofs.due.find_line.Goals as goal

pub put_line-requires : goal.put_line-requires
put_line-requires g c = (_, opening_at _ _ _ c.in-Ok.ensures (sym c.schedule.ensures))

pub returns : goal.returns
returns g c = c.put_line.ensures _ (opening_at _ _ _ c.in-Ok.ensures (sym c.schedule.ensures))
