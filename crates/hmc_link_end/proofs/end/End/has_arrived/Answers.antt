use Rattle.hmc_ends.proofs.Quiet.{used-where}
use Rattle.hmc_link_end.proofs.end.End.has_arrived.Goals as goal

pub returns : goal.returns
returns g c = used-where _ _ c.used.ensures
