-- The test of each part says so.
use Rattle.hmc_net.specs.NetState.{net_of}
use Rattle.hmc_net.proofs.Still.{still_by}
use Rattle.hmc_net.proofs.network.Network.is_still.Goals as goal

pub returns : goal.returns
returns g c = still_by (net_of g.B.Workbench.slots c.args.self.now) c.is_quiescent.result c.is_quiescent.ensures
