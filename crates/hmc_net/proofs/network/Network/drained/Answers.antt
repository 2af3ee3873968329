-- No part holds a packet exactly where the test of all queues and directions says so.
use Rattle.hmc_net.specs.NetState.{net_of}
use Rattle.hmc_net.proofs.Stillness.{drained_test}
use Rattle.hmc_net.proofs.network.Network.drained.Goals as goal

pub returns : goal.returns
returns g c = λ setup past stands on. drained_test (net_of g.B.Workbench.slots c.args.self.now) past setup c.is_quiescent.result stands on c.is_quiescent.ensures
