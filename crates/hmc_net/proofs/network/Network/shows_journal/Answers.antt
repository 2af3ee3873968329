-- The final lines are those of the journal.
use Rattle.hmc_net.specs.NetState.{net_of}
use Rattle.hmc_net.proofs.FinalStands.{final_lines-stands, ending_lines-stands}
use Rattle.hmc_net.proofs.network.Network.shows_journal.Goals as goal

pub returns-clause-whole : goal.returns-clause-whole
returns-clause-whole g c = λ setup past stands on. final_lines-stands (net_of g.B.Workbench.slots c.args.self.now) setup past stands on

pub returns-clause-ending : goal.returns-clause-ending
returns-clause-ending g c = λ setup past stands on. ending_lines-stands (net_of g.B.Workbench.slots c.args.self.now) setup past stands on
