-- One link that holds something is enough.
use Rattle.std.proofs.Common.{◌↔◌, ap, subst}
use Rattle.std.specs.Prelude.{IsTrue}
use Rattle.std.specs.List.{All}
use Rattle.hmc_net.specs.NetState.{net_of, NetState}
use Rattle.hmc_links.specs.Quiet.{IsQuietLink}
use Rattle.hmc_net.proofs.Quiet.{links_hold}
use Rattle.hmc_net.proofs.network.Network.is_quiescent.Goals as goal

pub returns-else-links : goal.returns-else-links
returns-else-links g c =
    links_hold (net_of g.B.Workbench.slots c.args.self.now) c.are_quiet-links.result (subst (λ (n : NetState). IsTrue c.are_quiet-links.result ↔ All IsQuietLink n.links) (ap (net_of g.B.Workbench.slots) c.self.view_is) c.are_quiet-links.ensures) c.if-links.false
