-- The tokens are those of the journal.
use Rattle.std.proofs.Common.{◌∙◌, sym, subst, ap}
use Rattle.hmc_journal.specs.Links.{link_entries}
use Rattle.hmc_links.specs.LinkList.{LinksStandFor}
use Rattle.hmc_net.specs.NetState.{net_of, NetState}
use Rattle.hmc_kept.proofs.Called.{tokens_told}
use Rattle.hmc_net.proofs.network.Network.tokens.Goals as goal

pub returns : goal.returns
returns g c = λ setup past stands on.
    c.tokens.ensures setup.topology.links (λ link. link_entries setup.topology link past) (subst (λ (n : NetState). LinksStandFor setup.topology.links n.links (λ link. link_entries setup.topology link past)) (sym (ap (net_of g.B.Workbench.slots) c.self.view_is)) (stands.links on))
    ∙ tokens_told setup.topology past c.args.direction
