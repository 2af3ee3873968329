-- The host that is asked is that of the network, and the journal stays.
use Rattle.std.proofs.Common.{◌∙◌, ap}
use Rattle.hmc_host.specs.Host.{HostFields}
use Rattle.hmc_net.specs.NetState.{net_of, NetState}
use Rattle.hmc_net.proofs.Asking.{host_asked_is, asked_stands, numbered, on_ok, host_there}
use Rattle.hmc_net.proofs.Indexed.{host_found}
use Rattle.hmc_net.proofs.network.Network.ask.Goals as goal

pub returns-clause-asks : goal.returns-clause-asks
returns-clause-asks g c = λ setup past s.
    let slots = g.B.Workbench.slots in
    let net : NetState = net_of slots c.args.self.now in
    let same = ap (net_of slots) c.self.view_is in
    let found = host_found c.self.inside.hosts.items net c.from.result c.args.host c.index_mut.result.now (ap (λ (n : NetState). n.hosts) same) c.from.ensures c.index_mut.ensures.value s.sized (host_there net setup past c.args.host s c.requires.there) in
    on_ok c.ask.result (λ is. host_asked_is _ net _ c.self.inside.hosts.items c.from.result c.args.host c.index_mut.result.now c.ask.new.self c.args.fenced c.args.poisoned c.args.request.now _ _ same c.from.ensures found
    (ap (λ (h : HostFields). h.number) found ∙ numbered net setup past c.args.host s c.requires.there) is) c.ask.ensures.ok

pub returns-clause-stands : goal.returns-clause-stands
returns-clause-stands g c = λ setup past s free cube.
    let slots = g.B.Workbench.slots in
    let net : NetState = net_of slots c.args.self.now in
    on_ok c.ask.result (λ is. asked_stands net _ setup past c.args.host c.args.fenced c.args.poisoned c.args.request.now c.requires.there is s free c.invariant.ensures cube) (returns-clause-asks g c setup past s)
