-- A host that gives nothing is idle, for its reason.
use Rattle.std.proofs.Common.{◌≡◌, ◌∙◌, Some, ap, sym, subst}
use Rattle.hmc_codes.specs.declared.place.Place.TheVariants as places
use Rattle.hmc_journal.specs.Setup.{direction_from}
use Rattle.hmc_host.specs.Give.{give_says, hindrance_of}
use Rattle.hmc_host.specs.Host.{HostFields}
use Rattle.hmc_links.specs.LinkList.{IsRoom}
use Rattle.hmc_net.specs.NetState.{net_of, NetState}
use Rattle.hmc_net.proofs.HostSteps.{hindered_does}
use Rattle.hmc_net.proofs.Indexed.{host_found, entry_changed}
use Rattle.hmc_net.proofs.network.Network.give.Goals as goal

pub returns-in-Some-clause-does : goal.returns-in-Some-clause-does
returns-in-Some-clause-does g c =
    let found = host_found c.self.inside.hosts.items (net_of g.B.Workbench.slots c.args.self.now) c.from.result c.args.host c.index.result.now (ap (λ (n : NetState). n.hosts) (ap (net_of g.B.Workbench.slots) c.self.view_is)) c.from.ensures c.index.ensures c.requires.ready.sized c.requires.there in
    hindered_does (net_of g.B.Workbench.slots c.args.self.now) _ c.args.host c.from_host-direction.result c.room-room.result c.in-Some.hindrance c.cause_of.result c.requires.ready.sized c.requires.there
    (subst (λ (n : NetState). direction_from n.topology (places.Host c.args.host) ≡ Some c.from_host-direction.result) (ap (net_of g.B.Workbench.slots) c.self.view_is) c.from_host-direction.ensures.from) (subst (λ (n : NetState). IsRoom n.links c.from_host-direction.result c.room-room.result) (ap (net_of g.B.Workbench.slots) c.self.view_is) c.room-room.ensures)
    (ap (λ (h : HostFields). hindrance_of (give_says h c.room-room.result)) (sym found) ∙ sym c.hindrance.ensures ∙ c.in-Some.is) c.cause_of.ensures
    (entry_changed _ (net_of g.B.Workbench.slots c.args.self.now) _ _ _ _ c.idle.new.last _ (ap (net_of g.B.Workbench.slots) c.self.view_is) c.idle.ensures.last)
