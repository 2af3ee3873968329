-- What the host takes is an entry, and leaves its buffer.
use Rattle.std.proofs.Common.{◌≡◌, Bor, Some, None, refl, ap, sym, subst}
use Rattle.std.specs.Prelude.{option_map}
use Rattle.hmc_codes.specs.declared.place.Place.TheVariants as places
use Rattle.hmc_packet.specs.Packet.{PacketFields}
use Rattle.hmc_journal.specs.Links.{direction_to}
use Rattle.hmc_host.specs.Settle.{IsAwaited, after_settle, settle_says}
use Rattle.hmc_host.specs.Host.{HostFields}
use Rattle.hmc_links.specs.LinkList.{AreGoing, IsFrontAt, LinksStandFor}
use Rattle.hmc_net.specs.NetState.{net_of, NetState}
use Rattle.hmc_net.proofs.HostSteps.{awaited_front, nothing_taken, take_does}
use Rattle.hmc_net.proofs.Indexed.{host_found, host_changed, entry_changed}
use Rattle.hmc_net.proofs.network.Network.take.Goals as goal

pub returns-in_default-clause-does : goal.returns-in_default-clause-does
returns-in_default-clause-does g c =
    let net = net_of g.B.Workbench.slots c.args.self.now in
    let view = ap (net_of g.B.Workbench.slots) c.self.view_is in
    nothing_taken net _ c.args.host c.to_host-direction.result c.requires.ready.sized
    (subst (λ (n : NetState). direction_to n.topology (places.Host c.args.host) ≡ Some c.to_host-direction.result) view c.to_host-direction.ensures.to)
    (subst (λ (n : NetState). IsFrontAt n.links c.to_host-direction.result None) view
    (subst (IsFrontAt c.self.inside.links c.to_host-direction.result) (ap (option_map (λ (p : Bor PacketFields). p.now)) c.in_default.is) c.front_ref.ensures))
    (entry_changed _ net _ _ _ _ c.idle.new.last _ view c.idle.ensures.last)

pub take-requires-clause-going : goal.take-requires-clause-going
take-requires-clause-going g c = subst (λ (n : NetState). AreGoing n.links) (sym (ap (net_of g.B.Workbench.slots) c.self.view_is)) c.requires.ready.sees.shows.links.going

pub settle_front-went-requires : goal.settle_front-went-requires
settle_front-went-requires g c = λ unpoisoned.
    let net = net_of g.B.Workbench.slots c.args.self.now in
    let view = ap (net_of g.B.Workbench.slots) c.self.view_is in
    let found = host_found c.self.inside.hosts.items net c.from.result c.args.host c.index_mut-taker.result.now (ap (λ (n : NetState). n.hosts) view) c.from.ensures c.index_mut-taker.ensures.value c.requires.ready.sized c.requires.there in
    subst (λ (h : HostFields). IsAwaited h c.in-Some.front.now) (sym found)
    (awaited_front net c.args.host c.to_host-direction.result c.in-Some.front.now c.requires.ready c.requires.there
    (subst (λ (n : NetState). direction_to n.topology (places.Host c.args.host) ≡ Some c.to_host-direction.result) view c.to_host-direction.ensures.to)
    (subst (λ (n : NetState). IsFrontAt n.links c.to_host-direction.result (Some c.in-Some.front.now)) view
    (subst (IsFrontAt c.self.inside.links c.to_host-direction.result) (ap (option_map (λ (p : Bor PacketFields). p.now)) c.in-Some.is) c.front_ref.ensures)) unpoisoned)

pub returns-clause-does : goal.returns-clause-does
returns-clause-does g c =
    let net = net_of g.B.Workbench.slots c.args.self.now in
    let view = ap (net_of g.B.Workbench.slots) c.self.view_is in
    let found = host_found c.self.inside.hosts.items net c.from.result c.args.host c.index_mut-taker.result.now (ap (λ (n : NetState). n.hosts) view) c.from.ensures c.index_mut-taker.ensures.value c.requires.ready.sized c.requires.there in
    take_does net _ c.args.host c.to_host-direction.result c.in-Some.front.now (settle_says c.in-Some.front.now) c.take.new.self c.requires.ready c.requires.there
    (subst (λ (n : NetState). direction_to n.topology (places.Host c.args.host) ≡ Some c.to_host-direction.result) view c.to_host-direction.ensures.to)
    (subst (λ (n : NetState). IsFrontAt n.links c.to_host-direction.result (Some c.in-Some.front.now)) view
    (subst (IsFrontAt c.self.inside.links c.to_host-direction.result) (ap (option_map (λ (p : Bor PacketFields). p.now)) c.in-Some.is) c.front_ref.ensures))
    refl
    (λ rows entries stand. c.take.ensures rows entries (subst (λ (n : NetState). LinksStandFor rows n.links entries) (sym view) stand))
    (host_changed _ net _ c.self.inside.hosts.items c.from.result c.args.host c.index_mut-taker.result.now c.settle_front-went.new.taker (after_settle (settle_says c.in-Some.front.now)) _ c.take.new.self _ c.settle_front-went.new.last _ view c.from.ensures found c.settle_front-went.ensures.leaves c.settle_front-went.ensures.entry)
