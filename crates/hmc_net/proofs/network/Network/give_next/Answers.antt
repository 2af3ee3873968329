-- What the host gives is an entry, and goes to the link.
use Rattle.std.proofs.Common.{◌∙◌, ap, sym, subst}
use Rattle.hmc_codes.specs.declared.place.Place.TheVariants as places
use Rattle.hmc_host.specs.Give.{give_says, after_give}
use Rattle.hmc_host.specs.Host.{HostFields}
use Rattle.hmc_net.specs.Gives.{IsGiven}
use Rattle.hmc_links.specs.LinkList.{LinksStandFor, IsDirection}
use Rattle.hmc_net.specs.NetState.{net_of, NetState}
use Rattle.hmc_net.proofs.Doing.{starts_in}
use Rattle.hmc_net.proofs.HostSteps.{given_fits, give_does}
use Rattle.hmc_net.proofs.Indexed.{host_found, host_changed}
use Rattle.hmc_net.proofs.network.Network.give_next.Goals as goal

pub hand_given-requires-clause-there : goal.hand_given-requires-clause-there
hand_given-requires-clause-there g c =
    subst (λ (n : NetState). IsDirection n.links c.args.direction) (sym (ap (net_of g.B.Workbench.slots) c.self.view_is)) (starts_in (net_of g.B.Workbench.slots c.args.self.now) (places.Host c.args.host) c.args.direction c.requires.ready c.requires.from)

pub hand_given-requires-clause-fit : goal.hand_given-requires-clause-fit
hand_given-requires-clause-fit g c =
    subst (λ (n : NetState). IsGiven n.links c.args.direction c.give-given.result) (sym (ap (net_of g.B.Workbench.slots) c.self.view_is))
    (given_fits (net_of g.B.Workbench.slots c.args.self.now) c.args.direction c.args.room c.give-given.result c.index_mut-giver.result.now c.requires.ready c.requires.room c.give-given.ensures.answer)

pub returns-clause-does : goal.returns-clause-does
returns-clause-does g c =
    let found = host_found c.self.inside.hosts.items (net_of g.B.Workbench.slots c.args.self.now) c.from.result c.args.host c.index_mut-giver.result.now (ap (λ (n : NetState). n.hosts) (ap (net_of g.B.Workbench.slots) c.self.view_is)) c.from.ensures c.index_mut-giver.ensures.value c.requires.ready.sized c.requires.there in
    give_does (net_of g.B.Workbench.slots c.args.self.now) _ c.args.host c.args.direction c.args.room c.give-given.result c.hand_given.new.links c.requires.ready c.requires.there c.requires.from c.requires.room
    (c.give-given.ensures.answer ∙ ap (λ (h : HostFields). give_says h c.args.room) found) c.hand_given.ensures.asks
    (λ rows entries stand. c.hand_given.ensures.stands rows entries (subst (λ (n : NetState). LinksStandFor rows n.links entries) (sym (ap (net_of g.B.Workbench.slots) c.self.view_is)) stand))
    (λ cause is. c.hand_given.ensures.same c.args.host cause is ∙ ap (λ (n : NetState). n.links) (ap (net_of g.B.Workbench.slots) c.self.view_is))
    (host_changed _ (net_of g.B.Workbench.slots c.args.self.now) _ c.self.inside.hosts.items c.from.result c.args.host c.index_mut-giver.result.now c.give-given.new.self (after_give c.give-given.result) _ c.hand_given.new.links _ c.note_given.new.last _ (ap (net_of g.B.Workbench.slots) c.self.view_is) c.from.ensures found c.give-given.ensures.leaves c.note_given.ensures.entry)
