-- A front that goes on through another port is an entry.
use Rattle.std.proofs.Common.{Some, None, ap, sym, subst}
use Rattle.hmc_codes.specs.declared.place.Place.TheVariants as places
use Rattle.hmc_entries.specs.declared.outcome.Goal.TheVariants as goals
use Rattle.hmc_links.specs.LinkList.{AreGoing, IsDirection, IsFrontAt, LinksStandFor}
use Rattle.hmc_net.specs.NetState.{net_of, NetState}
use Rattle.hmc_net.proofs.Doing.{ends_in}
use Rattle.hmc_net.proofs.Indexed.{links_changed}
use Rattle.hmc_net.proofs.PortSteps.{shift_out_may, shift_out_does, onward_after, shifting_again, some_leaving}
use Rattle.hmc_net.proofs.network.Network.move_out.Goals as goal

pub front-requires : goal.front-requires
front-requires g c =
    subst (λ (n : NetState). IsDirection n.links c.args.direction) (sym (ap (net_of g.B.Workbench.slots) c.self.view_is)) (ends_in (net_of g.B.Workbench.slots c.args.self.now) (places.Port c.args.cube c.args.port) c.args.direction c.requires.ready c.requires.leaving.shifting.ends)

pub unreachable-requires : goal.unreachable-requires
unreachable-requires g c =
    some_leaving (net_of g.B.Workbench.slots c.args.self.now) c.args.cube c.args.port c.args.direction (goals.Port c.args.out) c.requires.ready c.requires.leaving
    (subst (λ (n : NetState). IsFrontAt n.links c.args.direction None) (ap (net_of g.B.Workbench.slots) c.self.view_is) (λ rows entries stand. c.in_default.ensures rows entries stand))

pub take-requires-clause-there : goal.take-requires-clause-there
take-requires-clause-there g c =
    subst (λ (n : NetState). IsDirection n.links c.args.direction) (sym (ap (net_of g.B.Workbench.slots) c.self.view_is)) (ends_in (net_of g.B.Workbench.slots c.args.self.now) (places.Port c.args.cube c.args.port) c.args.direction c.requires.ready c.requires.leaving.shifting.ends)

pub take-requires-clause-going : goal.take-requires-clause-going
take-requires-clause-going g c = subst (λ (n : NetState). AreGoing n.links) (sym (ap (net_of g.B.Workbench.slots) c.self.view_is)) c.requires.ready.sees.shows.links.going

pub hand-requires-clause-there : goal.hand-requires-clause-there
hand-requires-clause-there g c =
    onward_after (net_of g.B.Workbench.slots c.args.self.now) c.args.cube c.args.port c.args.direction c.args.out c.args.onward c.take.new.self c.requires.ready c.requires.way
    (λ rows entries stand. c.take.ensures rows entries (subst (λ (n : NetState). LinksStandFor rows n.links entries) (sym (ap (net_of g.B.Workbench.slots) c.self.view_is)) stand))

pub hand-requires-clause-may : goal.hand-requires-clause-may
hand-requires-clause-may g c =
    let shifting = shifting_again (net_of g.B.Workbench.slots c.args.self.now) c.args.cube c.args.port c.args.direction (goals.Port c.args.out) c.in-Some.front c.requires.ready c.requires.leaving
    (subst (λ (n : NetState). IsFrontAt n.links c.args.direction (Some c.in-Some.front)) (ap (net_of g.B.Workbench.slots) c.self.view_is) (λ rows entries stand. c.in-Some.ensures rows entries stand)) in
    shift_out_may (net_of g.B.Workbench.slots c.args.self.now) c.args.cube c.args.port c.args.direction c.args.out c.args.onward c.in-Some.front c.take.new.self c.requires.ready shifting c.requires.way
    (λ rows entries stand. c.take.ensures rows entries (subst (λ (n : NetState). LinksStandFor rows n.links entries) (sym (ap (net_of g.B.Workbench.slots) c.self.view_is)) stand))

pub returns-clause-does : goal.returns-clause-does
returns-clause-does g c =
    let shifting = shifting_again (net_of g.B.Workbench.slots c.args.self.now) c.args.cube c.args.port c.args.direction (goals.Port c.args.out) c.in-Some.front c.requires.ready c.requires.leaving
    (subst (λ (n : NetState). IsFrontAt n.links c.args.direction (Some c.in-Some.front)) (ap (net_of g.B.Workbench.slots) c.self.view_is) (λ rows entries stand. c.in-Some.ensures rows entries stand)) in
    shift_out_does (net_of g.B.Workbench.slots c.args.self.now) _ c.args.cube c.args.port c.args.direction c.args.out c.args.onward c.in-Some.front c.take.new.self c.hand.new.self c.requires.ready shifting c.requires.way
    (λ rows entries stand. c.take.ensures rows entries (subst (λ (n : NetState). LinksStandFor rows n.links entries) (sym (ap (net_of g.B.Workbench.slots) c.self.view_is)) stand)) c.hand.ensures
    (links_changed _ (net_of g.B.Workbench.slots c.args.self.now) _ _ _ c.hand.new.self _ c.shifted.new.self _ (ap (net_of g.B.Workbench.slots) c.self.view_is) c.shifted.ensures)
