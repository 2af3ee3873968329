-- Where the front goes is an entry.
use Rattle.std.proofs.Common.{◌∙◌, Some, None, ap, sym, subst}
use Rattle.hmc_codes.specs.declared.place.Place.TheVariants as places
use Rattle.hmc_crossbar.specs.To.{HasWay, where_to}
use Rattle.hmc_journal.specs.Next.{goal_at}
use Rattle.hmc_journal.specs.Setup.{graph_of, shape_of}
use Rattle.hmc_entries.specs.declared.outcome.Goal.TheVariants as goals
use Rattle.hmc_links.specs.LinkList.{AreGoing, IsDirection, IsFrontAt, LinksStandFor}
use Rattle.hmc_net.specs.NetState.{net_of, NetState}
use Rattle.hmc_net.proofs.Doing.{ends_in}
use Rattle.hmc_net.proofs.Indexed.{links_changed}
use Rattle.hmc_net.proofs.PortSteps.{front_way, leaving_by, dropped_does}
use Rattle.hmc_net.proofs.network.Network.shift_front.Goals as goal

pub front_ref-requires : goal.front_ref-requires
front_ref-requires g c =
    subst (λ (n : NetState). IsDirection n.links c.args.direction) (sym (ap (net_of g.B.Workbench.slots) c.self.view_is)) (ends_in (net_of g.B.Workbench.slots c.args.self.now) (places.Port c.args.cube c.args.port) c.args.direction c.requires.ready c.requires.ends)

pub unreachable-requires : goal.unreachable-requires
unreachable-requires g c =
    c.requires.some (subst (λ (n : NetState). IsFrontAt n.links c.args.direction None) (ap (net_of g.B.Workbench.slots) c.self.view_is) (λ rows entries stand. c.in_default.ensures rows entries stand))

pub goal-to-requires-clause-way : goal.goal-to-requires-clause-way
goal-to-requires-clause-way g c =
    subst (λ (n : NetState). HasWay (graph_of n.topology) c.in-Some.front.now c.in-Some.front.now.poisoned) (sym (ap (net_of g.B.Workbench.slots) c.self.view_is))
    (front_way (net_of g.B.Workbench.slots c.args.self.now) c.args.cube c.args.port c.args.direction c.in-Some.front.now c.requires.ready
    c.requires.ends
    (subst (λ (n : NetState). IsFrontAt n.links c.args.direction (Some c.in-Some.front.now)) (ap (net_of g.B.Workbench.slots) c.self.view_is) (λ rows entries stand. c.in-Some.ensures rows entries stand)))

pub shift_in-requires-clause-leaving : goal.shift_in-requires-clause-leaving
shift_in-requires-clause-leaving g c =
    let view = ap (net_of g.B.Workbench.slots) c.self.view_is in
    (leaving_by (net_of g.B.Workbench.slots c.args.self.now) c.args.cube c.args.port c.args.direction c.in-Some.front.now c.goal-to.result (goals.Vault c.in-Vault.vault)
    c.requires.ends
    (subst (λ (n : NetState). IsFrontAt n.links c.args.direction (Some c.in-Some.front.now)) view (λ rows entries stand. c.in-Some.ensures rows entries stand))
    (c.goal-to.ensures ∙ ap (λ (n : NetState). where_to (graph_of n.topology) (shape_of n.topology c.args.cube) c.args.cube c.in-Some.front.now) view) (ap goal_at c.in-Vault.is))

pub shift_in-requires-in-Registers-clause-leaving : goal.shift_in-requires-in-Registers-clause-leaving
shift_in-requires-in-Registers-clause-leaving g c =
    let view = ap (net_of g.B.Workbench.slots) c.self.view_is in
    (leaving_by (net_of g.B.Workbench.slots c.args.self.now) c.args.cube c.args.port c.args.direction c.in-Some.front.now c.goal-to.result goals.Registers
    c.requires.ends
    (subst (λ (n : NetState). IsFrontAt n.links c.args.direction (Some c.in-Some.front.now)) view (λ rows entries stand. c.in-Some.ensures rows entries stand))
    (c.goal-to.ensures ∙ ap (λ (n : NetState). where_to (graph_of n.topology) (shape_of n.topology c.args.cube) c.args.cube c.in-Some.front.now) view) (ap goal_at c.in-Registers.is))

pub shift_out-requires-clause-leaving : goal.shift_out-requires-clause-leaving
shift_out-requires-clause-leaving g c =
    let view = ap (net_of g.B.Workbench.slots) c.self.view_is in
    (leaving_by (net_of g.B.Workbench.slots c.args.self.now) c.args.cube c.args.port c.args.direction c.in-Some.front.now c.goal-to.result (goals.Port c.in-Port.out)
    c.requires.ends
    (subst (λ (n : NetState). IsFrontAt n.links c.args.direction (Some c.in-Some.front.now)) view (λ rows entries stand. c.in-Some.ensures rows entries stand))
    (c.goal-to.ensures ∙ ap (λ (n : NetState). where_to (graph_of n.topology) (shape_of n.topology c.args.cube) c.args.cube c.in-Some.front.now) view) (ap goal_at c.in-Port.is))

pub take-requires-clause-there : goal.take-requires-clause-there
take-requires-clause-there g c =
    subst (λ (n : NetState). IsDirection n.links c.args.direction) (sym (ap (net_of g.B.Workbench.slots) c.self.view_is)) (ends_in (net_of g.B.Workbench.slots c.args.self.now) (places.Port c.args.cube c.args.port) c.args.direction c.requires.ready c.requires.ends)

pub take-requires-clause-going : goal.take-requires-clause-going
take-requires-clause-going g c = subst (λ (n : NetState). AreGoing n.links) (sym (ap (net_of g.B.Workbench.slots) c.self.view_is)) c.requires.ready.sees.shows.links.going

pub returns-in-Nowhere-clause-does : goal.returns-in-Nowhere-clause-does
returns-in-Nowhere-clause-does g c =
    dropped_does (net_of g.B.Workbench.slots c.args.self.now) _ c.args.cube c.args.port c.args.direction c.in-Some.front.now c.goal-to.result c.take.new.self c.requires.ready
    c.requires.ends
    (subst (λ (n : NetState). IsFrontAt n.links c.args.direction (Some c.in-Some.front.now)) (ap (net_of g.B.Workbench.slots) c.self.view_is) (λ rows entries stand. c.in-Some.ensures rows entries stand))
    (c.goal-to.ensures ∙ ap (λ (n : NetState). where_to (graph_of n.topology) (shape_of n.topology c.args.cube) c.args.cube c.in-Some.front.now) (ap (net_of g.B.Workbench.slots) c.self.view_is)) c.in-Nowhere.is
    (λ rows entries stand. c.take.ensures rows entries (subst (λ (n : NetState). LinksStandFor rows n.links entries) (sym (ap (net_of g.B.Workbench.slots) c.self.view_is)) stand))
    (links_changed _ (net_of g.B.Workbench.slots c.args.self.now) _ _ _ c.take.new.self _ c.dropped.new.self _ (ap (net_of g.B.Workbench.slots) c.self.view_is) c.dropped.ensures)
