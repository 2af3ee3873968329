-- A packet goes on, or does not for the first cause that there is.
use Rattle.std.proofs.Common.{◌≡◌, Some, ap, subst}
use Rattle.hmc_codes.specs.declared.place.Place.TheVariants as places
use Rattle.hmc_journal.specs.Links.{direction_to}
use Rattle.hmc_net.specs.NetState.{net_of, NetState}
use Rattle.hmc_net.specs.Throughs.{IsHeadAt, IsFree}
use Rattle.hmc_kept.specs.Throughs.{IsOnto}
use Rattle.hmc_net.proofs.Indexed.{entry_changed}
use Rattle.hmc_net.proofs.ThroughDoes.{nothing_gathered, no_way_on, busy_now, onto_there}
use Rattle.hmc_net.proofs.network.Network.through.Goals as goal

pub returns-in_default-clause-does : goal.returns-in_default-clause-does
returns-in_default-clause-does g c =
    let net = net_of g.B.Workbench.slots c.args.self.now in
    let view = ap (net_of g.B.Workbench.slots) c.self.view_is in
    nothing_gathered net _ c.args.cube c.args.port c.to_port-from.result c.requires.ready.sized (subst (λ (n : NetState). direction_to n.topology (places.Port c.args.cube c.args.port) ≡ Some c.to_port-from.result) view c.to_port-from.ensures.to)
    (subst (IsHeadAt net c.to_port-from.result) c.in_default.is c.gathered_head.ensures)
    (entry_changed _ net _ _ _ _ c.idle.new.last _ view c.idle.ensures.last)

pub returns-in_default-way_on-clause-does : goal.returns-in_default-way_on-clause-does
returns-in_default-way_on-clause-does g c =
    let net = net_of g.B.Workbench.slots c.args.self.now in
    let view = ap (net_of g.B.Workbench.slots) c.self.view_is in
    no_way_on net _ c.args.cube c.args.port c.to_port-from.result c.in-Some.head c.requires.ready.sized (subst (λ (n : NetState). direction_to n.topology (places.Port c.args.cube c.args.port) ≡ Some c.to_port-from.result) view c.to_port-from.ensures.to)
    (subst (IsHeadAt net c.to_port-from.result) c.in-Some.is c.gathered_head.ensures)
    (subst (IsOnto net.topology c.args.cube c.args.port c.in-Some.head) c.in_default-way_on.is c.way_on.ensures)
    (entry_changed _ net _ _ _ _ c.idle-in_default-way_on.new.last _ view c.idle-in_default-way_on.ensures.last)

pub may_forward-requires-clause-onto : goal.may_forward-requires-clause-onto
may_forward-requires-clause-onto g c =
    let net = net_of g.B.Workbench.slots c.args.self.now in
    onto_there net c.args.cube c.args.port c.in-Some-way_on.onto c.in-Some.head (subst (IsOnto net.topology c.args.cube c.args.port c.in-Some.head) c.in-Some-way_on.is c.way_on.ensures)

pub returns-then-not-may_forward-clause-does : goal.returns-then-not-may_forward-clause-does
returns-then-not-may_forward-clause-does g c =
    let net = net_of g.B.Workbench.slots c.args.self.now in
    let view = ap (net_of g.B.Workbench.slots) c.self.view_is in
    busy_now net _ c.args.cube c.args.port c.to_port-from.result c.in-Some-way_on.onto c.in-Some.head c.requires.ready.sized (subst (λ (n : NetState). direction_to n.topology (places.Port c.args.cube c.args.port) ≡ Some c.to_port-from.result) view c.to_port-from.ensures.to)
    (subst (IsHeadAt net c.to_port-from.result) c.in-Some.is c.gathered_head.ensures)
    (subst (IsOnto net.topology c.args.cube c.args.port c.in-Some.head) c.in-Some-way_on.is c.way_on.ensures)
    (subst (IsFree net c.to_port-from.result c.in-Some-way_on.onto c.in-Some.head.flits) c.if-not-may_forward.true c.may_forward.ensures)
    (entry_changed _ net _ _ _ _ c.idle-then-not-may_forward.new.last _ view c.idle-then-not-may_forward.ensures.last)

pub begin-requires-clause-coming : goal.begin-requires-clause-coming
begin-requires-clause-coming g c =
    let net = net_of g.B.Workbench.slots c.args.self.now in
    let view = ap (net_of g.B.Workbench.slots) c.self.view_is in
    record {
      ends = subst (λ (n : NetState). direction_to n.topology (places.Port c.args.cube c.args.port) ≡ Some c.to_port-from.result) view c.to_port-from.ensures.to;
      head = c.in-Some.head;
      gathers = subst (IsHeadAt net c.to_port-from.result) c.in-Some.is c.gathered_head.ensures;
      goes = subst (IsOnto net.topology c.args.cube c.args.port c.in-Some.head) c.in-Some-way_on.is c.way_on.ensures;
      free = subst (IsFree net c.to_port-from.result c.in-Some-way_on.onto c.in-Some.head.flits) c.if-not-may_forward.false c.may_forward.ensures;
    }
