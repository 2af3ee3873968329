-- A front that goes into the cube is an entry.
use Rattle.std.proofs.Common.{◌<◌, ◌∙◌, Some, None, length, ap, sym, subst}
use Rattle.hmc_codes.specs.declared.place.Place.TheVariants as places
use Rattle.hmc_crossbar.specs.declared.to.To.{To}
use Rattle.hmc_cube.specs.Cube.{CubeFields}
use Rattle.hmc_cube.specs.After.{after_enter}
use Rattle.hmc_cube.specs.Parts.{AreParts}
use Rattle.hmc_cube.specs.Places.{IsHere, IsFor, entrance}
use Rattle.hmc_net.specs.Apply.{to_of}
use Rattle.hmc_links.specs.LinkList.{AreGoing, IsDirection, IsFrontAt, LinksStandFor}
use Rattle.hmc_net.specs.NetState.{net_of, NetState}
use Rattle.hmc_net.proofs.Doing.{ends_in}
use Rattle.hmc_net.proofs.Indexed.{cube_found, cube_changed}
use Rattle.hmc_net.proofs.PortSteps.{shift_here, shift_for, shift_in_does, shifting_again, some_leaving}
use Rattle.hmc_net.proofs.network.Network.move_in.Goals as goal

pub front_ref-requires : goal.front_ref-requires
front_ref-requires g c =
    subst (λ (n : NetState). IsDirection n.links c.args.direction) (sym (ap (net_of g.B.Workbench.slots) c.self.view_is)) (ends_in (net_of g.B.Workbench.slots c.args.self.now) (places.Port c.args.cube c.args.port) c.args.direction c.requires.ready c.requires.leaving.shifting.ends)

pub unreachable-requires : goal.unreachable-requires
unreachable-requires g c =
    some_leaving (net_of g.B.Workbench.slots c.args.self.now) c.args.cube c.args.port c.args.direction c.args.goal c.requires.ready c.requires.leaving
    (subst (λ (n : NetState). IsFrontAt n.links c.args.direction None) (ap (net_of g.B.Workbench.slots) c.self.view_is) (λ rows entries stand. c.in_default.ensures rows entries stand))

pub take-requires-clause-there : goal.take-requires-clause-there
take-requires-clause-there g c =
    subst (λ (n : NetState). IsDirection n.links c.args.direction) (sym (ap (net_of g.B.Workbench.slots) c.self.view_is)) (ends_in (net_of g.B.Workbench.slots c.args.self.now) (places.Port c.args.cube c.args.port) c.args.direction c.requires.ready c.requires.leaving.shifting.ends)

pub take-requires-clause-going : goal.take-requires-clause-going
take-requires-clause-going g c = subst (λ (n : NetState). AreGoing n.links) (sym (ap (net_of g.B.Workbench.slots) c.self.view_is)) c.requires.ready.sees.shows.links.going

pub put-requires-clause-here : goal.put-requires-clause-here
put-requires-clause-here g c =
    let shifting = shifting_again (net_of g.B.Workbench.slots c.args.self.now) c.args.cube c.args.port c.args.direction c.args.goal c.in-Some.front.now c.requires.ready c.requires.leaving
    (subst (λ (n : NetState). IsFrontAt n.links c.args.direction (Some c.in-Some.front.now)) (ap (net_of g.B.Workbench.slots) c.self.view_is) (λ rows entries stand. c.in-Some.ensures rows entries stand)) in
    let owned = cube_found c.self.inside.cubes.items (net_of g.B.Workbench.slots c.args.self.now) c.from.result c.args.cube c.index_mut-owner.result.now (ap (λ (n : NetState). n.cubes) (ap (net_of g.B.Workbench.slots) c.self.view_is)) c.from.ensures c.index_mut-owner.ensures.value c.requires.ready.sized c.requires.there.some_cube in
    subst (λ (t : To). IsHere c.index_mut-owner.result.now t) (sym c.to_of-to.ensures)
    (subst (λ (x : CubeFields). IsHere x (to_of c.args.goal)) (sym owned) (shift_here (net_of g.B.Workbench.slots c.args.self.now) c.args.cube c.args.port c.args.direction c.in-Some.front.now c.args.goal c.requires.ready.sized c.requires.there.some_cube shifting c.requires.inner))

pub put-requires-clause-room : goal.put-requires-clause-room
put-requires-clause-room g c =
    let owned = cube_found c.self.inside.cubes.items (net_of g.B.Workbench.slots c.args.self.now) c.from.result c.args.cube c.index_mut-owner.result.now (ap (λ (n : NetState). n.cubes) (ap (net_of g.B.Workbench.slots) c.self.view_is)) c.from.ensures c.index_mut-owner.ensures.value c.requires.ready.sized c.requires.there.some_cube in
    subst (λ (t : To). length (entrance c.index_mut-owner.result.now t) < c.index_mut-owner.result.now.size) (sym c.to_of-to.ensures)
    (subst (λ (x : CubeFields). length (entrance x (to_of c.args.goal)) < x.size) (sym owned) c.requires.room)

pub put-requires-clause-request : goal.put-requires-clause-request
put-requires-clause-request g c =
    let shifting = shifting_again (net_of g.B.Workbench.slots c.args.self.now) c.args.cube c.args.port c.args.direction c.args.goal c.in-Some.front.now c.requires.ready c.requires.leaving
    (subst (λ (n : NetState). IsFrontAt n.links c.args.direction (Some c.in-Some.front.now)) (ap (net_of g.B.Workbench.slots) c.self.view_is) (λ rows entries stand. c.in-Some.ensures rows entries stand)) in
    subst (λ (t : To). IsFor t c.in-Some.front.now) (sym c.to_of-to.ensures) (shift_for (net_of g.B.Workbench.slots c.args.self.now) c.args.cube c.args.port c.args.direction c.in-Some.front.now c.args.goal shifting c.requires.inner)

pub returns-clause-does : goal.returns-clause-does
returns-clause-does g c =
    let shifting = shifting_again (net_of g.B.Workbench.slots c.args.self.now) c.args.cube c.args.port c.args.direction c.args.goal c.in-Some.front.now c.requires.ready c.requires.leaving
    (subst (λ (n : NetState). IsFrontAt n.links c.args.direction (Some c.in-Some.front.now)) (ap (net_of g.B.Workbench.slots) c.self.view_is) (λ rows entries stand. c.in-Some.ensures rows entries stand)) in
    let owned = cube_found c.self.inside.cubes.items (net_of g.B.Workbench.slots c.args.self.now) c.from.result c.args.cube c.index_mut-owner.result.now (ap (λ (n : NetState). n.cubes) (ap (net_of g.B.Workbench.slots) c.self.view_is)) c.from.ensures c.index_mut-owner.ensures.value c.requires.ready.sized c.requires.there.some_cube in
    shift_in_does (net_of g.B.Workbench.slots c.args.self.now) _ c.args.cube c.args.port c.args.direction c.in-Some.front.now c.args.goal c.take.new.self c.requires.ready c.requires.there.some_cube shifting c.requires.inner (subst AreParts owned c.invariant.ensures)
    c.requires.room
    (λ rows entries stand. c.take.ensures rows entries (subst (λ (n : NetState). LinksStandFor rows n.links entries) (sym (ap (net_of g.B.Workbench.slots) c.self.view_is)) stand))
    (cube_changed _ (net_of g.B.Workbench.slots c.args.self.now) c.self.inside.cubes.items c.from.result c.args.cube c.index_mut-owner.result.now c.put.new.self (after_enter (to_of c.args.goal) c.in-Some.front.now) _ _ c.take.new.self _ c.shifted.new.self _ (ap (net_of g.B.Workbench.slots) c.self.view_is) c.from.ensures owned
    (c.put.ensures ∙ ap (λ (t : To). after_enter t c.in-Some.front.now c.index_mut-owner.result.now) c.to_of-to.ensures) c.shifted.ensures)
