-- An answer that is lifted is an entry.
use Rattle.std.proofs.Common.{◌≡◌, ◌∙◌, Bor, Some, None, ap, sym, subst}
use Rattle.std.specs.Prelude.{slice_get, option_map}
use Rattle.hmc_codes.specs.declared.place.Place.TheVariants as places
use Rattle.hmc_packet.specs.Packet.{PacketFields}
use Rattle.hmc_cube.specs.Cube.{CubeFields}
use Rattle.hmc_cube.specs.After.{after_lift}
use Rattle.hmc_cube.specs.Parts.{AreParts}
use Rattle.hmc_cube.specs.Places.{HasLift, answers_at}
use Rattle.hmc_links.specs.LinkList.{IsDirection, MayHand, LinksStandFor}
use Rattle.hmc_net.specs.NetState.{net_of, NetState, cube_in}
use Rattle.hmc_net.proofs.Doing.{starts_in}
use Rattle.hmc_net.proofs.Indexed.{cube_found, cube_changed}
use Rattle.hmc_net.proofs.PortSteps.{lift_here, lift_may, lift_does, lifting_again, some_lifting}
use Rattle.hmc_net.proofs.network.Network.lift_out.Goals as goal

pub lift_front_ref-requires : goal.lift_front_ref-requires
lift_front_ref-requires g c =
    let net = net_of g.B.Workbench.slots c.args.self.now in
    let view = ap (net_of g.B.Workbench.slots) c.self.view_is in
    let found = cube_found c.self.inside.cubes.items net c.from.result c.args.cube c.index.result.now (ap (λ (n : NetState). n.cubes) view) c.from.ensures c.index.ensures c.requires.ready.sized c.requires.there.some_cube in
    subst (λ (x : CubeFields). HasLift x c.args.from) (sym found) (lift_here net c.args.cube c.args.from c.requires.ready.sized c.requires.there)

pub unreachable-requires : goal.unreachable-requires
unreachable-requires g c =
    let net = net_of g.B.Workbench.slots c.args.self.now in
    let view = ap (net_of g.B.Workbench.slots) c.self.view_is in
    let found = cube_found c.self.inside.cubes.items net c.from.result c.args.cube c.index.result.now (ap (λ (n : NetState). n.cubes) view) c.from.ensures c.index.ensures c.requires.ready.sized c.requires.there.some_cube in
    let none : slice_get (answers_at (cube_in net.cubes c.args.cube) c.args.from) 0 ≡ None = ap (λ (x : CubeFields). slice_get (answers_at x c.args.from) 0) (sym found) ∙ sym c.lift_front_ref.ensures ∙ ap (option_map (λ (p : Bor PacketFields). p.now)) c.in_default.is in
    some_lifting net c.args.cube c.args.from c.args.port c.args.onward c.requires.lifting none

pub hand-requires-clause-there : goal.hand-requires-clause-there
hand-requires-clause-there g c =
    let net = net_of g.B.Workbench.slots c.args.self.now in
    subst (λ (n : NetState). IsDirection n.links c.args.onward) (sym (ap (net_of g.B.Workbench.slots) c.self.view_is))
    (starts_in net (places.Port c.args.cube c.args.port) c.args.onward c.requires.ready (c.requires.lifting.way.from c.args.onward (λ i. Some c.args.onward)))

pub hand-requires-clause-may : goal.hand-requires-clause-may
hand-requires-clause-may g c =
    let net = net_of g.B.Workbench.slots c.args.self.now in
    let view = ap (net_of g.B.Workbench.slots) c.self.view_is in
    let found = cube_found c.self.inside.cubes.items net c.from.result c.args.cube c.index.result.now (ap (λ (n : NetState). n.cubes) view) c.from.ensures c.index.ensures c.requires.ready.sized c.requires.there.some_cube in
    let some : slice_get (answers_at (cube_in net.cubes c.args.cube) c.args.from) 0 ≡ Some c.in-Some.front.now = ap (λ (x : CubeFields). slice_get (answers_at x c.args.from) 0) (sym found) ∙ sym c.lift_front_ref.ensures ∙ ap (option_map (λ (p : Bor PacketFields). p.now)) c.in-Some.is in
    subst (λ (n : NetState). MayHand n.links c.args.onward c.in-Some.front.now) (sym view)
    (lift_may net c.args.cube c.args.from c.in-Some.front.now c.args.port c.args.onward c.requires.ready some c.requires.lifting.way)

pub drop_lifted-requires : goal.drop_lifted-requires
drop_lifted-requires g c =
    let net = net_of g.B.Workbench.slots c.args.self.now in
    let view = ap (net_of g.B.Workbench.slots) c.self.view_is in
    let owned = cube_found c.self.inside.cubes.items net c.from-2.result c.args.cube c.index_mut-owner.result.now (ap (λ (n : NetState). n.cubes) view) c.from-2.ensures c.index_mut-owner.ensures.value c.requires.ready.sized c.requires.there.some_cube in
    subst (λ (x : CubeFields). HasLift x c.args.from) (sym owned) (lift_here net c.args.cube c.args.from c.requires.ready.sized c.requires.there)

pub returns-clause-does : goal.returns-clause-does
returns-clause-does g c =
    let net = net_of g.B.Workbench.slots c.args.self.now in
    let view = ap (net_of g.B.Workbench.slots) c.self.view_is in
    let found = cube_found c.self.inside.cubes.items net c.from.result c.args.cube c.index.result.now (ap (λ (n : NetState). n.cubes) view) c.from.ensures c.index.ensures c.requires.ready.sized c.requires.there.some_cube in
    let owned = cube_found c.self.inside.cubes.items net c.from-2.result c.args.cube c.index_mut-owner.result.now (ap (λ (n : NetState). n.cubes) view) c.from-2.ensures c.index_mut-owner.ensures.value c.requires.ready.sized c.requires.there.some_cube in
    let some : slice_get (answers_at (cube_in net.cubes c.args.cube) c.args.from) 0 ≡ Some c.in-Some.front.now = ap (λ (x : CubeFields). slice_get (answers_at x c.args.from) 0) (sym found) ∙ sym c.lift_front_ref.ensures ∙ ap (option_map (λ (p : Bor PacketFields). p.now)) c.in-Some.is in
    lift_does net _ c.args.cube c.args.from c.in-Some.front.now c.args.port c.args.onward c.hand.new.self c.requires.ready c.requires.there (subst AreParts owned c.invariant.ensures) some
    (lifting_again net c.args.cube c.args.from c.args.port c.args.onward c.in-Some.front.now c.requires.lifting some) c.requires.lifting.way
    (λ rows entries stand. c.hand.ensures rows entries (subst (λ (n : NetState). LinksStandFor rows n.links entries) (sym view) stand))
    (cube_changed _ net c.self.inside.cubes.items c.from-2.result c.args.cube c.index_mut-owner.result.now c.drop_lifted.new.self (after_lift c.args.from) _ _ c.hand.new.self _ c.lifted.new.self _ view c.from-2.ensures owned c.drop_lifted.ensures c.lifted.ensures)
