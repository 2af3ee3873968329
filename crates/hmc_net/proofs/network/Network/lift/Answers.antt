-- An answer that is lifted is an entry.
use Rattle.std.proofs.Common.{◌≡◌, ◌∙◌, ◌<◌, Bor, Some, ap, sym, subst}
use Rattle.std.specs.Prelude.{slice_get, option_map}
use Rattle.hmc_codes.specs.declared.place.Place.TheVariants as places
use Rattle.hmc_packet.specs.Packet.{PacketFields}
use Rattle.hmc_cube.specs.Cube.{CubeFields}
use Rattle.hmc_cube.specs.Places.{HasLift, answers_at}
use Rattle.hmc_journal.specs.Routes.{port_towards}
use Rattle.hmc_journal.specs.Setup.{hosts_in}
use Rattle.hmc_net.specs.NetState.{net_of, NetState, cube_in}
use Rattle.hmc_net.specs.Ports.{IsWayOut}
use Rattle.hmc_net.proofs.Indexed.{cube_found, entry_changed}
use Rattle.hmc_net.proofs.PortSteps.{lift_here, lift_none, lift_answer, lift_full}
use Rattle.hmc_net.proofs.network.Network.lift.Goals as goal

pub lift_front_ref-requires : goal.lift_front_ref-requires
lift_front_ref-requires g c =
    let found = cube_found c.self.inside.cubes.items (net_of g.B.Workbench.slots c.args.self.now) c.from.result c.args.cube c.index.result.now (ap (λ (n : NetState). n.cubes) (ap (net_of g.B.Workbench.slots) c.self.view_is)) c.from.ensures c.index.ensures c.requires.ready.sized c.requires.there.some_cube in
    subst (λ (x : CubeFields). HasLift x c.args.from) (sym found) (lift_here (net_of g.B.Workbench.slots c.args.self.now) c.args.cube c.args.from c.requires.ready.sized c.requires.there)

pub returns-in_default-clause-does : goal.returns-in_default-clause-does
returns-in_default-clause-does g c =
    let found = cube_found c.self.inside.cubes.items (net_of g.B.Workbench.slots c.args.self.now) c.from.result c.args.cube c.index.result.now (ap (λ (n : NetState). n.cubes) (ap (net_of g.B.Workbench.slots) c.self.view_is)) c.from.ensures c.index.ensures c.requires.ready.sized c.requires.there.some_cube in
    lift_none (net_of g.B.Workbench.slots c.args.self.now) _ c.args.cube c.args.from c.requires.ready.sized
    (ap (λ (x : CubeFields). slice_get (answers_at x c.args.from) 0) (sym found) ∙ sym c.lift_front_ref.ensures ∙ ap (option_map (λ (p : Bor PacketFields). p.now)) c.in_default.is)
    (entry_changed _ (net_of g.B.Workbench.slots c.args.self.now) _ _ _ _ c.idle.new.last _ (ap (net_of g.B.Workbench.slots) c.self.view_is) c.idle.ensures.last)

pub port_towards-port-requires-clause-host : goal.port_towards-port-requires-clause-host
port_towards-port-requires-clause-host g c =
    let found = cube_found c.self.inside.cubes.items (net_of g.B.Workbench.slots c.args.self.now) c.from.result c.args.cube c.index.result.now (ap (λ (n : NetState). n.cubes) (ap (net_of g.B.Workbench.slots) c.self.view_is)) c.from.ensures c.index.ensures c.requires.ready.sized c.requires.there.some_cube in
    let some : slice_get (answers_at (cube_in (net_of g.B.Workbench.slots c.args.self.now).cubes c.args.cube) c.args.from) 0 ≡ Some c.in-Some.front.now = ap (λ (x : CubeFields). slice_get (answers_at x c.args.from) 0) (sym found) ∙ sym c.lift_front_ref.ensures ∙ ap (option_map (λ (p : Bor PacketFields). p.now)) c.in-Some.is in
    subst (λ (n : NetState). c.front.inside.slid < hosts_in n.topology) (sym (ap (net_of g.B.Workbench.slots) c.self.view_is))
    (subst (λ (p : PacketFields). p.slid < hosts_in (net_of g.B.Workbench.slots c.args.self.now).topology) (sym c.front.view_is) (lift_answer (net_of g.B.Workbench.slots c.args.self.now) c.args.cube c.args.from c.in-Some.front.now c.requires.ready some).host)

pub returns-in_default-room_through-clause-does : goal.returns-in_default-room_through-clause-does
returns-in_default-room_through-clause-does g c =
    let found = cube_found c.self.inside.cubes.items (net_of g.B.Workbench.slots c.args.self.now) c.from.result c.args.cube c.index.result.now (ap (λ (n : NetState). n.cubes) (ap (net_of g.B.Workbench.slots) c.self.view_is)) c.from.ensures c.index.ensures c.requires.ready.sized c.requires.there.some_cube in
    let some : slice_get (answers_at (cube_in (net_of g.B.Workbench.slots c.args.self.now).cubes c.args.cube) c.args.from) 0 ≡ Some c.in-Some.front.now = ap (λ (x : CubeFields). slice_get (answers_at x c.args.from) 0) (sym found) ∙ sym c.lift_front_ref.ensures ∙ ap (option_map (λ (p : Bor PacketFields). p.now)) c.in-Some.is in
    lift_full (net_of g.B.Workbench.slots c.args.self.now) _ c.args.cube c.args.from c.in-Some.front.now c.port_towards-port.result c.requires.ready.sized some
    (ap (λ (p : PacketFields). port_towards (net_of g.B.Workbench.slots c.args.self.now).topology c.args.cube p.slid) (sym c.front.view_is) ∙ ap (λ (n : NetState). port_towards n.topology c.args.cube c.front.inside.slid) (sym (ap (net_of g.B.Workbench.slots) c.self.view_is)) ∙ c.port_towards-port.ensures)
    (subst (IsWayOut (net_of g.B.Workbench.slots c.args.self.now) c.args.cube c.port_towards-port.result) c.in_default-room_through.is c.room_through.ensures)
    (entry_changed _ (net_of g.B.Workbench.slots c.args.self.now) _ _ _ _ c.idle-in_default-room_through.new.last _ (ap (net_of g.B.Workbench.slots) c.self.view_is) c.idle-in_default-room_through.ensures.last)

pub lift_out-requires-clause-lifting : goal.lift_out-requires-clause-lifting
lift_out-requires-clause-lifting g c =
    let net = net_of g.B.Workbench.slots c.args.self.now in
    let view = ap (net_of g.B.Workbench.slots) c.self.view_is in
    let found = cube_found c.self.inside.cubes.items net c.from.result c.args.cube c.index.result.now (ap (λ (n : NetState). n.cubes) view) c.from.ensures c.index.ensures c.requires.ready.sized c.requires.there.some_cube in
    record {
      front = c.in-Some.front.now;
      is_front = ap (λ (x : CubeFields). slice_get (answers_at x c.args.from) 0) (sym found) ∙ sym c.lift_front_ref.ensures ∙ ap (option_map (λ (p : Bor PacketFields). p.now)) c.in-Some.is;
      towards = ap (λ (p : PacketFields). port_towards net.topology c.args.cube p.slid) (sym c.front.view_is) ∙ ap (λ (n : NetState). port_towards n.topology c.args.cube c.front.inside.slid) (sym view) ∙ c.port_towards-port.ensures;
      way = subst (IsWayOut net c.args.cube c.port_towards-port.result) c.in-Some-room_through.is c.room_through.ensures;
    }
