-- A front that goes into the cube is an entry.
use Rattle.std.proofs.Common.{◌≡◌, ◌<◌, ◌∙◌, true, false, length, ap, sym, subst}
use Rattle.hmc_crossbar.specs.declared.to.To.{To}
use Rattle.hmc_cube.specs.Cube.{CubeFields}
use Rattle.hmc_cube.specs.Places.{IsHere, entrance}
use Rattle.hmc_net.specs.Apply.{to_of}
use Rattle.hmc_net.specs.NetState.{net_of, NetState}
use Rattle.hmc_net.proofs.Indexed.{cube_found, entry_changed}
use Rattle.hmc_net.proofs.PortSteps.{shift_here, shift_full}
use Rattle.hmc_net.proofs.network.Network.shift_in.Goals as goal

pub room-requires : goal.room-requires
room-requires g c =
    let found = cube_found c.self.inside.cubes.items (net_of g.B.Workbench.slots c.args.self.now) c.from.result c.args.cube c.index.result.now (ap (λ (n : NetState). n.cubes) (ap (net_of g.B.Workbench.slots) c.self.view_is)) c.from.ensures c.index.ensures c.requires.ready.sized c.requires.there.some_cube in
    subst (λ (t : To). IsHere c.index.result.now t) (sym c.to_of.ensures)
    (subst (λ (x : CubeFields). IsHere x (to_of c.args.goal)) (sym found) (shift_here (net_of g.B.Workbench.slots c.args.self.now) c.args.cube c.args.port c.args.direction c.requires.leaving.front c.args.goal c.requires.ready.sized c.requires.there.some_cube c.requires.leaving.shifting c.requires.inner))

pub returns-then-not-room-clause-does : goal.returns-then-not-room-clause-does
returns-then-not-room-clause-does g c =
    let found = cube_found c.self.inside.cubes.items (net_of g.B.Workbench.slots c.args.self.now) c.from.result c.args.cube c.index.result.now (ap (λ (n : NetState). n.cubes) (ap (net_of g.B.Workbench.slots) c.self.view_is)) c.from.ensures c.index.ensures c.requires.ready.sized c.requires.there.some_cube in
    let full : length (entrance c.index.result.now c.to_of.result) < c.index.result.now.size → ⊥ = λ room. (let no : true ≡ false = sym (c.room.ensures.1 room) ∙ c.if-not-room.true in absurd (cc)) in
    shift_full (net_of g.B.Workbench.slots c.args.self.now) _ c.args.cube c.args.port c.args.direction c.requires.leaving.front c.args.goal c.requires.ready.sized c.requires.there.some_cube c.requires.leaving.shifting c.requires.inner
    (subst (λ (x : CubeFields). length (entrance x (to_of c.args.goal)) < x.size → ⊥) found (subst (λ (t : To). length (entrance c.index.result.now t) < c.index.result.now.size → ⊥) c.to_of.ensures full))
    (entry_changed _ (net_of g.B.Workbench.slots c.args.self.now) _ _ _ _ c.idle.new.last _ (ap (net_of g.B.Workbench.slots) c.self.view_is) c.idle.ensures.last)

pub move_in-requires-clause-room : goal.move_in-requires-clause-room
move_in-requires-clause-room g c =
    let found = cube_found c.self.inside.cubes.items (net_of g.B.Workbench.slots c.args.self.now) c.from.result c.args.cube c.index.result.now (ap (λ (n : NetState). n.cubes) (ap (net_of g.B.Workbench.slots) c.self.view_is)) c.from.ensures c.index.ensures c.requires.ready.sized c.requires.there.some_cube in
    let room : length (entrance c.index.result.now c.to_of.result) < c.index.result.now.size = c.room.ensures.0 c.if-not-room.false in
    subst (λ (x : CubeFields). length (entrance x (to_of c.args.goal)) < x.size) found (subst (λ (t : To). length (entrance c.index.result.now t) < c.index.result.now.size) c.to_of.ensures room)
