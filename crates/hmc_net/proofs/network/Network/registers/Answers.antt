-- The registers, where their queue is empty, do nothing.
use Rattle.std.proofs.Common.{◌≡◌, [], ap, subst}
use Rattle.hmc_cube.specs.Cube.{CubeFields}
use Rattle.hmc_net.specs.NetState.{net_of, NetState}
use Rattle.hmc_net.proofs.CubeSteps.{registers_none}
use Rattle.hmc_net.proofs.Indexed.{cube_found, entry_changed}
use Rattle.hmc_net.proofs.network.Network.registers.Goals as goal

pub returns-then-register_queue_is_empty-clause-does : goal.returns-then-register_queue_is_empty-clause-does
returns-then-register_queue_is_empty-clause-does g c =
    let found = cube_found c.self.inside.cubes.items (net_of g.B.Workbench.slots c.args.self.now) c.from.result c.args.cube c.index.result.now (ap (λ (n : NetState). n.cubes) (ap (net_of g.B.Workbench.slots) c.self.view_is)) c.from.ensures c.index.ensures c.requires.ready.sized c.requires.there in
    registers_none (net_of g.B.Workbench.slots c.args.self.now) _ c.args.cube c.requires.ready.sized
    (subst (λ (x : CubeFields). x.register_queue ≡ []) found (c.register_queue_is_empty.ensures.0 c.if-register_queue_is_empty.true))
    (entry_changed _ (net_of g.B.Workbench.slots c.args.self.now) _ _ _ _ c.idle.new.last _ (ap (net_of g.B.Workbench.slots) c.self.view_is) c.idle.ensures.last)
