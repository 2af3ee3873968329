-- A bank whose front waits for room among the answers does nothing.
use Rattle.std.proofs.Common.{ap, subst}
use Rattle.hmc_cube.specs.Parts.{AreParts}
use Rattle.hmc_net.specs.NetState.{net_of, NetState}
use Rattle.hmc_net.proofs.CubeSteps.{bank_full}
use Rattle.hmc_net.proofs.Indexed.{cube_found, entry_changed}
use Rattle.hmc_net.proofs.network.Network.bank_full.Goals as goal

pub returns-clause-does : goal.returns-clause-does
returns-clause-does g c =
    let found = cube_found c.self.inside.cubes.items (net_of g.B.Workbench.slots c.args.self.now) c.from.result c.args.cube c.index.result.now (ap (λ (n : NetState). n.cubes) (ap (net_of g.B.Workbench.slots) c.self.view_is)) c.from.ensures c.index.ensures c.requires.ready.sized c.requires.there.some_vault.some_cube in
    bank_full (net_of g.B.Workbench.slots c.args.self.now) _ c.args.cube c.args.vault c.args.bank c.requires.ready c.requires.there (subst AreParts found c.invariant.ensures) c.requires.full
    (entry_changed _ (net_of g.B.Workbench.slots c.args.self.now) _ _ _ _ c.idle.new.last _ (ap (net_of g.B.Workbench.slots) c.self.view_is) c.idle.ensures.last)
