-- A spread is an entry.
use Rattle.std.proofs.Common.{◌∙◌, ap, subst}
use Rattle.hmc_vault.specs.Spread.{spread_says}
use Rattle.hmc_cube.specs.Cube.{CubeFields, vault_at}
use Rattle.hmc_cube.specs.After.{after_spread}
use Rattle.hmc_cube.specs.Parts.{AreParts}
use Rattle.hmc_net.specs.NetState.{net_of, NetState}
use Rattle.hmc_net.proofs.Indexed.{cube_found, cube_only}
use Rattle.hmc_net.proofs.CubeSteps.{spread_does}
use Rattle.hmc_net.proofs.network.Network.spread.Goals as goal

pub returns-clause-does : goal.returns-clause-does
returns-clause-does g c =
    let found = cube_found c.self.inside.cubes.items (net_of g.B.Workbench.slots c.args.self.now) c.from.result c.args.cube c.index_mut-owner.result.now (ap (λ (n : NetState). n.cubes) (ap (net_of g.B.Workbench.slots) c.self.view_is)) c.from.ensures c.index_mut-owner.ensures.value c.requires.ready.sized c.requires.there.some_cube in
    spread_does (net_of g.B.Workbench.slots c.args.self.now) _ c.args.cube c.args.vault c.spread-spread.result c.requires.ready c.requires.there (subst AreParts found c.invariant.ensures)
    (c.spread-spread.ensures.answer ∙ ap (λ (x : CubeFields). spread_says (vault_at x c.args.vault) x.state.shape) found)
    (cube_only _ (net_of g.B.Workbench.slots c.args.self.now) c.self.inside.cubes.items c.from.result c.args.cube c.index_mut-owner.result.now c.spread-spread.new.self (after_spread c.args.vault c.spread-spread.result) _ _ _ c.note_spread.new.last _ (ap (net_of g.B.Workbench.slots) c.self.view_is) c.from.ensures found c.spread-spread.ensures.leaves c.note_spread.ensures.entry)
