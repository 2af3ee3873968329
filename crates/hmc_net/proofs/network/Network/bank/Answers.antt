-- A bank whose queue is empty does nothing, nor does one whose front waits.
use Rattle.std.proofs.Common.{◌≡◌, [], ap, subst}
use Rattle.hmc_vault.specs.Vault.{bank_at}
use Rattle.hmc_vault.specs.declared.execute.Executed.TheVariants as runs_as
use Rattle.hmc_cube.specs.Cube.{CubeFields, vault_at}
use Rattle.hmc_cube.specs.After.{bank_says}
use Rattle.hmc_net.specs.NetState.{net_of, NetState}
use Rattle.hmc_net.proofs.CubeSteps.{bank_none}
use Rattle.hmc_net.proofs.Indexed.{cube_found, entry_changed}
use Rattle.hmc_net.proofs.network.Network.bank.Goals as goal

pub returns-then-bank_is_empty-clause-does : goal.returns-then-bank_is_empty-clause-does
returns-then-bank_is_empty-clause-does g c =
    let found = cube_found c.self.inside.cubes.items (net_of g.B.Workbench.slots c.args.self.now) c.from.result c.args.cube c.index.result.now (ap (λ (n : NetState). n.cubes) (ap (net_of g.B.Workbench.slots) c.self.view_is)) c.from.ensures c.index.ensures c.requires.ready.sized c.requires.there.some_vault.some_cube in
    bank_none (net_of g.B.Workbench.slots c.args.self.now) _ c.args.cube c.args.vault c.args.bank c.requires.ready.sized
    (subst (λ (x : CubeFields). bank_at (vault_at x c.args.vault) c.args.bank ≡ []) found (c.bank_is_empty.ensures.0 c.if-bank_is_empty.true))
    (entry_changed _ (net_of g.B.Workbench.slots c.args.self.now) _ _ _ _ c.idle.new.last _ (ap (net_of g.B.Workbench.slots) c.self.view_is) c.idle.ensures.last)

pub bank_full-requires-clause-full : goal.bank_full-requires-clause-full
bank_full-requires-clause-full g c =
    let found = cube_found c.self.inside.cubes.items (net_of g.B.Workbench.slots c.args.self.now) c.from-2.result c.args.cube c.index-2.result.now (ap (λ (n : NetState). n.cubes) (ap (net_of g.B.Workbench.slots) c.self.view_is)) c.from-2.ensures c.index-2.ensures c.requires.ready.sized c.requires.there.some_vault.some_cube in
    let slots = (net_of g.B.Workbench.slots c.args.self.now).slots in
    subst (λ (x : CubeFields). bank_says x slots c.args.vault c.args.bank ≡ runs_as.Full) found ((c.bank_waits.ensures slots).0 c.if-bank_waits.true)
