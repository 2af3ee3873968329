-- An execution by the registers is an entry.
use Rattle.std.proofs.Common.{◌≡◌, ◌∙◌, Option, List, ap, ap₂, sym, subst}
use Rattle.hmc_units.specs.Unit.{UnitFields}
use Rattle.hmc_vault.specs.Execute.{slots_after as units_left}
use Rattle.hmc_cube.specs.Cube.{CubeFields}
use Rattle.hmc_cube.specs.After.{registers_say, after_registers}
use Rattle.hmc_net.specs.NetState.{net_of, NetState, cube_in}
use Rattle.hmc_net.proofs.CubeSteps.{registers_does}
use Rattle.hmc_net.proofs.Indexed.{cube_found, cube_ran}
use Rattle.hmc_net.proofs.network.Network.registers_front.Goals as goal

pub returns-clause-does : goal.returns-clause-does
returns-clause-does g c =
    let found = cube_found c.self.inside.cubes.items (net_of g.B.Workbench.slots c.args.self.now) c.from.result c.args.cube c.index_mut-owner.result.now (ap (λ (n : NetState). n.cubes) (ap (net_of g.B.Workbench.slots) c.self.view_is)) c.from.ensures c.index_mut-owner.ensures.value c.requires.ready.sized c.requires.there in
    registers_does (net_of g.B.Workbench.slots c.args.self.now) _ c.args.cube c.registers_in.new.execution c.requires.ready c.requires.there
    (c.registers_in.ensures.answer ∙ ap₂ registers_say found (ap (λ (n : NetState). n.slots) (ap (net_of g.B.Workbench.slots) c.self.view_is)))
    (subst (λ (n : NetState). (after_registers c.registers_in.new.execution n.slots (cube_in (net_of g.B.Workbench.slots c.args.self.now).cubes c.args.cube)).state.shape ≡ (cube_in (net_of g.B.Workbench.slots c.args.self.now).cubes c.args.cube).state.shape) (ap (net_of g.B.Workbench.slots) c.self.view_is)
    (subst (λ (x : CubeFields). (after_registers c.registers_in.new.execution (g.B.Workbench.slots c.self.inside.bench) x).state.shape ≡ x.state.shape) found (ap (λ (x : CubeFields). x.state.shape) (sym c.registers_in.ensures.leaves) ∙ c.registers_in.ensures.shape)))
    (cube_ran _ (net_of g.B.Workbench.slots c.args.self.now) c.self.inside.cubes.items c.from.result c.args.cube c.index_mut-owner.result.now c.registers_in.new.self (λ (s : List (Option UnitFields)). after_registers c.registers_in.new.execution s) _
    (g.B.Workbench.slots c.self.inside.bench) (g.B.Workbench.slots c.registers_in.new.bench) (units_left c.registers_in.new.execution) _ _ c.note_ran.new.last _ (ap (net_of g.B.Workbench.slots) c.self.view_is) c.from.ensures found c.registers_in.ensures.leaves c.registers_in.ensures.slots c.note_ran.ensures.entry)
