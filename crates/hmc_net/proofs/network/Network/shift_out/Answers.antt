-- A front that goes on through another port is an entry.
use Rattle.std.proofs.Common.{ap, subst}
use Rattle.hmc_net.specs.NetState.{net_of}
use Rattle.hmc_net.specs.Ports.{IsWayOut}
use Rattle.hmc_net.proofs.Indexed.{entry_changed}
use Rattle.hmc_net.proofs.PortSteps.{shift_out_full}
use Rattle.hmc_net.proofs.network.Network.shift_out.Goals as goal

pub returns-in_default-clause-does : goal.returns-in_default-clause-does
returns-in_default-clause-does g c =
    shift_out_full (net_of g.B.Workbench.slots c.args.self.now) _ c.args.cube c.args.port c.args.direction c.args.out c.requires.leaving.front c.requires.ready.sized c.requires.leaving.shifting
    (subst (IsWayOut (net_of g.B.Workbench.slots c.args.self.now) c.args.cube c.args.out) c.in_default.is c.room_through.ensures)
    (entry_changed _ (net_of g.B.Workbench.slots c.args.self.now) _ _ _ _ c.idle.new.last _ (ap (net_of g.B.Workbench.slots) c.self.view_is) c.idle.ensures.last)

pub move_out-requires-clause-way : goal.move_out-requires-clause-way
move_out-requires-clause-way g c = subst (IsWayOut (net_of g.B.Workbench.slots c.args.self.now) c.args.cube c.args.out) c.in-Some.is c.room_through.ensures
