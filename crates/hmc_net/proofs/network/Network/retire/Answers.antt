-- A retirement is an entry.
use Rattle.std.proofs.Common.{◌∙◌, Option, List, ap}
use Rattle.hmc_units.specs.Unit.{UnitFields}
use Rattle.hmc_units.specs.Bench.{is_live, retired_slots}
use Rattle.hmc_net.specs.NetState.{net_of, NetState}
use Rattle.hmc_net.proofs.Indexed.{units_changed}
use Rattle.hmc_net.proofs.Retiring.{retire_does}
use Rattle.hmc_net.proofs.network.Network.retire.Goals as goal

pub returns-clause-does : goal.returns-clause-does
returns-clause-does g c =
    let slots = g.B.Workbench.slots in
    let net = net_of slots c.args.self.now in
    let view = ap (net_of slots) c.self.view_is in
    retire_does net _ c.args.slot c.retire-live.result c.requires.sized (c.retire-live.ensures.live ∙ ap (λ (n : NetState). is_live n.slots c.args.slot) view)
    (units_changed _ net _ _ (slots c.self.inside.bench) _ (λ (s : List (Option UnitFields)). retired_slots s c.args.slot) _ _ c.note_retired.new.last _ view c.retire-live.ensures.slots c.note_retired.ensures.entry)
