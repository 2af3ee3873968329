-- The bench is that of the network after its steps.
use Rattle.std.proofs.Common.{[], sym, ap}
use Rattle.hmc_journal.specs.Setup.{setup_of}
use Rattle.hmc_net.specs.NetState.{net_of}
use Rattle.hmc_journal.proofs.Left.{none_taken}
use Rattle.hmc_replay.specs.Steps.{IsBefore}
use Rattle.hmc_replay.proofs.Leaving.{left_of}
use Rattle.hmc_replay.proofs.on.replay_on.Goals as goal

pub returns-clause-left : goal.returns-clause-left
returns-clause-left g c =
    let slots = g.B.Workbench.slots in
    let setup = setup_of c.args.case.now (slots c.args.bench) in
    let at : IsBefore (net_of slots c.in_ok-network.network) setup [] c.schedule.result.now = record { stands = c.in_ok-network.ensures; leaves = none_taken setup _ (sym c.schedule.ensures) } in
    left_of c.write_report-ended.result c.args.extent (net_of slots c.write_report-ended.new.network) setup (slots c.into_bench.result) _ _ (ap slots c.into_bench.ensures) (c.write_report-ended.ensures.stepped setup at)

pub returns-clause-drained : goal.returns-clause-drained
returns-clause-drained g c =
    let slots = g.B.Workbench.slots in
    let setup = setup_of c.args.case.now (slots c.args.bench) in
    let at : IsBefore (net_of slots c.in_ok-network.network) setup [] c.schedule.result.now = record { stands = c.in_ok-network.ensures; leaves = none_taken setup _ (sym c.schedule.ensures) } in
    c.write_report-ended.ensures.drained setup at
