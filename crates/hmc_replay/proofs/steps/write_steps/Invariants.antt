use Rattle.std.proofs.Common.{[], List}
use Rattle.hmc_schedule.specs.RoundsLeft.{steps_left}
use Rattle.hmc_entries.specs.declared.entry.Entry.{Entry}
use Rattle.hmc_entries.specs.Text.{lines_of}
use Rattle.hmc_journal.specs.Setup.{Setup}
use Rattle.hmc_net.specs.NetState.{net_of}
use Rattle.hmc_outside.specs.Lines.{WritesLines}
use Rattle.hmc_replay.specs.Steps.{IsBefore}
use Rattle.hmc_replay.proofs.steps.write_steps.Given as goal

abbrev pub invariant-rounds : goal.invariant-rounds
invariant-rounds g l =
    (setup : Setup) → IsBefore (net_of g.B.Workbench.slots l.initial.network) setup [] l.schedule →
    (past : List Entry) × IsBefore (net_of g.B.Workbench.slots l.network) setup past (steps_left l.rounds []) × WritesLines (g.O.Sink.shows l.initial.sink) (g.O.Sink.shows l.sink) (lines_of past)

abbrev pub decreases-rounds : goal.decreases-rounds
decreases-rounds g l = l.rounds.rounds
