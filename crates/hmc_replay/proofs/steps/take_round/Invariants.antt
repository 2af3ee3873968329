use Rattle.std.proofs.Common.{◌≡◌, List, drop}
use Rattle.hmc_schedule.specs.RoundsLeft.{steps_left}
use Rattle.hmc_entries.specs.declared.entry.Entry.{Entry}
use Rattle.hmc_journal.specs.Setup.{Setup}
use Rattle.hmc_net.specs.NetState.{net_of}
use Rattle.hmc_replay.specs.Steps.{IsBefore}
use Rattle.hmc_replay.proofs.steps.take_round.Given as goal

abbrev pub invariant-steps : goal.invariant-steps
invariant-steps g l =
    ((setup : Setup) (past : List Entry) →
    IsBefore (net_of g.B.Workbench.slots l.initial.network) setup past (steps_left l.initial.rounds l.round) →
    (now : List Entry) × IsBefore (net_of g.B.Workbench.slots l.network) setup now (steps_left l.rounds (drop l.step-index l.round)))
    × (l.rounds.rounds ≡ l.initial.rounds.rounds)
