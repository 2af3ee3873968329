-- So many steps were taken, and the line is not one of theirs.
use Rattle.std.proofs.Common.{◌≡◌, ◌+◌, List, drop, length}
use Rattle.hmc_schedule.specs.RoundsLeft.{steps_left}
use Rattle.hmc_entries.specs.declared.entry.Entry.{Entry}
use Rattle.hmc_journal.specs.Setup.{Setup}
use Rattle.hmc_check.specs.Following.{IsBefore}
use Rattle.hmc_check.specs.Past.{past_of}
use Rattle.hmc_check.proofs.due.take_round.Given as goal

abbrev pub invariant-steps : goal.invariant-steps
invariant-steps g l =
    ((setup : Setup) (past : List Entry) →
    IsBefore (past_of g.B.Workbench.slots l.initial.past) setup past (steps_left l.initial.rounds l.round) →
    (now : List Entry) × IsBefore (past_of g.B.Workbench.slots l.past) setup now (steps_left l.rounds (drop l.step-index l.round))
    × (length now + l.more ≡ length past + l.initial.more))
    × (l.rounds.rounds ≡ l.initial.rounds.rounds)
