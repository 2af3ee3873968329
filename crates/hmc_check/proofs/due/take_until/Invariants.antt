-- The steps of some rounds were taken, and the line is not one of theirs.
use Rattle.std.proofs.Common.{◌≡◌, ◌+◌, [], List, length}
use Rattle.hmc_schedule.specs.RoundsLeft.{steps_left}
use Rattle.hmc_entries.specs.declared.entry.Entry.{Entry}
use Rattle.hmc_journal.specs.Setup.{Setup}
use Rattle.hmc_check.specs.Following.{IsBefore}
use Rattle.hmc_check.specs.Past.{past_of}
use Rattle.hmc_check.proofs.due.take_until.Given as goal

abbrev pub invariant-rounds : goal.invariant-rounds
invariant-rounds g l =
    (setup : Setup) → IsBefore (past_of g.B.Workbench.slots l.initial.past) setup [] l.schedule →
    (past : List Entry) × IsBefore (past_of g.B.Workbench.slots l.past) setup past (steps_left l.rounds [])
    × (length past + l.more ≡ l.initial.more)

abbrev pub decreases-rounds : goal.decreases-rounds
decreases-rounds g l = l.rounds.rounds
