use Rattle.std.proofs.Common.{[], List}
use Rattle.hmc_schedule.specs.RoundsLeft.{steps_left}
use Rattle.hmc_entries.specs.declared.entry.Entry.{Entry}
use Rattle.hmc_journal.specs.Setup.{Setup}
use Rattle.hmc_check.specs.Past.{past_of}
use Rattle.hmc_check.specs.Following.{IsFollowing}
use Rattle.hmc_check.proofs.checker.follow_rounds.Given as goal

abbrev pub invariant-rounds : goal.invariant-rounds
invariant-rounds g l =
    (setup : Setup) → IsFollowing (past_of g.B.Workbench.slots l.initial.past) setup [] l.schedule l.report l.initial.followed.rest.now l.initial.followed.text.bytes l.initial.followed.entries →
    (past : List Entry) × IsFollowing (past_of g.B.Workbench.slots l.past) setup past (steps_left l.rounds []) l.report l.followed.rest.now l.followed.text.bytes l.followed.entries

abbrev pub decreases-rounds : goal.decreases-rounds
decreases-rounds g l = l.rounds.rounds
