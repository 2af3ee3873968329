use Rattle.std.proofs.Common.{◌≡◌, List, drop}
use Rattle.hmc_schedule.specs.RoundsLeft.{steps_left}
use Rattle.hmc_entries.specs.declared.entry.Entry.{Entry}
use Rattle.hmc_journal.specs.Setup.{Setup}
use Rattle.hmc_check.specs.Past.{past_of}
use Rattle.hmc_check.specs.Following.{IsFollowing}
use Rattle.hmc_check.proofs.checker.follow_round.Given as goal

abbrev pub invariant-steps : goal.invariant-steps
invariant-steps g l =
    ((setup : Setup) (past : List Entry) →
    IsFollowing (past_of g.B.Workbench.slots l.initial.past) setup past (steps_left l.initial.rounds l.round) l.report l.initial.followed.rest.now l.initial.followed.text.bytes l.initial.followed.entries →
    (now : List Entry) × IsFollowing (past_of g.B.Workbench.slots l.past) setup now (steps_left l.rounds (drop l.step-index l.round)) l.report l.followed.rest.now l.followed.text.bytes l.followed.entries)
    × (l.rounds.rounds ≡ l.initial.rounds.rounds)
