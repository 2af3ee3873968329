-- So many steps were tried, and none of their entries is of a chosen kind.
use Rattle.std.proofs.Common.{◌≡◌, ◌≤◌, ◌-◌, List, false}
use Rattle.hmc_entries.specs.declared.entry.Entry.{Entry}
use Rattle.hmc_journal.specs.Setup.{Setup}
use Rattle.hmc_session.specs.Running.{RunsOn}
use Rattle.hmc_session.specs.Session.{session_of, StandsIn}
use Rattle.hmc_session.proofs.session.Session.run_on.Given as goal

abbrev pub invariant-steps : goal.invariant-steps
invariant-steps g l = record {
  runs : (setup : Setup) (past : List Entry) → StandsIn (session_of g.B.Workbench.slots l.initial.self) setup past → RunsOn (StandsIn (session_of g.B.Workbench.slots l.self)) l.self.finished setup past l.initial.laid l.laid l.stops (l.most - l.left) false;
  finished : l.self.finished ≡ l.initial.self.finished;
  plan : l.self.plan ≡ l.initial.self.plan;
  few : l.left ≤ l.most;
}

abbrev pub decreases-steps : goal.decreases-steps
decreases-steps g l = l.left
