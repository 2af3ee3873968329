-- The steps that aren't left were tried, and none of their entries is of a chosen kind.
use Rattle.std.proofs.Common.{◌≡◌, ◌≤◌, ◌-◌, ◌++◌, List, length, drop, false}
use Rattle.hmc_schedule.specs.declared.step.Step.{Step}
use Rattle.hmc_entries.specs.declared.entry.Entry.{Entry}
use Rattle.hmc_journal.specs.Setup.{Setup}
use Rattle.hmc_session.specs.Running.{RunsOn}
use Rattle.hmc_session.specs.Session.{session_of, StandsIn}
use Rattle.hmc_session.proofs.session.Session.try_all.Given as goal

abbrev pub invariant-steps : goal.invariant-steps
invariant-steps g l = record {
  runs : (setup : Setup) (past : List Entry) (after : List Step) → StandsIn (session_of g.B.Workbench.slots l.initial.self) setup past
      → RunsOn (StandsIn (session_of g.B.Workbench.slots l.self)) l.self.finished setup past (l.fn.steps ++ after) (l.rest ++ after) l.fn.stops (length l.fn.steps - length l.rest) false;
  finished : l.self.finished ≡ l.initial.self.finished;
  plan : l.self.plan ≡ l.initial.self.plan;
  few : length l.rest ≤ length l.fn.steps;
  rest : drop (length l.fn.steps - length l.rest) l.fn.steps ≡ l.rest;
}

abbrev pub decreases-steps : goal.decreases-steps
decreases-steps g l = length l.rest
