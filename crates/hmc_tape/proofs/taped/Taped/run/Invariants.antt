-- So many steps were tried, and none of their entries is of a chosen kind.
use Rattle.std.proofs.Common.{◌≡◌, List, false}
use Rattle.hmc_entries.specs.declared.entry.Entry.{Entry}
use Rattle.hmc_journal.specs.Setup.{Setup}
use Rattle.hmc_session.specs.Running.{RunsOn}
use Rattle.hmc_tape.specs.Tape.{taped_of, IsTapeOf}
use Rattle.hmc_tape.proofs.taped.Taped.run.Given as goal

abbrev pub invariant-steps : goal.invariant-steps
invariant-steps g l = record {
  runs : (setup : Setup) (past : List Entry) → IsTapeOf (taped_of g.B.Workbench.slots l.initial.self) setup past → RunsOn (IsTapeOf (taped_of g.B.Workbench.slots l.self)) l.self.session.finished setup past l.initial.laid l.laid l.stops l.at false;
  finished : l.self.session.finished ≡ l.initial.self.session.finished;
  plan : l.self.session.plan ≡ l.initial.self.session.plan;
}
