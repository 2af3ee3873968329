-- The steps of a case that are left after some entries.
use Rattle.std.specs.Prelude.{◌≡◌, ◌≤◌, false, List, drop, length}
use Rattle.hmc_schedule.specs.declared.step.Step.{Step}
use Rattle.hmc_entries.specs.declared.entry.Entry.{Entry}
use Rattle.hmc_journal.specs.Lawful.{has_passed}
use Rattle.hmc_journal.specs.Setup.{Setup}

-- no landing passed so far, and of the schedule these steps are left
pub record LeavesSteps (setup : Setup) (past : List Entry) (left : List Step) : Type 0 where
  pub goes_on : has_passed past ≡ false
  pub left_is : drop (length past) setup.schedule ≡ left
  pub few : length past ≤ length setup.schedule
