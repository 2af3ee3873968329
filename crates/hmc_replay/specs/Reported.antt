-- What is due for a case that is replayed.
use Rattle.std.specs.Prelude.{◌≡◌, ℕ, List, ◌∷◌}
use Rattle.hmc_bound.specs.Ends.{EndsDrained}
use Rattle.hmc_entries.specs.declared.entry.Entry.{Entry}
use Rattle.hmc_entries.specs.declared.entry.Entry.TheVariants.{Passed}
use Rattle.hmc_journal.specs.Guarantees.{Guarantees}
use Rattle.hmc_journal.specs.Lawful.{journal_of}
use Rattle.hmc_journal.specs.Setup.{Setup}
use Rattle.hmc_replay.specs.Report.{report_status}

-- the last entry is a landing that passed
pub record EndsAtPass (journal : List Entry) : Type 0 where
  pub direction : ℕ
  pub flit : List ℕ
  pub before : List Entry
  pub last : journal ≡ Passed direction flit ∷ before

-- The status is 7 where a landing of the setup passes, and 0 where none does; the lines are these;
-- and this is guaranteed of the setup's journal. Where there are one cube and one link, and the
-- schedule ends with enough whole rounds, the last of the final lines is `state drained`.
pub record IsReport (setup : Setup) (report : List (List ℕ)) (status : ℕ)
    (lines : List (List ℕ)) : Type 0 where
  pub status_is : status ≡ report_status setup
  pub lines_are : lines ≡ report
  pub passed : status ≡ 7 → EndsAtPass (journal_of setup)
  pub guarantees : Guarantees setup (journal_of setup)
  pub drained : EndsDrained setup
