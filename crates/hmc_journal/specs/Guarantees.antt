-- What the journal of a case guarantees.
use Rattle.std.specs.Prelude.{◌≡◌, ◌++◌, true, List}
use Rattle.hmc_entries.specs.declared.entry.Entry.{Entry}
use Rattle.hmc_journal.specs.Delivered.{IsScripted, LinksInOrder, DeliveredInOrder, AllServed}
use Rattle.hmc_journal.specs.Drained.{is_drained}
use Rattle.hmc_journal.specs.Lawful.{IsWhole}
use Rattle.hmc_journal.specs.Serial.{IsSerial}
use Rattle.hmc_journal.specs.Setup.{Setup}
use Rattle.hmc_journal.specs.StepView.{opening_of}

-- A journal has its newest entry first, so an earlier journal is its end.
pub record Guarantees (setup : Setup) (journal : List Entry) : Type 0 where
  -- there is an entry for each step of the schedule, or the last is a landing that passed, and each
  -- is the one that its step gives after the entries before it
  pub whole : IsWhole setup journal
  -- the requests that each host gave are a prefix of those that the script has for it
  pub scripted : IsScripted setup.script journal
  -- the executions, run in order on a plain machine of these cubes and logic units, give every
  -- answer
  pub serial : IsSerial (opening_of setup) journal
  -- at every moment: each direction is a list, first in and first out
  pub links : (later past : List Entry) → journal ≡ later ++ past → LinksInOrder setup past
  -- at every moment: what was executed was carried there, and what was answered was carried back,
  -- in order and under its tag
  pub delivered : (later past : List Entry) → journal ≡ later ++ past →
      DeliveredInOrder setup past
  -- where the report says `drained`, all requests that weren't poisoned were executed, and all
  -- under a tag were answered
  pub served : is_drained setup.topology journal ≡ true → AllServed setup.topology journal
