-- What holds of the journal of a case after each of its steps.
use Rattle.std.specs.Prelude.{◌≡◌, ◌↔◌, ℕ, true, List}
use Rattle.hmc_report.specs.Lines.{advertised}
use Rattle.hmc_entries.specs.declared.entry.Entry.{Entry}
use Rattle.hmc_journal.specs.Counts.{token_counts}
use Rattle.hmc_journal.specs.Delivered.{IsScripted, LinksInOrder, DeliveredInOrder, AllServed}
use Rattle.hmc_journal.specs.Drained.{IsDrained, is_drained}
use Rattle.hmc_journal.specs.Forwarded.{AreForwarded}
use Rattle.hmc_journal.specs.Lawful.{Lawful}
use Rattle.hmc_journal.specs.Links.{sizes_on, entries_on}
use Rattle.hmc_journal.specs.QueueInvariant.{QueueInvariant, AnswersAwaited}
use Rattle.hmc_journal.specs.Serial.{IsSerial}
use Rattle.hmc_journal.specs.Setup.{Setup}
use Rattle.hmc_journal.specs.StepView.{opening_of}
use Rattle.hmc_link_laws.specs.Pointers.{PointersAcknowledge}

-- A journal has its newest entry first.
pub record StepGuarantees (setup : Setup) (journal : List Entry) : Type 0 where
  -- there is an entry for each step so far, and each is the one that its step gives after the
  -- entries before it
  pub lawful : Lawful setup journal
  -- the requests that each host gave are a prefix of those that the script has for it
  pub scripted : IsScripted setup.script journal
  -- the executions, run in order on a plain machine of these cubes and logic units, give every
  -- answer
  pub serial : IsSerial (opening_of setup) journal
  -- each direction is a list, first in and first out
  pub links : LinksInOrder setup journal
  -- the five numbers that are counted of a direction's tokens are together those that its end
  -- advertised
  pub tokens : (direction : ℕ) →
      advertised (token_counts setup.topology journal direction)
      ≡ (sizes_on setup.topology direction).tokens
  -- no return pointer that was counted in a direction or in the other one of its link was stray:
  -- each acknowledged exactly the packets up to its number
  pub pointers : (direction : ℕ) →
      PointersAcknowledge (sizes_on setup.topology direction)
      (entries_on setup.topology direction journal)
  -- what was executed was carried there, and what was answered was carried back, in order and under
  -- its tag
  pub delivered : DeliveredInOrder setup journal
  -- requests wait in their cube, packets at ports on their way to a cube or a host that is there,
  -- and the queues of a link are what its entries say
  pub queues : QueueInvariant setup journal
  -- the answers that wait at a host are those that it awaits, unless they are poisoned
  pub awaited : AnswersAwaited setup journal
  -- a packet that is forwarded before it has come whole is the one that is gathered at its port,
  -- and nothing else goes onto its direction
  pub forwarded : AreForwarded setup journal
  -- nothing is on its way exactly where the test of the queues and directions that there are says
  -- so
  pub drained : (is_drained setup.topology journal ≡ true) ↔ IsDrained setup.topology journal
  -- then all requests that weren't poisoned were executed, and all under a tag were answered
  pub served : IsDrained setup.topology journal → AllServed setup.topology journal
