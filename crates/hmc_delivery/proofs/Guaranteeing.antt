-- The journal of a network's case is whole, and keeps what is promised of it.
use Rattle.std.proofs.Common.{subst}
use Rattle.hmc_journal.specs.Guarantees.{Guarantees}
use Rattle.hmc_journal.specs.Lawful.{Lawful, journal_of}
use Rattle.hmc_journal.specs.Network.{IsNetwork}
use Rattle.hmc_journal.specs.Setup.{Setup}
use Rattle.hmc_delivery.proofs.Delivering.{delivered_in_order, all_served}
use Rattle.hmc_laws.proofs.DrainedTest.{drained_by_test}
use Rattle.hmc_laws.proofs.LinksKept.{links_in_order}
use Rattle.hmc_journal.proofs.OneJournal.{earlier_lawful}
use Rattle.hmc_laws.proofs.Order.{is_scripted}
use Rattle.hmc_laws.proofs.Serial.{is_serial}
use Rattle.hmc_journal.proofs.Whole.{journal_is_whole}

pub guarantees : (setup : Setup) → IsNetwork setup → Guarantees setup (journal_of setup)
guarantees setup network =
    let whole = journal_is_whole setup in
    let lawful = whole.lawful in record {
      whole = whole;
      scripted = is_scripted setup (journal_of setup) lawful;
      serial = is_serial setup (journal_of setup) lawful;
      links = λ later past parts. links_in_order setup past network (earlier_lawful setup later past (subst (Lawful setup) parts lawful));
      delivered = λ later past parts. delivered_in_order setup past network (earlier_lawful setup later past (subst (Lawful setup) parts lawful));
      served = λ test. all_served setup (journal_of setup) network lawful (drained_by_test setup (journal_of setup) network lawful test);
    }
