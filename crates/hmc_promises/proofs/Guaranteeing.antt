-- A lawful journal keeps what is promised of it after each step, by the laws of journals.
use Rattle.std.proofs.Common.{◌≡◌, ◌++◌, ℕ, true, List, subst}
use Rattle.std.specs.Prelude.{◌↔◌, ◌/◌}
use Rattle.hmc_report.specs.Lines.{advertised}
use Rattle.hmc_entries.specs.declared.entry.Entry.{Entry}
use Rattle.hmc_journal.specs.Counts.{token_counts}
use Rattle.hmc_journal.specs.Drained.{IsDrained, is_drained}
use Rattle.hmc_journal.specs.Lawful.{Lawful, journal_of}
use Rattle.hmc_journal.specs.Links.{toward, sizes_on, entries_on}
use Rattle.hmc_journal.specs.Network.{IsNetwork}
use Rattle.hmc_journal.specs.Setup.{Setup}
use Rattle.hmc_wire.specs.LinkLaws.{TokenLaws}
use Rattle.hmc_journal.proofs.OneJournal.{earlier_lawful}
use Rattle.hmc_journal.proofs.Whole.{journal_is_whole}
use Rattle.hmc_laws.proofs.DrainedTest.{drained_by_test, test_by_drained}
use Rattle.hmc_laws.proofs.LinksKept.{links_in_order}
use Rattle.hmc_laws.proofs.Sound.{kept}
use Rattle.hmc_link_laws.specs.Pointers.{PointersAcknowledge}
use Rattle.hmc_link_laws.proofs.Acknowledging.{all-acknowledge}
use Rattle.hmc_laws.proofs.Order.{is_scripted}
use Rattle.hmc_laws.proofs.QueueInvariant.{queue_invariant}
use Rattle.hmc_laws.proofs.Serial.{is_serial}
use Rattle.hmc_delivery.proofs.Awaited.{awaits_answers}
use Rattle.hmc_delivery.proofs.Delivering.{delivered_in_order, all_served}
use Rattle.hmc_delivery.proofs.ForwardedKept.{forwarded_kept}
use Rattle.hmc_promises.specs.StepGuarantees.{StepGuarantees}

-- the tokens that are counted are those of the link
tokens_counted : (setup : Setup) (journal : List Entry) (d : ℕ) →
    TokenLaws (sizes_on setup.topology d) (toward d) (entries_on setup.topology d journal) →
    advertised (token_counts setup.topology journal d) ≡ (sizes_on setup.topology d).tokens
unfolding token_counts
tokens_counted setup journal d laws = laws.sum

-- the return pointers are those of a link whose list is kept
pointers_acknowledge : (setup : Setup) (journal : List Entry) → IsNetwork setup →
    Lawful setup journal → (d : ℕ) →
    PointersAcknowledge (sizes_on setup.topology d) (entries_on setup.topology d journal)
pointers_acknowledge setup journal network lawful d =
    all-acknowledge (sizes_on setup.topology d) (entries_on setup.topology d journal)
    ((kept setup journal network lawful).links (d / 2))

pub drained_tested : (setup : Setup) (past : List Entry) → IsNetwork setup →
    Lawful setup past → (is_drained setup.topology past ≡ true) ↔ IsDrained setup.topology past
drained_tested setup past network lawful = (
  λ test. drained_by_test setup past network lawful test,
  λ drained. test_by_drained setup.topology past drained,
)

pub step_guarantees : (setup : Setup) (journal : List Entry) → IsNetwork setup →
    Lawful setup journal → StepGuarantees setup journal
step_guarantees setup journal network lawful =
    let links = links_in_order setup journal network lawful in record {
      lawful = lawful;
      scripted = is_scripted setup journal lawful;
      serial = is_serial setup journal lawful;
      links = links;
      tokens = λ d. tokens_counted setup journal d (links.tokens d);
      pointers = pointers_acknowledge setup journal network lawful;
      delivered = delivered_in_order setup journal network lawful;
      queues = queue_invariant setup journal network lawful;
      awaited = awaits_answers setup journal network lawful;
      forwarded = forwarded_kept setup journal network lawful;
      drained = drained_tested setup journal network lawful;
      served = all_served setup journal network lawful;
    }

pub moment_guarantees : (setup : Setup) (later past : List Entry) → IsNetwork setup →
    journal_of setup ≡ later ++ past → StepGuarantees setup past
moment_guarantees setup later past network parts =
    step_guarantees setup past network
    (earlier_lawful setup later past
    (subst (Lawful setup) parts (journal_is_whole setup).lawful))
