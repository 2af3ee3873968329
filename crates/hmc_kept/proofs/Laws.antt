-- What lawful journals keep, by hmc_laws and hmc_delivery.
use Rattle.std.proofs.Common.{List}
use Rattle.hmc_entries.specs.declared.entry.Entry.{Entry}
use Rattle.hmc_journal.specs.Lawful.{Lawful}
use Rattle.hmc_journal.specs.Network.{IsNetwork}
use Rattle.hmc_journal.specs.Setup.{Setup}
use Rattle.hmc_delivery.proofs.Awaited.{awaits_answers}
use Rattle.hmc_delivery.proofs.ForwardedKept.{forwarded_kept}
use Rattle.hmc_laws.proofs.QueueInvariant.{queue_invariant}
use Rattle.hmc_kept.proofs.ForwardedLaw.{onward_seen, forwarded_seen}
use Rattle.hmc_kept.proofs.LawsShown.{IsLawBound}

pub law_bound : (setup : Setup) (past : List Entry) → IsNetwork setup → Lawful setup past → IsLawBound setup past
law_bound setup past network lawful =
    let queues = queue_invariant setup past network lawful in
    let forwarded = forwarded_kept setup past network lawful in
    record {
      queues = queues;
      awaited = awaits_answers setup past network lawful;
      fed = λ direction there. forwarded.fed direction;
      onward = λ direction there. onward_seen setup past direction forwarded;
      forwarded = λ direction onto there is. forwarded_seen setup past direction onto (queues.links direction there).receiver (forwarded.forwarded direction onto there is);
    }
