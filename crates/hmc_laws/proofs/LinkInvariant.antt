-- What the steps of a link rest on, after a lawful journal.
use Rattle.std.proofs.Common.{◌<◌, ◌/◌, ℕ, List}
use Rattle.hmc_entries.specs.declared.entry.Entry.{Entry}
use Rattle.hmc_journal.specs.Setup.{Setup, directions_in}
use Rattle.hmc_journal.specs.Network.{IsNetwork}
use Rattle.hmc_journal.specs.QueueInvariant.{LinkInvariant}
use Rattle.hmc_journal.specs.Lawful.{Lawful}
use Rattle.hmc_journal.proofs.Projections.{received}
use Rattle.hmc_laws.proofs.Entering.{Kept}
use Rattle.hmc_laws.proofs.Sound.{kept}
use Rattle.hmc_laws.proofs.SoundSends.{output_is}

by_kept : (setup : Setup) (past : List Entry) (d : ℕ) → d < directions_in setup.topology → Kept setup past → LinkInvariant setup.topology past d
by_kept setup past d less keeps =
    let e = keeps.ends d less in record {
      kept = keeps.links (d / 2);
      output = output_is setup.topology d past keeps.gathered (keeps.links (d / 2));
      receiver = received setup.topology d past;
      buffer = e.buffer;
    }

pub link_invariant : (setup : Setup) (past : List Entry) (d : ℕ) → IsNetwork setup → d < directions_in setup.topology → Lawful setup past → LinkInvariant setup.topology past d
link_invariant setup past d network less lawful = by_kept setup past d less (kept setup past network lawful)
