-- Lawful journals of equal texts are equal: each of their entries can be printed.
use Rattle.std.proofs.Common.{List, All}
use Rattle.hmc_entries.specs.declared.entry.Entry.{Entry}
use Rattle.hmc_entries.specs.Parse.{IsPrintable}
use Rattle.hmc_journal.specs.ParseJournals.{IsJournalOf, LawfulIsShown, JournalTells}
use Rattle.hmc_journal.specs.Setup.{Setup}
use Rattle.hmc_laws.proofs.ParseShown.{lawful_shown}
use Rattle.hmc_entries.proofs.ParseTells.{lines_tell_journal}

printable : (setup : Setup) (journal : List Entry) → IsJournalOf setup journal → All IsPrintable journal
printable setup journal is =
    let shown = lawful_shown setup journal is.network is.lawful in
    λ k d within. record { fits = is.fits k d within; shown = shown k d within }

pub lawful_is_shown : LawfulIsShown
lawful_is_shown = lawful_shown

pub journal_tells : JournalTells
journal_tells setup other journal another is are same =
    lines_tell_journal journal another (printable setup journal is) (printable other another are) same
