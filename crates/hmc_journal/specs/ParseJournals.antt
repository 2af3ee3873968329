-- The text of a journal shows the journal.
use Rattle.std.specs.Prelude.{◌≡◌, List, All}
use Rattle.std.specs.List.{concat}
use Rattle.hmc_entries.specs.declared.entry.Entry.{Entry}
use Rattle.hmc_journal.specs.Lawful.{Lawful}
use Rattle.hmc_journal.specs.Network.{IsNetwork}
use Rattle.hmc_entries.specs.Parse.{FitsTypes, IsShown}
use Rattle.hmc_journal.specs.Setup.{Setup}
use Rattle.hmc_entries.specs.Text.{lines_of}

-- a journal of a network, whose entries are values of their type
pub record IsJournalOf (setup : Setup) (journal : List Entry) : Type 0 where
  pub network : IsNetwork setup
  pub lawful : Lawful setup journal
  pub fits : All FitsTypes journal

-- the line of each entry of a lawful journal shows all of it
abbrev pub LawfulIsShown : Type 0
LawfulIsShown = (setup : Setup) (journal : List Entry) → IsNetwork setup → Lawful setup journal →
    All IsShown journal

-- equal texts are of equal journals, whatever their cases
abbrev pub JournalTells : Type 0
JournalTells = (setup other : Setup) (journal another : List Entry) →
    IsJournalOf setup journal → IsJournalOf other another →
    concat (lines_of journal) ≡ concat (lines_of another) → journal ≡ another
