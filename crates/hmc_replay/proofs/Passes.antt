-- A landing that passes is the last entry of its journal.
use Rattle.std.proofs.Common.{◌≡◌, ◌∙◌, ◌||◌, Bool, true, false, List, [], ◌∷◌, refl, ap}
use Rattle.std.specs.List.{list_any}
use Rattle.hmc_entries.specs.declared.entry.Entry.{Entry}
use Rattle.hmc_entries.specs.Event.{is_passed}
use Rattle.hmc_journal.specs.Lawful.{has_passed, Lawful, journal_of}
use Rattle.hmc_journal.specs.Setup.{Setup}
use Rattle.hmc_journal.proofs.Whole.{journal_is_whole}
use Rattle.hmc_replay.specs.Report.{passes}

or_false : (b : Bool) → (b || false) ≡ b
or_false true = refl
or_false false = refl

passed_is_last : (setup : Setup) (journal : List Entry) → Lawful setup journal → list_any is_passed journal ≡ has_passed journal
unfolding Lawful
passed_is_last setup [] lawful = refl
passed_is_last setup (entry ∷ past) lawful =
    let none : list_any is_passed past ≡ false = passed_is_last setup past lawful.2 ∙ lawful.0 in
    ap (λ (b : Bool). is_passed entry || b) none ∙ or_false (is_passed entry)

pub passes_is : (setup : Setup) → passes setup ≡ has_passed (journal_of setup)
passes_is setup = passed_is_last setup (journal_of setup) (journal_is_whole setup).lawful
