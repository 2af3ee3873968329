-- A lawful journal is executed serially.
use Rattle.std.proofs.Common.{List, [], ◌∷◌}
use Rattle.hmc_entries.specs.declared.entry.Entry.{Entry}
use Rattle.hmc_entries.specs.declared.entry.Entry.TheVariants.{Executed}
use Rattle.hmc_journal.specs.Setup.{Setup}
use Rattle.hmc_journal.specs.Serial.{IsSerial}
use Rattle.hmc_journal.specs.StepView.{opening_of, state_of}
use Rattle.hmc_journal.specs.Lawful.{Lawful}
use Rattle.hmc_journal.proofs.EntryRule.{EntryRule, entry_rule, lawful_past}

serial_entry : (setup : Setup) (entry : Entry) (past : List Entry) → EntryRule setup past entry → IsSerial (opening_of setup) past → IsSerial (opening_of setup) (entry ∷ past)
unfolding IsSerial state_of
serial_entry setup (Executed unit host tag request answer) past right serial = (right.is_answer, serial)
serial_entry setup _ past right serial = serial

pub is_serial : (setup : Setup) (past : List Entry) → Lawful setup past → IsSerial (opening_of setup) past
unfolding IsSerial
is_serial setup [] lawful = tt
is_serial setup (entry ∷ past) lawful = serial_entry setup entry past (entry_rule setup entry past lawful) (is_serial setup past (lawful_past setup entry past lawful))
