-- What is promised of texts, word for word, and entries that a line doesn't show.
use Rattle.std.proofs.Common.{◌≡◌, ◌<◌, ℕ, false, List, [], ◌∷◌, All, Some, Ok, ap, arith}
use Rattle.std.specs.Prelude.{replicate}
use Rattle.std.specs.List.{concat}
use Rattle.hmc_codes.specs.Flit.{zero_flit}
use Rattle.hmc_codes.specs.Request.{RequestFields}
use Rattle.hmc_codes.specs.declared.command.Command.TheVariants.{Rd16}
use Rattle.hmc_script.specs.Items.{ItemFields, IsScript, IsWithin}
use Rattle.hmc_script.specs.Laws.{PrintedIsRead}
use Rattle.hmc_script.specs.Script.{script_of}
use Rattle.hmc_script.specs.Text.{script_text}
use Rattle.hmc_schedule.specs.declared.step.Step.TheVariants as steps
use Rattle.hmc_entries.specs.declared.entry.Entry.{Entry}
use Rattle.hmc_entries.specs.declared.entry.Entry.TheVariants.{Gave, Idle, Unlocked}
use Rattle.hmc_entries.specs.declared.outcome.Cause.TheVariants.{Empty}
use Rattle.hmc_journal.specs.Lawful.{Lawful}
use Rattle.hmc_entries.specs.Lines.{line_of}
use Rattle.hmc_journal.specs.Network.{IsNetwork}
use Rattle.hmc_entries.specs.Parse.{FitsTypes, IsShown, IsPrintable, LineTells, TextTells, text_of}
use Rattle.hmc_journal.specs.ParseJournals.{LawfulIsShown, JournalTells}
use Rattle.hmc_journal.specs.Setup.{Setup}
use Rattle.hmc_entries.specs.Text.{lines_of}

-- ---- equal lines and texts are of equal entries, and printed scripts are read again

line_tells-each : LineTells → (entry other : Entry) → FitsTypes entry → IsShown entry → FitsTypes other → IsShown other → line_of entry ≡ line_of other → entry ≡ other
line_tells-each tells entry other fits shown other_fits other_shown same = tells entry other (record { fits = fits; shown = shown }) (record { fits = other_fits; shown = other_shown }) same

text_tells-each : TextTells → (entries others : List Entry) → All IsPrintable entries → All IsPrintable others → text_of entries ≡ text_of others → entries ≡ others
text_tells-each tells = tells

lawful_is_shown-each : LawfulIsShown → (setup : Setup) (journal : List Entry) → IsNetwork setup → Lawful setup journal → All IsShown journal
lawful_is_shown-each shown = shown

journal_tells-each : JournalTells → (setup other : Setup) (journal another : List Entry) → IsNetwork setup → Lawful setup journal → All FitsTypes journal → IsNetwork other → Lawful other another → All FitsTypes another
    → concat (lines_of journal) ≡ concat (lines_of another) → journal ≡ another
journal_tells-each tells setup other journal another network lawful fits other_network other_lawful other_fits same =
    tells setup other journal another (record { network = network; lawful = lawful; fits = fits }) (record { network = other_network; lawful = other_lawful; fits = other_fits }) same

printed_is_read-each : PrintedIsRead → (hosts cubes : ℕ) (items : List ItemFields) → IsScript items → All (IsWithin hosts cubes) items → script_of hosts cubes (script_text items) ≡ Ok items
printed_is_read-each read = read

-- ---- a line doesn't show the mask of an idle landing, and no entry has a host past a byte

abbrev first_byte : List ℕ → ℕ
first_byte [] = 0
first_byte (byte ∷ bytes) = byte

shown-mask : IsShown (Idle (steps.Land 0 (1 ∷ replicate 15 0)) Empty) → ⊥
unfolding zero_flit
shown-mask is = let off : ◌≡◌ {A = ℕ} 1 0 = ap first_byte is in omega (arith, off)

abbrev read : RequestFields
read = record { command = Rd16; cube = 0; address = 0; payload = [] }

fits-host : FitsTypes (Gave 256 (Some 0) false read) → ⊥
fits-host is = let off : 256 < 256 = is.0 in omega (arith, off)

fits-direction : FitsTypes (Unlocked 256) → ⊥
fits-direction is = let off : 256 < 256 = is in omega (arith, off)
