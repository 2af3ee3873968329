-- What is printed is read again, and what each entry keeps.
use Rattle.std.specs.Prelude.{◌≡◌, ◌<◌, ℕ, true, List, length, Ok}
use Rattle.std.specs.List.{All}
use Rattle.hmc_codes.specs.Shape.{ShapeFields}
use Rattle.hmc_entries.specs.declared.entry.Entry.{Entry}
use Rattle.hmc_entries.specs.declared.entry.Entry.TheVariants.{Gave, Took, Retired}
use Rattle.hmc_log.specs.Answers.{takes_tag}
use Rattle.hmc_log.specs.Lines.{log_text}
use Rattle.hmc_log.specs.Log.{LogFields}
use Rattle.hmc_log.specs.Meaning.{is_due}
use Rattle.hmc_log.specs.Text.{log_of}

-- a log that was read, printed, is read as the same log, for the same hosts and cubes
abbrev pub PrintedIsRead : Type 0
PrintedIsRead = (hosts : ℕ) (shapes : List ShapeFields) (text : List ℕ) (log : LogFields) →
    log_of hosts shapes text ≡ Ok log → log_of hosts shapes (log_text log) ≡ Ok log

-- the host, the cube or the slot is there, and a request has a tag exactly where it takes one; no
-- other entry is in a log
abbrev pub FitsCase : (hosts cubes : ℕ) → Entry → Type 0
FitsCase hosts cubes (Gave host tag poisoned request) =
    (host < hosts) × (request.cube < cubes)
    × (is_due tag (takes_tag poisoned request.command) ≡ true)
FitsCase hosts cubes (Took host tag answer) = host < hosts
FitsCase hosts cubes (Retired slot) = slot < 8
FitsCase hosts cubes _ = ⊥

abbrev pub ReadEntriesFit : Type 0
ReadEntriesFit = (hosts : ℕ) (shapes : List ShapeFields) (text : List ℕ) (log : LogFields) →
    log_of hosts shapes text ≡ Ok log → All (FitsCase hosts (length shapes)) log.entries
