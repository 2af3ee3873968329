-- What is judged: a case, and a log of what its hosts saw.
use Rattle.std.specs.Prelude.{ℕ, List, [], map, Option, Some, None, Result, Ok, Err, if◌then◌else◌}
use Rattle.std.specs.Str.{is_utf8}
use Rattle.hmc_codes.specs.Shape.{ShapeFields}
use Rattle.hmc_text.specs.InTurn.{AnswersBy}
use Rattle.hmc_text.specs.Reading.{◌>>=◌}
use Rattle.hmc_case.specs.Case.{CaseFields, case_of}
use Rattle.hmc_case.specs.Line.{bad_line as case_line}
use Rattle.hmc_case.specs.Setup.{CubeSetupFields}
use Rattle.hmc_log.specs.Fault.{bad_line as log_line, no_text_line}
use Rattle.hmc_log.specs.Log.{LogFields}
use Rattle.hmc_log.specs.Text.{log_of}
use Rattle.hmc_verdict.specs.declared.fault.SubjectFault.{SubjectFault}
use Rattle.hmc_verdict.specs.declared.fault.SubjectFault.TheVariants as faults

-- of the case its cubes and its hosts count
pub record SubjectFields : Type 0 where
  pub case : CaseFields
  pub log : LogFields

abbrev pub cube_shapes : List CubeSetupFields → List ShapeFields
cube_shapes setups = map (λ cube. cube.shape) setups

-- what was read, or the line of its fault
abbrev pub or_line : {A F : Type 0} → (F → List ℕ) → Result A F → Result A (List ℕ)
or_line line_of (Ok x) = Ok x
or_line line_of (Err fault) = Err (line_of fault)

-- the log that a text is for the hosts and cubes of a case
abbrev pub log_in : CaseFields → (text : List ℕ) → Result LogFields (List ℕ)
log_in case text = or_line log_line (log_of case.net.hosts (cube_shapes case.net.cubes) text)

-- the same of bytes, which may be no text
unfoldable pub log_in_bytes : CaseFields → (bytes : List ℕ) → Result LogFields (List ℕ)
log_in_bytes case bytes = if is_utf8 bytes then log_in case bytes else Err no_text_line

-- The case and the log of these bytes, or the line of the first fault. The case is read first, and
-- the log for its hosts and cubes.
unfoldable pub subject_of : (case log : List ℕ) → Result SubjectFields (List ℕ)
subject_of case_bytes log_bytes = do
  case ← or_line case_line (case_of case_bytes)
  log ← log_in_bytes case log_bytes
  Ok (record { case = case; log = log })

-- the line that is due for a fault; none where memory ran out
abbrev pub fault_line : SubjectFault → Option (List ℕ)
fault_line faults.Memory = None
fault_line (faults.Case section line kind) =
    Some (case_line (record { section = section; line = line; kind = kind }))
fault_line faults.NoText = Some no_text_line
fault_line (faults.Log line kind) = Some (log_line (line, kind))

abbrev pub or_nothing : Option (List ℕ) → List ℕ
or_nothing None = []
or_nothing (Some line) = line

abbrev pub line_due : SubjectFault → List ℕ
line_due fault = or_nothing (fault_line fault)

-- a call returned what reading gives, or was out of memory
abbrev pub Answers : {X Y : Type 0} → (X → Y) → Result X SubjectFault → Result Y (List ℕ) → Type 0
Answers view result read = AnswersBy fault_line view result read
