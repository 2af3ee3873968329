-- The first fault of a text, as C sees it.
use Rattle.std.specs.Prelude.{◌≡◌, ◌⊎◌, ℕ, List, codes, Option, Some, None, Result, Ok, Err}
use Rattle.std.specs.Prelude.{IsUtf8}
use Rattle.hmc_codes.specs.Bytes.{padded_bytes}
use Rattle.hmc_script.specs.Items.{ItemFields}
use Rattle.hmc_script.specs.Kind.{kind_word as script_word}
use Rattle.hmc_schedule.specs.Kind.{kind_word as schedule_word}
use Rattle.hmc_schedule.specs.Plan.{PlanFields}
use Rattle.hmc_schedule.specs.Schedule.{schedule_of}
use Rattle.hmc_schedule.specs.declared.fault.ScheduleKind.{ScheduleKind}
use Rattle.hmc_schedule.specs.declared.step.Step.{Step}
use Rattle.hmc_case.specs.Case.{CaseFields}
use Rattle.hmc_case.specs.Kind.{kind_word}
use Rattle.hmc_case.specs.Reading.{Fault}
use Rattle.hmc_case.specs.declared.fault.Section.{Section}
use Rattle.hmc_case.specs.declared.fault.Section.TheVariants as sections
use Rattle.hmc_session.specs.Asking.{item_in}
use Rattle.hmc_session.specs.declared.refusal.LineNotAsked.{LineNotAsked}
use Rattle.hmc_session.specs.declared.refusal.LineNotAsked.TheVariants as lines
use Rattle.hmc_c.specs.Status.{memory, none, ok}
use Rattle.hmc_c.specs.declared.faults.FaultOut.{FaultOut}
use Rattle.hmc_c.specs.declared.faults.Stated.{Stated}
use Rattle.hmc_c.specs.declared.faults.Stated.TheVariants as stated

-- the number of a section
abbrev pub section_number : Section → ℕ
section_number sections.Toml = 0
section_number sections.Top = 1
section_number sections.Cube = 2
section_number sections.Net = 3
section_number sections.Link = 4
section_number sections.Script = 5
section_number sections.Schedule = 6

-- a fault with this word, and zeros after it
abbrev pub fault_with : Section → (line : ℕ) → (word : List ℕ) → FaultOut
fault_with section line word = record {
  line = line;
  section = section_number section;
  word = padded_bytes 16 word;
}

-- the fault of a case
abbrev pub case_fault : Result CaseFields Fault → Option FaultOut
case_fault (Ok case) = None
case_fault (Err fault) = Some (fault_with fault.section fault.line (kind_word fault.kind))

-- the fault of a text that states no request, or more than one
abbrev pub request_fault : Result ItemFields LineNotAsked → Option FaultOut
request_fault (Ok item) = None
request_fault (Err (lines.Fault line kind)) =
    Some (fault_with sections.Script line (script_word kind))
request_fault (Err lines.NotOne) = Some (fault_with sections.Script 0 (codes "one"))
request_fault (Err (lines.Refused refusal)) = None

-- the fault of a schedule
abbrev pub steps_fault : Result (List Step) (ℕ × ScheduleKind) → Option FaultOut
steps_fault (Ok steps) = None
steps_fault (Err fault) = Some (fault_with sections.Schedule fault.0 (schedule_word fault.1))

-- the section of a text that is to state this, and its first fault for these parts
abbrev pub section_of : Stated → Section
section_of stated.Request = sections.Script
section_of stated.Steps = sections.Schedule

abbrev pub stated_fault : Stated → PlanFields → (text : List ℕ) → Option FaultOut
stated_fault stated.Request plan text = request_fault (item_in plan text)
stated_fault stated.Steps plan text = steps_fault (schedule_of plan text)

-- it is written, or there is none, or out of memory
abbrev pub FaultShown : (status : ℕ) → Option FaultOut → (old new : FaultOut) → Type 0
FaultShown status (Some fault) old new =
    ((status ≡ ok) × (new ≡ fault)) ⊎ ((status ≡ memory) × (new ≡ old))
FaultShown status None old new = ((status ≡ none) ⊎ (status ≡ memory)) × (new ≡ old)

-- bytes that are text have this fault, and others have one that says so
pub record BytesFault (status : ℕ) (section : Section) (found : Option FaultOut)
    (bytes : List ℕ) (old new : FaultOut) : Type 0 where
  pub text : IsUtf8 bytes → FaultShown status found old new
  pub none : (IsUtf8 bytes → ⊥) →
      (status ≡ ok) × (new ≡ fault_with section 0 (codes "utf8"))
