-- Steps that may fail: the faults of a case, and rows that are read in turn.
use Rattle.std.specs.Prelude.{◌≡◌, ℕ, Bool, true, false, List, [], ◌∷◌, ◌++◌, Option, Some, None, Result, Ok, Err}
use Rattle.toml.specs.Data.{Data, Items, no_items, item}
use Rattle.hmc_text.specs.InTurn.{AnswersBy, ReportsBy}
use Rattle.hmc_text.specs.Reading.{◌>>=◌}
use Rattle.hmc_case.specs.declared.fault.CaseKind.{CaseKind}
use Rattle.hmc_case.specs.declared.fault.CaseFault.{CaseFault}
use Rattle.hmc_case.specs.declared.fault.CaseFault.TheVariants as faults
use Rattle.hmc_case.specs.declared.fault.Section.{Section}

-- the test passes, or else this fault
abbrev pub or_refuse : {E : Type 0} → E → Bool → Result (Unit {0}) E
or_refuse fault true = Ok tt
or_refuse fault false = Err fault

-- a fault of a case: the section, the line there, and what is wrong
pub record Fault : Type 0 where
  pub section : Section
  pub line : ℕ
  pub kind : CaseKind

-- the fault is that of this line of this section
abbrev pub in_section : {A : Type 0} → Section → ℕ → Result A CaseKind → Result A Fault
in_section section line (Ok x) = Ok x
in_section section line (Err kind) = Err (record { section = section; line = line; kind = kind })

-- a row for each item, read in turn with those before it
unfoldable pub in_turn : {A : Type 0} → (List A → Data → Result A Fault) → List A → Items
    → Result (List A) Fault
in_turn read rows no_items = Ok rows
in_turn read rows (item value values) = do
  row ← read rows value
  in_turn read (rows ++ row ∷ []) values

-- the fault that an error reports: none where it is out of memory
abbrev pub fault_of : CaseFault → Option Fault
fault_of faults.Memory = None
fault_of (faults.Bad section line kind) =
    Some (record { section = section; line = line; kind = kind })

-- a call returned what reading gives, or was out of memory
abbrev pub Answers : {X Y : Type 0} → (X → Y) → Result X CaseFault → Result Y Fault → Type 0
Answers view result read = AnswersBy fault_of view result read

-- a call appended the row that reading gives, or was out of memory
abbrev pub Gains : {A : Type 0} → List A → List A → Result (Unit {0}) CaseFault → Result A Fault
    → Type 0
Gains {A} old new (Ok done) read = (row : A) × (read ≡ Ok row) × (new ≡ old ++ row ∷ [])
Gains old new (Err e) read = ReportsBy fault_of e read
