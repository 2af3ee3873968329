-- The lines of a text, one after another, up to the first fault.
use Rattle.std.specs.Prelude.{◌≡◌, ℕ, ◌+◌, ◌-◌, ◌^◌, min, List, [], ◌∷◌, Option, Some, None, IfSome, Result, Ok, Err}
use Rattle.std.specs.Borrow.{Bor}
use Rattle.hmc_text.specs.Reading.{◌>>=◌}
use Rattle.hmc_text.specs.declared.fault.TextFault.{TextFault}
use Rattle.hmc_text.specs.declared.fault.TextFault.TheVariants as faults

-- the fault is that of this line
abbrev pub at_line : {A K : Type 0} → ℕ → Result A K → Result A (ℕ × K)
at_line number (Ok x) = Ok x
at_line number (Err kind) = Err (number, kind)

-- lines are counted up to 4,294,967,295; later ones have that number too
abbrev pub next_number : ℕ → ℕ
next_number number = min (number + 1) (2 ^ 32 - 1)

-- the lines that are left, and the number of the first of them
pub record Numbered : Type 0 where
  pub number : ℕ
  pub lines : List (List ℕ)

-- a call returned the next line with its number, or none is left
abbrev pub IsNextLine : Numbered → Option (ℕ × Bor (List ℕ)) → Numbered → Type 0
IsNextLine old None new = (old.lines ≡ []) × (new ≡ old)
IsNextLine old (Some next) new =
    (old ≡ record { number = next.0; lines = next.1.now ∷ new.lines })
    × (new.number ≡ next_number next.0)

-- what the lines make of a state, one after another, the first of them with this number
unfoldable pub after_lines : {S K : Type 0} → (S → List ℕ → Result S K) → ℕ → S → List (List ℕ)
    → Result S (ℕ × K)
after_lines after_line number state [] = Ok state
after_lines after_line number state (line ∷ lines) = do
  next ← at_line number (after_line state line)
  after_lines after_line (next_number number) next lines

-- reading ends at the fault that the error reports, if it reports one
abbrev pub ReportsBy : {Y E F : Type 0} → (E → Option F) → E → Result Y F → Type 0
ReportsBy fault_of e read = IfSome (fault_of e) (λ fault. read ≡ Err fault)

-- a call returned what reading gives, or an error that reports no fault
abbrev pub AnswersBy : {X Y E F : Type 0} → (E → Option F) → (X → Y) → Result X E → Result Y F
    → Type 0
AnswersBy fault_of view (Ok x) read = read ≡ Ok (view x)
AnswersBy fault_of view (Err e) read = ReportsBy fault_of e read

-- the fault that an error reports: none where it is out of memory
abbrev pub fault_of : {K : Type 0} → TextFault K → Option (ℕ × K)
fault_of faults.Memory = None
fault_of (faults.Fault line kind) = Some (line, kind)

-- a call returned what reading gives, or was out of memory
abbrev pub Answers : {X Y K : Type 0} → (X → Y) → Result X (TextFault K) → Result Y (ℕ × K) → Type 0
Answers view result read = AnswersBy fault_of view result read
