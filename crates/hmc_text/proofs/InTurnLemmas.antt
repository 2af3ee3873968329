-- The lines of a text in turn.
use Rattle.std.proofs.Common.{◌≡◌, ◌∙◌, ℕ, Some, Result, Ok, List, [], ◌∷◌, sym, ap}
use Rattle.std.specs.Borrow.{Bor}
use Rattle.hmc_text.specs.Reading.{◌>>=◌}
use Rattle.hmc_text.specs.InTurn.{after_lines, at_line, next_number, Numbered, IsNextLine, ReportsBy, fault_of}
use Rattle.hmc_text.specs.declared.fault.TextFault.{TextFault}
use Rattle.hmc_text.specs.declared.fault.TextFault.TheVariants as faults

-- a good line
pub after_lines-ok : {S K : Type 0} (after_line : S → List ℕ → Result S K) (number : ℕ) (state next : S) (line : List ℕ) (lines : List (List ℕ)) → at_line number (after_line state line) ≡ Ok next → after_lines after_line number state (line ∷ lines) ≡ after_lines after_line (next_number number) next lines
unfolding after_lines
after_lines-ok after_line number state next line lines is =
    ap (λ r. r >>= (λ q. after_lines after_line (next_number number) q lines)) is

-- what the lines that are left make of a state
abbrev pub after_left : {S K : Type 0} → (S → List ℕ → Result S K) → S → Numbered → Result S (ℕ × K)
after_left after_line state left = after_lines after_line left.number state left.lines

-- no line is left
pub none_left : {S K : Type 0} (after_line : S → List ℕ → Result S K) (left : Numbered) (state : S) → left.lines ≡ [] → after_left after_line state left ≡ Ok state
unfolding after_lines
none_left after_line left state none = ap (after_lines after_line left.number state) none

-- the next line is good
pub next_good : {S K : Type 0} (after_line : S → List ℕ → Result S K) (left rest : Numbered) (line : ℕ × Bor (List ℕ)) (state next : S) → IsNextLine left (Some line) rest →
    at_line line.0 (after_line state line.1.now) ≡ Ok next → after_left after_line next rest ≡ after_left after_line state left
next_good after_line left rest line state next is good =
    rw (is.0, is.1) (sym (after_lines-ok after_line line.0 state next line.1.now rest.lines good))

-- the fault of the next line is that of the text, if no line before it has one
pub first_fault : {S K : Type 0} (after_line : S → List ℕ → Result S K) (left rest : Numbered) (line : ℕ × Bor (List ℕ)) (state : S) (whole : Result S (ℕ × K)) (fault : TextFault K) → IsNextLine left (Some line) rest →
    ReportsBy fault_of fault (at_line line.0 (after_line state line.1.now)) → after_left after_line state left ≡ whole → ReportsBy fault_of fault whole
unfolding after_lines
first_fault after_line left rest line state whole faults.Memory is read so_far = tt
first_fault after_line left rest line state whole (faults.Fault at kind) is read so_far =
    sym so_far ∙ rw is.0 (ap (λ r. r >>= (λ q. after_lines after_line (next_number line.0) q rest.lines)) read)

-- the same where a value is made of what the lines gave
pub fault_made : {S T K : Type 0} (made : S → T) (whole : Result S (ℕ × K)) (fault : TextFault K) → ReportsBy fault_of fault whole → ReportsBy fault_of fault (whole >>= (λ q. Ok (made q)))
fault_made made whole faults.Memory read = tt
fault_made made whole (faults.Fault at kind) read = ap (λ r. r >>= (λ q. Ok (made q))) read
