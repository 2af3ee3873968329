-- The lines of a log in turn.
use Rattle.std.proofs.Common.{◌≡◌, ◌∙◌, ℕ, Some, Result, Ok, List, [], ◌∷◌, length, refl, sym, ap, arith}
use Rattle.std.specs.Borrow.{Bor}
use Rattle.hmc_text.proofs.InTurnLemmas as turns
use Rattle.hmc_text.specs.InTurn.{after_lines, at_line, next_number, Numbered, IsNextLine, ReportsBy, fault_of}
use Rattle.hmc_text.specs.declared.fault.TextFault.{TextFault}
use Rattle.hmc_log.specs.Lines.{lines_in}
use Rattle.hmc_log.proofs.Cutting.{no_lines}

-- the lines of a text, the first of them with this number
abbrev numbered : ℕ → List ℕ → Numbered
numbered number text = record { number = number; lines = lines_in text }

is_next : (number : ℕ) (left rest : List ℕ) (line : Bor (List ℕ)) →
    lines_in left ≡ line.now ∷ lines_in rest →
    IsNextLine (numbered number left) (Some (number, line)) (numbered (next_number number) rest)
is_next number left rest line is =
    let made : List (List ℕ) → Numbered = λ l. record { number = number; lines = l } in
    (ap made is, refl)

-- a good line
pub line_good : {S K : Type 0} (after_line : S → List ℕ → Result S K) (number next : ℕ)
    (left rest : List ℕ) (line : Bor (List ℕ)) (state after : S) (all : Result S (ℕ × K)) →
    lines_in left ≡ line.now ∷ lines_in rest → next ≡ next_number number →
    at_line number (after_line state line.now) ≡ Ok after →
    after_lines after_line number state (lines_in left) ≡ all →
    after_lines after_line next after (lines_in rest) ≡ all
line_good after_line number next left rest line state after all is follows good so_far =
    ap (λ n. after_lines after_line n after (lines_in rest)) follows
    ∙ turns.next_good after_line (numbered number left) (numbered (next_number number) rest)
    (number, line) state after (is_next number left rest line is) good ∙ so_far

-- the first fault
pub line_bad : {S K : Type 0} (after_line : S → List ℕ → Result S K) (number : ℕ)
    (left rest : List ℕ) (line : Bor (List ℕ)) (state : S) (all : Result S (ℕ × K))
    (fault : TextFault K) → lines_in left ≡ line.now ∷ lines_in rest →
    ReportsBy fault_of fault (at_line number (after_line state line.now)) →
    after_lines after_line number state (lines_in left) ≡ all → ReportsBy fault_of fault all
line_bad after_line number left rest line state all fault is read so_far =
    turns.first_fault after_line (numbered number left) (numbered (next_number number) rest)
    (number, line) state all fault (is_next number left rest line is) read so_far

nothing_left : (left : List ℕ) → length left ≡ 0 → lines_in left ≡ []
nothing_left [] none = no_lines
nothing_left (b ∷ bs) none = absurd (omega (arith, none))

-- no line is left
pub lines_end : {S K : Type 0} (after_line : S → List ℕ → Result S K) (number : ℕ)
    (left : List ℕ) (state : S) (all : Result S (ℕ × K)) → length left ≡ 0 →
    after_lines after_line number state (lines_in left) ≡ all → all ≡ Ok state
lines_end after_line number left state all none so_far =
    sym so_far ∙ turns.none_left after_line (numbered number left) state (nothing_left left none)
