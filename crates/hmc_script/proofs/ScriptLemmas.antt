-- The lines of a script in turn.
use Rattle.std.proofs.Common.{◌≡◌, ◌∙◌, ℕ, true, Some, Result, Ok, List, [], slice_set, refl, sym, ap}
use Rattle.std.specs.Borrow.{Bor}
use Rattle.hmc_text.proofs.InTurnLemmas as turns
use Rattle.hmc_text.proofs.InTurnLemmas.{after_left}
use Rattle.hmc_text.specs.InTurn.{after_lines, at_line, Numbered, IsNextLine, ReportsBy, fault_of}
use Rattle.hmc_text.specs.Lines.{lines_of}
use Rattle.hmc_text.specs.Reading.{◌>>=◌}
use Rattle.hmc_text.specs.declared.fault.TextFault.{TextFault}
use Rattle.hmc_script.specs.declared.fault.ScriptKind.{ScriptKind}
use Rattle.hmc_text.specs.Words.{words_of}
use Rattle.hmc_script.specs.declared.meaning.Meaning.TheVariants.{Nothing, Fence}
use Rattle.hmc_script.specs.Meaning.{meaning_of}
use Rattle.hmc_script.specs.Script.{Progress, nothing_yet, after_meaning, after_line, script_of}

-- a line that states nothing
pub after_nothing : (hosts cubes number : ℕ) (progress : Progress) (line : List ℕ) → Ok Nothing ≡ meaning_of hosts cubes (words_of line) → at_line number (after_line hosts cubes progress line) ≡ Ok progress
unfolding after_line after_meaning
after_nothing hosts cubes number progress line is = rw (← is) refl

-- a fence
pub after_fence : (hosts cubes number host at : ℕ) (progress : Progress) (line : List ℕ) → Ok (Fence host) ≡ meaning_of hosts cubes (words_of line) → at ≡ host → at_line number (after_line hosts cubes progress line) ≡ Ok (record progress { fences = slice_set progress.fences at true })
unfolding after_line after_meaning
after_fence hosts cubes number host at progress line is same = rw (← is, same) refl

-- no line is left
pub script_of-ok : (hosts cubes : ℕ) (text : List ℕ) (left : Numbered) (progress : Progress) → left.lines ≡ [] → after_left (after_line hosts cubes) progress left ≡ after_lines (after_line hosts cubes) 1 nothing_yet (lines_of text) → script_of hosts cubes text ≡ Ok progress.items
unfolding script_of
script_of-ok hosts cubes text left progress none is =
    ap (λ (r : Result Progress (ℕ × ScriptKind)). r >>= (λ q. Ok q.items)) (sym is ∙ turns.none_left (after_line hosts cubes) left progress none)

-- the fault of the next line is that of the script, if no line before it has one
pub first_fault : (hosts cubes : ℕ) (text : List ℕ) (left rest : Numbered) (line : ℕ × Bor (List ℕ)) (progress : Progress) (fault : TextFault ScriptKind) → IsNextLine left (Some line) rest →
    ReportsBy fault_of fault (at_line line.0 (after_line hosts cubes progress line.1.now)) →
    after_left (after_line hosts cubes) progress left ≡ after_lines (after_line hosts cubes) 1 nothing_yet (lines_of text) →
    ReportsBy fault_of fault (script_of hosts cubes text)
unfolding script_of
first_fault hosts cubes text left rest line progress fault is read so_far =
    turns.fault_made (λ (p : Progress). p.items) _ fault (turns.first_fault (after_line hosts cubes) left rest line progress _ fault is read so_far)
