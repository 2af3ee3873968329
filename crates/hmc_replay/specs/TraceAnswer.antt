-- What `trace` answers: the script that performs the loads and stores of a trace.
use Rattle.std.specs.Prelude.{◌≡◌, ◌⊎◌, ℕ, true, false, List, map, Ok, Err}
use Rattle.std.specs.Str.{is_utf8}
use Rattle.hmc_script.specs.Items.{ItemFields}
use Rattle.hmc_script.specs.Text.{item_text}
use Rattle.hmc_accesses.specs.Compiled.{compiled_of}
use Rattle.hmc_trace.specs.Line.{bad_line, no_text_line}
use Rattle.hmc_accesses.specs.Text.{trace_of}
use Rattle.hmc_accesses.specs.Trace.{Trace}
use Rattle.hmc_accesses.specs.declared.fault.TraceKind.{TraceKind}
use Rattle.hmc_replay.specs.Answered.{IsLine}

-- the input is no UTF-8 text
pub record IsNoText (input : List ℕ) (status : ℕ) (lines : List (List ℕ)) : Type 0 where
  pub no_text : is_utf8 input ≡ false
  pub refusal : IsLine 6 no_text_line status lines

-- a text is no trace: the line of its first fault is due
pub record IsBadTrace (text : List ℕ) (status : ℕ) (lines : List (List ℕ)) : Type 0 where
  pub fault : ℕ × TraceKind
  pub is_fault : trace_of text ≡ Err fault
  pub refusal : IsLine 6 (bad_line fault) status lines

-- a script is due, printed, each request as a line of its own
pub record IsScript (script : List ItemFields) (status : ℕ) (lines : List (List ℕ)) : Type 0 where
  pub status_is : status ≡ 0
  pub lines_are : lines ≡ map item_text script

-- a text is a trace: its script is due
pub record IsPrinted (text : List ℕ) (status : ℕ) (lines : List (List ℕ)) : Type 0 where
  pub trace : Trace
  pub is_trace : trace_of text ≡ Ok trace
  pub script : IsScript (compiled_of trace).script status lines

-- this status and these lines are due for a text
abbrev pub IsTextAnswer : (text : List ℕ) → (status : ℕ) → List (List ℕ) → Type 0
IsTextAnswer text status lines = IsBadTrace text status lines ⊎ IsPrinted text status lines

-- and for an input
abbrev pub IsTraceAnswer : (input : List ℕ) → (status : ℕ) → List (List ℕ) → Type 0
IsTraceAnswer input status lines =
    IsNoText input status lines ⊎ ((is_utf8 input ≡ true) × IsTextAnswer input status lines)
