-- The trace of a text, or its first fault.
use Rattle.std.specs.Prelude.{ℕ, Bool, ◌+◌, ◌-◌, ◌^◌, nat_lt, nat_le, ◌==◌, min, List, [], ◌∷◌, ◌++◌, length, codes, sum_by, Result, Ok, Err, if◌then◌else◌}
use Rattle.std.specs.Str.{bytes_eq}
use Rattle.hmc_codes.specs.Limits.{most_cubes, most_memory, most_requests}
use Rattle.hmc_codes.specs.Shape.{ShapeFields, capacity_of}
use Rattle.hmc_text.specs.InTurn.{after_lines}
use Rattle.hmc_text.specs.Lines.{lines_of}
use Rattle.hmc_text.specs.Reading.{◌>>=◌, next_word}
use Rattle.hmc_text.specs.Words.{words_of, is_passed_over}
use Rattle.hmc_accesses.specs.declared.fault.TraceKind.{TraceKind}
use Rattle.hmc_accesses.specs.declared.fault.TraceKind.TheVariants as kinds
use Rattle.hmc_accesses.specs.Compiled.{CompiledFields, requests_of, compiled_of}
use Rattle.hmc_accesses.specs.Meaning.{shape_of, access_of}
use Rattle.hmc_accesses.specs.Trace.{Access, Trace}

abbrev pub nothing_yet : Trace
nothing_yet = record { cubes = []; accesses = [] }

-- the bytes of all cubes
abbrev pub total : List ShapeFields → ℕ
total cubes = sum_by capacity_of cubes

-- The shape of a cube, after which all cubes have at most so many bytes. No cube comes after the
-- first access, and there are at most eight.
unfoldable pub cube_of : (begun : Bool) → (cubes bytes : ℕ) → List (List ℕ) →
    Result ShapeFields TraceKind
cube_of begun cubes bytes words =
    if begun then Err kinds.Word
    else if nat_le most_cubes cubes then Err kinds.Cubes else do
      shape ← shape_of words
      if nat_le (bytes + capacity_of shape) most_memory then Ok shape else Err kinds.Capacity

-- whether there was an access
abbrev pub has_begun : Trace → Bool
has_begun trace = nat_lt 0 (length trace.accesses)

unfoldable pub cube_line : Trace → List (List ℕ) → Result Trace TraceKind
cube_line trace words = do
  shape ← cube_of (has_begun trace) (length trace.cubes) (total trace.cubes) words
  Ok (record trace { cubes = trace.cubes ++ shape ∷ [] })

-- a load or a store, after which there are at most so many requests
unfoldable pub add_access : Trace → Access → Result Trace TraceKind
add_access trace access =
    if nat_le (length (compiled_of trace).script + length (requests_of access)) most_requests
    then Ok (record trace { accesses = trace.accesses ++ access ∷ [] }) else Err kinds.TooMany

unfoldable pub access_line : Trace → List (List ℕ) → Result Trace TraceKind
access_line trace words = do
  access ← access_of trace.cubes words
  add_access trace access

-- a line that isn't passed over
unfoldable pub statement : Trace → List (List ℕ) → Result Trace TraceKind
statement trace words = do
  first ← next_word kinds.Words words
  if bytes_eq first.0 (codes "cube") then cube_line trace first.1 else access_line trace words

-- what the words of the line state is added
unfoldable pub after_line : Trace → List ℕ → Result Trace TraceKind
after_line trace line =
    if is_passed_over (words_of line) then Ok trace else statement trace (words_of line)

-- the trace has a cube, or else the fault is on the last line
unfoldable pub with_cubes : (last : ℕ) → Trace → Result Trace (ℕ × TraceKind)
with_cubes last trace =
    if length trace.cubes == 0 then Err (last, kinds.Cubes) else Ok trace

-- the trace, or the first fault: its line, and what is wrong there
unfoldable pub trace_of : List ℕ → Result Trace (ℕ × TraceKind)
trace_of text = do
  trace ← after_lines after_line 1 nothing_yet (lines_of text)
  with_cubes (min (length (lines_of text)) (2 ^ 32 - 1)) trace

-- the script of a text, or its first fault
unfoldable pub compiled_text : List ℕ → Result CompiledFields (ℕ × TraceKind)
compiled_text text = do
  trace ← trace_of text
  Ok (compiled_of trace)
