-- The log of a text, or its first fault.
use Rattle.std.specs.Prelude.{ℕ, ◌-◌, nat_lt, nat_le, ◌==◌, ◌&&◌, ◌||◌, Bool, true, List, [], ◌∷◌, ◌++◌, length, reverse, codes, is_some, Option, Some, None, Result, Ok, Err, if◌then◌else◌}
use Rattle.std.specs.List.{slice_get}
use Rattle.std.specs.Str.{bytes_eq}
use Rattle.hmc_codes.specs.Limits.{most_requests}
use Rattle.hmc_codes.specs.Shape.{ShapeFields}
use Rattle.hmc_codes.specs.declared.answer.Answer.{Answer}
use Rattle.hmc_codes.specs.declared.command.Command.{Command}
use Rattle.hmc_text.specs.InTurn.{after_lines, next_number}
use Rattle.hmc_text.specs.Reading.{◌>>=◌, next_word}
use Rattle.hmc_text.specs.Words.{words_of}
use Rattle.hmc_entries.specs.declared.entry.Entry.{Entry}
use Rattle.hmc_entries.specs.declared.entry.Entry.TheVariants.{Gave, Took, Retired}
use Rattle.hmc_log.specs.declared.end_lines.MemoryLine.{MemoryLine}
use Rattle.hmc_log.specs.declared.end_lines.RegisterLine.{RegisterLine}
use Rattle.hmc_log.specs.declared.fault.LogKind.{LogKind}
use Rattle.hmc_log.specs.declared.fault.LogKind.TheVariants as kinds
use Rattle.hmc_log.specs.declared.given.Given.{Given}
use Rattle.hmc_log.specs.declared.given.Taken.{Taken}
use Rattle.hmc_log.specs.Answers.{is_answer_to}
use Rattle.hmc_log.specs.Before.{out_under, is_out, given_by, is_retired}
use Rattle.hmc_log.specs.Lines.{lines_in}
use Rattle.hmc_log.specs.Log.{LogFields}
use Rattle.hmc_log.specs.Meaning.{given_of, taken_of, slot_of, memory_of, register_of, drained_of}

-- what some lines make: the entries, the newest first; the lines of the end, the first of them
-- first; what the last line says; and how many lines there were
pub record Progress : Type 0 where
  pub past : List Entry
  pub memory : List MemoryLine
  pub registers : List RegisterLine
  pub drained : Option Bool
  pub lines : ℕ

-- before the first line
abbrev pub nothing_yet : Progress
nothing_yet = record { past = []; memory = []; registers = []; drained = None; lines = 0 }

-- whether there was a line of memory or of a register
abbrev pub at_end : Progress → Bool
at_end progress = nat_lt 0 (length progress.memory) || nat_lt 0 (length progress.registers)

-- ---- a line against those before it

-- a host gives at most so many requests, and none under a tag that is out
abbrev pub may_give : List Entry → (host : ℕ) → Option ℕ → Result (Unit {0}) LogKind
may_give past host tag =
    if nat_le most_requests (given_by host past) then Err kinds.TooMany
    else if is_out host tag past then Err kinds.Tag else Ok tt

-- an answer is that of a response to the request that is out under its tag
abbrev pub answers_to : Option Command → Answer → Result (Unit {0}) LogKind
answers_to None answer = Err kinds.Tag
answers_to (Some command) answer =
    if is_answer_to command answer then Ok tt else Err kinds.Answer

-- a logic unit is retired once
abbrev pub may_retire : List Entry → (slot : ℕ) → Result (Unit {0}) LogKind
may_retire past slot = if is_retired slot past then Err kinds.Slot else Ok tt

-- a block comes after that of the line before: in a later cube, or at a higher address
abbrev pub comes_after : Option MemoryLine → MemoryLine → Bool
comes_after None block = true
comes_after (Some last) block =
    nat_lt last.cube block.cube || (last.cube == block.cube && nat_lt last.address block.address)

-- the same of a register
abbrev pub follows : Option RegisterLine → RegisterLine → Bool
follows None register = true
follows (Some last) register =
    nat_lt last.cube register.cube
    || (last.cube == register.cube && nat_lt last.number register.number)

-- blocks come in order, and before all registers
abbrev pub may_have_block : Progress → MemoryLine → Bool
may_have_block progress block =
    length progress.registers == 0
    && comes_after (slice_get progress.memory (length progress.memory - 1)) block

abbrev pub may_have_register : Progress → RegisterLine → Bool
may_have_register progress register =
    follows (slice_get progress.registers (length progress.registers - 1)) register

-- ---- what a line adds

abbrev pub add_entry : Progress → Entry → Progress
add_entry progress entry = record progress { past = entry ∷ progress.past }

unfoldable pub add_given : Progress → Given → Result Progress LogKind
add_given progress given = do
  may ← may_give progress.past given.host given.tag
  Ok (add_entry progress (Gave given.host given.tag given.poisoned given.request))

unfoldable pub add_taken : Progress → Taken → Result Progress LogKind
add_taken progress taken = do
  may ← answers_to (out_under taken.host taken.tag progress.past) taken.answer
  Ok (add_entry progress (Took taken.host taken.tag taken.answer))

unfoldable pub add_retired : Progress → (slot : ℕ) → Result Progress LogKind
add_retired progress slot = do
  may ← may_retire progress.past slot
  Ok (add_entry progress (Retired slot))

unfoldable pub add_block : Progress → MemoryLine → Result Progress LogKind
add_block progress block =
    if may_have_block progress block
    then Ok (record progress { memory = progress.memory ++ block ∷ [] }) else Err kinds.Memory

unfoldable pub add_register : Progress → RegisterLine → Result Progress LogKind
add_register progress register =
    if may_have_register progress register
    then Ok (record progress { registers = progress.registers ++ register ∷ [] })
    else Err kinds.Register

-- ---- the lines by their first words

unfoldable pub gave_line : (hosts cubes : ℕ) → Progress → List ℕ → List (List ℕ) →
    Result Progress LogKind
gave_line hosts cubes progress text words = do
  given ← given_of hosts cubes text words
  add_given progress given

unfoldable pub took_line : (hosts : ℕ) → Progress → List ℕ → List (List ℕ) →
    Result Progress LogKind
took_line hosts progress text words = do
  taken ← taken_of hosts text words
  add_taken progress taken

unfoldable pub retired_line : Progress → List ℕ → List (List ℕ) → Result Progress LogKind
retired_line progress text words = do
  slot ← slot_of text words
  add_retired progress slot

unfoldable pub memory_line : List ShapeFields → Progress → List ℕ → List (List ℕ) →
    Result Progress LogKind
memory_line shapes progress text words = do
  block ← memory_of shapes text words
  add_block progress block

unfoldable pub register_line : (cubes : ℕ) → Progress → List ℕ → List (List ℕ) →
    Result Progress LogKind
register_line cubes progress text words = do
  register ← register_of cubes text words
  add_register progress register

unfoldable pub state_line : Progress → List ℕ → List (List ℕ) → Result Progress LogKind
state_line progress text words = do
  drained ← drained_of text words
  Ok (record progress { drained = Some drained })

-- no entry comes after the first line of the end
unfoldable pub entry_line : (hosts cubes : ℕ) → Progress → List ℕ → (word : List ℕ) →
    List (List ℕ) → Result Progress LogKind
entry_line hosts cubes progress text word words =
    if at_end progress then Err kinds.End
    else if bytes_eq word (codes "gave") then gave_line hosts cubes progress text words
    else if bytes_eq word (codes "took") then took_line hosts progress text words
    else retired_line progress text words

abbrev pub is_entry_word : List ℕ → Bool
is_entry_word word =
    bytes_eq word (codes "gave") || bytes_eq word (codes "took") || bytes_eq word (codes "retired")

unfoldable pub line_with : (hosts : ℕ) → List ShapeFields → Progress → List ℕ →
    (word : List ℕ) → List (List ℕ) → Result Progress LogKind
line_with hosts shapes progress text word words =
    if is_entry_word word then entry_line hosts (length shapes) progress text word words
    else if bytes_eq word (codes "memory") then memory_line shapes progress text words
    else if bytes_eq word (codes "register")
    then register_line (length shapes) progress text words
    else if bytes_eq word (codes "state") then state_line progress text words
    else Err kinds.Word

unfoldable pub statement : (hosts : ℕ) → List ShapeFields → Progress → List ℕ →
    Result Progress LogKind
statement hosts shapes progress text = do
  first ← next_word kinds.Word (words_of text)
  line_with hosts shapes progress text first.0 first.1

-- no line comes after the last one of an end
unfoldable pub after_line : (hosts : ℕ) → List ShapeFields → Progress → List ℕ →
    Result Progress LogKind
after_line hosts shapes progress text =
    if is_some progress.drained then Err kinds.End else do
      next ← statement hosts shapes progress text
      Ok (record next { lines = next_number next.lines })

-- ---- the whole text

-- the log that the lines make; an end has its last line
abbrev pub with_end : Progress → Option Bool → Result LogFields (ℕ × LogKind)
with_end progress (Some drained) = Ok (record {
  entries = reverse progress.past;
  ending = Some (record {
    memory = progress.memory;
    registers = progress.registers;
    drained = drained;
  });
})
with_end progress None =
    if at_end progress then Err (progress.lines, kinds.End)
    else Ok (record { entries = reverse progress.past; ending = None })

-- the log, or the first fault: its line, and what is wrong there
unfoldable pub log_of : (hosts : ℕ) → List ShapeFields → List ℕ → Result LogFields (ℕ × LogKind)
log_of hosts shapes text = do
  progress ← after_lines (after_line hosts shapes) 1 nothing_yet (lines_in text)
  with_end progress progress.drained
