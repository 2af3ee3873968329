-- What a line of a log states by itself, from left to right, after its first word.
use Rattle.std.specs.Prelude.{ℕ, ◌^◌, ◌%◌, ◌+◌, Bool, true, false, not, ◌==◌, ◌&&◌, nat_lt, nat_le, List, length, codes, slice_index_or, Option, Some, None, option_map, Result, Ok, Err, if◌then◌else◌}
use Rattle.std.specs.Result.{result_ok}
use Rattle.std.specs.Str.{bytes_eq}
use Rattle.hex.specs.Hex.{decode_sized}
use Rattle.hmc_codes.specs.Limits.{tags}
use Rattle.hmc_codes.specs.Shape.{ShapeFields, capacity_of}
use Rattle.hmc_codes.specs.Request.{RequestFields}
use Rattle.hmc_text.specs.Number.{below, number_of}
use Rattle.hmc_text.specs.Reading as reading
use Rattle.hmc_text.specs.Reading.{◌>>=◌, or_fault, next_word, no_word}
use Rattle.hmc_report.specs.Lines.{state_line}
use Rattle.hmc_entries.specs.declared.entry.Entry.{Entry}
use Rattle.hmc_entries.specs.declared.entry.Entry.TheVariants.{Gave, Took}
use Rattle.hmc_entries.specs.ParseEntry.{gave_in, took_in, retired_in}
use Rattle.hmc_entries.specs.ParseWords.{value_of}
use Rattle.hmc_log.specs.declared.end_lines.MemoryLine.{MemoryLine}
use Rattle.hmc_log.specs.declared.end_lines.RegisterLine.{RegisterLine}
use Rattle.hmc_log.specs.declared.given.Given.{Given}
use Rattle.hmc_log.specs.declared.given.Taken.{Taken}
use Rattle.hmc_log.specs.declared.fault.LogKind.{LogKind}
use Rattle.hmc_log.specs.declared.fault.LogKind.TheVariants as kinds
use Rattle.hmc_log.specs.Answers.{takes_tag}
use Rattle.hmc_log.specs.Lines.{memory_line, register_line, is_line, written}

-- a number below the limit, or else this kind of fault
abbrev pub number_word : LogKind → ℕ → List (List ℕ) → Result (ℕ × List (List ℕ)) LogKind
number_word kind limit words = reading.number_word kinds.Words kind kind limit words

-- ---- requests and answers

-- a tag, or a dash for none
unfoldable pub tag_of : List ℕ → Option (Option ℕ)
tag_of word =
    if bytes_eq word (codes "-") then Some None
    else option_map Some (below tags (number_of word))

unfoldable pub tag_word : List (List ℕ) → Result (Option ℕ × List (List ℕ)) LogKind
tag_word words = do
  first ← next_word kinds.Words words
  tag ← or_fault kinds.Tag (tag_of first.0)
  Ok (tag, first.1)

-- the words are too few or too many, or else they have this fault
unfoldable pub wrong : LogKind → (least most : ℕ) → List (List ℕ) → LogKind
wrong kind least most words =
    if nat_le least (length words) && not (nat_le (most + 1) (length words)) then kind
    else kinds.Words

-- a request has a tag exactly where it takes one
abbrev pub is_due : Option ℕ → (takes : Bool) → Bool
is_due None takes = not takes
is_due (Some tag) takes = takes

-- the request of a host under this tag, or without one, to one of so many cubes
abbrev pub given_as : (cubes host : ℕ) → Option ℕ → (poisoned : Bool) → RequestFields →
    Result Given LogKind
given_as cubes host tag poisoned request =
    if not (nat_lt request.cube cubes) then Err kinds.Request
    else if is_due tag (takes_tag poisoned request.command)
    then Ok (record { host = host; tag = tag; poisoned = poisoned; request = request })
    else Err kinds.Tag

-- the same of an entry; a request has 3 to 5 words, the word of poison among them
abbrev pub given_by_entry : (cubes host : ℕ) → Option ℕ → (words : List (List ℕ)) →
    Option Entry → Result Given LogKind
given_by_entry cubes host tag words (Some (Gave h t poisoned request)) =
    given_as cubes host tag poisoned request
given_by_entry cubes host tag words _ = Err (wrong kinds.Request 3 5 words)

-- a host, a tag or a dash, and a request
unfoldable pub given_of : (hosts cubes : ℕ) → (text : List ℕ) → List (List ℕ) →
    Result Given LogKind
given_of hosts cubes text words = do
  host ← number_word kinds.Host hosts words
  tag ← tag_word host.1
  given_by_entry cubes host.0 tag.0 tag.1 (written text (gave_in words))

-- the answer that a host took; an answer has 1 to 3 words
abbrev pub taken_by_entry : (host tag : ℕ) → (words : List (List ℕ)) → Option Entry →
    Result Taken LogKind
taken_by_entry host tag words (Some (Took h t answer)) =
    Ok (record { host = host; tag = tag; answer = answer })
taken_by_entry host tag words _ = Err (wrong kinds.Answer 1 3 words)

-- a host, a tag and an answer
unfoldable pub taken_of : (hosts : ℕ) → (text : List ℕ) → List (List ℕ) → Result Taken LogKind
taken_of hosts text words = do
  host ← number_word kinds.Host hosts words
  tag ← number_word kinds.Tag tags host.1
  taken_by_entry host.0 tag.0 tag.1 (written text (took_in words))

-- the slot of a logic unit, of eight
unfoldable pub slot_of : (text : List ℕ) → List (List ℕ) → Result ℕ LogKind
slot_of text words = do
  slot ← number_word kinds.Slot 8 words
  end ← no_word kinds.Words slot.1
  entry ← or_fault kinds.Slot (written text (retired_in words))
  Ok slot.0

-- ---- the end

-- the shape of a cube that isn't there
abbrev pub no_shape : ShapeFields
no_shape = record { vault_bits = 0; bank_bits = 0; rows = 0; block = 256 }

-- sixteen bytes as 32 digits
unfoldable pub block_of : List ℕ → Option (List ℕ)
block_of word = result_ok (decode_sized word 16)

-- the block is below the capacity of its cube, and the text is its line
unfoldable pub is_memory : List ShapeFields → (text : List ℕ) → MemoryLine → Bool
is_memory shapes text block =
    block.address % 16 == 0
    && nat_lt block.address (capacity_of (slice_index_or shapes block.cube no_shape))
    && is_line text (memory_line block)

-- a cube, an address and sixteen bytes
unfoldable pub memory_of : List ShapeFields → (text : List ℕ) → List (List ℕ) →
    Result MemoryLine LogKind
memory_of shapes text words = do
  cube ← number_word kinds.Memory (length shapes) words
  address ← number_word kinds.Memory (2 ^ 34) cube.1
  digits ← next_word kinds.Words address.1
  bytes ← or_fault kinds.Memory (block_of digits.0)
  end ← no_word kinds.Words digits.1
  let block : MemoryLine = record { cube = cube.0; address = address.0; bytes = bytes } in
      if is_memory shapes text block then Ok block else Err kinds.Memory

-- the register can be written, and the text is its line
unfoldable pub is_register : (text : List ℕ) → RegisterLine → Bool
is_register text register =
    nat_le 4 register.number && is_line text (register_line register)

-- a cube, a register and its value
unfoldable pub register_of : (cubes : ℕ) → (text : List ℕ) → List (List ℕ) →
    Result RegisterLine LogKind
register_of cubes text words = do
  cube ← number_word kinds.Register cubes words
  number ← number_word kinds.Register 16 cube.1
  digits ← next_word kinds.Words number.1
  value ← or_fault kinds.Register (value_of digits.0)
  end ← no_word kinds.Words digits.1
  let register : RegisterLine = record { cube = cube.0; number = number.0; value = value } in
      if is_register text register then Ok register else Err kinds.Register

-- whether the network had drained
unfoldable pub drained_of : (text : List ℕ) → List (List ℕ) → Result Bool LogKind
drained_of text words = do
  first ← next_word kinds.Words words
  end ← no_word kinds.Words first.1
  if is_line text (state_line true) then Ok true
      else if is_line text (state_line false) then Ok false else Err kinds.End
