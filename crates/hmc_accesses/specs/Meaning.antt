-- What a line of a trace states, word by word from left to right.
use Rattle.std.specs.Prelude.{ℕ, Bool, true, false, ◌+◌, nat_le, nat_lt, ◌==◌, ◌||◌, List, [], length, codes, Option, Some, None, slice_index_or, Result, Ok, Err, if◌then◌else◌}
use Rattle.std.specs.Result.{result_ok}
use Rattle.std.specs.Str.{bytes_eq}
use Rattle.hex.specs.Hex.{decode_of}
use Rattle.hmc_codes.specs.Shape.{ShapeFields, capacity_of}
use Rattle.hmc_text.specs.Number.{number_of}
use Rattle.hmc_text.specs.Reading as reading
use Rattle.hmc_text.specs.Reading.{◌>>=◌, or_fault, next_word, no_word}
use Rattle.hmc_accesses.specs.declared.fault.TraceKind.{TraceKind}
use Rattle.hmc_accesses.specs.declared.fault.TraceKind.TheVariants as kinds
use Rattle.hmc_accesses.specs.Trace.{Access}
use Rattle.hmc_accesses.specs.Trace.Access.{load, store}

-- a number below the limit, or else this kind of fault
abbrev pub number_word : TraceKind → ℕ → List (List ℕ) → Result (ℕ × List (List ℕ)) TraceKind
number_word kind limit words = reading.number_word kinds.Words kinds.Number kind limit words

-- any number
unfoldable pub any_number : List (List ℕ) → Result (ℕ × List (List ℕ)) TraceKind
any_number words = do
  first ← next_word kinds.Words words
  number ← or_fault kinds.Number (number_of first.0)
  Ok (number, first.1)

-- the bytes of pairs of hexadecimal digits, in either case
abbrev pub bytes_in : List ℕ → Option (List ℕ)
bytes_in digits = result_ok (decode_of digits)

-- the same, where they are such digits
abbrev pub bytes_or_none : Option (List ℕ) → List ℕ
bytes_or_none None = []
bytes_or_none (Some bytes) = bytes

abbrev pub bytes_of_digits : List ℕ → List ℕ
bytes_of_digits digits = bytes_or_none (bytes_in digits)

-- the bytes of a word
unfoldable pub hex_word : List (List ℕ) → Result (List ℕ × List (List ℕ)) TraceKind
hex_word words = do
  first ← next_word kinds.Words words
  bytes ← or_fault kinds.Hex (bytes_in first.0)
  Ok (bytes, first.1)

-- ---- cubes

-- one number or more, up to the limit
unfoldable pub rows_word : List (List ℕ) → Result (ℕ × List (List ℕ)) TraceKind
rows_word words = do
  rows ← number_word kinds.Range 1025 words
  if rows.0 == 0 then Err kinds.Range else Ok rows

-- a cube's shape; its blocks have 256 bytes
unfoldable pub shape_of : List (List ℕ) → Result ShapeFields TraceKind
shape_of words = do
  vault_bits ← number_word kinds.Range 6 words
  bank_bits ← number_word kinds.Range 5 vault_bits.1
  rows ← rows_word bank_bits.1
  end ← no_word kinds.Words rows.1
  Ok (record {
    vault_bits = vault_bits.0;
    bank_bits = bank_bits.0;
    rows = rows.0;
    block = 256;
  })

-- ---- loads and stores

-- 1 to 4,096 bytes, wholly below a capacity
unfoldable pub inside : (capacity place size : ℕ) → Result (Unit {0}) TraceKind
inside capacity place size =
    if size == 0 || nat_lt 4096 size then Err kinds.Length
    else if nat_le (place + size) capacity then Ok tt else Err kinds.Range

unfoldable pub load_of : (cube capacity : ℕ) → List (List ℕ) → Result Access TraceKind
load_of cube capacity words = do
  place ← any_number words
  size ← any_number place.1
  fits ← inside capacity place.0 size.0
  end ← no_word kinds.Words size.1
  Ok (load cube place.0 size.0)

unfoldable pub store_of : (cube capacity : ℕ) → List (List ℕ) → Result Access TraceKind
store_of cube capacity words = do
  place ← any_number words
  bytes ← hex_word place.1
  fits ← inside capacity place.0 (length bytes.0)
  end ← no_word kinds.Words bytes.1
  Ok (store cube place.0 bytes.0)

-- the shape of a cube that isn't there
abbrev pub no_shape : ShapeFields
no_shape = record { vault_bits = 0; bank_bits = 0; rows = 0; block = 256 }

-- a cube, whether a store follows, and the words after that
unfoldable pub head_of : (cubes : ℕ) → List (List ℕ) →
    Result (ℕ × Bool × List (List ℕ)) TraceKind
head_of cubes words = do
  cube ← number_word kinds.Cube cubes words
  verb ← next_word kinds.Words cube.1
  if bytes_eq verb.0 (codes "load") then Ok (cube.0, false, verb.1)
      else if bytes_eq verb.0 (codes "store") then Ok (cube.0, true, verb.1)
      else Err kinds.Word

-- a load or a store
abbrev pub access_by : (store : Bool) → (cube capacity : ℕ) → List (List ℕ) →
    Result Access TraceKind
access_by true cube capacity words = store_of cube capacity words
access_by false cube capacity words = load_of cube capacity words

-- a cube, and then a load or a store
unfoldable pub access_of : List ShapeFields → List (List ℕ) → Result Access TraceKind
access_of cubes words =
    if length cubes == 0 then Err kinds.Cubes else do
      head ← head_of (length cubes) words
      access_by head.1 head.0 (capacity_of (slice_index_or cubes head.0 no_shape)) head.2
