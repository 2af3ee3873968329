-- Lists of numbers that are bytes.
use Rattle.std.specs.Prelude.{ℕ, ◌<◌, ◌-◌, List, ◌++◌, length, replicate, slice_index}

-- each number is that of a byte
abbrev pub IsBytes : List ℕ → Type 0
IsBytes bytes = (k : ℕ) → slice_index bytes k < 256

-- the list, and zeros after it up to this length
unfoldable pub padded_bytes : ℕ → List ℕ → List ℕ
padded_bytes size bytes = bytes ++ replicate (size - length bytes) 0
