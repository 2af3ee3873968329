-- The text of a value.
use Rattle.std.specs.Prelude.{ℕ, List, codes, Option, Some, None}
use Rattle.hex.specs.Hex.{encode_lower}

-- the digits of a value, two a byte in lower case, or the word of a row whose value isn't known
abbrev pub value_text : Option (List ℕ) → List ℕ
value_text (Some bytes) = encode_lower bytes
value_text None = codes "unknown"
