-- Fields of a word.
use Rattle.std.specs.Prelude.{ℕ, ◌/◌, ◌%◌, ◌^◌, Bool, if◌then◌else◌}

-- the number in so many bits of a word, from its bit `low` on
abbrev pub bits_from : ℕ → ℕ → ℕ → ℕ
bits_from low width word = word / 2 ^ low % 2 ^ width

-- a flag as a bit
abbrev pub bit : Bool → ℕ
bit flag = if flag then 1 else 0
