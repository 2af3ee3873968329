-- Numbers from zero on.
use Rattle.std.specs.Prelude.{ℕ, List}
use Rattle.std.specs.List.{range_with_len}

-- the numbers below n
abbrev pub upto : ℕ → List ℕ
upto n = range_with_len 0 n
