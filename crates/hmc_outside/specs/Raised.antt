-- Counts that stay at the last value of a u64.
use Rattle.std.specs.Prelude.{◌+◌, ◌-◌, ◌^◌, ℕ, zero, suc, min}

-- one more, unless the count is at its last value
abbrev pub raised : ℕ → ℕ
raised n = min (n + 1) (2 ^ 64 - 1)

-- raised so many times
unfoldable pub raised_by : ℕ → ℕ → ℕ
raised_by zero n = n
raised_by (suc times) n = raised_by times (raised n)
