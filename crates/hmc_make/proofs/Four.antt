-- Numbers from 1 to 4.
use Rattle.std.proofs.Common.{◌≤◌, ℕ, zero, suc, arith}

-- what holds at 1, 2, 3 and 4 holds at each number from 1 to 4
pub at_each : (P : ℕ → Type 0) (n : ℕ) → 1 ≤ n → n ≤ 4 → P 1 → P 2 → P 3 → P 4 → P n
at_each P zero some few one two three four = absurd (omega arith)
at_each P (suc zero) some few one two three four = one
at_each P (suc (suc zero)) some few one two three four = two
at_each P (suc (suc (suc zero))) some few one two three four = three
at_each P (suc (suc (suc (suc zero)))) some few one two three four = four
at_each P (suc (suc (suc (suc (suc n))))) some few one two three four = absurd (omega arith)
