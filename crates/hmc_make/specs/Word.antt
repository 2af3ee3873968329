-- The number of a case, as a word.
use Rattle.std.specs.Prelude.{ℕ, ◌^◌, List, Option}
use Rattle.hmc_text.specs.Number.{below, number_in}

-- one to twenty decimal digits of a number below 2^64; leading zeros are digits too
unfoldable pub case_number : List ℕ → Option ℕ
case_number word = below (2 ^ 64) (number_in 10 word)
