-- Numbers.
use Rattle.std.specs.Prelude.{ℕ, ◌+◌, ◌*◌, ◌&&◌, nat_lt, nat_le, nat_eq, List, [], ◌∷◌, length, drop, codes, Option, Some, None, option_and_then, if◌then◌else◌}
use Rattle.std.specs.List.{starts_with}
use Rattle.hex.specs.Hex.{hex_digit_value}

-- the number, if it is below the limit
abbrev pub below : ℕ → Option ℕ → Option ℕ
below limit None = None
below limit (Some n) = if nat_lt n limit then Some n else None

-- the number that n and the digits after it make, if all of them are digits of this base
unfoldable pub number_after : ℕ → ℕ → List ℕ → Option ℕ
number_after base n [] = Some n
number_after base n (c ∷ cs) =
    option_and_then (λ d. number_after base (n * base + d) cs) (below base (hex_digit_value c))

-- the digits that a number has at most
abbrev pub most_digits : ℕ
most_digits = 20

-- 1 to 20 digits of this base
unfoldable pub number_in : ℕ → List ℕ → Option ℕ
number_in base digits =
    if nat_le 1 (length digits) && nat_le (length digits) most_digits
    then number_after base 0 digits else None

-- decimal digits, or 0x and hexadecimal digits
unfoldable pub number_of : List ℕ → Option ℕ
number_of word =
    if starts_with nat_eq word (codes "0x") then number_in 16 (drop 2 word) else number_in 10 word
