-- Numbers and bytes as coefficients over two elements, the highest power first.
use Rattle.std.specs.Prelude.{ℕ, zero, suc, ◌+◌, ◌/◌, ◌%◌, ◌^◌, ◌==◌, Bool, if◌then◌else◌, List, [], ◌∷◌, ◌++◌, length}

-- the lowest `width` bits of a number, the highest of them first
unfoldable pub bits_below : ℕ → ℕ → List Bool
bits_below zero number = []
bits_below (suc width) number = (number / 2 ^ width % 2 == 1) ∷ bits_below width number

-- the coefficients of the bytes, each byte's highest bit first
unfoldable pub bits_of : List ℕ → List Bool
bits_of [] = []
bits_of (byte ∷ rest) = bits_below 8 byte ++ bits_of rest

-- the number that the bits spell, the highest first: the coefficient of x ^ k is its bit k
unfoldable pub number_of : List Bool → ℕ
number_of [] = 0
number_of (bit ∷ rest) = (if bit then 2 ^ length rest else 0) + number_of rest
