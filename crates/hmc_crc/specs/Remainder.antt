-- The check of a packet: the remainder that long division leaves, over two elements.
-- A polynomial is the list of its coefficients, the highest power first.
use Rattle.std.specs.Prelude.{ℕ, zero, suc, ◌==◌, Bool, true, false, List, [], ◌∷◌, ◌++◌, length}
use Rattle.std.specs.Bool.{xor}
use Rattle.std.specs.List.{list_any}
use Rattle.hmc_crc.specs.Bits.{bits_below, bits_of, number_of}

-- the powers of x in the divisor, below its leading x ^ 32
abbrev pub powers_of_divisor : List ℕ
powers_of_divisor =
    30 ∷ 29 ∷ 28 ∷ 26 ∷ 20 ∷ 19 ∷ 17 ∷ 16 ∷ 15 ∷ 11 ∷ 10 ∷ 7 ∷ 6 ∷ 4 ∷ 2 ∷ 1 ∷ 0 ∷ []

-- the coefficients below x ^ width of a sum of powers of x
unfoldable pub coefficients : ℕ → List ℕ → List Bool
coefficients zero powers = []
coefficients (suc width) powers =
    list_any (λ power. power == width) powers ∷ coefficients width powers

-- the divisor without its leading x ^ 32
unfoldable pub divisor : List Bool
divisor = coefficients 32 powers_of_divisor

-- so many coefficients that are zero
unfoldable pub zeros : ℕ → List Bool
zeros zero = []
zeros (suc n) = false ∷ zeros n

-- the sum over two elements, coefficient by coefficient, of a list and the front of a longer list
unfoldable pub plus : List Bool → List Bool → List Bool
plus [] ys = ys
plus (x ∷ xs) [] = x ∷ xs
plus (x ∷ xs) (y ∷ ys) = xor x y ∷ plus xs ys

-- what is left after n steps of long division: each drops the leading coefficient, and where that
-- is one adds the divisor, whose own leading one has cancelled it, to what follows
unfoldable pub divide : List Bool → ℕ → List Bool → List Bool
divide by zero bits = bits
divide by (suc n) [] = []
divide by (suc n) (false ∷ rest) = divide by n rest
divide by (suc n) (true ∷ rest) = divide by n (plus by rest)

-- the remainder of the bytes' polynomial times x ^ 32
unfoldable pub remainder : List ℕ → List Bool
remainder bytes = divide divisor (length (bits_of bytes)) (bits_of bytes ++ zeros 32)

-- the check of the bytes, as a number of 32 bits
unfoldable pub crc_of : List ℕ → ℕ
crc_of bytes = number_of (remainder bytes)

-- the check once more bytes follow those that it is of: its coefficients are added onto the front
-- of what is still to be divided
unfoldable pub crc_update : (check : ℕ) → List ℕ → ℕ
crc_update check bytes =
    number_of (divide divisor (length (bits_of bytes))
    (plus (bits_below 32 check) (bits_of bytes ++ zeros 32)))
