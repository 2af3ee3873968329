-- Definitions computed: the registers of the cubes 0 and 1, of four vaults of eight banks of 600 rows.
use Rattle.std.proofs.Common.{◌≡◌, ℕ, List, [], ◌∷◌, Option, Some, None, refl}
use Rattle.std.specs.Prelude.{map, slice_get}
use Rattle.hmc_codes.specs.Shape.{ShapeFields}
use Rattle.hmc_registers.specs.Registers.{opening_registers}

abbrev shape : ShapeFields
shape = record { vault_bits = 2; bank_bits = 3; rows = 600; block = 64 }

-- the registers with some numbers
abbrev read : (cube : ℕ) → List ℕ → List (Option ℕ)
read cube numbers = map (slice_get (opening_registers cube shape)) numbers

-- register 0 is the cube's number, 1 to 3 are the shape
opening_registers-first : read 0 (0 ∷ 1 ∷ 2 ∷ 3 ∷ []) ≡ Some 0 ∷ Some 2 ∷ Some 3 ∷ Some 600 ∷ []
unfolding opening_registers
opening_registers-first = refl

opening_registers-second : read 1 (0 ∷ 1 ∷ 2 ∷ 3 ∷ []) ≡ Some 1 ∷ Some 2 ∷ Some 3 ∷ Some 600 ∷ []
unfolding opening_registers
opening_registers-second = refl

-- 4 to 15 are zero, and there is no register 16
opening_registers-scratch : read 1 (4 ∷ 5 ∷ 14 ∷ 15 ∷ 16 ∷ 17 ∷ []) ≡ Some 0 ∷ Some 0 ∷ Some 0 ∷ Some 0 ∷ None ∷ None ∷ []
unfolding opening_registers
opening_registers-scratch = refl
