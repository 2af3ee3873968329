-- The registers of a cube.
use Rattle.std.specs.Prelude.{◌≡◌, ◌<◌, ◌^◌, ℕ, List, ◌∷◌, length, replicate, slice_index}
use Rattle.hmc_codes.specs.Shape.{ShapeFields}

-- at first: the cube's number, then its shape, then twelve scratch registers at zero
unfoldable pub opening_registers : (cube : ℕ) → ShapeFields → List ℕ
opening_registers cube shape =
    cube ∷ shape.vault_bits ∷ shape.bank_bits ∷ shape.rows ∷ replicate 12 0

-- sixteen numbers of 32 bits
pub record IsRegisters (numbers : List ℕ) : Type 0 where
  pub sixteen : length numbers ≡ 16
  pub small : (k : ℕ) → slice_index numbers k < 2 ^ 32
