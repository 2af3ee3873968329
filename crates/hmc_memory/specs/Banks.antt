-- A cube's memory, as the contracts see it.
use Rattle.std.specs.Prelude.{◌≡◌, ◌+◌, ℕ, List, ◌++◌, length, take, drop}
use Rattle.hmc_codes.specs.Bytes.{IsBytes}
use Rattle.hmc_codes.specs.Shape.{ShapeFields, IsShape, capacity_of}

-- the shape, and all bytes in address order
pub record BanksFields : Type 0 where
  pub shape : ShapeFields
  pub bytes : List ℕ

-- what each memory keeps: the shape gives the number of bytes
pub record IsBanks (banks : BanksFields) : Type 0 where
  pub shape : IsShape banks.shape
  pub capacity : length banks.bytes ≡ capacity_of banks.shape
  pub bytes : IsBytes banks.bytes

-- the bytes with these ones at an address
abbrev pub written_bytes : List ℕ → (address : ℕ) → List ℕ → List ℕ
written_bytes bytes address new = take address bytes ++ new ++ drop (address + length new) bytes
