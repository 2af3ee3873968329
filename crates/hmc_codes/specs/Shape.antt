-- The shape of a cube's memory, and its address map.
use Rattle.std.specs.Prelude.{◌≡◌, ◌≤◌, ◌*◌, ◌/◌, ◌%◌, ◌^◌, ◌==◌, ◌||◌, ℕ, Bool, true}
use Rattle.hmc_codes.specs.Limits.{most_vault_bits, most_bank_bits, most_rows}

-- a cube has 2^vault_bits vaults, each 2^bank_bits banks, each bank so many rows, and each row so
-- many bytes
pub record ShapeFields : Type 0 where
  pub vault_bits : ℕ
  pub bank_bits : ℕ
  pub rows : ℕ
  pub block : ℕ

-- the sizes of a block
abbrev pub is_block : ℕ → Bool
is_block bytes = bytes == 32 || bytes == 64 || bytes == 128 || bytes == 256

-- what every shape keeps
pub record IsShape (shape : ShapeFields) : Type 0 where
  pub vault_bits : shape.vault_bits ≤ most_vault_bits
  pub bank_bits : shape.bank_bits ≤ most_bank_bits
  pub some_rows : 1 ≤ shape.rows
  pub rows : shape.rows ≤ most_rows
  pub block : is_block shape.block ≡ true

-- the bytes of a cube: each row is one block
abbrev pub capacity_of : ShapeFields → ℕ
capacity_of shape = shape.block * 2 ^ shape.vault_bits * 2 ^ shape.bank_bits * shape.rows

-- From the lowest bit on an address has the offset in a block, the vault, the bank and the row.

-- the byte in its block: as many bits as the block has bytes for
abbrev pub offset_of : ShapeFields → ℕ → ℕ
offset_of shape address = address % shape.block

-- the vault: the next vault_bits bits
abbrev pub vault_of : ShapeFields → ℕ → ℕ
vault_of shape address = address / shape.block % 2 ^ shape.vault_bits

-- the bank in the vault: the next bank_bits bits
abbrev pub bank_of : ShapeFields → ℕ → ℕ
bank_of shape address = address / shape.block / 2 ^ shape.vault_bits % 2 ^ shape.bank_bits

-- the row in the bank: all bits above
abbrev pub row_of : ShapeFields → ℕ → ℕ
row_of shape address = address / shape.block / 2 ^ shape.vault_bits / 2 ^ shape.bank_bits
