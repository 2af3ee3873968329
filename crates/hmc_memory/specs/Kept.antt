-- How the bytes are kept: an array for each bank of each vault, which has the bank's rows one after
-- the other.
use Rattle.std.specs.Prelude.{◌≡◌, ◌<◌, ◌+◌, ◌*◌, ◌^◌, ℕ, List, [], length, map, slice_index, slice_index_or}
use Rattle.std.specs.List.{range_with_len}
use Rattle.hmc_codes.specs.Shape.{ShapeFields, IsShape, capacity_of, offset_of, vault_of, bank_of, row_of}

-- the place of an address's bank among the banks: those of a vault are neighbours
abbrev pub slot_of : ShapeFields → ℕ → ℕ
slot_of shape address = vault_of shape address * 2 ^ shape.bank_bits + bank_of shape address

-- the place of an address's byte in its bank
abbrev pub bank_place : ShapeFields → ℕ → ℕ
bank_place shape address = row_of shape address * shape.block + offset_of shape address

-- the byte at an address
unfoldable pub byte_of : ShapeFields → List (List ℕ) → ℕ → ℕ
byte_of shape banks address =
    slice_index (slice_index_or banks (slot_of shape address) []) (bank_place shape address)

-- all bytes in address order
unfoldable pub memory_bytes : ShapeFields → List (List ℕ) → List ℕ
memory_bytes shape banks = map (byte_of shape banks) (range_with_len 0 (capacity_of shape))

-- there is a bank for each place, and it has one block for each row
pub record AreBanks (shape : ShapeFields) (banks : List (List ℕ)) : Type 0 where
  pub count : length banks ≡ 2 ^ shape.vault_bits * 2 ^ shape.bank_bits
  pub rows : (k : ℕ) → k < length banks →
      length (slice_index_or banks k []) ≡ shape.rows * shape.block
  pub bytes : (k j : ℕ) → slice_index (slice_index_or banks k []) j < 256

-- what each memory keeps of its banks
pub record IsMemoryOfBanks (shape : ShapeFields) (banks : List (List ℕ)) : Type 0 where
  pub is_shape : IsShape shape
  pub are_banks : AreBanks shape banks
