-- Definitions computed: where a byte is kept, at blocks of 256 and of 64 bytes, and bytes that are written.
use Rattle.std.proofs.Common.{◌≡◌, [], ◌∷◌, refl}
use Rattle.std.specs.Prelude.{map}
use Rattle.hmc_codes.specs.Shape.{ShapeFields}
use Rattle.hmc_memory.specs.Banks.{written_bytes}
use Rattle.hmc_memory.specs.Kept.{slot_of, bank_place}

-- four vaults of two banks of three rows of 256 bytes
abbrev three_rows : ShapeFields
three_rows = record { vault_bits = 2; bank_bits = 1; rows = 3; block = 256 }

-- the next row of addresses is in the next vault, and those after the last vault in the next bank
slot_of-three_rows : map (slot_of three_rows) (0 ∷ 0x100 ∷ 0x3ff ∷ 0x400 ∷ 0x6ab ∷ 0x800 ∷ 0x17ff ∷ []) ≡ 0 ∷ 2 ∷ 6 ∷ 1 ∷ 5 ∷ 0 ∷ 7 ∷ []
slot_of-three_rows = refl

place_of-three_rows : map (bank_place three_rows) (0 ∷ 0x100 ∷ 0x3ff ∷ 0x400 ∷ 0x6ab ∷ 0x800 ∷ 0x17ff ∷ []) ≡ 0 ∷ 0 ∷ 255 ∷ 0 ∷ 171 ∷ 256 ∷ 767 ∷ []
place_of-three_rows = refl

-- two vaults of one bank of four rows of 64 bytes
abbrev small_blocks : ShapeFields
small_blocks = record { vault_bits = 1; bank_bits = 0; rows = 4; block = 64 }

-- each 64 bytes the other vault, and each 128 the next row
slot_of-small_blocks : map (slot_of small_blocks) (0 ∷ 0x3f ∷ 0x40 ∷ 0x7f ∷ 0x80 ∷ 0x1ff ∷ []) ≡ 0 ∷ 0 ∷ 1 ∷ 1 ∷ 0 ∷ 1 ∷ []
slot_of-small_blocks = refl

place_of-small_blocks : map (bank_place small_blocks) (0 ∷ 0x3f ∷ 0x40 ∷ 0x7f ∷ 0x80 ∷ 0x1ff ∷ []) ≡ 0 ∷ 63 ∷ 0 ∷ 63 ∷ 64 ∷ 255 ∷ []
place_of-small_blocks = refl

written-two : written_bytes (1 ∷ 2 ∷ 3 ∷ 4 ∷ []) 1 (9 ∷ 8 ∷ []) ≡ 1 ∷ 9 ∷ 8 ∷ 4 ∷ []
written-two = refl
