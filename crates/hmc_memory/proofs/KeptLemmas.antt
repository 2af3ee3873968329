-- The bytes in address order, of banks that are read and written.
use Rattle.std.proofs.Common.{◌≡◌, ◌≤◌, ◌<◌, ◌⊎◌, inl, inr, ◌∙◌, ◌+◌, ◌-◌, ◌*◌, ◌^◌, ◌%◌, ◌/◌, ℕ, zero, suc, List, [], length, drop, set, refl, sym, ap, subst, arith, lit<}
use Rattle.std.specs.Prelude.{slice_index, slice_index_or, slice_range, replicate}
use Rattle.std.proofs.lemmas.Bool.{cases_lt, cases_eq}
use Rattle.std.proofs.lemmas.Nat.{pow_pos}
use Rattle.std.proofs.lemmas.List.{length-take, length-drop, length-set, length-replicate, get_or-replicate, get_or-take, get_or-drop, get_or_past, get_or_read, get_or-set_same, get_or-set_other, ext_get_or}
use Rattle.std.proofs.lemmas.List.FromFn.{length-map-range_with_len, get_or-map-range_with_len, fill_by_all}
use Rattle.hmc_codes.specs.Bytes.{IsBytes}
use Rattle.hmc_codes.specs.Shape.{ShapeFields, IsShape, capacity_of}
use Rattle.hmc_codes.proofs.Blocks.{block_least, same_block_near, next_offset, blocks_fit, row_fits, same_row, block_distance}
use Rattle.hmc_memory.specs.Banks.{IsBanks, written_bytes}
use Rattle.hmc_memory.specs.Kept.{slot_of, bank_place, byte_of, memory_bytes, AreBanks, IsMemoryOfBanks}
use Rattle.hmc_memory.proofs.Address.{slot_below, row_below, same_block}
use Rattle.hmc_memory.proofs.WrittenLemmas.{length-written, get_or-written_below, get_or-written_inside, get_or-written_above, IsBytes-written}

pub length-bytes_of : (shape : ShapeFields) (banks : List (List ℕ)) → length (memory_bytes shape banks) ≡ capacity_of shape
unfolding memory_bytes
length-bytes_of shape banks = length-map-range_with_len (byte_of shape banks) 0 (capacity_of shape)

pub get_or-bytes_of : (shape : ShapeFields) (banks : List (List ℕ)) (k : ℕ) → k < capacity_of shape → slice_index (memory_bytes shape banks) k ≡ byte_of shape banks k
unfolding memory_bytes
get_or-bytes_of shape banks k inside = get_or-map-range_with_len (byte_of shape banks) 0 (capacity_of shape) k k 0 inside (omega arith)

pub IsBytes-bytes_of : (shape : ShapeFields) (banks : List (List ℕ)) → AreBanks shape banks → IsBytes (memory_bytes shape banks)
unfolding byte_of
IsBytes-bytes_of shape banks are k = elim (cases_lt k (capacity_of shape)) [
  | inl inside ↦ subst (λ n. n < 256) (sym (get_or-bytes_of shape banks k inside)) (are.bytes (slot_of shape k) (bank_place shape k))
  | inr past ↦ subst (λ n. n < 256) (sym (get_or_past (memory_bytes shape banks) k 0 (omega (arith, length-bytes_of shape banks)))) (lit< tt)
]

-- what a memory keeps, as the contracts see it
pub IsBanks-kept : (shape : ShapeFields) (banks : List (List ℕ)) → IsMemoryOfBanks shape banks → IsBanks (record { shape = shape; bytes = memory_bytes shape banks })
IsBanks-kept shape banks kept =
    record { shape = kept.is_shape; capacity = length-bytes_of shape banks; bytes = IsBytes-bytes_of shape banks kept.are_banks }

-- a bank's place, and a block's place in it, are inside
pub slot_inside : (shape : ShapeFields) (banks : List (List ℕ)) (a : ℕ) → AreBanks shape banks → slot_of shape a < length banks
slot_inside shape banks a are =
    omega (arith, slot_below shape.block a (2 ^ shape.vault_bits) (2 ^ shape.bank_bits) (pow_pos shape.vault_bits) (pow_pos shape.bank_bits), are.count)

-- a block has some bytes
some_bytes : (shape : ShapeFields) → IsShape shape → 0 < shape.block
some_bytes shape is = omega (arith, block_least shape.block is.block)

pub place_inside : (shape : ShapeFields) (a : ℕ) → IsShape shape → a % 16 ≡ 0 → a < capacity_of shape → bank_place shape a + 16 ≤ shape.rows * shape.block
place_inside shape a is aligned inside =
    row_fits shape.block _ shape.rows a is.block aligned
    (row_below shape.block a (2 ^ shape.vault_bits) (2 ^ shape.bank_bits) shape.rows (some_bytes shape is) (pow_pos shape.vault_bits) (pow_pos shape.bank_bits) inside)

pub block_inside : (shape : ShapeFields) (banks : List (List ℕ)) (a : ℕ) → IsMemoryOfBanks shape banks → a % 16 ≡ 0 → a < capacity_of shape → bank_place shape a + 16 ≤ length (slice_index_or banks (slot_of shape a) [])
block_inside shape banks a kept aligned inside =
    omega (arith, kept.are_banks.rows (slot_of shape a) (slot_inside shape banks a kept.are_banks), place_inside shape a kept.is_shape aligned inside)

-- the capacity is whole blocks
pub block_below : (shape : ShapeFields) (a : ℕ) → IsShape shape → a % 16 ≡ 0 → a < capacity_of shape → a + 16 ≤ capacity_of shape
block_below shape a is aligned inside =
    let whole : capacity_of shape ≡ shape.block * (2 ^ shape.vault_bits * 2 ^ shape.bank_bits * shape.rows) = grind arith in
    let fits = blocks_fit shape.block (2 ^ shape.vault_bits * 2 ^ shape.bank_bits * shape.rows) a is.block aligned (subst (λ n. a < n) whole inside) in
    subst (λ n. a + 16 ≤ n) (sym whole) fits

-- the bank that is found at an address's slot
pub found_bank : (shape : ShapeFields) (banks : List (List ℕ)) (a slot : ℕ) (bank : List ℕ) → AreBanks shape banks → slot ≡ slot_of shape a → bank ≡ slice_index_or banks slot bank → bank ≡ slice_index_or banks (slot_of shape a) []
found_bank shape banks a slot bank are slot_is read =
    get_or_read banks slot bank (omega (arith, slot_inside shape banks a are)) read [] ∙ ap (λ s. slice_index_or banks s []) slot_is

-- the 16 bytes from a multiple of 16 on are in one bank, one after the other
pub same_bank : (shape : ShapeFields) (a k : ℕ) → IsShape shape → a % 16 ≡ 0 → k < 16 → slot_of shape (a + k) ≡ slot_of shape a
same_bank shape a k is aligned near =
    ap (λ n. n % 2 ^ shape.vault_bits * 2 ^ shape.bank_bits + n / 2 ^ shape.vault_bits % 2 ^ shape.bank_bits) (same_block_near shape.block a k is.block aligned near)

pub next_place : (shape : ShapeFields) (a k : ℕ) → IsShape shape → a % 16 ≡ 0 → k < 16 → bank_place shape (a + k) ≡ bank_place shape a + k
next_place shape a k is aligned near =
    ap (λ n. n / 2 ^ shape.vault_bits / 2 ^ shape.bank_bits * shape.block + (a + k) % shape.block) (same_block_near shape.block a k is.block aligned near)
    ∙ ap (λ n. a / shape.block / 2 ^ shape.vault_bits / 2 ^ shape.bank_bits * shape.block + n) (next_offset shape.block a k is.block aligned near)
    ∙ omega arith

pub byte_of-add : (shape : ShapeFields) (banks : List (List ℕ)) (a k : ℕ) → IsShape shape → a % 16 ≡ 0 → k < 16 → byte_of shape banks (a + k) ≡ slice_index (slice_index_or banks (slot_of shape a) []) (bank_place shape a + k)
unfolding byte_of
byte_of-add shape banks a k is aligned near =
    ap (λ s. slice_index (slice_index_or banks s []) (bank_place shape (a + k))) (same_bank shape a k is aligned near)
    ∙ ap (slice_index (slice_index_or banks (slot_of shape a) [])) (next_place shape a k is aligned near)

-- two ranges of 16 whose bytes are the same
same_ranges : (xs ys : List ℕ) (i j : ℕ) → i + 16 ≤ length xs → j + 16 ≤ length ys → ((k : ℕ) → k < 16 → slice_index xs (i + k) ≡ slice_index ys (j + k)) → slice_range xs i (i + 16) ≡ slice_range ys j (j + 16)
same_ranges xs ys i j in_xs in_ys same =
    let len_x : length (slice_range xs i (i + 16)) ≡ 16 = omega (arith, length-take (i + 16 - i) (drop i xs), length-drop i xs) in
    let len_y : length (slice_range ys j (j + 16)) ≡ 16 = omega (arith, length-take (j + 16 - j) (drop j ys), length-drop j ys) in
    ext_get_or 0 (slice_range xs i (i + 16)) (slice_range ys j (j + 16)) (len_x ∙ sym len_y)
    (λ k within. get_or-take (i + 16 - i) (drop i xs) k 0 (omega arith) ∙ get_or-drop i xs k 0 ∙ same k (omega arith) ∙ sym (get_or-drop j ys k 0) ∙ sym (get_or-take (j + 16 - j) (drop j ys) k 0 (omega arith)))

-- a block of a bank is a block of the memory
pub block_read : (shape : ShapeFields) (banks : List (List ℕ)) (a : ℕ) → IsMemoryOfBanks shape banks → a % 16 ≡ 0 → a < capacity_of shape →
    slice_range (slice_index_or banks (slot_of shape a) []) (bank_place shape a) (bank_place shape a + 16) ≡ slice_range (memory_bytes shape banks) a (a + 16)
block_read shape banks a kept aligned inside =
    let bank : List ℕ = slice_index_or banks (slot_of shape a) [] in
    let bytes : List ℕ = memory_bytes shape banks in
    let place : ℕ = bank_place shape a in
    same_ranges bank bytes place a (block_inside shape banks a kept aligned inside)
    (omega (arith, length-bytes_of shape banks, block_below shape a kept.is_shape aligned inside))
    (λ k near. sym (byte_of-add shape banks a k kept.is_shape aligned near) ∙ sym (get_or-bytes_of shape banks (a + k) (omega (arith, block_below shape a kept.is_shape aligned inside))))

-- offsets in one row are as near as their places
near_offsets : (other row a c : ℕ) → other ≡ row → row + a ≤ other + c → other + c < row + a + 16 → (a ≤ c) × (c < a + 16)
near_offsets other row a c is above below = (omega arith, omega arith)

-- bytes of an address's bank that lie in the place of its block have addresses in its block
pub near_address : (shape : ShapeFields) (a c : ℕ) → IsShape shape → a % 16 ≡ 0 → slot_of shape c ≡ slot_of shape a → bank_place shape a ≤ bank_place shape c → bank_place shape c < bank_place shape a + 16 → (a ≤ c) × (c < a + 16)
near_address shape a c is aligned slot above below =
    let row = same_row shape.block _ _ a c is.block aligned above below in
    let block = same_block shape.block c a (2 ^ shape.vault_bits) (2 ^ shape.bank_bits) (pow_pos shape.vault_bits) (pow_pos shape.bank_bits) slot row in
    let near : (a % shape.block ≤ c % shape.block) × (c % shape.block < a % shape.block + 16) =
    near_offsets (c / shape.block / 2 ^ shape.vault_bits / 2 ^ shape.bank_bits * shape.block) _ (a % shape.block) (c % shape.block) (ap (λ n. n * shape.block) row) above below in
    let apart = block_distance shape.block c a is.block block in
    (omega (arith, near.0, apart), omega (arith, near.1, apart))

-- the banks with a block in the place of an address
pub with_block : ShapeFields → List (List ℕ) → ℕ → List ℕ → List (List ℕ)
with_block shape banks a block = set banks (slot_of shape a) (written_bytes (slice_index_or banks (slot_of shape a) []) (bank_place shape a) block)

pub with_block_is : (shape : ShapeFields) (banks : List (List ℕ)) (a : ℕ) (block bank : List ℕ) (slot place : ℕ) → AreBanks shape banks → slot ≡ slot_of shape a → place ≡ bank_place shape a → bank ≡ slice_index_or banks slot bank →
    set banks slot (written_bytes bank place block) ≡ with_block shape banks a block
unfolding with_block
with_block_is shape banks a block bank slot place are slot_is place_is read =
    ap (λ s. set banks s (written_bytes bank place block)) slot_is
    ∙ ap (λ p. set banks (slot_of shape a) (written_bytes bank p block)) place_is
    ∙ ap (λ b. set banks (slot_of shape a) (written_bytes b (bank_place shape a) block)) (found_bank shape banks a slot bank are slot_is read)

-- bytes of other blocks stay
byte_elsewhere : (shape : ShapeFields) (banks : List (List ℕ)) (a k : ℕ) (block : List ℕ) → IsMemoryOfBanks shape banks → length block ≡ 16 → a % 16 ≡ 0 → a < capacity_of shape → (k < a) ⊎ (a + 16 ≤ k) →
    byte_of shape (with_block shape banks a block) k ≡ byte_of shape banks k
unfolding byte_of with_block
byte_elsewhere shape banks a k block kept sixteen aligned inside apart =
    let bank : List ℕ = slice_index_or banks (slot_of shape a) [] in
    let fits : bank_place shape a + 16 ≤ length bank = block_inside shape banks a kept aligned inside in
    elim (cases_eq (slot_of shape k) (slot_of shape a)) [
      | inr other ↦ ap (λ l. slice_index l (bank_place shape k)) (get_or-set_other banks (slot_of shape a) (slot_of shape k) (written_bytes bank (bank_place shape a) block) [] other)
      | inl same ↦
          ap (λ s. slice_index (slice_index_or (set banks (slot_of shape a) (written_bytes bank (bank_place shape a) block)) s []) (bank_place shape k)) same
          ∙ ap (λ l. slice_index l (bank_place shape k)) (get_or-set_same banks (slot_of shape a) (written_bytes bank (bank_place shape a) block) [] (slot_inside shape banks a kept.are_banks))
          ∙ (elim (cases_lt (bank_place shape k) (bank_place shape a)) [
            | inl below ↦ get_or-written_below bank (bank_place shape a) block (bank_place shape k) (omega arith) below
            | inr not_below ↦ elim (cases_lt (bank_place shape k) (bank_place shape a + 16)) [
              | inr above ↦ get_or-written_above bank (bank_place shape a) block (bank_place shape k) (omega arith) (omega arith)
              | inl in_block ↦ let near = near_address shape a k kept.is_shape aligned same not_below in_block in absurd (elim apart [ inl before ↦ omega arith | inr after ↦ omega arith ])
            ]
          ])
          ∙ ap (λ s. slice_index (slice_index_or banks s []) (bank_place shape k)) (sym same)
    ]

-- bytes of the block are the new ones
byte_in_block : (shape : ShapeFields) (banks : List (List ℕ)) (a k : ℕ) (block : List ℕ) → IsMemoryOfBanks shape banks → length block ≡ 16 → a % 16 ≡ 0 → a < capacity_of shape → k < 16 →
    byte_of shape (with_block shape banks a block) (a + k) ≡ slice_index block k
unfolding with_block
byte_in_block shape banks a k block kept sixteen aligned inside near =
    let bank : List ℕ = slice_index_or banks (slot_of shape a) [] in
    let fits : bank_place shape a + 16 ≤ length bank = block_inside shape banks a kept aligned inside in
    byte_of-add shape (set banks (slot_of shape a) (written_bytes bank (bank_place shape a) block)) a k kept.is_shape aligned near
    ∙ ap (λ l. slice_index l (bank_place shape a + k)) (get_or-set_same banks (slot_of shape a) (written_bytes bank (bank_place shape a) block) [] (slot_inside shape banks a kept.are_banks))
    ∙ get_or-written_inside bank (bank_place shape a) block k (bank_place shape a + k) (omega arith) (omega arith) refl

-- a block that is replaced in a bank is replaced in the memory
pub block_written : (shape : ShapeFields) (banks : List (List ℕ)) (a : ℕ) (block : List ℕ) → IsMemoryOfBanks shape banks → length block ≡ 16 → a % 16 ≡ 0 → a < capacity_of shape →
    memory_bytes shape (with_block shape banks a block) ≡ written_bytes (memory_bytes shape banks) a block
unfolding memory_bytes
block_written shape banks a block kept sixteen aligned inside =
    let bytes : List ℕ = memory_bytes shape banks in
    let whole : length bytes ≡ capacity_of shape = length-bytes_of shape banks in
    let fits : a + length block ≤ length bytes = omega (arith, block_below shape a kept.is_shape aligned inside) in
    sym (fill_by_all (byte_of shape (with_block shape banks a block)) (written_bytes bytes a block) (capacity_of shape) 0 (length-written bytes a block fits ∙ whole) (λ k within.
    elim (cases_lt k a) [
      | inl below ↦
          get_or-written_below bytes a block k fits below ∙ get_or-bytes_of shape banks k within
          ∙ sym (byte_elsewhere shape banks a k block kept sixteen aligned inside (inl below))
      | inr from ↦ elim (cases_lt k (a + 16)) [
        | inl near ↦
            (let is : a + (k - a) ≡ k = omega arith in
            get_or-written_inside bytes a block (k - a) k fits (omega arith) is
            ∙ sym (byte_in_block shape banks a (k - a) block kept sixteen aligned inside (omega arith))
            ∙ ap (byte_of shape (with_block shape banks a block)) is)
        | inr above ↦
            get_or-written_above bytes a block k fits (omega arith) ∙ get_or-bytes_of shape banks k within
            ∙ sym (byte_elsewhere shape banks a k block kept sixteen aligned inside (inr above))
      ]
    ]))

-- what a bank keeps, its banks keep where one is written
pub AreBanks-set : (shape : ShapeFields) (banks : List (List ℕ)) (k place : ℕ) (block : List ℕ) → AreBanks shape banks → IsBytes block → k < length banks → place + length block ≤ length (slice_index_or banks k []) →
    AreBanks shape (set banks k (written_bytes (slice_index_or banks k []) place block))
AreBanks-set shape banks k place block are bytes inside fits =
    let bank : List ℕ = slice_index_or banks k [] in
    let new : List ℕ = written_bytes bank place block in
    record {
      count = length-set banks k new ∙ are.count;
      rows = λ j within. elim (cases_eq j k) [
        | inl same ↦ ap (λ i. length (slice_index_or (set banks k new) i [])) same ∙ ap length (get_or-set_same banks k new [] inside) ∙ length-written bank place block fits ∙ are.rows k inside
        | inr other ↦ ap length (get_or-set_other banks k j new [] other) ∙ are.rows j (omega (arith, length-set banks k new))
      ];
      bytes = λ j i. elim (cases_eq j k) [
        | inl same ↦ (let is : slice_index_or (set banks k new) j [] ≡ new = ap (λ i. slice_index_or (set banks k new) i []) same ∙ get_or-set_same banks k new [] inside in
            subst (λ l. slice_index l i < 256) (sym is) (IsBytes-written bank place block (are.bytes k) bytes i))
        | inr other ↦ subst (λ l. slice_index l i < 256) (sym (get_or-set_other banks k j new [] other)) (are.bytes j i)
      ];
    }

pub IsKept-with_block : (shape : ShapeFields) (banks : List (List ℕ)) (a : ℕ) (block : List ℕ) → IsMemoryOfBanks shape banks → IsBytes block → length block ≡ 16 → a % 16 ≡ 0 → a < capacity_of shape → IsMemoryOfBanks shape (with_block shape banks a block)
unfolding with_block
IsKept-with_block shape banks a block kept bytes sixteen aligned inside =
    record {
      is_shape = kept.is_shape;
      are_banks =
          AreBanks-set shape banks (slot_of shape a) (bank_place shape a) block kept.are_banks bytes (slot_inside shape banks a kept.are_banks)
          (omega (arith, block_inside shape banks a kept aligned inside));
    }

-- banks of zeros
zeros_at : (m j : ℕ) → slice_index (replicate m 0) j ≡ 0
zeros_at zero j = refl
zeros_at (suc m) zero = refl
zeros_at (suc m) (suc j) = zeros_at m j

pub zeros_in : (n m i j : ℕ) → slice_index (slice_index_or (replicate n (replicate m 0)) i []) j ≡ 0
zeros_in zero m i j = refl
zeros_in (suc n) m zero j = zeros_at m j
zeros_in (suc n) m (suc i) j = zeros_in n m i j

pub bytes_of-zeros : (shape : ShapeFields) (n m : ℕ) → memory_bytes shape (replicate n (replicate m 0)) ≡ replicate (capacity_of shape) 0
unfolding memory_bytes byte_of
bytes_of-zeros shape n m =
    let banks : List (List ℕ) = replicate n (replicate m 0) in
    sym (fill_by_all (byte_of shape banks) (replicate (capacity_of shape) 0) (capacity_of shape) 0 (length-replicate (capacity_of shape) 0)
    (λ k within. zeros_at (capacity_of shape) k ∙ sym (zeros_in n m (slot_of shape k) (bank_place shape k))))

pub AreBanks-zeros : (shape : ShapeFields) (n m : ℕ) → n ≡ 2 ^ shape.vault_bits * 2 ^ shape.bank_bits → m ≡ shape.rows * shape.block → AreBanks shape (replicate n (replicate m 0))
AreBanks-zeros shape n m count rows =
    record {
      count = length-replicate n (replicate m 0) ∙ count;
      rows = λ k within. ap length (get_or-replicate n k (replicate m 0) [] (omega (arith, length-replicate n (replicate {A = ℕ} m 0)))) ∙ length-replicate m 0 ∙ rows;
      bytes = λ k j. omega (arith, zeros_in n m k j);
    }
