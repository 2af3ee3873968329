-- What the calls on a bank do to the memory. A bank is read at the slot of an address, and the memory is seen as `now`.
use Rattle.std.proofs.Common.{◌≡◌, ◌≤◌, ◌<◌, ◌∙◌, ◌+◌, ◌%◌, ℕ, List, [], length, set, sym, ap, subst, arith}
use Rattle.std.specs.Prelude.{slice_index_or, slice_range}
use Rattle.hmc_codes.specs.Bytes.{IsBytes}
use Rattle.hmc_codes.specs.Shape.{ShapeFields, capacity_of}
use Rattle.hmc_memory.specs.Banks.{BanksFields, written_bytes}
use Rattle.hmc_memory.specs.Kept.{slot_of, bank_place, memory_bytes, IsMemoryOfBanks}
use Rattle.hmc_memory.proofs.KeptLemmas.{found_bank, with_block, with_block_is, block_inside, block_read, block_written, IsKept-with_block}

-- a bank that was read at the slot of an address
pub record Found (shape : ShapeFields) (banks : List (List ℕ)) (now : BanksFields) (a slot place : ℕ) (bank : List ℕ) : Type 0 where
  pub kept : IsMemoryOfBanks shape banks
  pub view_is : record { shape = shape; bytes = memory_bytes shape banks } ≡ now
  pub multiple : a % 16 ≡ 0
  pub inside : a < capacity_of now.shape
  pub slot_is : slot ≡ slot_of shape a
  pub place_is : place ≡ bank_place shape a
  pub read : bank ≡ slice_index_or banks slot bank

inside_of : (shape : ShapeFields) (banks : List (List ℕ)) (now : BanksFields) (a slot place : ℕ) (bank : List ℕ) → Found shape banks now a slot place bank → a < capacity_of shape
inside_of shape banks now a slot place bank found = subst (λ b. a < capacity_of b.shape) (sym found.view_is) found.inside

pub block_fits : (shape : ShapeFields) (banks : List (List ℕ)) (now : BanksFields) (a slot place : ℕ) (bank : List ℕ) → Found shape banks now a slot place bank → place + 16 ≤ length bank
block_fits shape banks now a slot place bank found =
    let is = found_bank shape banks a slot bank found.kept.are_banks found.slot_is found.read in
    let fits = block_inside shape banks a found.kept found.multiple (inside_of shape banks now a slot place bank found) in
    omega (arith, ap length is, fits, found.place_is)

pub block_is : (shape : ShapeFields) (banks : List (List ℕ)) (now : BanksFields) (a slot place : ℕ) (bank : List ℕ) → Found shape banks now a slot place bank →
    slice_range bank place (place + 16) ≡ slice_range now.bytes a (a + 16)
block_is shape banks now a slot place bank found =
    ap (λ l. slice_range l place (place + 16)) (found_bank shape banks a slot bank found.kept.are_banks found.slot_is found.read)
    ∙ ap (λ p. slice_range (slice_index_or banks (slot_of shape a) []) p (p + 16)) found.place_is
    ∙ block_read shape banks a found.kept found.multiple (inside_of shape banks now a slot place bank found)
    ∙ ap (λ b. slice_range b.bytes a (a + 16)) found.view_is

-- the banks with the bank written
new_banks : (shape : ShapeFields) (banks : List (List ℕ)) (now : BanksFields) (a slot place : ℕ) (bank block new : List ℕ) → Found shape banks now a slot place bank → new ≡ written_bytes bank place block → set banks slot new ≡ with_block shape banks a block
new_banks shape banks now a slot place bank block new found is =
    ap (set banks slot) is ∙ with_block_is shape banks a block bank slot place found.kept.are_banks found.slot_is found.place_is found.read

pub bytes_with_block : (shape : ShapeFields) (banks : List (List ℕ)) (now : BanksFields) (a slot place : ℕ) (bank block new : List ℕ) → Found shape banks now a slot place bank → new ≡ written_bytes bank place block → length block ≡ 16 →
    memory_bytes shape (set banks slot new) ≡ written_bytes now.bytes a block
bytes_with_block shape banks now a slot place bank block new found is sixteen =
    ap (memory_bytes shape) (new_banks shape banks now a slot place bank block new found is)
    ∙ block_written shape banks a block found.kept sixteen found.multiple (inside_of shape banks now a slot place bank found)
    ∙ ap (λ b. written_bytes b.bytes a block) found.view_is

pub kept_with_block : (shape : ShapeFields) (banks : List (List ℕ)) (now : BanksFields) (a slot place : ℕ) (bank block new : List ℕ) → Found shape banks now a slot place bank → new ≡ written_bytes bank place block → length block ≡ 16 → IsBytes block →
    IsMemoryOfBanks shape (set banks slot new)
kept_with_block shape banks now a slot place bank block new found is sixteen are_bytes =
    subst (IsMemoryOfBanks shape) (sym (new_banks shape banks now a slot place bank block new found is))
    (IsKept-with_block shape banks a block found.kept are_bytes sixteen found.multiple (inside_of shape banks now a slot place bank found))
