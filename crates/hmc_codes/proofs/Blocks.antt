-- Blocks: each size is one of four, so it is a multiple of 16, and what holds at the four holds.
use Rattle.std.proofs.Common.{◌≡◌, ◌≤◌, ◌<◌, ◌+◌, ◌*◌, ◌/◌, ◌%◌, ℕ, true, inl, inr, sym, subst, arith}
use Rattle.std.proofs.lemmas.Bool.{or_cases, eqb-true}
use Rattle.hmc_codes.specs.Shape.{is_block}

-- what holds at each of the four sizes holds at each block
pub by_block : (P : ℕ → Type 0) (b : ℕ) → is_block b ≡ true → P 32 → P 64 → P 128 → P 256 → P b
by_block P b is at_32 at_64 at_128 at_256 = elim (or_cases _ _ is) [
  | inr at ↦ subst P (sym (eqb-true _ _ at)) at_256
  | inl less ↦ elim (or_cases _ _ less) [
    | inr at ↦ subst P (sym (eqb-true _ _ at)) at_128
    | inl least ↦ elim (or_cases _ _ least) [
      | inr at ↦ subst P (sym (eqb-true _ _ at)) at_64
      | inl at ↦ subst P (sym (eqb-true _ _ at)) at_32
    ]
  ]
]

-- a block has at least 32 bytes and at most 256
pub block_least : (b : ℕ) → is_block b ≡ true → 32 ≤ b
block_least b is = by_block (λ n. 32 ≤ n) b is (omega arith) (omega arith) (omega arith) (omega arith)

pub block_most : (b : ℕ) → is_block b ≡ true → b ≤ 256
block_most b is = by_block (λ n. n ≤ 256) b is (omega arith) (omega arith) (omega arith) (omega arith)

-- the 16 bytes from a multiple of 16 on are in one block, one after the other
pub same_block_near : (b a k : ℕ) → is_block b ≡ true → a % 16 ≡ 0 → k < 16 → (a + k) / b ≡ a / b
same_block_near b a k is aligned near =
    by_block (λ n. (a + k) / n ≡ a / n) b is (omega arith) (omega arith) (omega arith) (omega arith)

pub next_offset : (b a k : ℕ) → is_block b ≡ true → a % 16 ≡ 0 → k < 16 → (a + k) % b ≡ a % b + k
next_offset b a k is aligned near =
    by_block (λ n. (a + k) % n ≡ a % n + k) b is (omega arith) (omega arith) (omega arith) (omega arith)

-- they end in the block
pub offset_fits : (b a : ℕ) → is_block b ≡ true → a % 16 ≡ 0 → a % b + 16 ≤ b
offset_fits b a is aligned =
    by_block (λ n. a % n + 16 ≤ n) b is (omega arith) (omega arith) (omega arith) (omega arith)

-- an offset is a place in the block
pub offset_below : (b a : ℕ) → is_block b ≡ true → a % b < b
offset_below b a is = by_block (λ n. a % n < n) b is (omega arith) (omega arith) (omega arith) (omega arith)

-- 16 bytes at a multiple of 16 that begin among n blocks end there
pub blocks_fit : (b n a : ℕ) → is_block b ≡ true → a % 16 ≡ 0 → a < b * n → a + 16 ≤ b * n
blocks_fit b n a is aligned =
    by_block (λ m. a < m * n → a + 16 ≤ m * n) b is
    (λ inside. omega arith) (λ inside. omega arith) (λ inside. omega arith) (λ inside. omega arith)

-- 16 bytes at a multiple of 16 that begin in one of r rows of a block each end in these rows
pub row_fits : (b row r a : ℕ) → is_block b ≡ true → a % 16 ≡ 0 → row < r → row * b + a % b + 16 ≤ r * b
row_fits b row r a is aligned inside =
    by_block (λ n. row * n + a % n + 16 ≤ r * n) b is (omega arith) (omega arith) (omega arith) (omega arith)

-- a byte that lies in its row's block among the 16 from a multiple of 16 on is in that row
pub same_row : (b row other a c : ℕ) → is_block b ≡ true → a % 16 ≡ 0 →
    row * b + a % b ≤ other * b + c % b → other * b + c % b < row * b + a % b + 16 → other ≡ row
same_row b row other a c is aligned =
    by_block (λ n. row * n + a % n ≤ other * n + c % n → other * n + c % n < row * n + a % n + 16 → other ≡ row) b is
    (λ above below. omega arith) (λ above below. omega arith) (λ above below. omega arith) (λ above below. omega arith)

-- addresses in one block are as far apart as their offsets
pub block_distance : (b a c : ℕ) → is_block b ≡ true → a / b ≡ c / b → a + c % b ≡ c + a % b
block_distance b a c is =
    by_block (λ n. a / n ≡ c / n → a + c % n ≡ c + a % n) b is
    (λ same. omega arith) (λ same. omega arith) (λ same. omega arith) (λ same. omega arith)
