-- What is known of a request without an error.
use Rattle.std.proofs.Common.{◌≡◌, ◌≤◌, ◌<◌, ◌+◌, ◌*◌, ◌^◌, ◌/◌, ◌%◌, ℕ, Bool, true, false, Option, Some, None, refl, arith, ltb-false, leb-false}
use Rattle.std.specs.Prelude.{if◌then◌else◌, nat_lt, nat_le}
use Rattle.std.proofs.lemmas.Bool.Decides.{nat_tests}
use Rattle.std.proofs.lemmas.Nat.{pow_pos, mul-le, div-add-mod', mod_below}
use Rattle.hmc_codes.specs.Shape.{ShapeFields, capacity_of, offset_of, row_of}
use Rattle.hmc_serial.specs.Errors.{is_misaligned, memory_error, register_error, register_write_error}

-- what memory without an error says
pub record IsErrorless (shape : ShapeFields) (size : ℕ) (halves : Bool) (address : ℕ) : Type 0 where
  pub aligned : is_misaligned halves address ≡ false
  pub fits : offset_of shape address + size ≤ shape.block
  pub row : row_of shape address < shape.rows

-- errors that tests find in their order
abbrev error_of_one : Bool → Option ℕ
error_of_one a = (if a then Some 4 else None)

abbrev error_of_two : Bool → Bool → Option ℕ
error_of_two a b = (if a then Some 4 else (if b then Some 5 else None))

abbrev error_of_three : Bool → Bool → Bool → Option ℕ
error_of_three a b c = (if a then Some 1 else (if b then Some 2 else (if c then Some 3 else None)))

-- no test holds where no error is found
three_tests : (a b c : Bool) → error_of_three a b c ≡ None → (a ≡ false) × (b ≡ false) × (c ≡ false)
three_tests false false false is = (refl, refl, refl)
three_tests false false true is = absurd (cc)
three_tests false true c is = absurd (cc)
three_tests true b c is = absurd (cc)

two_tests : (a b : Bool) → error_of_two a b ≡ None → (a ≡ false) × (b ≡ false)
two_tests false false is = (refl, refl)
two_tests false true is = absurd (cc)
two_tests true b is = absurd (cc)

one_test : (a : Bool) → error_of_one a ≡ None → a ≡ false
one_test false is = refl
one_test true is = absurd (cc)

pub errorless : (shape : ShapeFields) (size : ℕ) (halves : Bool) (address : ℕ) → memory_error shape size halves address ≡ None → IsErrorless shape size halves address
unfolding memory_error
errorless shape size halves address is =
    let tests = three_tests (is_misaligned halves address) (nat_lt shape.block (offset_of shape address + size)) (nat_le shape.rows (row_of shape address)) is in
    record { aligned = tests.0; fits = ltb-false shape.block (offset_of shape address + size) tests.1; row = leb-false shape.rows (row_of shape address) tests.2 }

pub aligned_block : (address : ℕ) → is_misaligned false address ≡ false → address % 16 ≡ 0
aligned_block address is = grind (arith, nat_tests)

-- a number is below a product where its quotient is below a factor
div_inside : (n k m : ℕ) → 0 < k → n / k < m → n < m * k
div_inside n k m some below =
    omega (arith, mul-le (n / k + 1) k m k (omega arith) (omega arith), div-add-mod' n k, mod_below n k some)

-- the same of three factors
div_inside_3 : (n v b r : ℕ) → 0 < v → 0 < b → n / v / b < r → n < r * b * v
div_inside_3 n v b r some_v some_b below = div_inside n v (r * b) some_v (div_inside (n / v) b r some_b below)

-- bytes that fit in one of n blocks of b bytes each are among all
block_holds : (b n q offset size : ℕ) → q < n → offset + size ≤ b → q * b + offset + size ≤ n * b
block_holds b n q offset size below fits = omega (arith, mul-le (q + 1) b n b (omega arith) (omega arith))

-- bytes that fit in a row that is there are below the capacity
pub inside_capacity : (shape : ShapeFields) (size address : ℕ) → offset_of shape address + size ≤ shape.block → row_of shape address < shape.rows → address + size ≤ capacity_of shape
inside_capacity shape size address fits row =
    let blocks : ℕ = shape.rows * 2 ^ shape.bank_bits * 2 ^ shape.vault_bits in
    let inside : address / shape.block < blocks =
    div_inside_3 (address / shape.block) (2 ^ shape.vault_bits) (2 ^ shape.bank_bits) shape.rows (pow_pos shape.vault_bits) (pow_pos shape.bank_bits) row in
    let held = block_holds shape.block blocks (address / shape.block) (offset_of shape address) size inside fits in
    let whole : shape.rows * 2 ^ shape.bank_bits * 2 ^ shape.vault_bits * shape.block ≡ capacity_of shape = grind arith in
    omega (arith, held, whole, div-add-mod' address shape.block)

pub register_there : (address : ℕ) → register_error address ≡ None → address < 16
unfolding register_error
register_there address is = leb-false 16 address (one_test (nat_le 16 address) is)

pub register_written : (address : ℕ) → register_write_error address ≡ None → (address < 16) × (4 ≤ address)
unfolding register_write_error
register_written address is =
    let tests = two_tests (nat_le 16 address) (nat_lt address 4) is in
    (leb-false 16 address tests.0, ltb-false address 4 tests.1)
