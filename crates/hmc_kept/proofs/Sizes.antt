-- The bytes of a cube.
use Rattle.std.proofs.Common.{◌≡◌, ◌≤◌, ◌*◌, ◌%◌, ◌^◌, ◌∙◌, ℕ, true, ap, arith}
use Rattle.std.proofs.Math.Nat.{mul_assoc, mul-le-mul}
use Rattle.std.proofs.Math.Pow.{pow_mono}
use Rattle.hmc_codes.specs.Shape.{ShapeFields, IsShape, is_block, capacity_of}
use Rattle.hmc_codes.proofs.Blocks.{by_block, block_most}

times_block : (b n : ℕ) → is_block b ≡ true → (b * n) % 16 ≡ 0
times_block b n is = by_block (λ m. (m * n) % 16 ≡ 0) b is (omega arith) (omega arith) (omega arith) (omega arith)

pub capacity_blocks : (shape : ShapeFields) → IsShape shape → capacity_of shape % 16 ≡ 0
capacity_blocks shape is =
    let v = 2 ^ shape.vault_bits in
    let b = 2 ^ shape.bank_bits in
    let same : capacity_of shape ≡ shape.block * (v * b * shape.rows) =
    ap (λ n. n * shape.rows) (mul_assoc shape.block v b) ∙ mul_assoc shape.block (v * b) shape.rows in
    ap (λ n. n % 16) same ∙ times_block shape.block (v * b * shape.rows) is.block

pub capacity_most : (shape : ShapeFields) → IsShape shape → capacity_of shape ≤ 2 ^ 27
capacity_most shape is =
    mul-le-mul (mul-le-mul (mul-le-mul (block_most shape.block is.block) (pow_mono {i = shape.vault_bits} {j = 5} is.vault_bits)) (pow_mono {i = shape.bank_bits} {j = 4} is.bank_bits)) is.rows
