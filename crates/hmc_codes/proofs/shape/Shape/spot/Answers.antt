use Rattle.std.proofs.Common.{◌≡◌, ◌≤◌, ◌*◌, ◌^◌, ◌%◌, ℕ, zero, suc, refl, arith}
use Rattle.hmc_codes.proofs.shape.Shape.spot.Goals as goal

-- a shift by at most five bits is a power of two
one_shifted : (n : ℕ) → n ≤ 5 → 1 * 2 ^ n % 18446744073709551616 ≡ 2 ^ n
one_shifted zero h = refl
one_shifted (suc zero) h = refl
one_shifted (suc (suc zero)) h = refl
one_shifted (suc (suc (suc zero))) h = refl
one_shifted (suc (suc (suc (suc zero)))) h = refl
one_shifted (suc (suc (suc (suc (suc zero))))) h = refl
one_shifted (suc (suc (suc (suc (suc (suc n)))))) h = absurd (omega (arith, h))

pub returns-clause-vault : goal.returns-clause-vault
returns-clause-vault c =
    rw (
      c.from-bytes.ensures,
      one_shifted c.self.inside.vault_bits
          (omega (arith, c.self.invariant.vault_bits)),
      ← c.self.view_is,
    ) refl

pub returns-clause-bank : goal.returns-clause-bank
returns-clause-bank c =
    rw (
      c.from-bytes.ensures,
      one_shifted c.self.inside.vault_bits
          (omega (arith, c.self.invariant.vault_bits)),
      one_shifted c.self.inside.bank_bits
          (omega (arith, c.self.invariant.bank_bits)),
      ← c.self.view_is,
    ) refl
