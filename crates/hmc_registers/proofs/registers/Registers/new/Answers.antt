use Rattle.std.proofs.Common.{refl}
use Rattle.hmc_registers.specs.Registers.{opening_registers}
use Rattle.hmc_registers.proofs.registers.Registers.new.Goals as goal

pub returns : goal.returns
unfolding opening_registers
returns c = rw (
  c.from-number.ensures,
  c.from-vault_bits.ensures,
  c.from-bank_bits.ensures,
  c.from-rows.ensures,
  ← c.shape.view_is,
) refl
