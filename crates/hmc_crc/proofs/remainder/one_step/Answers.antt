-- A step whose leading coefficient is one adds the divisor; the other only shifts.
use Rattle.std.proofs.Common.{◌*◌, ◌%◌, ◌^◌, arith}
use Rattle.hmc_crc.specs.Remainder.{divisor}
use Rattle.hmc_crc.specs.declared.remainder.TheConstants.{POLYNOMIAL}
use Rattle.hmc_crc.proofs.Bits.{bits_below-xor}
use Rattle.hmc_crc.proofs.Check.{bits_below-polynomial}
use Rattle.hmc_crc.proofs.Register.{divide-one_set, divide-one_clear}
use Rattle.hmc_crc.proofs.remainder.one_step.Goals as goal

pub returns-then-register-eq1 : goal.returns-then-register-eq1
returns-then-register-eq1 c =
    rw (bits_below-xor 32 (c.args.register * 2 % 2 ^ 32) POLYNOMIAL, bits_below-polynomial)
    (divide-one_set divisor 31 c.args.register c.if-register-eq1.true)

pub returns-else-register-eq1 : goal.returns-else-register-eq1
returns-else-register-eq1 c = divide-one_clear divisor 31 c.args.register (omega arith)
