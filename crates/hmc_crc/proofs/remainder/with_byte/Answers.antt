-- The byte at the top is added onto the register's front.
use Rattle.std.proofs.Common.{◌++◌, ◌∙◌, ap}
use Rattle.hmc_crc.specs.Remainder.{divide, divisor, zeros}
use Rattle.hmc_crc.proofs.Register.{bits_below-met}
use Rattle.hmc_crc.proofs.remainder.with_byte.Goals as goal

pub returns : goal.returns
returns c =
    c.eight_steps.ensures
    ∙ ap (λ bits. divide divisor 8 (bits ++ zeros 8)) (rw c.from.ensures (bits_below-met 24 8 c.args.register c.args.byte))
