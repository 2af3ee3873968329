-- So many steps have been done.
use Rattle.std.proofs.Common.{◌≡◌, ◌++◌}
use Rattle.hmc_crc.specs.Bits.{bits_below}
use Rattle.hmc_crc.specs.Remainder.{divide, divisor, zeros}
use Rattle.hmc_crc.proofs.remainder.eight_steps.Given as goal

abbrev pub invariant-steps : goal.invariant-steps
invariant-steps l = bits_below 32 l.register ≡ divide divisor l._step (bits_below 32 l.start ++ zeros l._step)
