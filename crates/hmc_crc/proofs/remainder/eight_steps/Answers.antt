-- So many steps and one more are one step more of the division.
use Rattle.std.proofs.Common.{◌≡◌, ◌≤◌, length, sym, arith}
use Rattle.std.proofs.lemmas.List.{append-nil}
use Rattle.hmc_crc.specs.Bits.{bits_below}
use Rattle.hmc_crc.specs.Remainder.{divide, divisor, zeros}
use Rattle.hmc_crc.proofs.Bits.{length-bits_below}
use Rattle.hmc_crc.proofs.Check.{length-divisor}
use Rattle.hmc_crc.proofs.Register.{divide-push}
use Rattle.hmc_crc.proofs.remainder.eight_steps.Goals as goal

pub steps-init : goal.steps-init
unfolding divide zeros
steps-init c = sym (append-nil (bits_below 32 c.args.start))

pub steps-preserved : goal.steps-preserved
steps-preserved c =
    let short : length divisor ≤ length (bits_below 32 c.args.start) = omega (arith, length-divisor, length-bits_below 32 c.args.start) in
    rw (c.one_step-register.ensures, c.steps.invariant) (sym (divide-push divisor (bits_below 32 c.args.start) c.steps._step short))

pub returns : goal.returns
returns c = let eight : c.steps._step ≡ 8 = omega arith in rw eight at c.steps.invariant
