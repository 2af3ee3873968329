-- A burst of 32 is whole.
use Rattle.std.proofs.Common.{refl, arith}
use Rattle.hmc_irtry.proofs.burst.Burst.new.Goals as goal

pub invariant_of-result : goal.invariant_of-result
invariant_of-result c = record { left = omega arith }

pub returns : goal.returns
returns c = refl
