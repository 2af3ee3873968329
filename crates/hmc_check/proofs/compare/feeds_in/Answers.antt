-- One line feed more, or none.
use Rattle.std.proofs.Common.{refl, arith}
use Rattle.hmc_check.specs.Fronts.{feeds_in}
use Rattle.hmc_check.proofs.Comparing.{feeds_one, feeds_zero}
use Rattle.hmc_check.proofs.compare.feeds_in.Goals as goal
use Rattle.hmc_check.proofs.compare.feeds_in.Goals.{then-byte-eq10, else-byte-eq10}

pub loop-byte-init : goal.loop-byte-init
unfolding feeds_in
loop-byte-init c = record { count = refl; few = omega arith }

pub loop-byte-preserved : goal.loop-byte-preserved
loop-byte-preserved c =
    elim c.if-byte-eq10.branch [
      | then-byte-eq10 w ↦ record {
        count = feeds_one c.args.bytes.now c.loop-byte.byte-index c.loop-byte.n c.if-byte-eq10.n c.loop-byte-test.true c.loop-byte.invariant.count w.if-byte-eq10.true w.n-is;
        few = omega (arith, w.n-is, c.loop-byte.invariant.few);
      }
      | else-byte-eq10 w ↦ record {
        count = feeds_zero c.args.bytes.now c.loop-byte.byte-index c.loop-byte.n c.if-byte-eq10.n c.loop-byte-test.true c.loop-byte.invariant.count w.if-byte-eq10.false w.n-is;
        few = omega (arith, w.n-is, c.loop-byte.invariant.few);
      }
    ]
