-- One more is made.
use Rattle.std.proofs.Common.{◌∙◌, ap, arith}
use Rattle.hmc_case.specs.Setup.{CubeSetupFields}
use Rattle.hmc_check.specs.Opening.{queues_setup}
use Rattle.hmc_check.proofs.Lists.{one_made, all_made}
use Rattle.hmc_check.proofs.past.sizes_of.Goals as goal

pub loop-at-preserved : goal.loop-at-preserved
loop-at-preserved c =
    one_made (λ (s : CubeSetupFields). queues_setup s) c.args.setups.now c.loop-at.at c.index-setups-at.result c.queues_setup.result c.loop-at.sizes.items _ (omega (arith, c.loop-at-test.true))
    (c.queues_setup.ensures ∙ ap (λ (s : CubeSetupFields). queues_setup s) c.index-setups-at.is) c.in_ok-push.ensures.items c.loop-at.invariant

pub returns : goal.returns
returns c = all_made (λ (s : CubeSetupFields). queues_setup s) c.args.setups.now c.loop-at.at c.loop-at.sizes.items (omega (arith, c.loop-at-test.false, c.loop-at.auto)) c.loop-at.invariant
