use Rattle.hmc_schedule.specs.Round.{part_of}
use Rattle.hmc_schedule.proofs.RoundLemmas.{one_more}
use Rattle.hmc_schedule.proofs.round.each_cube.Goals as goal

pub loop-cube-preserved : goal.loop-cube-preserved
loop-cube-preserved c =
    one_more (λ v. v.items) (part_of c.args.part c.args.plan.now) c.loop-cube.cube c.part_steps.result c.loop-cube.steps.items c.add.new.steps.items c.in_default.ensures c.part_steps.ensures c.loop-cube.invariant
