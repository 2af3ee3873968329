use Rattle.std.proofs.Common.{arith}
use Rattle.hmc_report.proofs.LeftLemmas.{cube-line, state-line}
use Rattle.hmc_report.proofs.lines.cube_step.Goals as goal

pub returns-then-cube-cubes : goal.returns-then-cube-cubes
returns-then-cube-cubes g c =
    state-line (g.N.Finished.final_values c.args.net.now) c.args.cube c.drained.result _ (omega arith) c.drained.ensures c.state_line.ensures.text c.state_line.ensures.short

pub returns : goal.returns
returns g c =
    cube-line (g.N.Finished.final_values c.args.net.now) c.args.cube c.cube_counts.result _ (omega arith) c.cube_counts.ensures c.cube_line.ensures.text c.cube_line.ensures.short
