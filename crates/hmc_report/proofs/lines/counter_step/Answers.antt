use Rattle.std.proofs.Common.{arith}
use Rattle.hmc_report.proofs.LeftLemmas.{counters-line, counters-none}
use Rattle.hmc_report.proofs.lines.counter_step.Goals as goal

pub returns-then-direction-directions : goal.returns-then-direction-directions
returns-then-direction-directions g c =
    counters-none (g.N.Finished.final_values c.args.net.now) c.args.direction _ (omega arith) c.requires

pub returns : goal.returns
returns g c =
    counters-line (g.N.Finished.final_values c.args.net.now) c.args.direction c.counters.result _ (omega arith) c.counters.ensures c.counter_line.ensures.text c.counter_line.ensures.short
