use Rattle.std.proofs.Common.{sym, arith}
use Rattle.hmc_report.proofs.LeftLemmas.{registers-some, registers-none}
use Rattle.hmc_report.proofs.lines.registers_from.Goals as goal

pub returns-then-cube-cubes-clause-left : goal.returns-then-cube-cubes-clause-left
returns-then-cube-cubes-clause-left g c =
    sym (registers-none (g.N.Finished.final_values c.args.net.now) c.args.cube (omega arith))

pub returns-clause-left : goal.returns-clause-left
returns-clause-left g c =
    sym (registers-some (g.N.Finished.final_values c.args.net.now) c.args.cube (omega arith))
