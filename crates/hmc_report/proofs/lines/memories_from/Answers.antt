use Rattle.std.proofs.Common.{sym, ◌∙◌, arith}
use Rattle.hmc_report.proofs.LeftLemmas.{memories-some, memories-none}
use Rattle.hmc_report.proofs.lines.memories_from.Goals as goal

pub returns-then-cube-cubes-clause-left : goal.returns-then-cube-cubes-clause-left
returns-then-cube-cubes-clause-left g c =
    c.registers_from.ensures.left ∙ sym (memories-none (g.N.Finished.final_values c.args.net.now) c.args.cube (omega arith))

pub returns-clause-left : goal.returns-clause-left
returns-clause-left g c =
    sym (memories-some (g.N.Finished.final_values c.args.net.now) c.args.cube (omega arith))
