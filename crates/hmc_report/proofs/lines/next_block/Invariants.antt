use Rattle.std.proofs.Common.{◌≡◌}
use Rattle.hmc_report.specs.Left.{blocks_left}
use Rattle.hmc_report.proofs.lines.next_block.Given as goal

abbrev pub invariant-scan : goal.invariant-scan
invariant-scan g l =
    let memory = (g.N.Finished.final_values l.net).memory l.cube in
    blocks_left l.cube memory l.fn.from ≡ blocks_left l.cube memory l.block
