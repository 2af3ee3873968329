use Rattle.std.proofs.Common.{◌≡◌}
use Rattle.hmc_report.specs.Left.{values_left}
use Rattle.hmc_report.proofs.lines.next_register.Given as goal

abbrev pub invariant-scan : goal.invariant-scan
invariant-scan g l =
    let registers = (g.N.Finished.final_values l.net).registers l.cube in
    values_left l.cube registers l.fn.from ≡ values_left l.cube registers l.register
