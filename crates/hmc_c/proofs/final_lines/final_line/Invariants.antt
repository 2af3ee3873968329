-- The lines that are left follow those that were passed over.
use Rattle.std.proofs.Common.{◌≡◌, drop}
use Rattle.hmc_report.specs.Final.{final_lines}
use Rattle.hmc_c.specs.Values.{values_in}
use Rattle.hmc_c.proofs.final_lines.final_line.Given as goal

abbrev pub invariant-skipped : goal.invariant-skipped
invariant-skipped l = l.lines ≡ drop l.at (final_lines (values_in l.held))
