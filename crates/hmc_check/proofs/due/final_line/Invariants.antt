-- So many of the lines before it are left.
use Rattle.std.proofs.Common.{◌≡◌, length}
use Rattle.std.specs.Prelude.{slice_get}
use Rattle.hmc_report.specs.Final.{final_lines}
use Rattle.hmc_check.proofs.due.final_line.Given as goal

abbrev pub invariant-lines : goal.invariant-lines
invariant-lines g l = slice_get l.lines l.left ≡ slice_get (final_lines (g.N.Finished.final_values l.fn.net)) l.fn.before

abbrev pub decreases-lines : goal.decreases-lines
decreases-lines g l = length l.lines
