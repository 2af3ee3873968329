use Rattle.std.proofs.Common.{◌≤◌, List, ℕ, length}
use Rattle.std.specs.List.{concat}
use Rattle.hmc_report.specs.Final.{final_lines}
use Rattle.hmc_check.specs.Differs.{HasCome}
use Rattle.hmc_check.proofs.checker.follow_final.Given as goal

abbrev pub invariant-lines : goal.invariant-lines
invariant-lines g l = record {
  come : (text : List ℕ) → HasCome text l.fn.report l.fn.rest (concat (final_lines (g.N.Finished.final_values l.fn.net))) → HasCome text l.fn.report l.left (concat l.lines);
  fewer : length l.left ≤ length l.fn.rest;
}

abbrev pub decreases-lines : goal.decreases-lines
decreases-lines g l = length l.lines
