use Rattle.std.proofs.Common.{◌≡◌, []}
use Rattle.hmc_report.specs.Left.{lines_left, IsCursor, rank}
use Rattle.hmc_report.proofs.lines.next_line.Given as goal

abbrev pub invariant-steps : goal.invariant-steps
invariant-steps g l =
    let values = g.N.Finished.final_values l.net in (lines_left values l.fn.from ≡ lines_left values l.cursor) × IsCursor values l.cursor × (l.into.bytes ≡ [])

abbrev pub decreases-steps : goal.decreases-steps
decreases-steps g l = rank (g.N.Finished.final_values l.net) l.cursor
