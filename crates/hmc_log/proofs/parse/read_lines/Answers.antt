-- Line by line.
use Rattle.std.proofs.Common.{rules, arith}
use Rattle.std.proofs.lemmas.Bool.Decides.{nat_tests}
use Rattle.hmc_log.specs.Progress.{progress_of}
use Rattle.hmc_log.specs.Text.{after_line}
use Rattle.hmc_log.proofs.Turns.{line_good, line_bad, lines_end}
use Rattle.hmc_log.proofs.parse.read_lines.Goals as goal

pub returns-in-Err : goal.returns-in-Err
returns-in-Err c =
    line_bad (after_line c.args.hosts c.args.shapes.now) c.lines.number c.lines.left.now
    c.cut_line.result.1.now c.cut_line.result.0 (progress_of c.lines.reading) _ c.in-Err.fault
    c.cut_line.ensures.lines c.in-Err.ensures.value c.lines.invariant.2

pub lines-preserved : goal.lines-preserved
lines-preserved c = (
  search rules,
  c.in_default.ensures.kept,
  line_good (after_line c.args.hosts c.args.shapes.now) c.lines.number
      c.saturating_add-number.result c.lines.left.now c.cut_line.result.1.now
      c.cut_line.result.0 (progress_of c.lines.reading) _ _ c.cut_line.ensures.lines
      (search rules) c.in_default.ensures.value c.lines.invariant.2,
)

pub returns : goal.returns
returns c =
    lines_end (after_line c.args.hosts c.args.shapes.now) c.lines.number c.lines.left.now
    (progress_of c.lines.reading) _ (grind (arith, nat_tests)) c.lines.invariant.2
