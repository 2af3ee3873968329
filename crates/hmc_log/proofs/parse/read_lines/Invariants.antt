-- The lines so far, and then the rest, are all.
use Rattle.std.proofs.Common.{◌≡◌, length}
use denote.Text.{Utf8}
use denote.Shadow.{shadow}
use Rattle.hmc_text.specs.InTurn.{after_lines}
use Rattle.hmc_log.specs.Lines.{lines_in}
use Rattle.hmc_log.specs.Progress.{progress_of, IsReading}
use Rattle.hmc_log.specs.Text.{after_line}
use Rattle.hmc_log.proofs.parse.read_lines.Given as goal

abbrev pub invariant-lines : goal.invariant-lines
invariant-lines l = shadow (Utf8 l.left) × IsReading l.reading
    × (after_lines (after_line l.fn.hosts l.fn.shapes) l.number (progress_of l.reading)
    (lines_in l.left)
    ≡ after_lines (after_line l.fn.hosts l.fn.shapes) 1 (progress_of l.fn.reading)
    (lines_in l.fn.text))

abbrev pub decreases-lines : goal.decreases-lines
decreases-lines l = length l.left
