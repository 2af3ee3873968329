use Rattle.std.proofs.Common.{◌≡◌, ◌++◌, List, ℕ, length}
use Rattle.hmc_outside.specs.Lines.{WritesLines}
use Rattle.hmc_report.specs.Final.{lines_from}
use Rattle.hmc_replay.proofs.report.write_final.Given as goal

abbrev pub invariant-lines : goal.invariant-lines
invariant-lines g l =
    (whole : List (List ℕ)) × (lines_from l.fn.from (g.N.Finished.final_values l.fn.net) ≡ whole ++ l.lines) × WritesLines (g.O.Sink.shows l.initial.sink) (g.O.Sink.shows l.sink) whole

abbrev pub decreases-lines : goal.decreases-lines
decreases-lines g l = length l.lines
