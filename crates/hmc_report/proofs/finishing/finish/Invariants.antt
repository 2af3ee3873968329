use Rattle.std.proofs.Common.{◌≡◌, ◌++◌, List, ℕ, length, string_bytes}
use Rattle.std.specs.List.{concat}
use Rattle.hmc_report.specs.Final.{lines_from}
use Rattle.hmc_report.proofs.finishing.finish.Given as goal

abbrev pub invariant-all : goal.invariant-all
invariant-all g l =
    (whole : List (List ℕ)) × (lines_from l.fn.from (g.N.Finished.final_values l.fn.net) ≡ whole ++ l.lines) × (string_bytes l.into ≡ string_bytes l.initial.into ++ concat whole)

abbrev pub decreases-all : goal.decreases-all
decreases-all g l = length l.lines
