-- The two lines that `bound` writes.
use Rattle.std.specs.Prelude.{ℕ, List, [], ◌∷◌, codes}
use Rattle.hmc_bound.specs.Bound.{drain_bound}
use Rattle.hmc_entries.specs.declared.entry.Entry.{Entry}
use Rattle.hmc_journal.specs.Setup.{Topology}
use Rattle.hmc_journal.specs.UnderWay.{under_way}
use Rattle.hmc_replay.specs.Output.{number_line}

-- how many packets are under way
abbrev pub underway_line : ℕ → List ℕ
underway_line number = number_line (codes "underway") number

-- so many whole rounds drain them
abbrev pub bound_line : ℕ → List ℕ
bound_line rounds = number_line (codes "bound") rounds

-- both, after a journal
abbrev pub bound_lines : Topology → List Entry → List (List ℕ)
bound_lines topology past =
    underway_line (under_way topology past) ∷ bound_line (drain_bound topology past) ∷ []
