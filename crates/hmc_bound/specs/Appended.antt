-- A case with whole rounds after its schedule.
use Rattle.std.specs.Prelude.{◌≡◌, ◌≤◌, ℕ, true, false, List, [], ◌∷◌, ◌++◌}
use Rattle.hmc_report.specs.Lines.{state_line}
use Rattle.hmc_schedule.specs.Round.{rounds_of}
use Rattle.hmc_journal.specs.Final.{final_lines_of}
use Rattle.hmc_journal.specs.Hosts.{given_count}
use Rattle.hmc_journal.specs.Lawful.{has_passed, journal_of}
use Rattle.hmc_journal.specs.Setup.{Setup}
use Rattle.hmc_rounds.specs.Rounds.{plan_of}
use Rattle.hmc_bound.specs.Bound.{drain_bound}

-- n whole rounds without noise after its schedule
abbrev pub with_rounds : Setup → (n : ℕ) → Setup
with_rounds setup n =
    record setup { schedule = setup.schedule ++ rounds_of (plan_of setup.topology) n }

-- as many as are enough for what the case leaves under way
abbrev pub bound_of : Setup → ℕ
bound_of setup = drain_bound setup.topology (journal_of setup)

-- With so many rounds after its schedule, in which no host gives a request and no landing passes,
-- the last of its final lines is `state drained`.
abbrev pub BoundDrains : Setup → Type 0
BoundDrains setup =
    (n : ℕ) → bound_of setup ≤ n →
    let longer = with_rounds setup n in
    has_passed (journal_of longer) ≡ false →
    ((host : ℕ) → given_count host (journal_of longer) ≡ given_count host (journal_of setup)) →
    (lines : List (List ℕ))
    × (final_lines_of longer (journal_of longer) ≡ lines ++ state_line true ∷ [])
