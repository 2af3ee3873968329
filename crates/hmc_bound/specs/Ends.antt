-- When the final lines of a case of one cube and one link say that it is drained.
use Rattle.std.specs.Prelude.{◌≡◌, ◌≤◌, ◌+◌, ◌*◌, ◌⊎◌, ℕ, Bool, true, false, List, [], ◌∷◌, ◌++◌, length, drop}
use Rattle.hmc_report.specs.Lines.{state_line}
use Rattle.hmc_host.specs.Host.{items_of}
use Rattle.hmc_schedule.specs.declared.step.Step.{Step}
use Rattle.hmc_schedule.specs.Round.{rounds_of}
use Rattle.hmc_entries.specs.declared.entry.Entry.{Entry}
use Rattle.hmc_journal.specs.Final.{final_lines_of}
use Rattle.hmc_journal.specs.Hosts.{given_count}
use Rattle.hmc_journal.specs.Lawful.{has_passed, journal_of}
use Rattle.hmc_journal.specs.Setup.{Setup}
use Rattle.hmc_rounds.specs.Single.{IsSingle}
use Rattle.hmc_rounds.specs.Rounds.{plan_of, RoundsFollow}
use Rattle.hmc_journal.specs.Settled.{AreSettled}
use Rattle.hmc_journal.specs.UnderWay.{under_way}

-- the journal before its last n whole rounds
abbrev pub before_rounds : Setup → (n : ℕ) → List Entry
before_rounds setup n = drop (length (rounds_of (plan_of setup.topology) n)) (journal_of setup)

-- The schedule ends with n whole rounds without noise, in which no host gives a request, and no
-- landing passes.
pub record EndsWithRounds (setup : Setup) (n : ℕ) : Type 0 where
  pub before : List Step
  pub is : setup.schedule ≡ before ++ rounds_of (plan_of setup.topology) n
  pub idle : (host : ℕ) →
      given_count host (journal_of setup) ≡ given_count host (before_rounds setup n)
  pub unpassed : has_passed (journal_of setup) ≡ false

-- n rounds after a journal are enough: from a settled link, and from any
abbrev pub AreEnough : Setup → List Entry → (n : ℕ) → Type 0
AreEnough setup past n =
    let k = under_way setup.topology past in
    (AreSettled setup.topology past × (2000 * (k + 1) ≤ n)) ⊎ (4000 + 2000 * (k + 1) ≤ n)

-- A journal that ends with enough of them is drained, by this answer.
abbrev pub IsDrainedBy : Setup → (journal : List Entry) → (answer : Bool) → Type 0
IsDrainedBy setup journal answer =
    IsSingle setup.topology → (past later : List Entry) (n : ℕ) → journal ≡ later ++ past →
    RoundsFollow setup past later n → AreEnough setup past n →
    answer ≡ true

-- each request of the script was given
abbrev pub AllGiven : Setup → List Entry → Type 0
AllGiven setup past = (host : ℕ) → length (items_of host setup.script) ≤ given_count host past

-- Where it ends with enough of them, the last of its final lines is `state drained`.
abbrev pub EndsDrained : Setup → Type 0
EndsDrained setup =
    IsSingle setup.topology → (n : ℕ) → EndsWithRounds setup n →
    AreEnough setup (before_rounds setup n) n →
    (lines : List (List ℕ))
    × (final_lines_of setup (journal_of setup) ≡ lines ++ state_line true ∷ [])
