-- Lawful journals: each entry is the one that its step gives after the entries before it.
use Rattle.std.specs.Prelude.{◌≡◌, ◌⊎◌, Bool, true, false, List, [], ◌∷◌, length, slice_get, Option, Some, None}
use Rattle.hmc_schedule.specs.declared.step.Step.{Step}
use Rattle.hmc_entries.specs.declared.entry.Entry.{Entry}
use Rattle.hmc_entries.specs.Event.{is_passed}
use Rattle.hmc_journal.specs.Setup.{Setup}
use Rattle.hmc_journal.specs.Next.{next}

-- the entry is that of this step, if the schedule has one
abbrev pub Follows : Setup → List Entry → Option Step → Entry → Type 0
Follows setup past None entry = ⊥
Follows setup past (Some step) entry = entry ≡ next setup past step

-- the last entry is a landing that passed
abbrev pub has_passed : List Entry → Bool
has_passed [] = false
has_passed (entry ∷ past) = is_passed entry

-- an entry for each step of a prefix of the schedule; none follows a landing that passed
unfoldable pub Lawful : Setup → List Entry → Type 0
Lawful setup [] = Unit {0}
Lawful setup (entry ∷ past) =
    (has_passed past ≡ false)
    × Follows setup past (slice_get setup.schedule (length past)) entry × Lawful setup past

-- an entry for each step of the schedule, or the last is a landing that passed
pub record IsWhole (setup : Setup) (journal : List Entry) : Type 0 where
  pub lawful : Lawful setup journal
  pub whole : (length journal ≡ length setup.schedule) ⊎ (has_passed journal ≡ true)

-- a journal that ends here, or one that goes on
abbrev pub unless_passed : (passed : Bool) → (here : List Entry) → (Unit {0} → List Entry) →
    List Entry
unless_passed true here more = here
unless_passed false here more = more tt

-- the journal after these steps, which ends at a landing that passes
unfoldable pub journal_behind : Setup → List Entry → List Step → List Entry
journal_behind setup past [] = past
journal_behind setup past (step ∷ steps) =
    unless_passed (has_passed past) past
    (λ _. journal_behind setup (next setup past step ∷ past) steps)

-- the one whole journal of a case
unfoldable pub journal_of : Setup → List Entry
journal_of setup = journal_behind setup [] setup.schedule
