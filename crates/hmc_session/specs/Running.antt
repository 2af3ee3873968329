-- A run of laid steps, up to an entry of a chosen kind.
use Rattle.std.specs.Prelude.{◌≡◌, ◌≤◌, ◌<◌, ◌⊎◌, ℕ, Bool, true, false, List, [], ◌∷◌, ◌++◌, length, Option, Some, None, if◌then◌else◌}
use Rattle.std.specs.List.{All}
use Rattle.hmc_schedule.specs.declared.step.Step.{Step}
use Rattle.hmc_entries.specs.declared.entry.Entry.{Entry}
use Rattle.hmc_journal.specs.Next.{next}
use Rattle.hmc_journal.specs.Setup.{Setup}
use Rattle.hmc_growing.specs.Growing.{with_step}
use Rattle.hmc_session.specs.Refusals.{step_refusal}
use Rattle.hmc_session.specs.Session.{SessionFields, StandsIn, IsWaiting}
use Rattle.hmc_session.specs.Stops.{is_stop}
use Rattle.hmc_session.specs.declared.refusal.NotTaken.{NotTaken}
use Rattle.hmc_session.specs.declared.refusal.NotTaken.TheVariants as refusals
use Rattle.hmc_session.specs.declared.run.Ran.{Ran}
use Rattle.hmc_session.specs.declared.run.Ran.TheVariants.{Stopped, Tried, Ended, Unknown, Over}
use Rattle.hmc_session.specs.declared.stops.Stops.{Stops}

-- the same case, with these steps after those of its schedule
abbrev pub with_steps : Setup → List Step → Setup
with_steps setup more = record {
  topology = setup.topology;
  slots = setup.slots;
  script = setup.script;
  schedule = setup.schedule ++ more;
}

-- Each of the steps that were tried was taken, in their order, or it waited when its turn came. The
-- journal has an entry more for each that was taken.
unfoldable pub TakenOrWaiting : (finished : List Bool) → Setup → (past : List Entry) →
    (tried taken : List Step) → (journal : List Entry) → Type 0
TakenOrWaiting finished setup past [] [] journal = journal ≡ past
TakenOrWaiting finished setup past [] (first ∷ taken) journal = ⊥
TakenOrWaiting finished setup past (step ∷ tried) [] journal =
    IsWaiting finished setup past step × TakenOrWaiting finished setup past tried [] journal
TakenOrWaiting finished setup past (step ∷ tried) (first ∷ taken) journal =
    ((step ≡ first) × TakenOrWaiting finished (with_step setup step)
    (next setup past step ∷ past) tried taken journal)
    ⊎ (IsWaiting finished setup past step
    × TakenOrWaiting finished setup past tried (first ∷ taken) journal)

-- none of the entries is of a chosen kind, or the latest alone
unfoldable pub StopsOnce : (stopped : Bool) → Stops → List Entry → Type 0
StopsOnce false stops entries = All (λ entry. is_stop stops entry ≡ false) entries
StopsOnce true stops [] = ⊥
StopsOnce true stops (entry ∷ entries) =
    (is_stop stops entry ≡ true) × All (λ entry. is_stop stops entry ≡ false) entries

-- The last of the steps that were tried was taken, and its entry is the latest: no step was tried
-- after it.
pub record EndsTaken (finished : List Bool) (setup : Setup) (past : List Entry)
    (tried taken : List Step) (journal : List Entry) : Type 0 where
  pub before : List Step
  pub some : List Step
  pub last : Step
  pub earlier : List Entry
  pub tried_is : tried ≡ before ++ last ∷ []
  pub taken_is : taken ≡ some ++ last ∷ []
  pub journal_is : journal ≡ next (with_steps setup some) earlier last ∷ earlier
  pub each : TakenOrWaiting finished setup past before some earlier

-- So many of the laid steps were tried, and these are left. What runs stands for the case with the
-- steps that were taken, and for the journal with their entries, the latest one first. What that
-- means is a parameter, since a session may have more beside it that stands for them.
pub record RunsOn (stands_for : Setup → List Entry → Type 0) (finished : List Bool) (setup : Setup)
    (past : List Entry) (laid left : List Step) (stops : Stops) (count : ℕ) (stopped : Bool)
    : Type 0 where
  pub tried : List Step
  pub taken : List Step
  pub entries : List Entry
  pub laid_is : laid ≡ tried ++ left
  pub count_is : length tried ≡ count
  pub each : TakenOrWaiting finished setup past tried taken (entries ++ past)
  pub stands : stands_for (with_steps setup taken) (entries ++ past)
  pub once : StopsOnce stopped stops entries
  pub ends : stopped ≡ true → EndsTaken finished setup past tried taken (entries ++ past)

-- the same, and the next step is refused: it is off the list, and not among those that were tried
pub record RefusedAfter (stands_for : Setup → List Entry → Type 0) (refusal : NotTaken)
    (now : SessionFields) (setup : Setup) (past : List Entry) (laid left : List Step)
    (stops : Stops) (most : ℕ) : Type 0 where
  pub count : ℕ
  pub few : count < most
  pub step : Step
  pub runs : RunsOn stands_for now.finished setup past laid (step ∷ left) stops count false
  pub refused : step_refusal now step ≡ Some refusal

-- a run that tries at most so many steps ended so
abbrev pub RunsBy : (stands_for : Setup → List Entry → Type 0) → Ran → SessionFields → Setup →
    List Entry → (laid left : List Step) → Stops → (most : ℕ) → Type 0
RunsBy stands_for Stopped now setup past laid left stops most =
    (count : ℕ) × (count ≤ most)
    × RunsOn stands_for now.finished setup past laid left stops count true
RunsBy stands_for Tried now setup past laid left stops most =
    RunsOn stands_for now.finished setup past laid left stops most false
RunsBy stands_for Ended now setup past laid left stops most =
    (count : ℕ) × (count < most) × (left ≡ [])
    × RunsOn stands_for now.finished setup past laid left stops count false
RunsBy stands_for Unknown now setup past laid left stops most =
    RefusedAfter stands_for refusals.Unknown now setup past laid left stops most
RunsBy stands_for Over now setup past laid left stops most =
    RefusedAfter stands_for refusals.Over now setup past laid left stops most

-- a run of a session
abbrev pub RunsTo : Ran → SessionFields → Setup → List Entry → (laid left : List Step) → Stops →
    (most : ℕ) → Type 0
RunsTo ran now setup past laid left stops most =
    RunsBy (StandsIn now) ran now setup past laid left stops most

-- one step was tried, and the run goes on or ends with it
abbrev pub TriesBy : (stands_for : Setup → List Entry → Type 0) → Option Ran → SessionFields →
    Setup → List Entry → (laid left : List Step) → Stops → Type 0
TriesBy stands_for None now setup past laid left stops =
    RunsOn stands_for now.finished setup past laid left stops 1 false
TriesBy stands_for (Some Stopped) now setup past laid left stops =
    RunsOn stands_for now.finished setup past laid left stops 1 true
TriesBy stands_for (Some Tried) now setup past laid left stops = ⊥
TriesBy stands_for (Some Ended) now setup past laid left stops =
    (left ≡ []) × RunsOn stands_for now.finished setup past laid left stops 0 false
TriesBy stands_for (Some Unknown) now setup past laid left stops =
    RefusedAfter stands_for refusals.Unknown now setup past laid left stops 1
TriesBy stands_for (Some Over) now setup past laid left stops =
    RefusedAfter stands_for refusals.Over now setup past laid left stops 1

-- so many steps were tried, and the run goes on after all of them or ends with one
abbrev pub TriesAll : (stands_for : Setup → List Entry → Type 0) → Option Ran → SessionFields →
    Setup → List Entry → (laid left : List Step) → Stops → (count : ℕ) → Type 0
TriesAll stands_for None now setup past laid left stops count =
    RunsOn stands_for now.finished setup past laid left stops count false
TriesAll stands_for (Some ran) now setup past laid left stops count =
    (ran ≡ Tried → ⊥) × RunsBy stands_for ran now setup past laid left stops count

-- how a run ends with a step that isn't taken, if it does
abbrev pub ended_by : NotTaken → Option Ran
ended_by refusals.Waits = None
ended_by refusals.Unknown = Some Unknown
ended_by refusals.Over = Some Over

-- a run ends with an entry of a chosen kind
abbrev pub stopped_at : Stops → Entry → Option Ran
stopped_at stops entry = (if is_stop stops entry then Some Stopped else None)
