-- Steps of the plan are known, and no entry is of no kind.
use Rattle.std.proofs.Common.{◌≡◌, ◌∙◌, ◌<◌, ◌++◌, ◌&&◌, if◌then◌else◌, ℕ, Bool, true, false, not, nat_lt, List, [], ◌∷◌, Option, Some, None, refl, sym, ap, subst, arith}
use Rattle.std.specs.List.{All}
use Rattle.std.proofs.lemmas.Bool.Decides.{nat_tests}
use Rattle.std.proofs.lemmas.List.Elements.{All-head, All-tail}
use Rattle.hmc_codes.specs.declared.lift.Lift.{Lift}
use Rattle.hmc_codes.specs.declared.lift.Lift.TheVariants as lifts
use Rattle.hmc_schedule.specs.Plan.{PlanFields, IsStepOf, IsPortOf, IsVaultOf, IsLiftOf}
use Rattle.hmc_schedule.specs.declared.step.Step.{Step}
use Rattle.hmc_schedule.specs.declared.step.Step.TheVariants as steps
use Rattle.hmc_entries.specs.Event.{event_of}
use Rattle.hmc_entries.specs.declared.entry.Entry.{Entry}
use Rattle.hmc_entries.specs.declared.event.Event.{Event}
use Rattle.hmc_entries.specs.declared.entry.Entry.TheVariants as entries
use Rattle.hmc_entries.specs.declared.outcome.Cause.{Cause}
use Rattle.hmc_journal.specs.Setup.{Setup}
use Rattle.hmc_net.specs.Went.{went_of}
use Rattle.hmc_net.specs.declared.went.Went.{Went}
use Rattle.hmc_net.specs.declared.went.Went.TheVariants.{Idle}
use Rattle.hmc_session.specs.Refusals.{has_port, has_vault, has_lift, has_step, step_refusal}
use Rattle.hmc_session.specs.Running.{StopsOnce, RunsTo}
use Rattle.hmc_session.specs.Session.{SessionFields}
use Rattle.hmc_session.specs.Stops.{event_stop, is_stop, no_stops}
use Rattle.hmc_session.specs.declared.refusal.NotTaken.TheVariants.{Unknown, Over, Waits}
use Rattle.hmc_session.specs.declared.run.Ran.TheVariants.{Stopped}
use Rattle.hmc_session.specs.declared.run.Ran.TheVariants as rans
use Rattle.hmc_session.specs.declared.stops.Stops.{Stops}

-- ---- known steps

below : (a b : ℕ) → a < b → nat_lt a b ≡ true
below a b less = grind (arith, nat_tests, less)

both : (a b : Bool) → a ≡ true → b ≡ true → (a && b) ≡ true
both true true first second = refl
both true false first second = absurd (cc second)
both false b first second = absurd (cc first)

known_port : (plan : PlanFields) (cube port : ℕ) → IsPortOf plan cube port → has_port plan cube port ≡ true
known_port plan cube port is = both _ _ (both _ _ (below _ _ is.some_cube) (below _ _ is.some_port)) is.joined

known_vault : (plan : PlanFields) (cube vault : ℕ) → IsVaultOf plan cube vault → has_vault plan cube vault ≡ true
known_vault plan cube vault is = both _ _ (below _ _ is.some_cube) (below _ _ is.some_vault)

known_lift : (plan : PlanFields) (cube : ℕ) (from : Lift) → IsLiftOf plan cube from → has_lift plan cube from ≡ true
known_lift plan cube (lifts.Vault vault) is = both _ _ (below _ _ is.some_cube) (below _ _ is.some_lift)
known_lift plan cube lifts.Registers is = below _ _ is.some_cube

known : (plan : PlanFields) (step : Step) → IsStepOf plan step → has_step plan step ≡ true
known plan (steps.Give host) is = below _ _ is
known plan (steps.Send direction) is = below _ _ is
known plan (steps.Land direction mask) is = below _ _ is
known plan (steps.Shift cube port) is = known_port plan cube port is
known plan (steps.Spread cube vault) is = known_vault plan cube vault is
known plan (steps.Bank cube vault bank) is = both _ _ (known_vault plan cube vault is.some_vault) (below _ _ is.some_bank)
known plan (steps.Registers cube) is = below _ _ is
known plan (steps.Lift cube from) is = known_lift plan cube from is
known plan (steps.Take host) is = below _ _ is
known plan (steps.Through cube port) is = known_port plan cube port is
known plan (steps.Unlock direction) is = below _ _ is
known plan (steps.Retire slot) is = below _ _ is

not_unknown : (has over wait : Bool) → has ≡ true → (if not has then Some Unknown else if over then Some Over else if wait then Some Waits else None) ≡ Some Unknown → ⊥
not_unknown false over wait is unknown = absurd (cc is)
not_unknown true true wait is unknown = absurd cc
not_unknown true false true is unknown = absurd cc
not_unknown true false false is unknown = absurd cc

-- a step of the plan is refused for another cause, if it is
pub known_step : (session : SessionFields) (step : Step) → IsStepOf session.plan step → step_refusal session step ≡ Some Unknown → ⊥
known_step session step is unknown = not_unknown _ _ _ (known session.plan step is) unknown

all_after : (P : Step → Type 0) (some : List Step) (step : Step) (rest : List Step) → All P (some ++ step ∷ rest) → P step
all_after P [] step rest all = All-head P step rest all
all_after P (x ∷ some) step rest all = all_after P some step rest (All-tail P x (some ++ step ∷ rest) all)

pub known_run : (now : SessionFields) (setup : Setup) (past : List Entry) (laid left : List Step) (stops : Stops) (most : ℕ) → All (IsStepOf now.plan) laid → RunsTo rans.Unknown now setup past laid left stops most → ⊥
known_run now setup past laid left stops most all is =
    let of : All (IsStepOf now.plan) (is.runs.tried ++ is.step ∷ left) = subst (All (IsStepOf now.plan)) is.runs.laid_is all in
    known_step now is.step (all_after (IsStepOf now.plan) is.runs.tried is.step left of) is.refused

-- ---- no kind

pub never : (entry : Entry) → is_stop no_stops entry ≡ false
never (entries.Gave host tag poisoned request) = refl
never (entries.Sent direction what flit) = refl
never (entries.Landed direction flit outcome) = refl
never (entries.Shifted cube port goal) = refl
never (entries.Dropped cube port) = refl
never (entries.Spread cube vault bank) = refl
never (entries.Executed unit host tag request answer) = refl
never (entries.Lifted cube from port) = refl
never (entries.Took host tag answer) = refl
never (entries.Discarded host) = refl
never (entries.Through cube port direction) = refl
never (entries.Unlocked direction) = refl
never (entries.Retired slot) = refl
never (entries.Passed direction flit) = refl
never (entries.Idle step cause) = refl

not_once : (journal : List Entry) → StopsOnce true no_stops journal → ⊥
unfolding StopsOnce
not_once [] is = is
not_once (entry ∷ journal) is = let no = sym (never entry) ∙ is.0 in absurd (cc no)

pub goes_on : (now : SessionFields) (setup : Setup) (past : List Entry) (laid left : List Step) (most : ℕ) → RunsTo Stopped now setup past laid left no_stops most → ⊥
goes_on now setup past laid left most is = not_once is.2.entries is.2.once

-- ---- steps by how they went

-- the entry of a step that did nothing
pub idle_stop : (stops : Stops) (went : Went) (cause : Cause) (entry : Entry) → went ≡ Idle cause → went ≡ went_of entry → stops.idle ≡ is_stop stops entry
idle_stop stops went cause (entries.Idle step c) idle is = refl
idle_stop stops went cause (entries.Gave host tag poisoned request) idle is = absurd (cc (idle, is))
idle_stop stops went cause (entries.Sent direction what flit) idle is = absurd (cc (idle, is))
idle_stop stops went cause (entries.Landed direction flit outcome) idle is = absurd (cc (idle, is))
idle_stop stops went cause (entries.Shifted cube port goal) idle is = absurd (cc (idle, is))
idle_stop stops went cause (entries.Dropped cube port) idle is = absurd (cc (idle, is))
idle_stop stops went cause (entries.Spread cube vault bank) idle is = absurd (cc (idle, is))
idle_stop stops went cause (entries.Executed unit host tag request answer) idle is = absurd (cc (idle, is))
idle_stop stops went cause (entries.Lifted cube from port) idle is = absurd (cc (idle, is))
idle_stop stops went cause (entries.Took host tag answer) idle is = absurd (cc (idle, is))
idle_stop stops went cause (entries.Discarded host) idle is = absurd (cc (idle, is))
idle_stop stops went cause (entries.Through cube port direction) idle is = absurd (cc (idle, is))
idle_stop stops went cause (entries.Unlocked direction) idle is = absurd (cc (idle, is))
idle_stop stops went cause (entries.Retired slot) idle is = absurd (cc (idle, is))
idle_stop stops went cause (entries.Passed direction flit) idle is = absurd (cc (idle, is))

-- what an entry is counted as tells of a kind
tells : (stops : Stops) (entry : Entry) (told : Bool) → event_stop stops (event_of entry) ≡ Some told → told ≡ is_stop stops entry
tells stops (entries.Gave host tag poisoned request) told is = cc is
tells stops (entries.Sent direction what flit) told is = cc is
tells stops (entries.Landed direction flit outcome) told is = cc is
tells stops (entries.Shifted cube port goal) told is = absurd (cc is)
tells stops (entries.Dropped cube port) told is = cc is
tells stops (entries.Spread cube vault bank) told is = absurd (cc is)
tells stops (entries.Executed unit host tag request answer) told is = cc is
tells stops (entries.Lifted cube from port) told is = absurd (cc is)
tells stops (entries.Took host tag answer) told is = cc is
tells stops (entries.Discarded host) told is = absurd (cc is)
tells stops (entries.Through cube port direction) told is = absurd (cc is)
tells stops (entries.Unlocked direction) told is = cc is
tells stops (entries.Retired slot) told is = absurd (cc is)
tells stops (entries.Passed direction flit) told is = absurd (cc is)
tells stops (entries.Idle step cause) told is = absurd (cc is)

pub told_stop : (stops : Stops) (found : Option Bool) (told : Bool) (event : Event) (entry : Entry) → found ≡ Some told → found ≡ event_stop stops event → event ≡ event_of entry → told ≡ is_stop stops entry
told_stop stops found told event entry is of_event of_entry = tells stops entry told (ap (event_stop stops) (sym of_entry) ∙ sym of_event ∙ is)
