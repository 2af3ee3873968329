-- One step of a run of a taped session.
use Rattle.std.proofs.Common.{◌≡◌, List, [], ◌∷◌, Option, None, Some, Result, Ok, Err, refl, sym, ap, subst}
use Rattle.hmc_schedule.specs.declared.step.Step.{Step}
use Rattle.hmc_entries.specs.declared.entry.Entry.{Entry}
use Rattle.hmc_journal.specs.Next.{next}
use Rattle.hmc_journal.specs.Setup.{Setup}
use Rattle.hmc_growing.specs.Growing.{with_step}
use Rattle.hmc_net.specs.declared.went.Went.{Went}
use Rattle.hmc_session.specs.Refusals.{step_refusal}
use Rattle.hmc_session.specs.Session.{IsWaiting}
use Rattle.hmc_session.specs.declared.refusal.NotTaken.{NotTaken}
use Rattle.hmc_session.specs.declared.refusal.NotTaken.TheVariants.{Waits}
use Rattle.hmc_tape.specs.declared.taped.NotTaped.{NotTaped}
use Rattle.hmc_tape.specs.declared.taped.NotTaped.TheVariants as causes
use Rattle.hmc_tape.specs.Calls.{TapesNext, TapesNone}
use Rattle.hmc_tape.specs.Tape.{TapedFields, IsTapeOf}

-- what `next` says of its two cases
abbrev pub NextSays : (before now : TapedFields) → (laid left : List Step) → Result (Option Went) NotTaped → Type 0
NextSays before now laid left result = (laid ≡ [] → TapesNone before now left result) × ((step : Step) (rest : List Step) → laid ≡ step ∷ rest → TapesNext before now step rest left result)

-- the next step was taken
pub next_taken : (before now : TapedFields) (laid left : List Step) (result : Result (Option Went) NotTaped) (went : Went) → result ≡ Ok (Some went) → NextSays before now laid left result → (setup : Setup) (past : List Entry) → IsTapeOf before setup past
    → (step : Step) × (laid ≡ step ∷ left) × IsTapeOf now (with_step setup step) (next setup past step ∷ past)
next_taken before now [] left result went is says setup past tape = let nothing = (says.0 refl).none in absurd cc
next_taken before now (step ∷ rest) left result went is says setup past tape =
    let s = subst (λ (r : Result (Option Went) NotTaped). TapesNext before now step rest left r) is (says.1 step rest refl) in
    (step, ap (λ (l : List Step). step ∷ l) (sym s.0), s.1.tape setup past tape)

-- it was refused
pub next_refused : (before now : TapedFields) (laid left : List Step) (result : Result (Option Went) NotTaped) (refusal : NotTaken) → result ≡ Err (causes.Refused refusal) → NextSays before now laid left result
    → (step : Step) × (laid ≡ step ∷ left) × (step_refusal before.session step ≡ Some refusal) × (now ≡ before)
next_refused before now [] left result refusal is says = let nothing = (says.0 refl).none in absurd cc
next_refused before now (step ∷ rest) left result refusal is says =
    let s = subst (λ (r : Result (Option Went) NotTaped). TapesNext before now step rest left r) is (says.1 step rest refl) in
    (step, ap (λ (l : List Step). step ∷ l) (sym s.0), s.1.refused, s.1.same)

-- it waits
pub next_waiting : (before now : TapedFields) (laid left : List Step) (result : Result (Option Went) NotTaped) → result ≡ Err (causes.Refused Waits) → NextSays before now laid left result → (setup : Setup) (past : List Entry) → IsTapeOf before setup past
    → (step : Step) × (laid ≡ step ∷ left) × IsWaiting before.session.finished setup past step × (now ≡ before)
next_waiting before now [] left result is says setup past tape = let nothing = (says.0 refl).none in absurd cc
next_waiting before now (step ∷ rest) left result is says setup past tape =
    let s = subst (λ (r : Result (Option Went) NotTaped). TapesNext before now step rest left r) is (says.1 step rest refl) in
    (step, ap (λ (l : List Step). step ∷ l) (sym s.0), s.1.waits setup past tape refl, s.1.same)

-- there is no room for it
pub next_lacking : (before now : TapedFields) (laid left : List Step) (result : Result (Option Went) NotTaped) → result ≡ Err causes.Memory → NextSays before now laid left result → (step : Step) × (rest : List Step) × (left ≡ step ∷ rest) × (laid ≡ left) × (now ≡ before) × (step_refusal before.session step ≡ None)
next_lacking before now [] left result is says = let nothing = (says.0 refl).none in absurd cc
next_lacking before now (step ∷ rest) left result is says =
    let s = subst (λ (r : Result (Option Went) NotTaped). TapesNext before now step rest left r) is (says.1 step rest refl) in
    (step, rest, s.0, sym s.0, s.1.same, s.1.refused)

-- none was left
pub next_none : (before now : TapedFields) (laid left : List Step) (result : Result (Option Went) NotTaped) → result ≡ Ok None → NextSays before now laid left result → (laid ≡ []) × (left ≡ []) × (now ≡ before)
next_none before now [] left result is says = (refl, (says.0 refl).nothing_left, (says.0 refl).same)
next_none before now (step ∷ rest) left result is says = absurd (subst (λ (r : Result (Option Went) NotTaped). TapesNext before now step rest left r) is (says.1 step rest refl))
