-- What the calls of a taped session say, on rows, and what is no tape.
use Rattle.std.proofs.Common.{◌≡◌, ◌∙◌, ◌++◌, ℕ, List, [], ◌∷◌, length, None, Some, Ok, Err, refl, sym, ap, arith}
use Rattle.std.specs.Prelude.{codes, map}
use Rattle.hmc_codes.specs.declared.memory.Memory.{Memory}
use Rattle.hmc_schedule.specs.declared.step.Step.{Step}
use Rattle.hmc_entries.specs.declared.entry.Entry.{Entry}
use Rattle.hmc_step_text.specs.Text.{schedule_text}
use Rattle.hmc_step_text.proofs.Printed.{schedule_text-[]}
use Rattle.hmc_case.specs.Case.{case_of}
use Rattle.hmc_journal.specs.Lawful.{journal_of}
use Rattle.hmc_journal.specs.Setup.{Setup, setup_of}
use Rattle.hmc_session.specs.Refusals.{step_refusal}
use Rattle.hmc_session.specs.declared.refusal.NotTaken.TheVariants.{Waits, Over}
use Rattle.hmc_session.specs.declared.stops.Stops.{Stops}
use Rattle.hmc_tape.specs.declared.taped.NotTaped.TheVariants as causes
use Rattle.hmc_tape.specs.Calls.{refusal_of, TapesNext, TapesRun}
use Rattle.hmc_tape.specs.Laws.{FitsCase, IsDocument, TapeIsCase}
use Rattle.hmc_tape.specs.Tape.{TapedFields, IsTapeOf, case_in, net_in}

-- out of memory is no refusal of the session
refusal_of-each : map refusal_of (causes.Refused Waits ∷ causes.Memory ∷ causes.Refused Over ∷ []) ≡ Some Waits ∷ None ∷ Some Over ∷ []
refusal_of-each = refl

-- a step that is left isn't passed over
TapesNext-none : (before now : TapedFields) (step : Step) (rest left : List Step) → TapesNext before now step rest left (Ok None) → ⊥
TapesNext-none before now step rest left is = is

-- a run isn't out of memory where no step is left
TapesRun-ended : (memory : Memory) (now : TapedFields) (setup : Setup) (past : List Entry) (laid : List Step) (stops : Stops) → TapesRun (Err memory) now setup past laid [] stops 5 → ⊥
TapesRun-ended memory now setup past laid stops is =
    let some : [] ≡ is.2.step ∷ is.2.rest = is.2.left_is in
    absurd cc

-- nor where the session refuses the next one
TapesRun-refused : (memory : Memory) (now : TapedFields) (setup : Setup) (past : List Entry) (laid : List Step) (step : Step) (stops : Stops) → step_refusal now.session step ≡ Some Over → TapesRun (Err memory) now setup past laid (step ∷ []) stops 5 → ⊥
TapesRun-refused memory now setup past laid step stops over is =
    let left : step ∷ [] ≡ is.2.step ∷ is.2.rest = is.2.left_is in
    let first : step ≡ is.2.step = cc left in
    let no : Some Over ≡ None = sym over ∙ ap (λ (s : Step). step_refusal now.session s) first ∙ is.2.free in
    absurd cc

-- a tape has no step that wasn't taken
IsTapeOf-longer : (taped : TapedFields) (setup : Setup) (past : List Entry) → taped.schedule ≡ codes "give 0" ++ 10 ∷ [] → setup.schedule ≡ [] → IsTapeOf taped setup past → ⊥
IsTapeOf-longer taped setup past text none is =
    let no : codes "give 0" ++ 10 ∷ [] ≡ [] = sym text ∙ is.schedule ∙ ap schedule_text none ∙ schedule_text-[] in
    absurd cc

-- the law says both: the bytes are the case, and its journal is the session's
TapeIsCase-case : TapeIsCase → (taped : TapedFields) (setup : Setup) (past : List Entry) (bytes : List ℕ) → IsTapeOf taped setup past → FitsCase setup → IsDocument bytes (net_in setup) taped.script taped.schedule → case_of bytes ≡ Ok (case_in setup)
TapeIsCase-case law taped setup past bytes tape fits document = (law taped setup past bytes tape fits document).0

TapeIsCase-journal : TapeIsCase → (taped : TapedFields) (setup : Setup) (past : List Entry) (bytes : List ℕ) → IsTapeOf taped setup past → FitsCase setup → IsDocument bytes (net_in setup) taped.script taped.schedule → past ≡ journal_of (setup_of (case_in setup) setup.slots)
TapeIsCase-journal law taped setup past bytes tape fits document = (law taped setup past bytes tape fits document).1

-- more steps than a case may have aren't one
FitsCase-steps : (setup : Setup) → length setup.schedule ≡ 1000001 → FitsCase setup → ⊥
FitsCase-steps setup many is = let few = is.steps in absurd (omega (arith, many, few))
