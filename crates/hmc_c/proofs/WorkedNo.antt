-- What the clauses of the calls don't allow: one value each.
use Rattle.std.proofs.Common.{◌≡◌, ◌∙◌, ◌⊎◌, ℕ, Bool, true, false, List, [], ◌∷◌, replicate, Option, Some, None, Ok, Err, inl, inr, refl, subst, sym, arith}
use Rattle.std.specs.Prelude.{Result, IsUtf8}
use Rattle.hmc_units.specs.Unit.{UnitFields}
use Rattle.hmc_schedule.specs.declared.fault.ScheduleKind.{ScheduleKind}
use Rattle.hmc_schedule.specs.Plan.{PlanFields}
use Rattle.hmc_schedule.specs.declared.step.Step.{Step}
use Rattle.hmc_script.specs.Items.{ItemFields}
use Rattle.hmc_entries.specs.declared.entry.Entry.{Entry}
use Rattle.hmc_journal.specs.Setup.{Setup}
use Rattle.hmc_case.specs.Case.{CaseFields}
use Rattle.hmc_case.specs.Reading.{Fault}
use Rattle.hmc_case.specs.declared.fault.Section.{Section}
use Rattle.hmc_check.specs.Verdict.{IsLawfulReport, IsVerdict}
use Rattle.hmc_check.specs.declared.checker.CheckFault.{CheckFault}
use Rattle.hmc_check.specs.declared.checker.CheckFault.TheVariants.{Memory, Unlawful}
use Rattle.hmc_codec.specs.declared.plain.PlainPacket.{PlainPacket}
use Rattle.hmc_packet.specs.declared.bad.Bad.TheVariants.{Crc}
use Rattle.hmc_session.specs.Asking.{item_in}
use Rattle.hmc_session.specs.Session.{SessionFields}
use Rattle.hmc_session.specs.declared.refusal.LineNotAsked.TheVariants.{NotOne}
use Rattle.hmc_session.specs.declared.refusal.NotAsked.TheVariants.{Full}
use Rattle.hmc_session.specs.declared.refusal.NotTaken.TheVariants.{Waits}
use Rattle.hmc_session.specs.declared.run.Ran.{Ran}
use Rattle.hmc_session.specs.declared.run.Ran.TheVariants.{Stopped, Tried, Ended, Unknown, Over}
use Rattle.hmc_session.specs.declared.stops.Stops.{Stops}
use Rattle.hmc_c.specs.Asks.{AsksBy}
use Rattle.hmc_c.specs.Codec.{FlitsShown, PacketShown}
use Rattle.hmc_c.specs.Faults.{BytesFault, FaultShown}
use Rattle.hmc_c.specs.Handles.{HandleKeepsParts, IsHeld, OpenedBy, shown}
use Rattle.hmc_c.specs.Kept.{IsBegun, KeepsParts, fields_in}
use Rattle.hmc_c.specs.Laying.{LaidBy, NextBy, RanBy, ran_status}
use Rattle.hmc_c.specs.Lines.{IsWritten, TapeShown, TextShown}
use Rattle.hmc_c.specs.Reports.{CheckedWith, IsChecked, ReportedWith, VerdictShown}
use Rattle.hmc_c.specs.Shows.{ShowsLeft}
use Rattle.hmc_c.specs.Steps.{LacksRoom, TakesBy}
use Rattle.hmc_c.specs.Units.{OpenedWith}
use Rattle.hmc_c.specs.Values.{LeftShown}
use Rattle.hmc_c.specs.Words.{AsksText, BytesAsked, TextAskedBy}
use Rattle.hmc_c.specs.declared.faults.FaultOut.{FaultOut}
use Rattle.hmc_c.specs.declared.held.Held.{Held}
use Rattle.hmc_c.specs.declared.kept.Kept.{Kept}

-- two statuses that are both another one
neither : (s a b : ℕ) → (s ≡ a → ⊥) → (s ≡ b → ⊥) → (s ≡ a) ⊎ (s ≡ b) → ⊥
neither s a b first second (inl is) = first is
neither s a b first second (inr is) = second is

-- ---- opening

OpenedBy-case : (tape : Bool) (case : CaseFields) (slots : List (Option UnitFields)) (old new : Option Held) → OpenedBy 6 tape (Ok case) slots old new → ⊥
OpenedBy-case tape case slots old new (inl is) = let no : ◌≡◌ {A = ℕ} 6 0 = is.0 in absurd (omega (arith, no))
OpenedBy-case tape case slots old new (inr is) = let no : ◌≡◌ {A = ℕ} 6 1 = is.0 in absurd (omega (arith, no))

OpenedBy-fault : (tape : Bool) (fault : Fault) (slots : List (Option UnitFields)) (old new : Option Held) → OpenedBy 0 tape (Err fault) slots old new → ⊥
OpenedBy-fault tape fault slots old new is = neither 0 6 1 (λ is. absurd (omega (arith, is))) (λ is. absurd (omega (arith, is))) is.0

-- units that are none open no handle
OpenedWith-none : (tape : Bool) (read : Result CaseFields Fault) (slots : List (Option UnitFields)) (old new : Option Held) → OpenedWith false 0 tape read slots old new → ⊥
OpenedWith-none tape read slots old new is = neither 0 8 1 (λ is. absurd (omega (arith, is))) (λ is. absurd (omega (arith, is))) is.0

-- the steps of the case are laid down, and its hosts are open
IsHeld-laid : (held : Held) (tape : Bool) (case : CaseFields) (slots : List (Option UnitFields)) (step : Step) (rest : List Step) → held.laid ≡ [] → case.schedule ≡ step ∷ rest → IsHeld held tape case slots → ⊥
IsHeld-laid held tape case slots step rest none some is =
    let no : [] ≡ step ∷ rest = sym none ∙ is.laid ∙ some in
    absurd cc

IsHeld-open : (held : Held) (tape : Bool) (case : CaseFields) (slots : List (Option UnitFields)) (more : List Bool) → (shown held).finished ≡ true ∷ more → IsHeld held tape case slots → ⊥
IsHeld-open held tape case slots more finished is =
    let no : true ∷ more ≡ false ∷ replicate 7 false = sym finished ∙ is.unfinished in
    absurd cc

IsHeld-taped : (held : Held) (case : CaseFields) (slots : List (Option UnitFields)) → IsHeld held true case slots → IsHeld held false case slots → ⊥
IsHeld-taped held case slots is other = let no : true ≡ false = sym is.tape_is ∙ other.tape_is in absurd cc

-- a session begins with open hosts, and with a tape or without one
IsBegun-open : (kept : Kept) (tape : Bool) (case : CaseFields) (slots : List (Option UnitFields)) (more : List Bool) → (fields_in kept).finished ≡ true ∷ more → IsBegun kept tape case slots → ⊥
IsBegun-open kept tape case slots more finished is =
    let no : true ∷ more ≡ false ∷ replicate 7 false = sym finished ∙ is.unfinished in
    absurd cc

IsBegun-taped : (kept : Kept) (case : CaseFields) (slots : List (Option UnitFields)) → IsBegun kept true case slots → IsBegun kept false case slots → ⊥
IsBegun-taped kept case slots is other = let no : true ≡ false = sym is.tape_is ∙ other.tape_is in absurd cc

-- a call finishes no host
KeepsParts-finished : (old new : Kept) (more : List Bool) → (fields_in old).finished ≡ replicate 8 false → (fields_in new).finished ≡ true ∷ more → KeepsParts old new → ⊥
KeepsParts-finished old new more unfinished finished is =
    let no : true ∷ more ≡ false ∷ replicate 7 false = sym finished ∙ is.finished ∙ unfinished in
    absurd cc

-- nor does it close a handle
HandleKeepsParts-closed : (held : Held) → HandleKeepsParts (Some held) None → ⊥
HandleKeepsParts-closed held is = is

-- ---- requests and steps

AsksBy-full : (S : Setup → List Entry → Type 0) (setup : Setup) (past : List Entry) (item : ItemFields) → AsksBy 0 (Some Full) S setup past item → ⊥
AsksBy-full S setup past item is = let no : ◌≡◌ {A = ℕ} 0 15 = is.0 in absurd (omega (arith, no))

TakesBy-waits : (S : Setup → List Entry → Type 0) (setup : Setup) (past : List Entry) (step : Step) → TakesBy 0 (Some Waits) S setup past step → ⊥
TakesBy-waits S setup past step is = let no : ◌≡◌ {A = ℕ} 0 10 = is.0 in absurd (omega (arith, no))

-- what is asked is the one request of the text; a text that states none isn't asked, nor are bytes that
-- are no text
AsksText-none : (S : Setup → List Entry → Type 0) (plan : PlanFields) (setup : Setup) (past : List Entry) (text : List ℕ) → item_in plan text ≡ Err NotOne → AsksText S plan setup past text → ⊥
AsksText-none S plan setup past text none is = let no : Ok is.item ≡ Err NotOne = sym is.states ∙ none in absurd cc

TextAskedBy-none : (S : Setup → List Entry → Type 0) (plan : PlanFields) (setup : Setup) (past : List Entry) (text : List ℕ) → TextAskedBy 0 (Some NotOne) plan S setup past text → ⊥
TextAskedBy-none S plan setup past text is = neither 0 6 1 (λ is. absurd (omega (arith, is))) (λ is. absurd (omega (arith, is))) is.0

BytesAsked-none : (old new : Held) (setup : Setup) (past : List Entry) (bytes : List ℕ) → (IsUtf8 bytes → ⊥) → BytesAsked 0 old new setup past bytes → ⊥
BytesAsked-none old new setup past bytes none is = let no : ◌≡◌ {A = ℕ} 0 6 = (is.none none).0 in absurd (omega (arith, no))

-- a session without a tape isn't out of memory by a step
LacksRoom-untaped : (S : Setup → List Entry → Type 0) (setup : Setup) (past : List Entry) → LacksRoom 1 false None S setup past → ⊥
LacksRoom-untaped S setup past is = let no : false ≡ true = is.0 in absurd cc

-- no step appears on the list
NextBy-left : (old : SessionFields) (S : Setup → List Entry → Type 0) (setup : Setup) (past : List Entry) (step : Step) → NextBy 8 false old S setup past [] (step ∷ []) → ⊥
NextBy-left old S setup past step is = let no : step ∷ [] ≡ [] = is.2 in absurd cc

-- a run ends with a status of its own
no_ran : (ran : Ran) → 10 ≡ ran_status ran → ⊥
no_ran Stopped is = absurd cc
no_ran Tried is = absurd cc
no_ran Ended is = absurd cc
no_ran Unknown is = absurd cc
no_ran Over is = absurd cc

RanBy-waits : (S : Setup → List Entry → Type 0) (now : SessionFields) (setup : Setup) (past : List Entry) (laid left : List Step) (stops : Stops) (most : ℕ) → RanBy 10 S now setup past laid left stops most → ⊥
RanBy-waits S now setup past laid left stops most is = no_ran is.ran is.ended

LaidBy-fault : (fault : ℕ × ScheduleKind) (old new : List Step) → LaidBy 0 (Err fault) old new → ⊥
LaidBy-fault fault old new is = neither 0 6 1 (λ is. absurd (omega (arith, is))) (λ is. absurd (omega (arith, is))) is.0

-- ---- what is written

-- nothing where the room is too small, and all where it isn't
IsWritten-short : (new : List ℕ) → IsWritten 0 2 (1 ∷ 2 ∷ []) (0 ∷ []) new → ⊥
IsWritten-short new is = let no : ◌≡◌ {A = ℕ} 0 8 = (is.short (omega arith)).0 in absurd (omega (arith, no))

IsWritten-fits : (new : List ℕ) → IsWritten 8 0 (1 ∷ []) (0 ∷ []) new → ⊥
IsWritten-fits new is = let no : ◌≡◌ {A = ℕ} 8 0 = (is.fits (omega arith)).0 in absurd (omega (arith, no))

-- the length is said also where there is no room
TextShown-count : TextShown 0 8 0 (1 ∷ []) [] [] → ⊥
TextShown-count is = let no : ◌≡◌ {A = ℕ} 0 1 = is.count_is in absurd (omega (arith, no))

TextShown-short : (new : List ℕ) → TextShown 0 0 2 (1 ∷ 2 ∷ []) (0 ∷ []) new → ⊥
TextShown-short new is = let no : ◌≡◌ {A = ℕ} 0 8 = (is.short (omega arith)).0 in absurd (omega (arith, no))

TapeShown-none : (count : ℕ) (text old new : List ℕ) → TapeShown 0 count false text old new → ⊥
TapeShown-none count text old new is = let no : ◌≡◌ {A = ℕ} 0 8 = is.0 in absurd (omega (arith, no))

-- a closed handle shows nothing, and a call that looks closes none
ShowsLeft-closed : (value : Setup → List Entry → Option ℕ) → ShowsLeft {X = ℕ} value 9 None None 4 5 → ⊥
ShowsLeft-closed value is = let no : ◌≡◌ {A = ℕ} 5 4 = is.2 in absurd (omega (arith, no))

ShowsLeft-closes : (held : Held) (value : Setup → List Entry → Option ℕ) → ShowsLeft {X = ℕ} value 0 (Some held) None 4 4 → ⊥
ShowsLeft-closes held value is = let no : None ≡ Some held = is.0 in absurd cc

-- after a landing that passed nothing is shown, nor of a part that isn't there
LeftShown-passed : (new : ℕ) → LeftShown {X = ℕ} 0 true (Some 5) 4 new → ⊥
LeftShown-passed new is = let no : ◌≡◌ {A = ℕ} 0 11 = is.0 in absurd (omega (arith, no))

LeftShown-none : LeftShown {X = ℕ} 0 false None 4 4 → ⊥
LeftShown-none is = let no : ◌≡◌ {A = ℕ} 0 8 = is.0 in absurd (omega (arith, no))

FaultShown-none : (old new : FaultOut) → FaultShown 0 None old new → ⊥
FaultShown-none old new is = neither 0 8 1 (λ is. absurd (omega (arith, is))) (λ is. absurd (omega (arith, is))) is.0

-- bytes that are no text have a fault
BytesFault-none : (section : Section) (bytes : List ℕ) (old new : FaultOut) → (IsUtf8 bytes → ⊥) → BytesFault 8 section None bytes old new → ⊥
BytesFault-none section bytes old new none is = let no : ◌≡◌ {A = ℕ} 8 0 = (is.none none).0 in absurd (omega (arith, no))

VerdictShown-unlawful : (new : ℕ) → VerdictShown (Err (Unlawful 3)) 0 4 new → ⊥
VerdictShown-unlawful new is = let no : ◌≡◌ {A = ℕ} 0 20 = is.0 in absurd (omega (arith, no))

VerdictShown-line : VerdictShown (Err (Unlawful 3)) 20 4 5 → ⊥
VerdictShown-line is = let no : ◌≡◌ {A = ℕ} 5 3 = is.1 in absurd (omega (arith, no))

CheckedWith-none : (read : Result CaseFields Fault) (slots : List (Option UnitFields)) (report : List ℕ) (old new : ℕ) → CheckedWith false 0 read slots report old new → ⊥
CheckedWith-none read slots report old new is = neither 0 8 1 (λ is. absurd (omega (arith, is))) (λ is. absurd (omega (arith, is))) is.0

ReportedWith-none : (count : ℕ) (read : Result CaseFields Fault) (slots : List (Option UnitFields)) (old new : List ℕ) → ReportedWith false 0 count read slots old new → ⊥
ReportedWith-none count read slots old new is = neither 0 8 1 (λ is. absurd (omega (arith, is))) (λ is. absurd (omega (arith, is))) is.0

-- a report isn't lawful by a number of entries that none has
checked : (setup : Setup) (report : List ℕ) (result : Result ℕ CheckFault) → IsVerdict setup report result → VerdictShown result 0 0 5 → (IsLawfulReport setup report 5 → ⊥) → ⊥
checked setup report (Ok entries) verdict shows never = never (subst (λ (n : ℕ). IsLawfulReport setup report n) (sym shows.1) (verdict.lawful entries refl))
checked setup report (Err (Unlawful line)) verdict shows never = let no : ◌≡◌ {A = ℕ} 0 20 = shows.0 in absurd (omega (arith, no))
checked setup report (Err Memory) verdict shows never = let no : ◌≡◌ {A = ℕ} 0 1 = shows.0 in absurd (omega (arith, no))

IsChecked-lawful : (setup : Setup) (report : List ℕ) → (IsLawfulReport setup report 5 → ⊥) → IsChecked 0 setup report 0 5 → ⊥
IsChecked-lawful setup report never is = checked setup report is.result is.verdict is.shown never

-- packets
FlitsShown-none : (old new : List (List ℕ)) → FlitsShown 0 0 None old new → ⊥
FlitsShown-none old new is = let no : ◌≡◌ {A = ℕ} 0 6 = is.0 in absurd (omega (arith, no))

PacketShown-crc : (old new : PlainPacket) → PacketShown 0 (Err Crc) old new → ⊥
PacketShown-crc old new is = let no : ◌≡◌ {A = ℕ} 0 19 = is.0 in absurd (omega (arith, no))
