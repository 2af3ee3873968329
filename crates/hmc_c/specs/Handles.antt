-- What a handle shows, and what it stands for.
use Rattle.std.specs.Prelude.{◌≡◌, ◌⊎◌, ℕ, Bool, false, List, [], replicate, Option, Some, None, Result, Ok, Err}
use Rattle.std.specs.List.{All}
use Rattle.hmc_codes.specs.Limits.{most_hosts}
use Rattle.hmc_units.specs.Unit.{UnitFields}
use Rattle.hmc_text.specs.InTurn.{ReportsBy}
use Rattle.hmc_schedule.specs.Plan.{IsStepOf}
use Rattle.hmc_schedule.specs.declared.step.Step.{Step}
use Rattle.hmc_case.specs.Case.{CaseFields}
use Rattle.hmc_case.specs.Plan.{plan_of}
use Rattle.hmc_case.specs.Reading.{Fault, fault_of}
use Rattle.hmc_case.specs.declared.fault.CaseFault.{CaseFault}
use Rattle.hmc_entries.specs.declared.entry.Entry.{Entry}
use Rattle.hmc_journal.specs.Setup.{Setup}
use Rattle.hmc_session.specs.Session.{SessionFields, begun}
use Rattle.hmc_c.specs.Kept.{KeepsParts, KeptStands, fields_in, has_tape}
use Rattle.hmc_c.specs.Status.{bad, memory, ok}
use Rattle.hmc_c.specs.declared.held.Held.{Held}

-- the session of a handle, with the slots of its bench
abbrev pub shown : Held → SessionFields
shown held = fields_in held.kept

-- what it stands for
abbrev pub Stands : Held → Setup → List Entry → Type 0
Stands held setup past = KeptStands held.kept setup past

-- an open handle stands for the case and the journal of its session, and a closed one for none
abbrev pub HandleStands : Option Held → Setup → List Entry → Type 0
HandleStands None setup past = ⊥
HandleStands (Some held) setup past = Stands held setup past

-- the steps of a handle that are laid down: a closed one has none
abbrev pub laid_in : Option Held → List Step
laid_in None = []
laid_in (Some held) = held.laid

-- each step that is laid down is known: it names parts that steps may name
abbrev pub KnowsSteps : Held → Type 0
KnowsSteps held = All (IsStepOf (shown held).plan) held.laid

abbrev pub KnowsLaid : Option Held → Type 0
KnowsLaid None = Unit {0}
KnowsLaid (Some held) = KnowsSteps held

-- The same hosts of a handle are finished, steps may name the same parts, and it has a tape as
-- before. It is open where it was open, and closed where it was closed.
abbrev pub HandleKeepsParts : (old new : Option Held) → Type 0
HandleKeepsParts None None = Unit {0}
HandleKeepsParts (Some old) (Some new) = KeepsParts old.kept new.kept
HandleKeepsParts old new = ⊥

-- a session of a case with these logic units, before its first step, with a tape or without, and
-- the steps of the case laid down, each of them known; its hosts are open, and steps may name the
-- parts of the case
pub record IsHeld (held : Held) (tape : Bool) (case : CaseFields)
    (slots : List (Option UnitFields)) : Type 0 where
  pub stands : Stands held (begun case slots) []
  pub tape_is : has_tape held.kept ≡ tape
  pub laid : held.laid ≡ case.schedule
  pub unfinished : (shown held).finished ≡ replicate most_hosts false
  pub plan : (shown held).plan ≡ plan_of case.net
  pub known : KnowsSteps held

-- a handle is open on such a session
abbrev pub IsOpen : Option Held → (tape : Bool) → CaseFields →
    (slots : List (Option UnitFields)) → Type 0
IsOpen None tape case slots = ⊥
IsOpen (Some held) tape case slots = IsHeld held tape case slots

-- a session of the case that was read, with these logic units
abbrev pub HoldsRead : Held → (tape : Bool) → Result CaseFields Fault →
    (slots : List (Option UnitFields)) → Type 0
HoldsRead held tape (Ok case) slots = IsHeld held tape case slots
HoldsRead held tape (Err fault) slots = ⊥

-- a fault is the first one of these bytes, or out of memory
abbrev pub Reports : CaseFault → Result CaseFields Fault → Type 0
Reports fault read = ReportsBy fault_of fault read

-- a handle is opened on a session of the case that was read, or it is out of memory; where no case
-- was read, or out of memory, the handle is as it was
abbrev pub OpenedBy : (status : ℕ) → (tape : Bool) → Result CaseFields Fault →
    (slots : List (Option UnitFields)) → (old new : Option Held) → Type 0
OpenedBy status tape (Ok case) slots old new =
    ((status ≡ ok) × IsOpen new tape case slots) ⊎ ((status ≡ memory) × (new ≡ old))
OpenedBy status tape (Err fault) slots old new =
    ((status ≡ bad) ⊎ (status ≡ memory)) × (new ≡ old)
