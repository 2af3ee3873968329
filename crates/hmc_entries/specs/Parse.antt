-- The entries that lines are read as: their numbers fit their types, and their lines show all of
-- them.
use Rattle.std.specs.Prelude.{◌≡◌, ◌<◌, ◌^◌, ℕ, List, ◌∷◌, [], ◌++◌, Option, Some, None}
use Rattle.std.specs.List.{All, flat_map}
use Rattle.hmc_codes.specs.Answer.{CanReply, IsAnswer}
use Rattle.hmc_codes.specs.Flit.{zero_flit, IsFlit}
use Rattle.hmc_codes.specs.Request.{IsRequest}
use Rattle.hmc_codes.specs.declared.answer.Answer.{Answer}
use Rattle.hmc_codes.specs.declared.answer.Answer.TheVariants.{Silent}
use Rattle.hmc_codes.specs.declared.lift.Lift.{Lift}
use Rattle.hmc_codes.specs.declared.lift.Lift.TheVariants as lifts
use Rattle.hmc_codes.specs.declared.unit.Unit.{Unit as Executor}
use Rattle.hmc_codes.specs.declared.unit.Unit.TheVariants as units
use Rattle.hmc_schedule.specs.declared.step.Step.{Step}
use Rattle.hmc_schedule.specs.declared.step.Step.TheVariants as steps
use Rattle.hmc_entries.specs.declared.outcome.Goal.{Goal}
use Rattle.hmc_entries.specs.declared.outcome.Goal.TheVariants as goals
use Rattle.hmc_entries.specs.declared.entry.Entry.{Entry}
use Rattle.hmc_entries.specs.declared.entry.Entry.TheVariants.{Gave, Sent, Landed, Shifted, Dropped, Spread, Executed, Lifted, Took, Discarded, Through, Unlocked, Retired, Passed, Idle}
use Rattle.hmc_entries.specs.Lines.{line_of}

-- no answer, or one that a response can carry
abbrev pub CanBeShown : Answer → Type 0
CanBeShown Silent = Unit {0}
CanBeShown answer = CanReply answer

-- a step without a mask, which no line shows
abbrev pub HasNoMask : Step → Type 0
HasNoMask (steps.Land direction mask) = mask ≡ zero_flit
HasNoMask step = Unit {0}

-- the line shows all of the entry
abbrev pub IsShown : Entry → Type 0
IsShown (Executed unit host tag request answer) = CanBeShown answer
IsShown (Took host tag answer) = CanBeShown answer
IsShown (Idle step cause) = HasNoMask step
IsShown entry = Unit {0}

-- a tag of 16 bits, or none
abbrev pub IsTag : Option ℕ → Type 0
IsTag None = Unit {0}
IsTag (Some tag) = tag < 2 ^ 16

-- the numbers of a unit are bytes
abbrev pub IsUnit : Executor → Type 0
IsUnit (units.Bank cube vault bank) = (cube < 256) × (vault < 256) × (bank < 256)
IsUnit (units.Registers cube) = cube < 256

-- the number of a queue of answers is a byte
abbrev pub IsLift : Lift → Type 0
IsLift (lifts.Vault vault) = vault < 256
IsLift lifts.Registers = Unit {0}

-- the number of a goal is a byte
abbrev pub IsGoal : Goal → Type 0
IsGoal (goals.Vault vault) = vault < 256
IsGoal goals.Registers = Unit {0}
IsGoal (goals.Port port) = port < 256

-- the numbers of a step are bytes
abbrev pub IsStep : Step → Type 0
IsStep (steps.Give host) = host < 256
IsStep (steps.Send direction) = direction < 256
IsStep (steps.Land direction mask) = direction < 256
IsStep (steps.Shift cube port) = (cube < 256) × (port < 256)
IsStep (steps.Spread cube vault) = (cube < 256) × (vault < 256)
IsStep (steps.Bank cube vault bank) = (cube < 256) × (vault < 256) × (bank < 256)
IsStep (steps.Registers cube) = cube < 256
IsStep (steps.Lift cube from) = (cube < 256) × IsLift from
IsStep (steps.Take host) = host < 256
IsStep (steps.Through cube port) = (cube < 256) × (port < 256)
IsStep (steps.Unlock direction) = direction < 256
IsStep (steps.Retire slot) = slot < 256

-- the numbers, flits and parts of an entry fit their types
abbrev pub FitsTypes : Entry → Type 0
FitsTypes (Gave host tag poisoned request) = (host < 256) × IsTag tag × IsRequest request
FitsTypes (Sent direction what flit) = (direction < 256) × IsFlit flit
FitsTypes (Landed direction flit outcome) = (direction < 256) × IsFlit flit
FitsTypes (Shifted cube port goal) = (cube < 256) × (port < 256) × IsGoal goal
FitsTypes (Dropped cube port) = (cube < 256) × (port < 256)
FitsTypes (Spread cube vault bank) = (cube < 256) × (vault < 256) × (bank < 256)
FitsTypes (Executed unit host tag request answer) =
    IsUnit unit × (host < 256) × IsTag tag × IsRequest request × IsAnswer answer
FitsTypes (Lifted cube from port) = (cube < 256) × IsLift from × (port < 256)
FitsTypes (Took host tag answer) = (host < 256) × (tag < 2 ^ 16) × IsAnswer answer
FitsTypes (Discarded host) = host < 256
FitsTypes (Through cube port direction) = (cube < 256) × (port < 256) × (direction < 256)
FitsTypes (Unlocked direction) = direction < 256
FitsTypes (Retired slot) = slot < 256
FitsTypes (Passed direction flit) = (direction < 256) × IsFlit flit
FitsTypes (Idle step cause) = IsStep step

-- an entry whose parts fit their types, and whose line shows all of it
pub record IsPrintable (entry : Entry) : Type 0 where
  pub fits : FitsTypes entry
  pub shown : IsShown entry

-- the text, with a line feed after it, is the line of the entry
abbrev pub IsLineOf : List ℕ → Entry → Type 0
IsLineOf text entry = line_of entry ≡ text ++ (10 ∷ [])

-- the lines of these entries, one after another
unfoldable pub text_of : List Entry → List ℕ
text_of entries = flat_map line_of entries

-- equal lines are of equal entries
abbrev pub LineTells : Type 0
LineTells = (entry other : Entry) → IsPrintable entry → IsPrintable other
    → line_of entry ≡ line_of other → entry ≡ other

-- equal texts are of equal entries, one after another
abbrev pub TextTells : Type 0
TextTells = (entries others : List Entry) → All IsPrintable entries → All IsPrintable others
    → text_of entries ≡ text_of others → entries ≡ others
