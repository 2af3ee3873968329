-- What is asked of an entry: what it is counted as, why nothing happened, and whether it passed.
use Rattle.std.specs.Prelude.{◌≡◌, Bool, true, false, length, Option, Some, None}
use Rattle.hmc_entries.specs.declared.outcome.Cause.{Cause}
use Rattle.hmc_entries.specs.declared.entry.Entry.{Entry}
use Rattle.hmc_entries.specs.declared.entry.Entry.TheVariants.{Gave, Sent, Landed, Took, Executed, Dropped, Unlocked, Passed, Idle}
use Rattle.hmc_entries.specs.declared.event.Event.{Event}
use Rattle.hmc_entries.specs.declared.event.Event.TheVariants as events

-- the kinds that are counted, and the others
abbrev pub event_of : Entry → Event
event_of (Gave host tag poisoned request) = events.Gave host
event_of (Sent direction what flit) = events.Sent direction
event_of (Landed direction flit outcome) = events.Landed direction outcome
event_of (Unlocked direction) = events.Unlocked direction
event_of (Took host tag answer) = events.Took host
event_of (Executed unit host tag request answer) = events.Executed unit
event_of (Dropped cube port) = events.Dropped cube
event_of _ = events.Other

-- why the step did nothing, if it did nothing
abbrev pub cause_of : Entry → Option Cause
cause_of (Idle step cause) = Some cause
cause_of _ = None

-- a landing that passed
abbrev pub is_passed : Entry → Bool
is_passed (Passed direction flit) = true
is_passed _ = false

-- a flit that landed has 16 bytes
abbrev pub IsLongFlit : Entry → Type 0
IsLongFlit (Landed direction flit outcome) = length flit ≡ 16
IsLongFlit _ = Unit {0}
