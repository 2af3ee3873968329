-- The kinds of entries at which a run of laid steps stops.
use Rattle.std.specs.Prelude.{◌≡◌, Bool, false, true, Option, Some, None}
use Rattle.hmc_entries.specs.declared.entry.Entry.{Entry}
use Rattle.hmc_entries.specs.declared.entry.Entry.TheVariants.{Gave, Sent, Landed, Shifted, Dropped, Spread, Executed, Lifted, Took, Discarded, Through, Unlocked, Retired, Passed, Idle}
use Rattle.hmc_entries.specs.declared.event.Event.{Event}
use Rattle.hmc_entries.specs.declared.event.Event.TheVariants as events
use Rattle.hmc_session.specs.declared.stops.Stops.{Stops}

-- the entry is of a kind that is among these
abbrev pub is_stop : Stops → Entry → Bool
is_stop stops (Gave host tag poisoned request) = stops.gave
is_stop stops (Sent direction what flit) = stops.sent
is_stop stops (Landed direction flit outcome) = stops.landed
is_stop stops (Shifted cube port goal) = stops.shifted
is_stop stops (Dropped cube port) = stops.dropped
is_stop stops (Spread cube vault bank) = stops.spread
is_stop stops (Executed unit host tag request answer) = stops.executed
is_stop stops (Lifted cube from port) = stops.lifted
is_stop stops (Took host tag answer) = stops.took
is_stop stops (Discarded host) = stops.discarded
is_stop stops (Through cube port direction) = stops.through
is_stop stops (Unlocked direction) = stops.unlocked
is_stop stops (Retired slot) = stops.retired
is_stop stops (Passed direction flit) = stops.passed
is_stop stops (Idle step cause) = stops.idle

-- if so, no entry is of a kind that is among these
abbrev pub IsQuiet : (quiet : Bool) → Stops → Type 0
IsQuiet quiet stops = quiet ≡ true → (entry : Entry) → is_stop stops entry ≡ false

-- whether an entry is, which is counted as this event, where that tells
abbrev pub event_stop : Stops → Event → Option Bool
event_stop stops (events.Gave host) = Some stops.gave
event_stop stops (events.Sent direction) = Some stops.sent
event_stop stops (events.Landed direction outcome) = Some stops.landed
event_stop stops (events.Unlocked direction) = Some stops.unlocked
event_stop stops (events.Took host) = Some stops.took
event_stop stops (events.Executed unit) = Some stops.executed
event_stop stops (events.Dropped cube) = Some stops.dropped
event_stop stops events.Other = None

-- no kind
abbrev pub no_stops : Stops
no_stops = record {
  gave = false;
  sent = false;
  landed = false;
  shifted = false;
  dropped = false;
  spread = false;
  executed = false;
  lifted = false;
  took = false;
  discarded = false;
  through = false;
  unlocked = false;
  retired = false;
  passed = false;
  idle = false;
}
