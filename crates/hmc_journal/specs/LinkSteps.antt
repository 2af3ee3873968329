-- What the steps of links do: send and land. Both give what a link gives after its entries
-- (hmc_send).
use Rattle.std.specs.Prelude.{ℕ, Bool, true, false, List, slice_get, Option, Some, None}
use Rattle.hmc_codes.specs.Flit.{zero_flit}
use Rattle.hmc_codes.specs.Link.{LinkFields}
use Rattle.hmc_packet.specs.declared.feed.Feed.{Feed}
use Rattle.hmc_packet.specs.declared.outcome.Outcome.{Outcome}
use Rattle.hmc_packet.specs.Receptions.{reception_of}
use Rattle.hmc_schedule.specs.declared.step.Step.TheVariants as steps
use Rattle.hmc_send.specs.declared.sent.Sent.{Sent as Sending}
use Rattle.hmc_send.specs.declared.sent.Sent.TheVariants.{Out, Starved}
use Rattle.hmc_send.specs.Choice as cases
use Rattle.hmc_send.specs.LinkCalls.{is_full, view_in}
use Rattle.hmc_send.specs.LinkEntries.{LinkEntry, receiver_entries}
use Rattle.hmc_packet.specs.Masks.{under_mask}
use Rattle.hmc_send.specs.LinkLines.{StampedFlit, line, passes}
use Rattle.hmc_entries.specs.declared.outcome.Cause.TheVariants as causes
use Rattle.hmc_entries.specs.declared.entry.Entry.{Entry}
use Rattle.hmc_entries.specs.declared.entry.Entry.TheVariants.{Sent, Landed, Passed, Idle}
use Rattle.hmc_journal.specs.Links.{toward}

-- a flit is sent, unless the line is full or the next flit isn't there
abbrev pub sent_entry : (direction : ℕ) → (full : Bool) → Sending → Entry
sent_entry direction true sending = Idle (steps.Send direction) causes.Full
sent_entry direction false Starved = Idle (steps.Send direction) causes.Starved
sent_entry direction false (Out flit as_what) = Sent direction as_what flit

-- send: the first of the ten cases that applies, with what is fed
abbrev pub send_entry : LinkFields → (direction : ℕ) → List LinkEntry → Feed → Entry
send_entry sizes direction past feed =
    sent_entry direction (is_full sizes (toward direction) past)
    (cases.choice sizes.profile (view_in sizes (toward direction) past feed))

-- a flit lands with an outcome, or passes
abbrev pub landed_entry : (direction : ℕ) → (passed : Bool) → (flit : List ℕ) → Outcome → Entry
landed_entry direction true flit outcome = Passed direction flit
landed_entry direction false flit outcome = Landed direction flit outcome

-- a flit as its mask left it: it passes where a check succeeds over it and the pending flits, and
-- one of them is changed
abbrev pub landed_flit : LinkFields → (direction : ℕ) → List LinkEntry → (mask flit : List ℕ) →
    Entry
landed_flit sizes direction past mask flit =
    landed_entry direction (passes sizes.profile (toward direction) past mask flit) flit
    (reception_of sizes.profile (receiver_entries (toward direction) past) flit).outcome

-- the front of the line, if there is one; the entry of an idle landing has no mask
abbrev pub landed_front : LinkFields → (direction : ℕ) → List LinkEntry → (mask : List ℕ) →
    Option StampedFlit → Entry
landed_front sizes direction past mask None = Idle (steps.Land direction zero_flit) causes.Empty
landed_front sizes direction past mask (Some front) =
    landed_flit sizes direction past mask (under_mask mask front.flit)

-- land: the front of the line lands under a mask
abbrev pub land_entry : LinkFields → (direction : ℕ) → List LinkEntry → (mask : List ℕ) → Entry
land_entry sizes direction past mask =
    landed_front sizes direction past mask
    (slice_get (line sizes.profile (toward direction) past) 0)
