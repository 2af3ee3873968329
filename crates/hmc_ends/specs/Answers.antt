-- The answers of a link, by its list of entries.
use Rattle.std.specs.Prelude.{Bool, true, false, List, drop, filter, slice_get, Option}
use Rattle.hmc_codes.specs.Link.{LinkFields}
use Rattle.hmc_ends.specs.declared.link_sent.LinkSent.{LinkSent}
use Rattle.hmc_ends.specs.declared.link_sent.LinkSent.TheVariants as links
use Rattle.hmc_packet.specs.Packet.{PacketFields}
use Rattle.hmc_send.specs.LinkCalls.{LinkCall, next_entry, with_entry}
use Rattle.hmc_send.specs.LinkEntries.{LinkEntry, accepted_packets, takes}
use Rattle.hmc_send.specs.Places.{is_token}
use Rattle.hmc_send.specs.declared.sent.Sent.{Sent}
use Rattle.hmc_send.specs.declared.sent.Sent.TheVariants.{Out, Starved}
use Rattle.hmc_send.specs.declared.toward.Toward.{Toward}

-- the entries after a call: those before it, and the one that it makes
abbrev pub after_call : LinkFields → List LinkEntry → LinkCall → List LinkEntry
after_call link past call = with_entry past (next_entry link past call)

-- the front of the buffer at the end of a direction: of the requests and responses that were
-- accepted, the first one that was not taken
abbrev pub front_in : LinkFields → Toward → List LinkEntry → Option PacketFields
front_in link d past =
    slice_get (drop (takes d past) (filter is_token (accepted_packets link.profile d past))) 0

-- what a send gives: nothing where the line is full, and else what the sender chooses
abbrev pub link_sent : (full : Bool) → Sent → LinkSent
link_sent true sent = links.Full
link_sent false (Out flit as_what) = links.Out flit as_what
link_sent false Starved = links.Starved

-- no flit was sent
abbrev pub sends_none : LinkSent → Bool
sends_none (links.Out flit as_what) = false
sends_none _ = true
