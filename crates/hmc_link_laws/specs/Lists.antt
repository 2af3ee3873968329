-- What a send leaves of the list of its direction, and in which direction a call is.
use Rattle.std.specs.Prelude.{List}
use Rattle.hmc_codes.specs.Link.{LinkFields}
use Rattle.hmc_packet.specs.declared.feed.Feed.{Feed}
use Rattle.hmc_send.specs.LinkCalls.{LinkCall}
use Rattle.hmc_send.specs.LinkEntries.{LinkEntry}
use Rattle.hmc_send.specs.Places.{Place}
use Rattle.hmc_send.specs.declared.toward.Toward.{Toward}
use Rattle.hmc_ends.specs.declared.link_sent.LinkSent.{LinkSent}
use Rattle.hmc_ends.specs.declared.link_sent.LinkSent.TheVariants as links
use Rattle.hmc_ends.specs.List.{handed_list, list_sent}

-- The list after what a send gave. The last flit of a forwarded packet fills its open place with
-- the packet that was sent; no other flit changes the list.
abbrev pub list_after_send : LinkFields → Toward → List LinkEntry → Feed → LinkSent → List Place
list_after_send link d past feed (links.Out flit as_what) = list_sent link d past feed as_what
list_after_send link d past feed sent = handed_list link d past

-- the direction of a call
abbrev pub way_of : LinkCall → Toward
way_of (LinkCall.hand d packet) = d
way_of (LinkCall.take d) = d
way_of (LinkCall.send d feed) = d
way_of (LinkCall.land d mask) = d
way_of (LinkCall.unlock d) = d
way_of (LinkCall.begin d head flits) = d
