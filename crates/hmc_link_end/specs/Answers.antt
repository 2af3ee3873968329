-- What the calls answer that send and land a flit in a direction, by the entries of the link.
use Rattle.std.specs.Prelude.{List, ℕ, slice_get}
use Rattle.hmc_codes.specs.Link.{LinkFields}
use Rattle.hmc_packet.specs.declared.feed.Feed.{Feed}
use Rattle.hmc_send.specs.Choice.{choice}
use Rattle.hmc_send.specs.LinkCalls.{is_full, view_in}
use Rattle.hmc_send.specs.LinkEntries.{LinkEntry}
use Rattle.hmc_send.specs.LinkLines.{line}
use Rattle.hmc_send.specs.declared.toward.Toward.{Toward}
use Rattle.hmc_ends.specs.declared.link_landed.LinkLanded.{LinkLanded}
use Rattle.hmc_ends.specs.declared.link_sent.LinkSent.{LinkSent}
use Rattle.hmc_ends.specs.Answers.{link_sent}
use Rattle.hmc_ends.specs.Landings.{link_landed}

-- of a send, with what is fed to a packet that is forwarded
abbrev pub send_answer : LinkFields → Toward → List LinkEntry → Feed → LinkSent
send_answer link d past feed =
    link_sent (is_full link d past) (choice link.profile (view_in link d past feed))

-- of the landing of the front of the line, under a mask
abbrev pub land_answer : LinkFields → Toward → List LinkEntry → (mask : List ℕ) → LinkLanded
land_answer link d past mask =
    link_landed link d past mask (slice_get (line link.profile d past) 0)
