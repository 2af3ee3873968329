-- Where a send gives nothing, and where none of its rows gives something.
use Rattle.std.specs.Prelude.{◌≡◌, Bool, true, false, not, ◌&&◌, List, [], ◌∷◌, Option, Some, None}
use Rattle.hmc_packet.specs.declared.feed.Feed.{Feed}
use Rattle.hmc_packet.specs.declared.feed.Feed.TheVariants.{Waiting}
use Rattle.hmc_send.specs.declared.sent.Sent.{Sent}
use Rattle.hmc_send.specs.Choice.{SendView, is_train}
use Rattle.hmc_send.specs.Entries.{UnderWay}
use Rattle.hmc_send.specs.Places.{Place}

-- the place waits for its packet, and no more of it is there
abbrev pub is_waiting : Place → Feed → Bool
is_waiting (Place.awaited head flits numbers) Waiting = true
is_waiting place feed = false

-- the next flit of the packet under way isn't there
abbrev pub is_next_missing : Option UnderWay → Feed → Bool
is_next_missing None feed = false
is_next_missing (Some begun) feed = is_waiting begun.place feed

-- the receiver at the same end is trained, a forwarded packet is under way, and its next flit isn't
-- there
abbrev pub is_starved : SendView → Bool
is_starved s = not (is_train s.given.own.mode) && is_next_missing s.under_way s.given.feed

-- each of these rows gives nothing
abbrev pub GiveNothing : List (SendView → Option Sent) → SendView → Type 0
GiveNothing [] s = Unit {0}
GiveNothing (row ∷ rows) s = (row s ≡ None) × GiveNothing rows s
