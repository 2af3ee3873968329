-- The list of a direction of a link: the requests and responses that were put into it and are not
-- accepted at its end, in their order. RTC, SEQ and FRP are zero, since a packet has them only once
-- it is begun. A forwarded packet (a cut-through) has an open place in the list until its last flit
-- is sent.
use Rattle.std.specs.Prelude.{ℕ, Bool, true, not, List, ◌++◌, map, drop, filter, length, Option, Some}
use Rattle.hmc_codes.specs.Link.{LinkFields}
use Rattle.hmc_codes.specs.declared.profile.Profile.{Profile}
use Rattle.hmc_packet.specs.declared.feed.Feed.{Feed}
use Rattle.hmc_packet.specs.declared.what.What.{What}
use Rattle.hmc_packet.specs.declared.what.What.TheVariants.{New}
use Rattle.hmc_packet.specs.Packet.{PacketFields}
use Rattle.hmc_send.specs.Copies.{place_fed}
use Rattle.hmc_send.specs.Entries.{Part, unfinished}
use Rattle.hmc_send.specs.LinkEntries.{LinkEntry, same_way, accepted_packets}
use Rattle.hmc_send.specs.LinkSenders.{sender_entries, places_in, queue_in}
use Rattle.hmc_send.specs.Places.{Place, takes_tokens, with_numbers}
use Rattle.hmc_send.specs.declared.numbers.Numbers.{Numbers}
use Rattle.hmc_send.specs.declared.toward.Toward.{Toward}

-- the numbers of a packet that has none yet
abbrev pub no_numbers : Numbers
no_numbers = record { frp = 0; seq = 0; rtc = 0 }

-- a packet in the list
abbrev pub listed_packet : PacketFields → Place
listed_packet packet = Place.known (with_numbers no_numbers packet)

-- a forwarded packet in the list, with its first flit and its length
abbrev pub listed_open : (head : List ℕ) → (flits : ℕ) → Place
listed_open head flits = Place.awaited head flits no_numbers

-- a place that was begun, in the list
abbrev pub listed_place : Place → Place
listed_place (Place.known packet) = listed_packet packet
listed_place (Place.awaited head flits numbers) = listed_open head flits

-- the list, where so many places are accepted, of these that were begun, and these packets wait
abbrev pub list_by : (accepted : ℕ) → List Place → List PacketFields → List Place
list_by accepted places waiting =
    map listed_place (filter takes_tokens (drop accepted places)) ++ map listed_packet waiting

-- the list of a direction
abbrev pub handed_list : LinkFields → Toward → List LinkEntry → List Place
handed_list link d past =
    list_by (length (accepted_packets link.profile d past)) (places_in link d past)
    (queue_in link d past)

-- a place of the list after a flit is sent: the last flit of a forwarded packet fills its open
-- place with the packet that was sent
abbrev pub place_sent : What → Profile → Option Part → Feed → Place → Place
place_sent New profile (Some part) feed place = place_fed profile part.sent feed place
place_sent as_what profile part feed place = place

-- the list after a flit is sent
abbrev pub list_sent : LinkFields → Toward → List LinkEntry → Feed → What → List Place
list_sent link d past feed as_what =
    map (place_sent as_what link.profile (unfinished (sender_entries link d past)) feed)
    (handed_list link d past)

-- an entry leaves the list of a direction: it is one of the other direction, or a packet was taken
-- from a buffer, or a receiver was unlocked
abbrev pub leaves : Toward → LinkEntry → Bool
leaves d (LinkEntry.handed way packet) = not (same_way d way)
leaves d (LinkEntry.taken way) = true
leaves d (LinkEntry.sent way feed as_what flit) = not (same_way d way)
leaves d (LinkEntry.landed way mask flit outcome) = not (same_way d way)
leaves d (LinkEntry.unlocked way) = true
leaves d (LinkEntry.through way head flits) = not (same_way d way)
