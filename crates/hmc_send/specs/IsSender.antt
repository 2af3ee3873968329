-- What each sender keeps.
use Rattle.std.specs.Prelude.{◌≡◌, ◌≤◌, ◌<◌, ℕ, All, length, Option, Some, None, ◌⊎◌, false}
use Rattle.hmc_codes.specs.Commands.{is_flow, layout_of}
use Rattle.hmc_packet.specs.declared.feed.Feed.{Feed}
use Rattle.hmc_packet.specs.Packet.{PacketFields}
use Rattle.hmc_retry.specs.RetryBuffer.{RetryFields, IsRetryBuffer, pointer_after, next_pointer}
use Rattle.hmc_send.specs.declared.numbers.Numbers.{Numbers}
use Rattle.hmc_send.specs.declared.state.State.{State}
use Rattle.hmc_send.specs.Entries.{UnderWay, enough_others}
use Rattle.hmc_send.specs.Kept.{CanBeSent, IsFedFor}
use Rattle.hmc_send.specs.Places.{Place, flits_in, tret_packet}
use Rattle.hmc_send.specs.Sender.{places_held}

-- an open place comes after all kept packets, which were all sent
pub record IsNextKept (retry : RetryFields) (count : ℕ) (n : Numbers) : Type 0 where
  pub at_end : retry.position ≡ length retry.kept
  pub next : n.frp ≡ next_pointer retry count

abbrev pub IsPlaceKept : RetryFields → Place → Type 0
IsPlaceKept retry (Place.known packet) = CanBeSent retry.profile packet
IsPlaceKept retry (Place.awaited head flits n) = IsNextKept retry flits n

abbrev pub IsBegunKept : RetryFields → Option UnderWay → Type 0
IsBegunKept retry None = Unit {0}
IsBegunKept retry (Some begun) = IsPlaceKept retry begun.place

pub record IsSender (held : State) : Type 0 where
  pub profile : held.profile ≡ held.retry.profile
  pub buffer : IsRetryBuffer held.retry
  -- each kept packet may be sent, and all have room
  pub sendable : All (CanBeSent held.retry.profile) held.retry.kept
  pub room : flits_in (places_held held) ≤ held.retry.flits
  -- the pointer is that of the last place
  pub pointer : held.pointer ≡ pointer_after held.retry (flits_in (places_held held))
  pub number : held.number < 8
  pub others : held.others ≤ enough_others
  pub begun : IsBegunKept held.retry held.under_way

-- what is fed fits the packet under way
abbrev pub IsFed : Option UnderWay → Feed → Type 0
IsFed None feed = Unit {0}
IsFed (Some begun) feed = IsFedFor begun.part begun.place feed

-- a packet that has numbers: a request, a response or a TRET
abbrev pub IsSequenced : PacketFields → Type 0
IsSequenced packet = (is_flow (layout_of packet.command) ≡ false) ⊎ (packet ≡ tret_packet)
