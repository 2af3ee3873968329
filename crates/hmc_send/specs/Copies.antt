-- The copy of a packet that is passed on before it has come whole.
use Rattle.std.specs.Prelude.{ℕ, ◌%◌, ◌^◌, Bool, true, false, List, ◌++◌, length, Option, Some, None}
use Rattle.std.specs.List.{concat}
use Rattle.hmc_codes.specs.Commands.{layout_of}
use Rattle.hmc_codes.specs.declared.command.Command.{Command}
use Rattle.hmc_codes.specs.declared.command.Command.TheVariants.{Null}
use Rattle.hmc_codes.specs.declared.layout.Layout.{Layout}
use Rattle.hmc_codes.specs.declared.layout.Layout.TheVariants as layouts
use Rattle.hmc_codes.specs.declared.profile.Profile.{Profile}
use Rattle.hmc_packet.specs.declared.feed.Feed.{Feed}
use Rattle.hmc_packet.specs.declared.feed.Feed.TheVariants.{Waiting, Whole, Last}
use Rattle.hmc_packet.specs.declared.tail.Tail.{Tail}
use Rattle.hmc_packet.specs.Copy.{copied_packet}
use Rattle.hmc_packet.specs.Head.{named_by}
use Rattle.hmc_packet.specs.Packet.{PacketFields}
use Rattle.hmc_packet.specs.Tail.{tail_layout}
use Rattle.hmc_send.specs.declared.numbers.Numbers.{Numbers}
use Rattle.hmc_send.specs.Places.{Place, flit_of}

-- the command that a header names; a NULL where it names none
abbrev pub command_or_null : Option Command → Command
command_or_null None = Null
command_or_null (Some command) = command

abbrev pub is_reply : Layout → Bool
is_reply layouts.Reply = true
is_reply _ = false

-- the error number that goes into a tail: as many low bits as the profile has for it, and none
-- where the layout has no error number
abbrev pub errstat_for : Profile → Layout → ℕ → ℕ
errstat_for profile layouts.Reply errstat = errstat % 2 ^ (tail_layout profile).errstat.width
errstat_for profile _ errstat = 0

-- its tail's fields, without a return pointer
abbrev pub tail_with : Numbers → (slid errstat : ℕ) → Tail
tail_with n slid errstat = record {
  rrp = 0;
  frp = n.frp;
  seq = n.seq;
  slid = slid;
  errstat = errstat;
  rtc = n.rtc;
}

-- The copy of a packet with the numbers of this direction (`copied_packet` of hmc_packet): header
-- and payload as they came in the flits before the last and in the first half of the last, and its
-- SLID or ERRSTAT. It is good only where the packet was accepted.
unfoldable pub copy_of : Profile → (front : List (List ℕ)) → (half : List ℕ)
    → (slid errstat : ℕ) → (good : Bool) → Numbers → PacketFields
copy_of profile front half slid errstat good n =
    let bytes = concat front ++ half in
    let command = command_or_null (named_by bytes) in
    let errstat_sent = errstat_for profile (layout_of command) errstat in
    copied_packet command bytes (tail_with n slid errstat_sent) good

-- the next flit of a packet that is passed on, after those that were sent: the flit that is fed,
-- or the last one of the copy; None while it isn't there
abbrev pub fed_flit : Profile → Numbers → (sent : List (List ℕ)) → (rrp : ℕ) → Feed
    → Option (List ℕ)
fed_flit profile n sent rrp Waiting = None
fed_flit profile n sent rrp (Whole flit) = Some flit
fed_flit profile n sent rrp (Last half slid errstat good) =
    Some (flit_of profile (copy_of profile sent half slid errstat good n) rrp (length sent))

-- an open place has its packet once its last flit is fed
abbrev pub awaited_fed : Profile → (sent : List (List ℕ)) → Feed → (head : List ℕ) → (flits : ℕ)
    → Numbers → Place
awaited_fed profile sent (Last half slid errstat good) head flits n =
    Place.known (copy_of profile sent half slid errstat good n)
awaited_fed profile sent Waiting head flits n = Place.awaited head flits n
awaited_fed profile sent (Whole flit) head flits n = Place.awaited head flits n

-- the same of each place
abbrev pub place_fed : Profile → (sent : List (List ℕ)) → Feed → Place → Place
place_fed profile sent feed (Place.known packet) = Place.known packet
place_fed profile sent feed (Place.awaited head flits n) =
    awaited_fed profile sent feed head flits n
