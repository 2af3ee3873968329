-- What a landing gives, and what it leaves.
use Rattle.std.specs.Prelude.{◌≡◌, ◌≤◌, ◌+◌, ℕ, Bool, true, false, List, [], ◌∷◌, filter, slice_get, sum_by, Option, Some, None}
use Rattle.hmc_codes.specs.Link.{LinkFields, IsLinkSetup}
use Rattle.hmc_codes.specs.Limits.{most_tokens}
use Rattle.hmc_codes.specs.declared.profile.Profile.{Profile}
use Rattle.hmc_packet.specs.declared.landed.Landed.{Landed}
use Rattle.hmc_packet.specs.declared.landed.Landed.TheVariants.{Accepted, Poisoned, AbortedOrder}
use Rattle.hmc_ends.specs.declared.link_landed.LinkLanded.{LinkLanded}
use Rattle.hmc_ends.specs.declared.link_landed.LinkLanded.TheVariants as links
use Rattle.hmc_packet.specs.declared.kind.Kind.TheVariants.{Start}
use Rattle.hmc_packet.specs.declared.outcome.Outcome.{Outcome}
use Rattle.hmc_packet.specs.declared.outcome.Outcome.TheVariants.{Gathered, Ran}
use Rattle.hmc_packet.specs.Landings.{flits_in}
use Rattle.hmc_packet.specs.Packet.{PacketFields, flits_of}
use Rattle.hmc_packet.specs.Receptions.{reception_of, landed_with}
use Rattle.hmc_receive.specs.StandsFor.{landing_of}
use Rattle.hmc_send.specs.Acknowledged.{acknowledged_after, entries_acknowledged}
use Rattle.hmc_send.specs.Entries.{SenderEntry}
use Rattle.hmc_send.specs.LinkEntries.{LinkEntry, other, receiver_entries}
use Rattle.hmc_packet.specs.Masks.{changes, under_mask}
use Rattle.hmc_send.specs.LinkLines.{StampedFlit, line, passes}
use Rattle.hmc_send.specs.LinkTokens.{tokens_credited}
use Rattle.hmc_send.specs.Places.{is_token}
use Rattle.hmc_send.specs.declared.state.State.{State}
use Rattle.hmc_send.specs.declared.toward.Toward.{Toward}
use Rattle.hmc_wire.specs.LinkLaws.{IsKept}
use Rattle.hmc_ends.specs.End.{EndFields}
use Rattle.hmc_ends.specs.Parts.{parts_of}
use Rattle.hmc_ends.specs.StandsFor.{EndStandsFor}

-- the packet that a landing accepted, poisoned or not
abbrev pub arriving : Landed → Option PacketFields
arriving (Accepted packet) = Some packet
arriving (Poisoned packet) = Some packet
arriving _ = None

-- a packet, if there is one, as a list
abbrev pub listed : Option PacketFields → List PacketFields
listed None = []
listed (Some packet) = packet ∷ []

abbrev pub arrived_packets : Landed → List PacketFields
arrived_packets landed = listed (arriving landed)

-- the same, where it is a request or a response
abbrev pub stored : Landed → List PacketFields
stored landed = filter is_token (arrived_packets landed)

-- an outcome that begins again: a run of Starts
abbrev pub is_start_run : Outcome → Bool
is_start_run (Ran Start) = true
is_start_run _ = false

-- whether a pending flit is changed, where one of these and of the one that landed is
abbrev pub pending_changed : Outcome → Bool → Bool
pending_changed Gathered changed = changed
pending_changed _ changed = false

-- a sender has the sizes that it had
pub record KeepsSizes (old new : State) : Type 0 where
  pub own : new.profile ≡ old.profile
  pub profile : new.retry.profile ≡ old.retry.profile
  pub flits : new.retry.flits ≡ old.retry.flits

-- what lands, unless a change passes
abbrev pub landed_unless_passed : (passed : Bool) → Landed → Option Landed
landed_unless_passed true landed = None
landed_unless_passed false landed = Some landed

-- the entries of a sender after a return pointer was taken, or none
abbrev pub noted : Profile → Option ℕ → List SenderEntry → List SenderEntry
noted profile None past = past
noted profile (Some rrp) past =
    entries_acknowledged (acknowledged_after profile rrp past) past

-- This flit, changed or not, is the front of the line towards an end, under this mask. The end
-- sends in this direction, and its link stands for these entries.
pub record Lands (link : LinkFields) (d : Toward) (past : List LinkEntry) (mask flit : List ℕ)
    (changed : Bool) (e : EndFields) : Type 0 where
  pub sizes : IsLinkSetup link
  pub kept : IsKept link past
  pub stands : EndStandsFor link e (parts_of link d past)
  pub front : StampedFlit
  pub is_front : slice_get (line link.profile (other d) past) 0 ≡ Some front
  pub flit_is : flit ≡ under_mask mask front.flit
  pub changed_is : changed ≡ changes mask

-- the same of some link
pub record CanLand (flit : List ℕ) (changed : Bool) (e : EndFields) : Type 0 where
  pub link : LinkFields
  pub d : Toward
  pub past : List LinkEntry
  pub mask : List ℕ
  pub lands : Lands link d past mask flit changed e

-- what the landing of a flit in a direction gives
abbrev pub landing_in : LinkFields → Toward → List LinkEntry → (flit : List ℕ) → Landed
landing_in link d past flit = (landing_of link.profile (receiver_entries d past) flit).outcome

-- its entry
abbrev pub entry_landed : LinkFields → Toward → List LinkEntry → (mask flit : List ℕ) → LinkEntry
entry_landed link d past mask flit =
    LinkEntry.landed d mask flit
    (reception_of link.profile (receiver_entries d past) flit).outcome

-- an end has room for the packet that a landing with this outcome accepted, if it did
pub record CanTake (outcome : Outcome) (e : EndFields) : Type 0 where
  pub held : e.account.held
      + tokens_credited (arrived_packets (landed_with outcome e.receiver.packet)) ≤ most_tokens
  pub room : sum_by flits_of e.buffer
      + flits_in (stored (landed_with outcome e.receiver.packet)) ≤ e.setup.tokens

-- what a landing of a link gives: a flit that passed, or one that came
abbrev pub came : (passed : Bool) → (flit : List ℕ) → Landed → LinkLanded
came true flit landed = links.Passed flit
came false flit landed = links.Came flit landed

-- what the landing of the front of the line gives, if there is one
abbrev pub link_landed :
    LinkFields → Toward → List LinkEntry → (mask : List ℕ) → Option StampedFlit → LinkLanded
link_landed link d past mask None = links.Empty
link_landed link d past mask (Some front) =
    let flit = under_mask mask front.flit in
    came (passes link.profile d past mask flit) flit (landing_in link d past flit)

-- a change passed
abbrev pub landing_passed : LinkLanded → Bool
landing_passed (links.Passed flit) = true
landing_passed _ = false

-- no flit was there to land
abbrev pub lands_none : LinkLanded → Bool
lands_none links.Empty = true
lands_none _ = false

-- the requests and responses that it removes from the list of its direction
abbrev pub removed : LinkLanded → List PacketFields
removed (links.Came flit landed) = stored landed
removed _ = []

-- a packet came out of order
abbrev pub is_out_of_order : LinkLanded → Bool
is_out_of_order (links.Came flit AbortedOrder) = true
is_out_of_order _ = false

-- a landing accepted, credited and acknowledged nothing at an end
pub record IsUntouched (old new : EndFields) : Type 0 where
  pub queue : new.queue ≡ old.queue
  pub sender : new.sender ≡ old.sender
  pub account : new.account ≡ old.account
  pub buffer : new.buffer ≡ old.buffer
