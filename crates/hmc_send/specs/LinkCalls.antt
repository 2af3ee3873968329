-- The calls of a link, the entry that each makes, and the lists of entries that calls make.
use Rattle.std.specs.Prelude.{◌≡◌, ℕ, Bool, true, false, not, ◌==◌, ◌&&◌, nat_lt, nat_le, List, [], ◌∷◌, length, filter, slice_get, Option, Some, None, is_none}
use Rattle.hmc_codes.specs.Link.{LinkFields}
use Rattle.hmc_packet.specs.declared.feed.Feed.{Feed}
use Rattle.hmc_packet.specs.declared.feed.Feed.TheVariants.{Waiting}
use Rattle.hmc_packet.specs.declared.head.Head.{Head}
use Rattle.hmc_packet.specs.Head.{head_in}
use Rattle.hmc_packet.specs.Packet.{PacketFields}
use Rattle.hmc_packet.specs.Receptions.{reception_of}
use Rattle.hmc_send.specs.declared.sent.Sent.{Sent}
use Rattle.hmc_send.specs.declared.sent.Sent.TheVariants.{Out}
use Rattle.hmc_send.specs.Choice.{SendView, view_after, choice, may_begin, is_free}
use Rattle.hmc_send.specs.declared.toward.Toward.{Toward}
use Rattle.hmc_send.specs.LinkEntries.{LinkEntry, receiver_entries, accepted_packets, takes}
use Rattle.hmc_packet.specs.Masks.{under_mask}
use Rattle.hmc_send.specs.LinkLines.{StampedFlit, line, passes}
use Rattle.hmc_send.specs.LinkSenders.{sender_entries, given_in, queue_in}
use Rattle.hmc_send.specs.Places.{is_token}

-- A call of a link, in a direction: to hand a packet to the sender, to take one from the buffer, to
-- send what is fed or another flit, to land the front of the line under a mask, to unlock the
-- receiver, or to begin a cut-through of a packet with this first flit and so many flits.
pub data LinkCall : Type 0 where
  hand : Toward → PacketFields → LinkCall
  take : Toward → LinkCall
  send : Toward → Feed → LinkCall
  land : Toward → (mask : List ℕ) → LinkCall
  unlock : Toward → LinkCall
  begin : Toward → (head : List ℕ) → (flits : ℕ) → LinkCall

-- the entry, where a test holds
abbrev pub entry_if : Bool → LinkEntry → Option LinkEntry
entry_if true entry = Some entry
entry_if false entry = None

-- the output queue of a direction has room for a packet
abbrev pub has_room : LinkFields → Toward → List LinkEntry → Bool
has_room link d past = nat_lt (length (queue_in link d past)) link.output

-- the buffer of a direction holds a packet: more token packets were accepted than taken
abbrev pub holds_packet : LinkFields → Toward → List LinkEntry → Bool
holds_packet link d past =
    nat_lt (takes d past) (length (filter is_token (accepted_packets link.profile d past)))

-- the line of a direction holds as many flits as it can
abbrev pub is_full : LinkFields → Toward → List LinkEntry → Bool
is_full link d past = nat_le link.line (length (line link.profile d past))

-- what a send in a direction sees
abbrev pub view_in : LinkFields → Toward → List LinkEntry → Feed → SendView
view_in link d past feed =
    view_after link.profile link.retry (sender_entries link d past) (given_in link d past feed)

-- the entry of a send; none where the line is full, or a cut-through is starved
abbrev pub sent_entry : Toward → Feed → (full : Bool) → Sent → Option LinkEntry
sent_entry d feed false (Out flit as_what) = Some (LinkEntry.sent d feed as_what flit)
sent_entry d feed _ _ = None

-- the landing of this flit, with the outcome that it gives; no entry is lawful where it passes
abbrev pub landed_entry :
    LinkFields → Toward → List LinkEntry → (mask flit : List ℕ) → Option LinkEntry
landed_entry link d past mask flit =
    entry_if (not (passes link.profile d past mask flit))
    (LinkEntry.landed d mask flit
    (reception_of link.profile (receiver_entries d past) flit).outcome)

-- the landing of the front of the line, if there is one
abbrev pub landed_front :
    LinkFields → Toward → List LinkEntry → (mask : List ℕ) → Option StampedFlit → Option LinkEntry
landed_front link d past mask None = None
landed_front link d past mask (Some front) =
    landed_entry link d past mask (under_mask mask front.flit)

-- a cut-through of so many flits may be begun: nothing waits in the output queue, the sender is
-- free, and held tokens and retry room suffice
abbrev pub may_pass_on : SendView → (flits : ℕ) → Bool
may_pass_on s flits = is_none s.given.front && is_free s && may_begin s flits

-- the first flit is that of a request or response of so many flits, at least 2
abbrev pub names_flits : (flits : ℕ) → Option Head → Bool
names_flits flits None = false
names_flits flits (Some head) = nat_le 2 flits && head.flits == flits

-- the entry that a call makes after these entries; none where it answers that it does nothing,
-- where its condition isn't met, and where a change passes
unfoldable pub next_entry : LinkFields → List LinkEntry → LinkCall → Option LinkEntry
next_entry link past (LinkCall.hand d packet) =
    entry_if (has_room link d past && is_token packet) (LinkEntry.handed d packet)
next_entry link past (LinkCall.take d) =
    entry_if (holds_packet link d past) (LinkEntry.taken d)
next_entry link past (LinkCall.send d feed) =
    sent_entry d feed (is_full link d past) (choice link.profile (view_in link d past feed))
next_entry link past (LinkCall.land d mask) =
    landed_front link d past mask (slice_get (line link.profile d past) 0)
next_entry link past (LinkCall.unlock d) = Some (LinkEntry.unlocked d)
next_entry link past (LinkCall.begin d head flits) =
    entry_if (may_pass_on (view_in link d past Waiting) flits && names_flits flits (head_in head))
    (LinkEntry.through d head flits)

-- the call that makes an entry
abbrev pub call_of : LinkEntry → LinkCall
call_of (LinkEntry.handed d packet) = LinkCall.hand d packet
call_of (LinkEntry.taken d) = LinkCall.take d
call_of (LinkEntry.sent d feed what flit) = LinkCall.send d feed
call_of (LinkEntry.landed d mask flit outcome) = LinkCall.land d mask
call_of (LinkEntry.unlocked d) = LinkCall.unlock d
call_of (LinkEntry.through d head flits) = LinkCall.begin d head flits

-- A lawful list: each entry is the one that its call makes after those before it. What is fed to a
-- packet that is passed on comes from outside the link, and no clause here speaks of it.
unfoldable pub IsLawful : LinkFields → List LinkEntry → Type 0
IsLawful link [] = Unit {0}
IsLawful link (entry ∷ past) =
    (next_entry link past (call_of entry) ≡ Some entry) × IsLawful link past

-- one more entry, if a call made one
abbrev pub with_entry : List LinkEntry → Option LinkEntry → List LinkEntry
with_entry past None = past
with_entry past (Some entry) = entry ∷ past

-- the entries after these calls, in their order
unfoldable pub entries_after_calls : LinkFields → List LinkEntry → List LinkCall → List LinkEntry
entries_after_calls link past [] = past
entries_after_calls link past (call ∷ calls) =
    entries_after_calls link (with_entry past (next_entry link past call)) calls
