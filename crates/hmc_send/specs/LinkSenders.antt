-- What each of the two senders of a link sees of the link's entries.
use Rattle.std.specs.Prelude.{if◌then◌else◌, ℕ, List, [], ◌∷◌, ◌++◌, drop, slice_get, Option, Some}
use Rattle.hmc_codes.specs.Link.{LinkFields}
use Rattle.hmc_codes.specs.declared.counts.TokenRow.{TokenRow}
use Rattle.hmc_packet.specs.declared.feed.Feed.{Feed}
use Rattle.hmc_packet.specs.declared.kind.Kind.TheVariants.{Start}
use Rattle.hmc_packet.specs.declared.outcome.Outcome.{Outcome}
use Rattle.hmc_packet.specs.declared.outcome.Outcome.TheVariants.{Ran}
use Rattle.hmc_packet.specs.Landings.{receiver_view}
use Rattle.hmc_packet.specs.Packet.{PacketFields}
use Rattle.hmc_packet.specs.Receptions.{reception_of}
use Rattle.hmc_send.specs.Entries.{SenderEntry, Given, places, taken_fronts}
use Rattle.hmc_send.specs.declared.toward.Toward.{Toward}
use Rattle.hmc_send.specs.LinkEntries.{LinkEntry, other, same_way, put_if, receiver_entries, accepted_packets, handed_packets, takes}
use Rattle.hmc_send.specs.LinkLines.{StampedFlit, line}
use Rattle.hmc_send.specs.LinkTokens.{flits_taken, tokens_held, tokens_due, token_row}
use Rattle.hmc_send.specs.Places.{Place}

-- the packets that wait in the output queue of a direction, after these entries of its sender
abbrev pub queue_after : Toward → List LinkEntry → List SenderEntry → List PacketFields
queue_after d past before = drop (taken_fronts before) (handed_packets d past)

-- the tokens that are due at the end of a direction, after these entries of the sender there
abbrev pub due_after : LinkFields → Toward → List LinkEntry → List SenderEntry → ℕ
due_after link d past before =
    tokens_due link.tokens (flits_taken (takes d past) (accepted_packets link.profile d past))
    (places link.profile before)

-- what the sender of a direction is given, after these entries of its own
unfoldable pub given_after :
    LinkFields → Toward → List LinkEntry → List SenderEntry → Feed → Given
given_after link d past before feed = record {
  own = receiver_view link.profile (receiver_entries (other d) past);
  front = slice_get (queue_after d past before) 0;
  held = tokens_held (places link.profile before)
      (accepted_packets link.profile (other d) past);
  due = due_after link (other d) past before;
  feed = feed;
}

-- a run of Starts is counted
abbrev pub run_entries : Outcome → List SenderEntry
run_entries (Ran Start) = SenderEntry.ran ∷ []
run_entries _ = []

-- a return pointer that is counted acknowledges as many packets as the flit's stamp says
abbrev pub acknowledgement : (rrp : Option ℕ) → Option StampedFlit → List SenderEntry
acknowledgement (Some rrp) (Some front) = SenderEntry.acknowledged front.stamp ∷ []
acknowledgement _ _ = []

-- what the landing of this flit in a direction is to the sender at its end: a run of Starts, and an
-- acknowledgement where its return pointer is counted
abbrev pub landing_entries :
    LinkFields → Toward → List LinkEntry → (flit : List ℕ) → Outcome → List SenderEntry
landing_entries link d past flit outcome =
    run_entries outcome
    ++ acknowledgement (reception_of link.profile (receiver_entries d past) flit).rrp
    (slice_get (line link.profile d past) 0)

-- the entries of the sender of a direction: its sends with what they were given, its cut-throughs,
-- and what the landings of the other direction bring it
unfoldable pub sender_entries : LinkFields → Toward → List LinkEntry → List SenderEntry
sender_entries link d [] = []
sender_entries link d (LinkEntry.sent way feed what flit ∷ past) =
    let before = sender_entries link d past in
    put_if (same_way d way)
    (SenderEntry.sent (given_after link d past before feed) what flit) before
sender_entries link d (LinkEntry.through way head flits ∷ past) =
    let before = sender_entries link d past in
    put_if (same_way d way)
    (SenderEntry.through head flits (due_after link (other d) past before)) before
sender_entries link d (LinkEntry.landed way mask flit outcome ∷ past) =
    let before = sender_entries link d past in
    if same_way (other d) way then landing_entries link way past flit outcome ++ before else before
sender_entries link d (_ ∷ past) = sender_entries link d past

-- the places of a direction
abbrev pub places_in : LinkFields → Toward → List LinkEntry → List Place
places_in link d past = places link.profile (sender_entries link d past)

-- what a send in a direction is given
abbrev pub given_in : LinkFields → Toward → List LinkEntry → Feed → Given
given_in link d past feed = given_after link d past (sender_entries link d past) feed

-- the packets that wait in the output queue of a direction
abbrev pub queue_in : LinkFields → Toward → List LinkEntry → List PacketFields
queue_in link d past = queue_after d past (sender_entries link d past)

-- the five numbers of the tokens of a direction
unfoldable pub tokens : LinkFields → Toward → List LinkEntry → TokenRow
tokens link d past = token_row (record {
  advertised = link.tokens;
  begun = places_in link d past;
  accepted = accepted_packets link.profile d past;
  takes = takes d past;
  begun_back = places_in link (other d) past;
  accepted_back = accepted_packets link.profile (other d) past;
})
