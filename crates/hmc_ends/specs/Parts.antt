-- What the entries of a link are to one of its ends.
use Rattle.std.specs.Prelude.{ℕ, suc, Bool, false, List, [], ◌∷◌, ◌++◌, drop, filter, length, slice_get}
use Rattle.hmc_codes.specs.Link.{LinkFields}
use Rattle.hmc_ends.specs.declared.link_sent.LinkSent.{LinkSent}
use Rattle.hmc_ends.specs.declared.link_sent.LinkSent.TheVariants as links
use Rattle.hmc_packet.specs.declared.feed.Feed.{Feed}
use Rattle.hmc_packet.specs.declared.outcome.Outcome.{Outcome}
use Rattle.hmc_packet.specs.declared.what.What.{What}
use Rattle.hmc_packet.specs.Landings.{ReceiverEntry, accepted, mode, pointer_of}
use Rattle.hmc_packet.specs.Landings.ReceiverEntry.{Land, Unlock}
use Rattle.hmc_packet.specs.Packet.{PacketFields}
use Rattle.hmc_send.specs.Choice.{SendView, view_after}
use Rattle.hmc_send.specs.Entries.{SenderEntry, Given, places, taken_fronts}
use Rattle.hmc_send.specs.LinkEntries.{LinkEntry, other, receiver_entries, handed_packets, takes}
use Rattle.hmc_send.specs.LinkLines.{StampedFlit, sent_flits, landings, is_pending_changed, changed_after}
use Rattle.hmc_send.specs.LinkSenders.{sender_entries}
use Rattle.hmc_send.specs.LinkTokens.{flits_taken, tokens_held, tokens_due}
use Rattle.hmc_send.specs.Places.{is_token}
use Rattle.hmc_send.specs.declared.toward.Toward.{Toward}

-- Of the direction in which an end sends: the packets that were handed, the entries of the sender,
-- the flits that were sent, how many landed, and the entries of the receiver at the other end. Of
-- the direction that lands at it: the entries of its receiver, whether a pending flit is changed,
-- and how many packets were taken from its buffer.
pub record EndParts : Type 0 where
  pub handed : List PacketFields
  pub sender : List SenderEntry
  pub flits : List StampedFlit
  pub landings : ℕ
  pub landed : List ReceiverEntry
  pub received : List ReceiverEntry
  pub changed : Bool
  pub takes : ℕ

-- the parts of the end that sends in a direction
abbrev pub parts_of : LinkFields → Toward → List LinkEntry → EndParts
parts_of link d past = record {
  handed = handed_packets d past;
  sender = sender_entries link d past;
  flits = sent_flits link.profile d past;
  landings = landings d past;
  landed = receiver_entries d past;
  received = receiver_entries (other d) past;
  changed = is_pending_changed (other d) past;
  takes = takes (other d) past;
}

-- the packets that wait in its output queue
abbrev pub output_queue : EndParts → List PacketFields
output_queue p = drop (taken_fronts p.sender) p.handed

-- the flits that it sent and that have not landed
abbrev pub flits_under_way : EndParts → List StampedFlit
flits_under_way p = drop p.landings p.flits

-- the requests and responses that it accepted
abbrev pub tokens_accepted : LinkFields → EndParts → List PacketFields
tokens_accepted link p = filter is_token (accepted link.profile p.received)

-- the packets in its buffer
abbrev pub buffer_of : LinkFields → EndParts → List PacketFields
buffer_of link p = drop p.takes (tokens_accepted link p)

-- the tokens that it holds
abbrev pub held_of : LinkFields → EndParts → ℕ
held_of link p = tokens_held (places link.profile p.sender) (accepted link.profile p.received)

-- the tokens that it has to return
abbrev pub due_of : LinkFields → EndParts → ℕ
due_of link p =
    tokens_due link.tokens (flits_taken p.takes (accepted link.profile p.received))
    (places link.profile p.sender)

-- what a send is given
abbrev pub send_given : LinkFields → EndParts → Feed → Given
send_given link p feed = record {
  own = record { mode = mode p.received; rrp = pointer_of link.profile p.received };
  front = slice_get (output_queue p) 0;
  held = held_of link p;
  due = due_of link p;
  feed = feed;
}

-- what a send sees
abbrev pub view_by : LinkFields → EndParts → Feed → SendView
view_by link p feed = view_after link.profile link.retry p.sender (send_given link p feed)

-- ---- the parts after an entry

-- a packet was handed
abbrev pub parts_handed : PacketFields → EndParts → EndParts
parts_handed packet p = record p { handed = p.handed ++ packet ∷ [] }

-- a packet was taken from the buffer
abbrev pub parts_taken : EndParts → EndParts
parts_taken p = record p { takes = suc p.takes }

-- a flit was sent
abbrev pub parts_sent : LinkFields → Feed → What → (flit : List ℕ) → EndParts → EndParts
parts_sent link feed as_what flit p = record p {
  sender = SenderEntry.sent (send_given link p feed) as_what flit ∷ p.sender;
  flits = p.flits
      ++ record { flit = flit; stamp = length (accepted link.profile p.received) } ∷ [];
}

-- the same by what a send gave
abbrev pub parts_after_send : LinkFields → Feed → LinkSent → EndParts → EndParts
parts_after_send link feed (links.Out flit as_what) p = parts_sent link feed as_what flit p
parts_after_send link feed _ p = p

-- the front of the line landed at the other end
abbrev pub parts_crossed : (flit : List ℕ) → Outcome → EndParts → EndParts
parts_crossed flit outcome p = record p {
  landings = suc p.landings;
  landed = Land flit outcome ∷ p.landed;
}

-- a flit landed under a mask, which was this to the sender
abbrev pub parts_landed : (mask flit : List ℕ) → Outcome → List SenderEntry → EndParts → EndParts
parts_landed mask flit outcome entries p = record p {
  sender = entries ++ p.sender;
  received = Land flit outcome ∷ p.received;
  changed = changed_after mask outcome p.changed;
}

-- the receiver was unlocked
abbrev pub parts_unlocked : EndParts → EndParts
parts_unlocked p = record p { received = Unlock ∷ p.received; changed = false }

-- the receiver at the other end was unlocked
abbrev pub parts_lost : EndParts → EndParts
parts_lost p = record p { landed = Unlock ∷ p.landed }

-- a packet began to be forwarded
abbrev pub parts_through : LinkFields → (head : List ℕ) → (flits : ℕ) → EndParts → EndParts
parts_through link head flits p = record p {
  sender = SenderEntry.through head flits (due_of link p) ∷ p.sender;
}
