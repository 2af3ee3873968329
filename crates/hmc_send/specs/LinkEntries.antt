-- What a link did: a list of its entries, the newest first. A link has two directions; each has an
-- output queue, a sender, a line, a receiver, and a buffer of packets. What is gathered from the
-- entries has the oldest first.
use Rattle.std.specs.Prelude.{ℕ, suc, Bool, true, false, List, [], ◌∷◌, ◌++◌}
use Rattle.hmc_codes.specs.declared.profile.Profile.{Profile}
use Rattle.hmc_packet.specs.declared.feed.Feed.{Feed}
use Rattle.hmc_packet.specs.declared.outcome.Outcome.{Outcome}
use Rattle.hmc_packet.specs.declared.what.What.{What}
use Rattle.hmc_packet.specs.Landings.{ReceiverEntry, accepted}
use Rattle.hmc_packet.specs.Packet.{PacketFields}
use Rattle.hmc_send.specs.declared.toward.Toward.{Toward}
use Rattle.hmc_send.specs.declared.toward.Toward.TheVariants.{Forth, Back}

-- the other one
abbrev pub other : Toward → Toward
other Forth = Back
other Back = Forth

-- the two are one direction
abbrev pub same_way : Toward → Toward → Bool
same_way Forth Forth = true
same_way Back Back = true
same_way _ _ = false

-- An entry of a link, in one of its directions. A packet was handed to the output queue; one was
-- taken from the buffer; a flit was sent as this, while a packet that is passed on was fed that;
-- the front of the line landed as this flit, under this mask, with this outcome; the receiver was
-- unlocked; or a cut-through was begun, of a packet with this first flit and so many flits.
pub data LinkEntry : Type 0 where
  handed : Toward → PacketFields → LinkEntry
  taken : Toward → LinkEntry
  sent : Toward → Feed → What → (flit : List ℕ) → LinkEntry
  landed : Toward → (mask flit : List ℕ) → Outcome → LinkEntry
  unlocked : Toward → LinkEntry
  through : Toward → (head : List ℕ) → (flits : ℕ) → LinkEntry

-- a list with one more at its front where a test holds
abbrev pub put_if : {X : Type 0} → Bool → X → List X → List X
put_if true x list = x ∷ list
put_if false x list = list

-- a list with one more at its end where a test holds
abbrev pub push_if : {X : Type 0} → Bool → X → List X → List X
push_if true x list = list ++ x ∷ []
push_if false x list = list

-- a number, or the next one where a test holds
abbrev pub count_if : Bool → ℕ → ℕ
count_if true number = suc number
count_if false number = number

-- the entries of the receiver of a direction: its landings and unlocks
unfoldable pub receiver_entries : Toward → List LinkEntry → List ReceiverEntry
receiver_entries d [] = []
receiver_entries d (LinkEntry.landed way mask flit outcome ∷ past) =
    put_if (same_way d way) (ReceiverEntry.Land flit outcome) (receiver_entries d past)
receiver_entries d (LinkEntry.unlocked way ∷ past) =
    put_if (same_way d way) ReceiverEntry.Unlock (receiver_entries d past)
receiver_entries d (_ ∷ past) = receiver_entries d past

-- the packets that it accepted, the poisoned ones and TRETs among them
abbrev pub accepted_packets : Profile → Toward → List LinkEntry → List PacketFields
accepted_packets profile d past = accepted profile (receiver_entries d past)

-- the packets that were handed to a direction
unfoldable pub handed_packets : Toward → List LinkEntry → List PacketFields
handed_packets d [] = []
handed_packets d (LinkEntry.handed way packet ∷ past) =
    push_if (same_way d way) packet (handed_packets d past)
handed_packets d (_ ∷ past) = handed_packets d past

-- How many packets were taken from the buffer of a direction. A packet that is accepted while it is
-- passed on is taken at once.
unfoldable pub takes : Toward → List LinkEntry → ℕ
takes d [] = 0
takes d (LinkEntry.taken way ∷ past) = count_if (same_way d way) (takes d past)
takes d (_ ∷ past) = takes d past
