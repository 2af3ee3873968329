-- What holds of each direction of a link after every lawful list of its entries, in the words of
-- the list alone.
use Rattle.std.specs.Prelude.{◌≡◌, ◌≢◌, ℕ, suc, ◌+◌, ◌%◌, ◌<◌, ◌≤◌, List, [], ◌∷◌, ◌++◌, map, take, drop, length, slice_get, slice_index_or, is_none, Some, Ok}
use Rattle.hmc_codes.specs.Link.{LinkFields}
use Rattle.hmc_codes.specs.Profile.{most_retry, modulus_of}
use Rattle.hmc_codes.specs.Flit.{IsFlit}
use Rattle.hmc_codes.specs.declared.profile.Profile.{Profile}
use Rattle.hmc_packet.specs.declared.outcome.Outcome.{Outcome}
use Rattle.hmc_packet.specs.declared.outcome.Outcome.TheVariants.{Repeat, AbortedOrder}
use Rattle.hmc_packet.specs.declared.seen.Seen.{Seen}
use Rattle.hmc_packet.specs.declared.what.What.TheVariants as what
use Rattle.hmc_packet.specs.Landings.{pending}
use Rattle.hmc_packet.specs.Packet.{PacketFields, null_packet, flits_of}
use Rattle.hmc_packet.specs.Reading.{read_of}
use Rattle.hmc_packet.specs.Receptions.{reception_of}
use Rattle.hmc_send.specs.declared.toward.Toward.{Toward}
use Rattle.hmc_send.specs.Entries.{SenderEntry, acked, unfinished, or_null}
use Rattle.hmc_send.specs.LinkCalls.{IsLawful}
use Rattle.hmc_send.specs.LinkEntries.{LinkEntry, other, same_way, push_if, receiver_entries, accepted_packets, takes}
use Rattle.hmc_send.specs.LinkLines.{StampedFlit, line}
use Rattle.hmc_send.specs.LinkSenders.{sender_entries, places_in, queue_in, tokens}
use Rattle.hmc_send.specs.LinkTokens.{flits_begun, flits_accepted, flits_taken, tokens_returned, tokens_credited}
use Rattle.hmc_send.specs.Places.{Place, flits_in, numbers_at, pointer_of, with_numbers, tret_packet}
use Rattle.hmc_wire.specs.Conditions.{AreMet}

-- how many packets of a direction are acknowledged
abbrev pub acked_in : LinkFields → Toward → List LinkEntry → ℕ
acked_in link d past = acked (sender_entries link d past)

-- how many its receiver has accepted
abbrev pub accepted_in : LinkFields → Toward → List LinkEntry → ℕ
accepted_in link d past = length (accepted_packets link.profile d past)

-- the pointer after so many of its packets
abbrev pub pointer_after : LinkFields → Toward → List LinkEntry → ℕ → ℕ
pointer_after link d past count = pointer_of link.profile (take count (places_in link d past))

-- A return pointer that is counted for a direction is that of exactly one number of its packets,
-- from those acknowledged to those begun: of those which its receiver had accepted when the other
-- end sent the flit.
pub record NamesOne (link : LinkFields) (d : Toward) (past : List LinkEntry) (rrp : ℕ)
    : Type 0 where
  pub front : StampedFlit
  pub is_front : slice_get (line link.profile (other d) past) 0 ≡ Some front
  pub least : acked_in link d past ≤ front.stamp
  pub most : front.stamp ≤ accepted_in link d past
  pub is : rrp ≡ pointer_after link d past front.stamp
  pub alone : (n : ℕ) → acked_in link d past ≤ n → n ≤ length (places_in link d past) →
      pointer_after link d past n ≡ rrp → n ≡ front.stamp

-- The packet that is whole with this flit was accepted before.
pub record WasAccepted (link : LinkFields) (d : Toward) (past : List LinkEntry) (flit : List ℕ)
    : Type 0 where
  pub seen : Seen
  pub read : read_of link.profile (pending (receiver_entries d past) ++ flit ∷ []) ≡ Ok seen
  pub number : ℕ
  pub inside : number < accepted_in link d past
  pub same : slice_index_or (accepted_packets link.profile d past) number null_packet
      ≡ seen.packet

-- The place with this index, from 0: its FRP is the flits of the places up to it, and its SEQ how
-- many these are.
pub record HasNumbers (profile : Profile) (places : List Place) (n : ℕ) : Type 0 where
  pub frp : (numbers_at (slice_index_or places n (Place.known null_packet))).frp
      ≡ flits_in (take (suc n) places) % modulus_of profile
  pub seq : (numbers_at (slice_index_or places n (Place.known null_packet))).seq ≡ suc n % 8

-- what is put into a direction: a packet that is handed, or a cut-through
pub data Put : Type 0 where
  put_packet : PacketFields → Put
  put_through : (head : List ℕ) → (flits : ℕ) → Put

-- what was put into a direction, in order
unfoldable pub puts : Toward → List LinkEntry → List Put
puts d [] = []
puts d (LinkEntry.handed way packet ∷ past) =
    push_if (same_way d way) (Put.put_packet packet) (puts d past)
puts d (LinkEntry.through way head flits ∷ past) =
    push_if (same_way d way) (Put.put_through head flits) (puts d past)
puts d (_ ∷ past) = puts d past

-- what a sender began of it: fronts of its output queue, and cut-throughs
unfoldable pub begun_puts : List SenderEntry → List Put
begun_puts [] = []
begun_puts (SenderEntry.sent given what.New flit ∷ past) =
    push_if (is_none (unfinished past)) (Put.put_packet (or_null given.front)) (begun_puts past)
begun_puts (SenderEntry.through head flits due ∷ past) =
    begun_puts past ++ Put.put_through head flits ∷ []
begun_puts (_ ∷ past) = begun_puts past

-- what each place was begun of: likewise, but TRETs too
unfoldable pub begun_of : List SenderEntry → List Put
begun_of [] = []
begun_of (SenderEntry.sent given what.New flit ∷ past) =
    push_if (is_none (unfinished past)) (Put.put_packet (or_null given.front)) (begun_of past)
begun_of (SenderEntry.sent given what.Tret flit ∷ past) =
    begun_of past ++ Put.put_packet tret_packet ∷ []
begun_of (SenderEntry.through head flits due ∷ past) =
    begun_of past ++ Put.put_through head flits ∷ []
begun_of (_ ∷ past) = begun_of past

-- A place was begun of this: it has the packet, but with its own numbers. That of a cut-through has
-- its head and its length, and its packet, once it is known, that length.
abbrev pub IsBegunOf : Place → Put → Type 0
IsBegunOf (Place.known packet) (Put.put_packet of) =
    packet ≡ with_numbers (numbers_at (Place.known packet)) of
IsBegunOf (Place.known packet) (Put.put_through head flits) = flits_of packet ≡ flits
IsBegunOf (Place.awaited first count numbers) (Put.put_packet of) = ⊥
IsBegunOf (Place.awaited first count numbers) (Put.put_through head flits) =
    (first ≡ head) × (count ≡ flits)

-- each place was, in order
abbrev pub AreBegunOf : List Place → List Put → Type 0
AreBegunOf [] [] = Unit {0}
AreBegunOf [] (of ∷ next) = ⊥
AreBegunOf (place ∷ places) [] = ⊥
AreBegunOf (place ∷ places) (of ∷ next) = IsBegunOf place of × AreBegunOf places next

-- the laws of a direction
pub record DirectionLaws (link : LinkFields) (d : Toward) (past : List LinkEntry) : Type 0 where
  -- the packets accepted are those begun first, in their order, once each; an open place is none
  -- of them
  pub accepted : map Place.known (accepted_packets link.profile d past)
      ≡ take (accepted_in link d past) (places_in link d past)
  -- as many were begun, and no more are acknowledged than accepted
  pub begun : accepted_in link d past ≤ length (places_in link d past)
  pub acknowledged : acked_in link d past ≤ accepted_in link d past
  -- what the sender began, and the packets that wait in its output queue, are what was put in, in
  -- order
  pub queued : begun_puts (sender_entries link d past)
      ++ map Put.put_packet (queue_in link d past) ≡ puts d past
  -- each place has what it was begun of, in order
  pub contents : AreBegunOf (places_in link d past) (begun_of (sender_entries link d past))
  -- the packets begun are numbered in their order, an open place too
  pub numbered : (n : ℕ) → n < length (places_in link d past) →
      HasNumbers link.profile (places_in link d past) n
  -- each flit on its way is 16 bytes
  pub flits : (n : ℕ) (sent : StampedFlit) →
      slice_get (line link.profile d past) n ≡ Some sent → IsFlit sent.flit
  -- no packet lands out of order
  pub ordered : (mask flit : List ℕ) (outcome : Outcome) →
      IsLawful link (LinkEntry.landed d mask flit outcome ∷ past) → outcome ≢ AbortedOrder
  -- a repeat is of a packet that was accepted before
  pub repeated : (mask flit : List ℕ) →
      IsLawful link (LinkEntry.landed d mask flit Repeat ∷ past) →
      WasAccepted link d past flit
  -- the packets that may have to be sent again have room
  pub kept : flits_in (drop (acked_in link d past) (places_in link d past)) ≤ link.retry
  -- a return pointer that is counted is no stray one
  pub counted : (mask flit : List ℕ) (outcome : Outcome) (rrp : ℕ) →
      IsLawful link (LinkEntry.landed (other d) mask flit outcome ∷ past) →
      (reception_of link.profile (receiver_entries (other d) past) flit).rrp ≡ Some rrp →
      NamesOne link d past rrp

-- The tokens of a direction: none of the five differences is taken below zero, the buffer never
-- overflows, and the five numbers are together what the buffer's end advertised.
pub record TokenLaws (link : LinkFields) (d : Toward) (past : List LinkEntry) : Type 0 where
  -- held: the packets begun cost no more than was credited
  pub held : flits_begun (places_in link d past)
      ≤ tokens_credited (accepted_packets link.profile (other d) past)
  -- in transit: no more was accepted than begun
  pub transit : flits_accepted (accepted_packets link.profile d past)
      ≤ flits_begun (places_in link d past)
  -- used: no more was taken from the buffer than accepted
  pub used : flits_taken (takes d past) (accepted_packets link.profile d past)
      ≤ flits_accepted (accepted_packets link.profile d past)
  -- the buffer has room for all that is accepted
  pub fits : flits_accepted (accepted_packets link.profile d past)
      ≤ flits_taken (takes d past) (accepted_packets link.profile d past) + link.tokens
  -- due: no more is returned than was advertised and taken
  pub due : tokens_returned (places_in link (other d) past)
      ≤ link.tokens + flits_taken (takes d past) (accepted_packets link.profile d past)
  -- returning: no more is credited than was returned
  pub returning : tokens_credited (accepted_packets link.profile (other d) past)
      ≤ tokens_returned (places_in link (other d) past)
  -- the five numbers together
  pub sum : let row = tokens link d past in
      row.held + row.transit + row.used + row.due + row.returning ≡ link.tokens

-- A lawful list of a link whose retry buffer is at most half of the modulus, and whose users keep
-- to what is asked of them.
pub record IsKept (link : LinkFields) (past : List LinkEntry) : Type 0 where
  pub retry : link.retry ≤ most_retry link.profile
  pub lawful : IsLawful link past
  pub met : AreMet link past
