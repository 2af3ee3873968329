-- What a lawful list says of its newest entry.
use Rattle.std.proofs.Common.{◌≡◌, ◌∙◌, ℕ, Bool, true, false, not, ◌&&◌, List, ◌∷◌, Option, Some, None, refl, sym, ap}
use Rattle.std.specs.Prelude.{slice_get}
use Rattle.std.proofs.lemmas.Bool.{and_parts, not-true}
use Rattle.hmc_codes.specs.Link.{LinkFields}
use Rattle.hmc_packet.specs.declared.feed.Feed.{Feed}
use Rattle.hmc_packet.specs.declared.feed.Feed.TheVariants.{Waiting}
use Rattle.hmc_packet.specs.declared.outcome.Outcome.{Outcome}
use Rattle.hmc_packet.specs.declared.what.What.{What}
use Rattle.hmc_packet.specs.Head.{head_in}
use Rattle.hmc_packet.specs.Packet.{PacketFields}
use Rattle.hmc_packet.specs.Receptions.{reception_of}
use Rattle.hmc_send.specs.declared.sent.Sent.{Sent}
use Rattle.hmc_send.specs.declared.sent.Sent.TheVariants.{Out, Starved}
use Rattle.hmc_send.specs.Choice.{choice}
use Rattle.hmc_send.specs.LinkCalls.{entry_if, has_room, holds_packet, is_full, view_in, sent_entry, landed_front, may_pass_on, names_flits, next_entry, IsLawful}
use Rattle.hmc_send.specs.declared.toward.Toward.{Toward}
use Rattle.hmc_send.specs.LinkEntries.{LinkEntry, receiver_entries}
use Rattle.hmc_packet.specs.Masks.{under_mask}
use Rattle.hmc_send.specs.LinkLines.{StampedFlit, line, passes}
use Rattle.hmc_send.specs.Places.{is_token}

if_made : (b : Bool) (a e : LinkEntry) → entry_if b a ≡ Some e → b ≡ true
if_made true a e is = refl
if_made false a e is = absurd cc

-- the output queue had room for the packet, which takes tokens
pub lawful-handed : (link : LinkFields) (past : List LinkEntry) (d : Toward) (packet : PacketFields) → IsLawful link (LinkEntry.handed d packet ∷ past) → (has_room link d past ≡ true) × (is_token packet ≡ true)
unfolding IsLawful next_entry
lawful-handed link past d packet lawful = and_parts _ _ (if_made (has_room link d past && is_token packet) (LinkEntry.handed d packet) (LinkEntry.handed d packet) lawful.0)

-- the buffer held a packet
pub lawful-taken : (link : LinkFields) (past : List LinkEntry) (d : Toward) → IsLawful link (LinkEntry.taken d ∷ past) → holds_packet link d past ≡ true
unfolding IsLawful next_entry
lawful-taken link past d lawful = if_made (holds_packet link d past) (LinkEntry.taken d) (LinkEntry.taken d) lawful.0

-- a cut-through might be begun, and its head names its length
pub lawful-through : (link : LinkFields) (past : List LinkEntry) (d : Toward) (head : List ℕ) (flits : ℕ) → IsLawful link (LinkEntry.through d head flits ∷ past) → (may_pass_on (view_in link d past Waiting) flits ≡ true) × (names_flits flits (head_in head) ≡ true)
unfolding IsLawful next_entry
lawful-through link past d head flits lawful = and_parts _ _ (if_made (may_pass_on (view_in link d past Waiting) flits && names_flits flits (head_in head)) (LinkEntry.through d head flits) (LinkEntry.through d head flits) lawful.0)

-- the line had room, and the flit is the choice of the sender
pub record IsSend (link : LinkFields) (past : List LinkEntry) (d : Toward) (feed : Feed) (as_what : What) (flit : List ℕ) : Type 0 where
  pub has_room : is_full link d past ≡ false
  pub chosen : choice link.profile (view_in link d past feed) ≡ Out flit as_what

sent_by : (d : Toward) (feed : Feed) (full : Bool) (s : Sent) (as_what : What) (flit : List ℕ) → sent_entry d feed full s ≡ Some (LinkEntry.sent d feed as_what flit) → (full ≡ false) × (s ≡ Out flit as_what)
sent_by d feed true (Out f w) as_what flit is = absurd cc
sent_by d feed true Starved as_what flit is = absurd cc
sent_by d feed false Starved as_what flit is = absurd cc
sent_by d feed false (Out f w) as_what flit is = (refl, (let e : f ≡ flit = cc in let g : w ≡ as_what = cc in λ i. Out (e i) (g i)))

pub lawful-sent : (link : LinkFields) (past : List LinkEntry) (d : Toward) (feed : Feed) (as_what : What) (flit : List ℕ) → IsLawful link (LinkEntry.sent d feed as_what flit ∷ past) → IsSend link past d feed as_what flit
unfolding IsLawful next_entry
lawful-sent link past d feed as_what flit lawful =
    let found = sent_by d feed (is_full link d past) (choice link.profile (view_in link d past feed)) as_what flit lawful.0 in
    record { has_room = found.0; chosen = found.1 }

-- the front of the line landed under its mask, with the outcome that the receiver's entries give, and
-- no change passed
pub record IsLanding (link : LinkFields) (past : List LinkEntry) (d : Toward) (mask flit : List ℕ) (outcome : Outcome) : Type 0 where
  pub front : StampedFlit
  pub is_front : slice_get (line link.profile d past) 0 ≡ Some front
  pub flit_is : flit ≡ under_mask mask front.flit
  pub outcome_is : outcome ≡ (reception_of link.profile (receiver_entries d past) flit).outcome
  pub caught : passes link.profile d past mask flit ≡ false

landed_by : (d : Toward) (mask f : List ℕ) (p : Outcome) (b : Bool) (flit : List ℕ) (outcome : Outcome) → entry_if b (LinkEntry.landed d mask f p) ≡ Some (LinkEntry.landed d mask flit outcome) → (b ≡ true) × (f ≡ flit) × (p ≡ outcome)
landed_by d mask f p true flit outcome is = (refl, cc, cc)
landed_by d mask f p false flit outcome is = absurd cc

by_front : (link : LinkFields) (past : List LinkEntry) (d : Toward) (mask flit : List ℕ) (outcome : Outcome) (front : Option StampedFlit) → slice_get (line link.profile d past) 0 ≡ front → landed_front link d past mask front ≡ Some (LinkEntry.landed d mask flit outcome) → IsLanding link past d mask flit outcome
by_front link past d mask flit outcome None none is = absurd cc
by_front link past d mask flit outcome (Some front) some is =
    let f = under_mask mask front.flit in
    let found = landed_by d mask f (reception_of link.profile (receiver_entries d past) f).outcome (not (passes link.profile d past mask f)) flit outcome is in
    record {
      front = front;
      is_front = some;
      flit_is = sym found.1;
      outcome_is = sym found.2 ∙ ap (λ (x : List ℕ). (reception_of link.profile (receiver_entries d past) x).outcome) found.1;
      caught = ap (passes link.profile d past mask) (sym found.1) ∙ not-true (passes link.profile d past mask f) found.0;
    }

pub lawful-landed : (link : LinkFields) (past : List LinkEntry) (d : Toward) (mask flit : List ℕ) (outcome : Outcome) → IsLawful link (LinkEntry.landed d mask flit outcome ∷ past) → IsLanding link past d mask flit outcome
unfolding IsLawful next_entry
lawful-landed link past d mask flit outcome lawful = by_front link past d mask flit outcome (slice_get (line link.profile d past) 0) refl lawful.0
