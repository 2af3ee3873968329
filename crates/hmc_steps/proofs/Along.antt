-- What holds of every kept list beside hmc_wire's laws: the pointer that was shown last is that of
-- ack_sent_in, pending flits are of a packet with a length, and no more fronts were taken than
-- packets were handed.
use Rattle.std.proofs.Common.{◌≡◌, ◌∙◌, ◌+◌, ◌≤◌, ℕ, Bool, true, false, List, [], ◌∷◌, length, drop, Option, Some, None, refl, sym, ap, arith, length-append}
use Rattle.std.specs.Prelude.{if◌then◌else◌, is_none, slice_get}
use Rattle.hmc_codes.specs.Link.{LinkFields}
use Rattle.hmc_codes.specs.declared.profile.Profile.{Profile}
use Rattle.hmc_codes.specs.declared.profile.Profile.TheVariants.{One, Two}
use Rattle.hmc_packet.specs.declared.feed.Feed.{Feed}
use Rattle.hmc_packet.specs.declared.what.What.{What}
use Rattle.hmc_packet.specs.declared.what.What.TheVariants as what
use Rattle.hmc_packet.specs.Landings as receipts
use Rattle.hmc_packet.specs.Landings.ReceiverEntry.{Unlock}
use Rattle.hmc_packet.specs.Packet.{PacketFields}
use Rattle.hmc_packet.specs.Receptions.{reception_of}
use Rattle.hmc_send.specs.declared.toward.Toward.{Toward}
use Rattle.hmc_send.specs.declared.toward.Toward.TheVariants.{Forth, Back}
use Rattle.hmc_send.specs.declared.sent.Sent.TheVariants.{Out}
use Rattle.hmc_send.specs.Choice.{view_after, choice}
use Rattle.hmc_send.specs.Entries.{SenderEntry, Given, Part, unfinished, shows_pointer, shown_pointer, taken_fronts}
use Rattle.hmc_send.specs.LinkEntries.{LinkEntry, LinkEntry as entry, other, receiver_entries, accepted_packets, handed_packets}
use Rattle.hmc_send.specs.LinkLines.{line}
use Rattle.hmc_send.specs.LinkSenders.{sender_entries, given_in, given_after}
use Rattle.hmc_send.proofs.LinkLawful.{lawful-sent, lawful-landed}
use Rattle.hmc_numbers.specs.Pointers.{pointer}
use Rattle.hmc_wire.proofs.Queued.{front-some}
use Rattle.hmc_wire.specs.Conditions.{AreFed}
use Rattle.hmc_wire.specs.EntryTurns.{turns_of}
use Rattle.hmc_wire.specs.FieldsAre.{half_after}
use Rattle.hmc_wire.specs.LinkLaws.{IsKept}
use Rattle.hmc_wire.proofs.EntryTurns.{kept-before, fields-are}
use Rattle.hmc_wire.proofs.Links.{env-of}
use Rattle.hmc_wire.proofs.Ways.{lists_in, front-below}
use Rattle.hmc_steps.specs.SideIn.{ack_sent_in}
use Rattle.hmc_steps.proofs.Grows.{half-grows, pointer-grows}
use Rattle.hmc_steps.proofs.Landed.{IsFewFirst, pending-few}
use Rattle.hmc_steps.proofs.LandStep.{shown-pointers, shown-fronts}
use Rattle.hmc_steps.proofs.Wired.{wired, side_with}

pub fed-of : (link : LinkFields) (d : Toward) (past : List LinkEntry) → IsKept link past →
    AreFed link.profile (sender_entries link d past)
fed-of link Forth past kept = kept.met.forth
fed-of link Back past kept = kept.met.back

-- ---- the pointer that was shown last

pub record Shown (link : LinkFields) (d : Toward) (past : List LinkEntry) : Type 0 where
  pub below : ack_sent_in link d past ≤ length (accepted_packets link.profile (other d) past)
  pub shown : shown_pointer (sender_entries link d past) ≡ pointer link.profile
      (half_after link (other d) past).direction.first (ack_sent_in link d past)

-- an entry that shows none in this direction
kept-shown : (link : LinkFields) (d : Toward) (e : LinkEntry) (past : List LinkEntry) →
    IsKept link (e ∷ past) → Shown link d past → ack_sent_in link d (e ∷ past) ≡ ack_sent_in link d
    past →
    shown_pointer (sender_entries link d (e ∷ past)) ≡ shown_pointer (sender_entries link d past) →
    Shown link d (e ∷ past)
kept-shown link d e past kept is ack pointers =
    let before = kept-before link e past kept in
    let g = half-grows link e past (other d) kept in
    let a = (fields-are link (other d) past before).accepted in
    let b = (fields-are link (other d) (e ∷ past) kept).accepted in
    let o = (wired link d past before).other_linked.joined.order.accepted in
    let low = is.below in
    let more = g.accepted in
    record {
      below = omega arith;
      shown =
          pointers ∙ is.shown
          ∙ pointer-grows link.profile (half_after link (other d) past).direction
          (half_after link (other d) (e ∷ past)).direction (ack_sent_in link d past) g (omega arith)
          ∙ ap (pointer link.profile (half_after link (other d) (e ∷ past)).direction.first)
          (sym ack);
    }

-- what is shown is the pointer of what is accepted
rrp-is : (link : LinkFields) (d : Toward) (past : List LinkEntry) (feed : Feed) → IsKept link past →
    (given_in link d past feed).own.rrp ≡ pointer link.profile
    (half_after link (other d) past).direction.first
    (length (accepted_packets link.profile (other d) past))
unfolding given_after
rrp-is link d past feed kept =
    let w = wired link d past kept in
    let q = link.profile in
    let env =
    env-of q link.retry link.tokens (lists_in link d past) (lists_in link (other d) past) w.s
    w.t (side_with q (half_after link d past) w.flits w.received)
    (side_with q (half_after link (other d) past) w.other_flits w.other_received) feed w.way
    w.other_way w.linked w.other_linked w.other_agree (fed-of link d past kept) in
    env.rrp ∙ ap (pointer q (half_after link (other d) past).direction.first)
    (fields-are link (other d) past kept).accepted

pointer-zero : (q : Profile) → 0 ≡ pointer q [] 0
pointer-zero One = refl
pointer-zero Two = refl

sent-shown_forth : (link : LinkFields) (past : List LinkEntry) (feed : Feed) (w : What)
    (flit : List ℕ) → IsKept link (entry.sent Forth feed w flit ∷ past) → Shown link Forth past →
    Shown link Forth (entry.sent Forth feed w flit ∷ past)
unfolding sender_entries receiver_entries ack_sent_in shown_pointer turns_of
sent-shown_forth link past feed w flit kept is =
    by_shows (shows_pointer w flit (unfinished (sender_entries link Forth past))) refl
  where
    before : IsKept link past
    before = kept-before link (entry.sent Forth feed w flit) past kept

    by_shows : (b : Bool) → shows_pointer w flit (unfinished (sender_entries link Forth past)) ≡ b →
        Shown link Forth (entry.sent Forth feed w flit ∷ past)
    by_shows true e =
        let ack : ack_sent_in link Forth (entry.sent Forth feed w flit ∷ past) ≡ length
        (accepted_packets link.profile Back past) =
        ap (λ (b : Bool). if b then length (accepted_packets link.profile Back past)
        else ack_sent_in link Forth past) e in
        let same : shown_pointer (sender_entries link Forth (entry.sent Forth feed w flit ∷ past))
        ≡ (given_in link Forth past feed).own.rrp =
        ap (λ (b : Bool). if b then (given_in link Forth past feed).own.rrp
        else shown_pointer (sender_entries link Forth past)) e in
        record {
          below = omega arith;
          shown = same ∙ rrp-is link Forth past feed before
              ∙ ap (pointer link.profile (half_after link Back past).direction.first) (sym ack);
        }
    by_shows false e =
        kept-shown link Forth (entry.sent Forth feed w flit) past kept is
        (ap (λ (b : Bool). if b then length (accepted_packets link.profile Back past)
        else ack_sent_in link Forth past) e)
        (ap (λ (b : Bool). if b then (given_in link Forth past feed).own.rrp
        else shown_pointer (sender_entries link Forth past)) e)

sent-shown_back : (link : LinkFields) (past : List LinkEntry) (feed : Feed) (w : What)
    (flit : List ℕ) → IsKept link (entry.sent Back feed w flit ∷ past) → Shown link Back past →
    Shown link Back (entry.sent Back feed w flit ∷ past)
unfolding sender_entries receiver_entries ack_sent_in shown_pointer turns_of
sent-shown_back link past feed w flit kept is =
    by_shows (shows_pointer w flit (unfinished (sender_entries link Back past))) refl
  where
    before : IsKept link past
    before = kept-before link (entry.sent Back feed w flit) past kept

    by_shows : (b : Bool) → shows_pointer w flit (unfinished (sender_entries link Back past)) ≡ b →
        Shown link Back (entry.sent Back feed w flit ∷ past)
    by_shows true e =
        let ack : ack_sent_in link Back (entry.sent Back feed w flit ∷ past) ≡ length
        (accepted_packets link.profile Forth past) =
        ap (λ (b : Bool). if b then length (accepted_packets link.profile Forth past)
        else ack_sent_in link Back past) e in
        let same : shown_pointer (sender_entries link Back (entry.sent Back feed w flit ∷ past))
        ≡ (given_in link Back past feed).own.rrp =
        ap (λ (b : Bool). if b then (given_in link Back past feed).own.rrp
        else shown_pointer (sender_entries link Back past)) e in
        record {
          below = omega arith;
          shown = same ∙ rrp-is link Back past feed before
              ∙ ap (pointer link.profile (half_after link Forth past).direction.first) (sym ack);
        }
    by_shows false e =
        kept-shown link Back (entry.sent Back feed w flit) past kept is
        (ap (λ (b : Bool). if b then length (accepted_packets link.profile Forth past)
        else ack_sent_in link Back past) e)
        (ap (λ (b : Bool). if b then (given_in link Back past feed).own.rrp
        else shown_pointer (sender_entries link Back past)) e)

pub shown-forth : (link : LinkFields) (past : List LinkEntry) → IsKept link past →
    Shown link Forth past
unfolding sender_entries receiver_entries ack_sent_in shown_pointer turns_of
shown-forth link [] kept = record { below = omega arith; shown = pointer-zero link.profile }
shown-forth link (entry.handed v packet ∷ past) kept =
    kept-shown link Forth (entry.handed v packet) past kept
    (shown-forth link past (kept-before link (entry.handed v packet) past kept)) refl refl
shown-forth link (entry.taken v ∷ past) kept =
    kept-shown link Forth (entry.taken v) past kept
    (shown-forth link past (kept-before link (entry.taken v) past kept)) refl refl
shown-forth link (entry.sent Forth feed w flit ∷ past) kept =
    sent-shown_forth link past feed w flit kept
    (shown-forth link past (kept-before link (entry.sent Forth feed w flit) past kept))
shown-forth link (entry.sent Back feed w flit ∷ past) kept =
    kept-shown link Forth (entry.sent Back feed w flit) past kept
    (shown-forth link past (kept-before link (entry.sent Back feed w flit) past kept)) refl refl
shown-forth link (entry.landed Forth mask flit o ∷ past) kept =
    kept-shown link Forth (entry.landed Forth mask flit o) past kept
    (shown-forth link past (kept-before link (entry.landed Forth mask flit o) past kept)) refl refl
shown-forth link (entry.landed Back mask flit o ∷ past) kept =
    kept-shown link Forth (entry.landed Back mask flit o) past kept
    (shown-forth link past (kept-before link (entry.landed Back mask flit o) past kept)) refl
    (shown-pointers o (reception_of link.profile (receiver_entries Back past) flit).rrp
    (slice_get (line link.profile Back past) 0) (sender_entries link Forth past))
shown-forth link (entry.unlocked v ∷ past) kept =
    kept-shown link Forth (entry.unlocked v) past kept
    (shown-forth link past (kept-before link (entry.unlocked v) past kept)) refl refl
shown-forth link (entry.through Forth head flits ∷ past) kept =
    kept-shown link Forth (entry.through Forth head flits) past kept
    (shown-forth link past (kept-before link (entry.through Forth head flits) past kept)) refl refl
shown-forth link (entry.through Back head flits ∷ past) kept =
    kept-shown link Forth (entry.through Back head flits) past kept
    (shown-forth link past (kept-before link (entry.through Back head flits) past kept)) refl refl

pub shown-back : (link : LinkFields) (past : List LinkEntry) → IsKept link past →
    Shown link Back past
unfolding sender_entries receiver_entries ack_sent_in shown_pointer turns_of
shown-back link [] kept = record { below = omega arith; shown = pointer-zero link.profile }
shown-back link (entry.handed v packet ∷ past) kept =
    kept-shown link Back (entry.handed v packet) past kept
    (shown-back link past (kept-before link (entry.handed v packet) past kept)) refl refl
shown-back link (entry.taken v ∷ past) kept =
    kept-shown link Back (entry.taken v) past kept
    (shown-back link past (kept-before link (entry.taken v) past kept)) refl refl
shown-back link (entry.sent Back feed w flit ∷ past) kept =
    sent-shown_back link past feed w flit kept
    (shown-back link past (kept-before link (entry.sent Back feed w flit) past kept))
shown-back link (entry.sent Forth feed w flit ∷ past) kept =
    kept-shown link Back (entry.sent Forth feed w flit) past kept
    (shown-back link past (kept-before link (entry.sent Forth feed w flit) past kept)) refl refl
shown-back link (entry.landed Back mask flit o ∷ past) kept =
    kept-shown link Back (entry.landed Back mask flit o) past kept
    (shown-back link past (kept-before link (entry.landed Back mask flit o) past kept)) refl refl
shown-back link (entry.landed Forth mask flit o ∷ past) kept =
    kept-shown link Back (entry.landed Forth mask flit o) past kept
    (shown-back link past (kept-before link (entry.landed Forth mask flit o) past kept)) refl
    (shown-pointers o (reception_of link.profile (receiver_entries Forth past) flit).rrp
    (slice_get (line link.profile Forth past) 0) (sender_entries link Back past))
shown-back link (entry.unlocked v ∷ past) kept =
    kept-shown link Back (entry.unlocked v) past kept
    (shown-back link past (kept-before link (entry.unlocked v) past kept)) refl refl
shown-back link (entry.through Back head flits ∷ past) kept =
    kept-shown link Back (entry.through Back head flits) past kept
    (shown-back link past (kept-before link (entry.through Back head flits) past kept)) refl refl
shown-back link (entry.through Forth head flits ∷ past) kept =
    kept-shown link Back (entry.through Forth head flits) past kept
    (shown-back link past (kept-before link (entry.through Forth head flits) past kept)) refl refl

-- ---- pending flits

pub few-forth : (link : LinkFields) (past : List LinkEntry) → IsKept link past →
    IsFewFirst (receipts.pending (receiver_entries Forth past))
unfolding receiver_entries receipts.pending
few-forth link [] kept = tt
few-forth link (entry.handed v packet ∷ past) kept =
    few-forth link past (kept-before link (entry.handed v packet) past kept)
few-forth link (entry.taken v ∷ past) kept =
    few-forth link past (kept-before link (entry.taken v) past kept)
few-forth link (entry.sent v feed w flit ∷ past) kept =
    few-forth link past (kept-before link (entry.sent v feed w flit) past kept)
few-forth link (entry.landed Forth mask flit o ∷ past) kept =
    pending-few link.profile (receiver_entries Forth past) flit o
    (lawful-landed link past Forth mask flit o kept.lawful).outcome_is
    (few-forth link past (kept-before link (entry.landed Forth mask flit o) past kept))
few-forth link (entry.landed Back mask flit o ∷ past) kept =
    few-forth link past (kept-before link (entry.landed Back mask flit o) past kept)
few-forth link (entry.unlocked Forth ∷ past) kept = tt
few-forth link (entry.unlocked Back ∷ past) kept =
    few-forth link past (kept-before link (entry.unlocked Back) past kept)
few-forth link (entry.through v head flits ∷ past) kept =
    few-forth link past (kept-before link (entry.through v head flits) past kept)

pub few-back : (link : LinkFields) (past : List LinkEntry) → IsKept link past →
    IsFewFirst (receipts.pending (receiver_entries Back past))
unfolding receiver_entries receipts.pending
few-back link [] kept = tt
few-back link (entry.handed v packet ∷ past) kept =
    few-back link past (kept-before link (entry.handed v packet) past kept)
few-back link (entry.taken v ∷ past) kept =
    few-back link past (kept-before link (entry.taken v) past kept)
few-back link (entry.sent v feed w flit ∷ past) kept =
    few-back link past (kept-before link (entry.sent v feed w flit) past kept)
few-back link (entry.landed Back mask flit o ∷ past) kept =
    pending-few link.profile (receiver_entries Back past) flit o
    (lawful-landed link past Back mask flit o kept.lawful).outcome_is
    (few-back link past (kept-before link (entry.landed Back mask flit o) past kept))
few-back link (entry.landed Forth mask flit o ∷ past) kept =
    few-back link past (kept-before link (entry.landed Forth mask flit o) past kept)
few-back link (entry.unlocked Back ∷ past) kept = tt
few-back link (entry.unlocked Forth ∷ past) kept =
    few-back link past (kept-before link (entry.unlocked Forth) past kept)
few-back link (entry.through v head flits ∷ past) kept =
    few-back link past (kept-before link (entry.through v head flits) past kept)

-- ---- fronts of the queue

new-fronts : (q : Profile) (retry : ℕ) (handed : List PacketFields) (t : List SenderEntry)
    (given : Given) (flit : List ℕ) (u : Option Part) → unfinished t ≡ u →
    choice q (view_after q retry t given) ≡ Out flit what.New →
    given.front ≡ slice_get (drop (taken_fronts t) handed) 0 → taken_fronts t ≤ length handed →
    taken_fronts (SenderEntry.sent given what.New flit ∷ t) ≤ length handed
unfolding taken_fronts
new-fronts q retry handed t given flit (Some part) e chosen front le =
    let same = ap (λ (u : Option Part). (if is_none u then 1 else 0) + taken_fronts t) e in
    omega arith
new-fronts q retry handed t given flit None e chosen front le =
    let found = front-some q retry t given flit chosen e in
    let below = front-below handed (taken_fronts t) found.0 (sym front ∙ found.1) in
    let same = ap (λ (u : Option Part). (if is_none u then 1 else 0) + taken_fronts t) e in
    omega arith

sent-fronts : (q : Profile) (retry : ℕ) (handed : List PacketFields) (t : List SenderEntry)
    (given : Given) (w : What) (flit : List ℕ) →
    choice q (view_after q retry t given) ≡ Out flit w →
    given.front ≡ slice_get (drop (taken_fronts t) handed) 0 → taken_fronts t ≤ length handed →
    taken_fronts (SenderEntry.sent given w flit ∷ t) ≤ length handed
unfolding taken_fronts
sent-fronts q retry handed t given what.New flit chosen front le =
    new-fronts q retry handed t given flit (unfinished t) refl chosen front le
sent-fronts q retry handed t given what.Train flit chosen front le = le
sent-fronts q retry handed t given what.Null flit chosen front le = le
sent-fronts q retry handed t given what.Pret flit chosen front le = le
sent-fronts q retry handed t given what.Start flit chosen front le = le
sent-fronts q retry handed t given what.Clear flit chosen front le = le
sent-fronts q retry handed t given what.Tret flit chosen front le = le
sent-fronts q retry handed t given what.Again flit chosen front le = le

pub fronts-forth : (link : LinkFields) (past : List LinkEntry) → IsKept link past →
    taken_fronts (sender_entries link Forth past) ≤ length (handed_packets Forth past)
unfolding sender_entries handed_packets taken_fronts given_after
fronts-forth link [] kept = omega arith
fronts-forth link (entry.handed Forth packet ∷ past) kept =
    let le = fronts-forth link past (kept-before link (entry.handed Forth packet) past kept) in
    let len = length-append (handed_packets Forth past) (packet ∷ []) in
    omega arith
fronts-forth link (entry.handed Back packet ∷ past) kept =
    fronts-forth link past (kept-before link (entry.handed Back packet) past kept)
fronts-forth link (entry.taken v ∷ past) kept =
    fronts-forth link past (kept-before link (entry.taken v) past kept)
fronts-forth link (entry.sent Forth feed w flit ∷ past) kept =
    sent-fronts link.profile link.retry (handed_packets Forth past) (sender_entries link Forth past)
    (given_in link Forth past feed) w flit
    (lawful-sent link past Forth feed w flit kept.lawful).chosen refl
    (fronts-forth link past (kept-before link (entry.sent Forth feed w flit) past kept))
fronts-forth link (entry.sent Back feed w flit ∷ past) kept =
    fronts-forth link past (kept-before link (entry.sent Back feed w flit) past kept)
fronts-forth link (entry.landed Forth mask flit o ∷ past) kept =
    fronts-forth link past (kept-before link (entry.landed Forth mask flit o) past kept)
fronts-forth link (entry.landed Back mask flit o ∷ past) kept =
    let le = fronts-forth link past (kept-before link (entry.landed Back mask flit o) past kept) in
    let same =
    shown-fronts o (reception_of link.profile (receiver_entries Back past) flit).rrp
    (slice_get (line link.profile Back past) 0) (sender_entries link Forth past) in
    omega arith
fronts-forth link (entry.unlocked v ∷ past) kept =
    fronts-forth link past (kept-before link (entry.unlocked v) past kept)
fronts-forth link (entry.through Forth head flits ∷ past) kept =
    fronts-forth link past (kept-before link (entry.through Forth head flits) past kept)
fronts-forth link (entry.through Back head flits ∷ past) kept =
    fronts-forth link past (kept-before link (entry.through Back head flits) past kept)

pub fronts-back : (link : LinkFields) (past : List LinkEntry) → IsKept link past →
    taken_fronts (sender_entries link Back past) ≤ length (handed_packets Back past)
unfolding sender_entries handed_packets taken_fronts given_after
fronts-back link [] kept = omega arith
fronts-back link (entry.handed Back packet ∷ past) kept =
    let le = fronts-back link past (kept-before link (entry.handed Back packet) past kept) in
    let len = length-append (handed_packets Back past) (packet ∷ []) in
    omega arith
fronts-back link (entry.handed Forth packet ∷ past) kept =
    fronts-back link past (kept-before link (entry.handed Forth packet) past kept)
fronts-back link (entry.taken v ∷ past) kept =
    fronts-back link past (kept-before link (entry.taken v) past kept)
fronts-back link (entry.sent Back feed w flit ∷ past) kept =
    sent-fronts link.profile link.retry (handed_packets Back past) (sender_entries link Back past)
    (given_in link Back past feed) w flit
    (lawful-sent link past Back feed w flit kept.lawful).chosen refl
    (fronts-back link past (kept-before link (entry.sent Back feed w flit) past kept))
fronts-back link (entry.sent Forth feed w flit ∷ past) kept =
    fronts-back link past (kept-before link (entry.sent Forth feed w flit) past kept)
fronts-back link (entry.landed Back mask flit o ∷ past) kept =
    fronts-back link past (kept-before link (entry.landed Back mask flit o) past kept)
fronts-back link (entry.landed Forth mask flit o ∷ past) kept =
    let le = fronts-back link past (kept-before link (entry.landed Forth mask flit o) past kept) in
    let same =
    shown-fronts o (reception_of link.profile (receiver_entries Forth past) flit).rrp
    (slice_get (line link.profile Forth past) 0) (sender_entries link Back past) in
    omega arith
fronts-back link (entry.unlocked v ∷ past) kept =
    fronts-back link past (kept-before link (entry.unlocked v) past kept)
fronts-back link (entry.through Back head flits ∷ past) kept =
    fronts-back link past (kept-before link (entry.through Back head flits) past kept)
fronts-back link (entry.through Forth head flits ∷ past) kept =
    fronts-back link past (kept-before link (entry.through Forth head flits) past kept)
