-- What a call does to the lists of the two directions.
use Rattle.std.proofs.Common.{◌≡◌, ℕ, Bool, true, false, not, List, Option, Some, None, refl}
use Rattle.std.specs.Prelude.{slice_get}
use Rattle.hmc_codes.specs.Link.{LinkFields}
use Rattle.hmc_packet.specs.declared.feed.Feed.{Feed}
use Rattle.hmc_packet.specs.Masks.{under_mask}
use Rattle.hmc_packet.specs.Receptions.{reception_of}
use Rattle.hmc_send.specs.declared.sent.Sent.{Sent}
use Rattle.hmc_send.specs.declared.sent.Sent.TheVariants.{Out, Starved}
use Rattle.hmc_send.specs.Choice.{choice}
use Rattle.hmc_send.specs.LinkCalls.{LinkCall, entry_if, sent_entry, landed_front, next_entry, with_entry, is_full, view_in}
use Rattle.hmc_send.specs.LinkEntries.{LinkEntry, other, same_way, receiver_entries}
use Rattle.hmc_send.specs.LinkLines.{StampedFlit, line, passes}
use Rattle.hmc_send.specs.declared.toward.Toward.{Toward}
use Rattle.hmc_send.specs.declared.toward.Toward.TheVariants.{Forth, Back}
use Rattle.hmc_wire.specs.LinkLaws.{IsKept}
use Rattle.hmc_ends.specs.Answers.{after_call, link_sent}
use Rattle.hmc_ends.specs.List.{handed_list, leaves}
use Rattle.hmc_ends.proofs.ListLaws.{list-over, list-sent}
use Rattle.hmc_link_laws.specs.Lists.{list_after_send, way_of}

-- ---- the other direction

not-other : (d : Toward) → not (same_way (other d) d) ≡ true
not-other Forth = refl
not-other Back = refl

-- an entry that leaves a list leaves it, whether it is made or not
over-if : (link : LinkFields) (d : Toward) (past : List LinkEntry) (b : Bool) (entry : LinkEntry) → leaves d entry ≡ true → handed_list link d (with_entry past (entry_if b entry)) ≡ handed_list link d past
over-if link d past true entry is = list-over link d entry past is
over-if link d past false entry is = refl

over-sent : (link : LinkFields) (d : Toward) (past : List LinkEntry) (feed : Feed) (full : Bool) (s : Sent) → handed_list link (other d) (with_entry past (sent_entry d feed full s)) ≡ handed_list link (other d) past
over-sent link d past feed true (Out flit w) = refl
over-sent link d past feed true Starved = refl
over-sent link d past feed false Starved = refl
over-sent link d past feed false (Out flit w) = list-over link (other d) (LinkEntry.sent d feed w flit) past (not-other d)

over-landed : (link : LinkFields) (d : Toward) (past : List LinkEntry) (mask : List ℕ) (front : Option StampedFlit) → handed_list link (other d) (with_entry past (landed_front link d past mask front)) ≡ handed_list link (other d) past
over-landed link d past mask None = refl
over-landed link d past mask (Some front) =
    let flit = under_mask mask front.flit in
    over-if link (other d) past (not (passes link.profile d past mask flit)) (LinkEntry.landed d mask flit (reception_of link.profile (receiver_entries d past) flit).outcome) (not-other d)

pub other-list : (link : LinkFields) (past : List LinkEntry) (call : LinkCall) → handed_list link (other (way_of call)) (after_call link past call) ≡ handed_list link (other (way_of call)) past
unfolding next_entry
other-list link past (LinkCall.hand d packet) = over-if link (other d) past _ (LinkEntry.handed d packet) (not-other d)
other-list link past (LinkCall.take d) = over-if link (other d) past _ (LinkEntry.taken d) refl
other-list link past (LinkCall.send d feed) = over-sent link d past feed (is_full link d past) (choice link.profile (view_in link d past feed))
other-list link past (LinkCall.land d mask) = over-landed link d past mask (slice_get (line link.profile d past) 0)
other-list link past (LinkCall.unlock d) = list-over link (other d) (LinkEntry.unlocked d) past refl
other-list link past (LinkCall.begin d head flits) = over-if link (other d) past _ (LinkEntry.through d head flits) (not-other d)

-- ---- the direction of a call

-- a packet that is taken from a buffer has left the list, and an unlock leaves it
pub taken-list : (link : LinkFields) (past : List LinkEntry) (d : Toward) → handed_list link d (after_call link past (LinkCall.take d)) ≡ handed_list link d past
unfolding next_entry
taken-list link past d = over-if link d past _ (LinkEntry.taken d) refl

pub unlocked-list : (link : LinkFields) (past : List LinkEntry) (d : Toward) → handed_list link d (after_call link past (LinkCall.unlock d)) ≡ handed_list link d past
unfolding next_entry
unlocked-list link past d = list-over link d (LinkEntry.unlocked d) past refl

by-sent : (link : LinkFields) (d : Toward) (past : List LinkEntry) (feed : Feed) (full : Bool) (s : Sent) → IsKept link (with_entry past (sent_entry d feed full s)) →
    handed_list link d (with_entry past (sent_entry d feed full s)) ≡ list_after_send link d past feed (link_sent full s)
by-sent link d past feed true (Out flit w) kept = refl
by-sent link d past feed true Starved kept = refl
by-sent link d past feed false Starved kept = refl
by-sent link d past feed false (Out flit w) kept = list-sent link d feed w flit past kept

pub send-list : (link : LinkFields) (d : Toward) (past : List LinkEntry) (feed : Feed) → IsKept link (after_call link past (LinkCall.send d feed)) →
    handed_list link d (after_call link past (LinkCall.send d feed)) ≡ list_after_send link d past feed (link_sent (is_full link d past) (choice link.profile (view_in link d past feed)))
unfolding next_entry
send-list link d past feed kept = by-sent link d past feed (is_full link d past) (choice link.profile (view_in link d past feed)) kept
