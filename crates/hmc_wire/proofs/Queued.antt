-- What a sender began of what was put into its direction, and the packets that wait in its output
-- queue, are what was put in, in order. Used by LawsHold.
use Rattle.std.proofs.Common.{Bool, true, false, ◌≡◌, ◌∙◌, ◌≤◌, ◌+◌, ℕ, zero, suc, List, [], ◌∷◌, ◌++◌, length, drop, map, Option, Some, None, refl, sym, ap, subst, arith, length-append, append_assoc, append-nil}
use Rattle.std.specs.Prelude.{◌&&◌, is_none, if◌then◌else◌, slice_get}
use Rattle.std.proofs.lemmas.List.{map_push}
use Rattle.hmc_codes.specs.Link.{LinkFields}
use Rattle.hmc_codes.specs.declared.profile.Profile.{Profile}
use Rattle.hmc_packet.specs.declared.feed.Feed.TheVariants.{Waiting}
use Rattle.hmc_packet.specs.declared.kind.Kind.TheVariants.{Start as StartKind}
use Rattle.hmc_packet.specs.declared.outcome.Outcome.{Outcome}
use Rattle.hmc_packet.specs.declared.outcome.Outcome.TheVariants.{Ran}
use Rattle.hmc_packet.specs.declared.what.What.{What}
use Rattle.hmc_packet.specs.declared.what.What.TheVariants.{Train, Clear, Start, Pret, Tret, New, Again}
use Rattle.hmc_packet.specs.declared.what.What.TheVariants.{Null as NullFlit}
use Rattle.hmc_packet.specs.Packet.{PacketFields}
use Rattle.hmc_send.specs.declared.sent.Sent.{Sent}
use Rattle.hmc_send.specs.declared.sent.Sent.TheVariants.{Out}
use Rattle.hmc_send.specs.declared.toward.Toward.{Toward}
use Rattle.hmc_send.specs.declared.toward.Toward.TheVariants.{Forth, Back}
use Rattle.hmc_send.specs.Choice.{SendView, view_after, choice, what_of, is_free, may_begin}
use Rattle.hmc_send.specs.Entries.{Given, Part, SenderEntry, with_place, or_null, unfinished, places, last_begun, taken_fronts}
use Rattle.hmc_send.specs.Entries.SenderEntry.{sent, through}
use Rattle.hmc_send.specs.LinkCalls.{IsLawful, view_in}
use Rattle.hmc_send.specs.LinkEntries.{LinkEntry, LinkEntry as entry, push_if, receiver_entries, handed_packets}
use Rattle.hmc_send.specs.LinkLines.{StampedFlit, line}
use Rattle.hmc_send.specs.LinkSenders.{given_after, sender_entries, given_in, queue_in, run_entries, acknowledgement}
use Rattle.hmc_packet.specs.Receptions.{reception_of}
use Rattle.hmc_send.specs.Places.{place_at}
use Rattle.hmc_send.proofs.Cases.{Case, case_of}
use Rattle.hmc_send.proofs.Cases.Case.{trains, goes_on, starves, steers, repeats, begins, returns, points, idles}
use Rattle.hmc_send.proofs.LinkLawful.{lawful-sent, lawful-through}
use Rattle.hmc_wire.specs.LinkLaws.{Put, puts, begun_puts}
use Rattle.hmc_wire.specs.LinkLaws.Put.{put_packet, put_through}
use Rattle.hmc_wire.proofs.SenderLists.{what_is, irtry_other}
use Rattle.hmc_wire.proofs.Ways.{front-drop, front-below}

-- After these entries of a sender, to which these packets were handed; this was put into its
-- direction.
record Queued (given_packets : List PacketFields) (all : List Put) (past : List SenderEntry) : Type 0 where
  pub few : taken_fronts past ≤ length given_packets
  pub same : begun_puts past ++ map put_packet (drop (taken_fronts past) given_packets) ≡ all

none-queued : Queued [] [] []
unfolding taken_fronts begun_puts
none-queued = record { few = omega arith; same = refl }

-- a packet is handed

drop-push : (l : List PacketFields) (n : ℕ) (p : PacketFields) → n ≤ length l → drop n (l ++ p ∷ []) ≡ drop n l ++ p ∷ []
drop-push l zero p le = refl
drop-push [] (suc n) p le = absurd (omega arith)
drop-push (x ∷ l) (suc n) p le = drop-push l n p (omega arith)

handed-queued : (handed : List PacketFields) (all : List Put) (past : List SenderEntry) (p : PacketFields) → Queued handed all past → Queued (handed ++ p ∷ []) (all ++ put_packet p ∷ []) past
handed-queued handed all past p is =
    let more = length-append handed (p ∷ []) in
    let few = is.few in
    let waits = drop (taken_fronts past) handed in
    record {
      few = omega arith;
      same =
          ap (λ (l : List PacketFields). begun_puts past ++ map put_packet l) (drop-push handed (taken_fronts past) p is.few)
          ∙ ap (λ (l : List Put). begun_puts past ++ l) (map_push put_packet waits p)
          ∙ sym (append_assoc (begun_puts past) (map put_packet waits) (put_packet p ∷ []))
          ∙ ap (λ (l : List Put). l ++ put_packet p ∷ []) is.same;
    }

-- a flit is sent

-- where a new packet is begun, the queue has a front
pub front-by : (q : Profile) (s : SendView) (x : Sent) → Case q s x → (flit : List ℕ) → x ≡ Out flit New → s.under_way ≡ None → (p : PacketFields) × (s.given.front ≡ Some p)
front-by q s x (begins f can) flit is none = (can.packet, can.front)
front-by q s x (repeats b place again) flit is none = let clash : Again ≡ New = what_is _ flit Again New is in absurd cc
front-by q s x (goes_on t begun some f next) flit is none = let clash : None ≡ Some begun = sym none ∙ some in absurd cc
front-by q s x (trains t) flit is none = let clash : Train ≡ New = what_is _ flit Train New is in absurd cc
front-by q s x (starves t begun some next) flit is none = absurd cc
front-by q s x (steers t nothing kind due) flit is none = absurd (irtry_other kind New (what_is _ flit (what_of kind) New is) refl)
front-by q s x (returns f opened due) flit is none = let clash : Tret ≡ New = what_is _ flit Tret New is in absurd cc
front-by q s x (points f other_rrp) flit is none = let clash : Pret ≡ New = what_is _ flit Pret New is in absurd cc
front-by q s x (idles f same_rrp) flit is none = let clash : NullFlit ≡ New = what_is _ flit NullFlit New is in absurd cc

pub front-some : (q : Profile) (retry : ℕ) (past : List SenderEntry) (given : Given) (flit : List ℕ) → choice q (view_after q retry past given) ≡ Out flit New → unfinished past ≡ None → (p : PacketFields) × (given.front ≡ Some p)
unfolding view_after
front-some q retry past given flit is none =
    front-by q (view_after q retry past given) (choice q (view_after q retry past given)) (case_of q (view_after q retry past given)) flit is
    (ap (with_place (place_at (places q past) (last_begun q past))) none)

new-queued : (q : Profile) (retry : ℕ) (handed : List PacketFields) (all : List Put) (past : List SenderEntry) (given : Given) (flit : List ℕ) (u : Option Part) → unfinished past ≡ u → choice q (view_after q retry past given) ≡ Out flit New →
    given.front ≡ slice_get (drop (taken_fronts past) handed) 0 → Queued handed all past → Queued handed all (sent given New flit ∷ past)
unfolding taken_fronts begun_puts
new-queued q retry handed all past given flit (Some part) under chosen front is =
    let few = is.few in
    let taken : taken_fronts (sent given New flit ∷ past) ≡ 0 + taken_fronts past = ap (λ (u : Option Part). (if is_none u then 1 else 0) + taken_fronts past) under in
    let none : taken_fronts (sent given New flit ∷ past) ≡ taken_fronts past = omega arith in
    let began : begun_puts (sent given New flit ∷ past) ≡ begun_puts past = ap (λ (u : Option Part). push_if (is_none u) (put_packet (or_null given.front)) (begun_puts past)) under in
    record { few = omega arith; same = (λ i. began i ++ map put_packet (drop (none i) handed)) ∙ is.same }
new-queued q retry handed all past given flit None under chosen front is =
    let found = front-some q retry past given flit chosen under in
    let p = found.0 in
    let at : slice_get (drop (taken_fronts past) handed) 0 ≡ Some p = sym front ∙ found.1 in
    let below = front-below handed (taken_fronts past) p at in
    let taken : taken_fronts (sent given New flit ∷ past) ≡ 1 + taken_fronts past = ap (λ (u : Option Part). (if is_none u then 1 else 0) + taken_fronts past) under in
    let one : taken_fronts (sent given New flit ∷ past) ≡ suc (taken_fronts past) = omega arith in
    let began : begun_puts (sent given New flit ∷ past) ≡ begun_puts past ++ put_packet p ∷ [] = (λ i. push_if (is_none (under i)) (put_packet (or_null (found.1 i))) (begun_puts past)) in
    record {
      few = omega arith;
      same =
          (λ i. began i ++ map put_packet (drop (one i) handed))
          ∙ append_assoc (begun_puts past) (put_packet p ∷ []) (map put_packet (drop (suc (taken_fronts past)) handed))
          ∙ ap (λ (l : List PacketFields). begun_puts past ++ map put_packet l) (sym (front-drop handed (taken_fronts past) p at))
          ∙ is.same;
    }

sent-queued : (q : Profile) (retry : ℕ) (handed : List PacketFields) (all : List Put) (past : List SenderEntry) (given : Given) (as_what : What) (flit : List ℕ) → choice q (view_after q retry past given) ≡ Out flit as_what →
    given.front ≡ slice_get (drop (taken_fronts past) handed) 0 → Queued handed all past → Queued handed all (sent given as_what flit ∷ past)
unfolding taken_fronts begun_puts
sent-queued q retry handed all past given New flit chosen front is = new-queued q retry handed all past given flit (unfinished past) refl chosen front is
sent-queued q retry handed all past given Tret flit chosen front is = record { few = is.few; same = is.same }
sent-queued q retry handed all past given Again flit chosen front is = record { few = is.few; same = is.same }
sent-queued q retry handed all past given Train flit chosen front is = record { few = is.few; same = is.same }
sent-queued q retry handed all past given Clear flit chosen front is = record { few = is.few; same = is.same }
sent-queued q retry handed all past given Start flit chosen front is = record { few = is.few; same = is.same }
sent-queued q retry handed all past given Pret flit chosen front is = record { few = is.few; same = is.same }
sent-queued q retry handed all past given NullFlit flit chosen front is = record { few = is.few; same = is.same }

-- A cut-through is begun, and nothing waits.

pub nothing-front : (l : List PacketFields) → is_none (slice_get l 0) ≡ true → l ≡ []
nothing-front [] is = refl
nothing-front (x ∷ l) is = absurd cc

through-queued : (handed : List PacketFields) (all : List Put) (past : List SenderEntry) (head : List ℕ) (flits due : ℕ) → is_none (slice_get (drop (taken_fronts past) handed) 0) ≡ true → Queued handed all past →
    Queued handed (all ++ put_through head flits ∷ []) (through head flits due ∷ past)
unfolding taken_fronts begun_puts
through-queued handed all past head flits due none is =
    let empty = nothing-front (drop (taken_fronts past) handed) none in
    let began : begun_puts past ≡ all = sym (append-nil (begun_puts past)) ∙ ap (λ (l : List PacketFields). begun_puts past ++ map put_packet l) (sym empty) ∙ is.same in
    record {
      few = is.few;
      same = ap (λ (l : List PacketFields). (begun_puts past ++ put_through head flits ∷ []) ++ map put_packet l) empty ∙ append-nil (begun_puts past ++ put_through head flits ∷ []) ∙ ap (λ (l : List Put). l ++ put_through head flits ∷ []) began;
    }

-- a flit lands in the other direction

ran-queued : (o : Outcome) (handed : List PacketFields) (all : List Put) (past : List SenderEntry) → Queued handed all past → Queued handed all (run_entries o ++ past)
unfolding taken_fronts begun_puts
ran-queued (Ran StartKind) handed all past is = record { few = is.few; same = is.same }
ran-queued _ handed all past is = is

acknowledged-queued : (rrp : Option ℕ) (front : Option StampedFlit) (handed : List PacketFields) (all : List Put) (past : List SenderEntry) → Queued handed all past → Queued handed all (acknowledgement rrp front ++ past)
unfolding taken_fronts begun_puts
acknowledged-queued (Some rrp) (Some front) handed all past is = record { few = is.few; same = is.same }
acknowledged-queued (Some rrp) None handed all past is = is
acknowledged-queued None front handed all past is = is

landed-queued : (o : Outcome) (rrp : Option ℕ) (front : Option StampedFlit) (handed : List PacketFields) (all : List Put) (past : List SenderEntry) → Queued handed all past → Queued handed all ((run_entries o ++ acknowledgement rrp front) ++ past)
landed-queued o rrp front handed all past is =
    subst (Queued handed all) (sym (append_assoc (run_entries o) (acknowledgement rrp front) past)) (ran-queued o handed all (acknowledgement rrp front ++ past) (acknowledged-queued rrp front handed all past is))

-- a list of a link

first_true : (a b c : Bool) → (a && b && c) ≡ true → a ≡ true
first_true true b c is = refl
first_true false b c is = absurd cc

-- a cut-through is begun only where nothing waits
none-waits : (link : LinkFields) (past : List LinkEntry) (d : Toward) (head : List ℕ) (flits : ℕ) → IsLawful link (entry.through d head flits ∷ past) → is_none (slice_get (drop (taken_fronts (sender_entries link d past)) (handed_packets d past)) 0) ≡ true
unfolding view_after given_after
none-waits link past d head flits lawful =
    let s = view_in link d past Waiting in
    first_true (is_none s.given.front) (is_free s) (may_begin s flits) (lawful-through link past d head flits lawful).0

link-queued : (link : LinkFields) (d : Toward) (past : List LinkEntry) → IsLawful link past → Queued (handed_packets d past) (puts d past) (sender_entries link d past)
unfolding IsLawful handed_packets puts sender_entries given_after
link-queued link d [] lawful = none-queued
link-queued link Forth (entry.handed Forth packet ∷ past) lawful = handed-queued (handed_packets Forth past) (puts Forth past) (sender_entries link Forth past) packet (link-queued link Forth past lawful.1)
link-queued link Forth (entry.handed Back packet ∷ past) lawful = link-queued link Forth past lawful.1
link-queued link Forth (entry.taken way ∷ past) lawful = link-queued link Forth past lawful.1
link-queued link Forth (entry.unlocked way ∷ past) lawful = link-queued link Forth past lawful.1
link-queued link Forth (entry.sent Forth feed as_what flit ∷ past) lawful = sent-queued link.profile link.retry (handed_packets Forth past) (puts Forth past) (sender_entries link Forth past) (given_in link Forth past feed) as_what flit (lawful-sent link past Forth feed as_what flit lawful).chosen refl (link-queued link Forth past lawful.1)
link-queued link Forth (entry.sent Back feed as_what flit ∷ past) lawful = link-queued link Forth past lawful.1
link-queued link Forth (entry.through Forth head flits ∷ past) lawful = through-queued (handed_packets Forth past) (puts Forth past) (sender_entries link Forth past) head flits _ (none-waits link past Forth head flits lawful) (link-queued link Forth past lawful.1)
link-queued link Forth (entry.through Back head flits ∷ past) lawful = link-queued link Forth past lawful.1
link-queued link Forth (entry.landed Forth mask flit outcome ∷ past) lawful = link-queued link Forth past lawful.1
link-queued link Forth (entry.landed Back mask flit outcome ∷ past) lawful = landed-queued outcome (reception_of link.profile (receiver_entries Back past) flit).rrp (slice_get (line link.profile Back past) 0) (handed_packets Forth past) (puts Forth past) (sender_entries link Forth past) (link-queued link Forth past lawful.1)
link-queued link Back (entry.handed Back packet ∷ past) lawful = handed-queued (handed_packets Back past) (puts Back past) (sender_entries link Back past) packet (link-queued link Back past lawful.1)
link-queued link Back (entry.handed Forth packet ∷ past) lawful = link-queued link Back past lawful.1
link-queued link Back (entry.taken way ∷ past) lawful = link-queued link Back past lawful.1
link-queued link Back (entry.unlocked way ∷ past) lawful = link-queued link Back past lawful.1
link-queued link Back (entry.sent Back feed as_what flit ∷ past) lawful = sent-queued link.profile link.retry (handed_packets Back past) (puts Back past) (sender_entries link Back past) (given_in link Back past feed) as_what flit (lawful-sent link past Back feed as_what flit lawful).chosen refl (link-queued link Back past lawful.1)
link-queued link Back (entry.sent Forth feed as_what flit ∷ past) lawful = link-queued link Back past lawful.1
link-queued link Back (entry.through Back head flits ∷ past) lawful = through-queued (handed_packets Back past) (puts Back past) (sender_entries link Back past) head flits _ (none-waits link past Back head flits lawful) (link-queued link Back past lawful.1)
link-queued link Back (entry.through Forth head flits ∷ past) lawful = link-queued link Back past lawful.1
link-queued link Back (entry.landed Back mask flit outcome ∷ past) lawful = link-queued link Back past lawful.1
link-queued link Back (entry.landed Forth mask flit outcome ∷ past) lawful = landed-queued outcome (reception_of link.profile (receiver_entries Forth past) flit).rrp (slice_get (line link.profile Forth past) 0) (handed_packets Back past) (puts Back past) (sender_entries link Back past) (link-queued link Back past lawful.1)

-- what was begun, and what waits in the queue
pub queued : (link : LinkFields) (d : Toward) (past : List LinkEntry) → IsLawful link past → begun_puts (sender_entries link d past) ++ map put_packet (queue_in link d past) ≡ puts d past
queued link d past lawful = (link-queued link d past lawful).same
