-- An output queue and a line are no longer than they may be.
use Rattle.std.proofs.Common.{◌≤◌, ◌<◌, ◌+◌, ℕ, suc, Bool, true, false, List, [], ◌∷◌, ◌++◌, length, drop, sym, subst, arith, ltb-true, length-append}
use Rattle.std.specs.Prelude.{slice_get, is_none, if◌then◌else◌}
use Rattle.std.proofs.lemmas.Bool.{leb-false}
use Rattle.std.proofs.lemmas.List.{length-drop}
use Rattle.hmc_codes.specs.Link.{LinkFields}
use Rattle.hmc_packet.specs.declared.what.What.{What}
use Rattle.hmc_packet.specs.declared.what.What.TheVariants.{Train, Clear, Start, Pret, Tret, New, Again}
use Rattle.hmc_packet.specs.declared.what.What.TheVariants.{Null as NullFlit}
use Rattle.hmc_packet.specs.Receptions.{reception_of}
use Rattle.hmc_send.specs.Entries.{SenderEntry, Given, unfinished, taken_fronts}
use Rattle.hmc_send.specs.LinkCalls.{IsLawful}
use Rattle.hmc_send.specs.LinkEntries.{LinkEntry, receiver_entries, handed_packets}
use Rattle.hmc_send.specs.LinkLines.{sent_flits, landings, line}
use Rattle.hmc_send.specs.LinkSenders.{sender_entries, queue_in, given_in, given_after}
use Rattle.hmc_send.specs.declared.toward.Toward.{Toward}
use Rattle.hmc_send.specs.declared.toward.Toward.TheVariants.{Forth, Back}
use Rattle.hmc_send.proofs.LinkLawful.{lawful-handed, lawful-sent}
use Rattle.hmc_ends.proofs.LandStands.{fronts-landed}

-- what is left after one more was put in is at most one longer
drop-longer : {X : Type 0} (k most : ℕ) (l : List X) (x : X) → length (drop k l) < most → length (drop k (l ++ x ∷ [])) ≤ most
drop-longer {X = X} k most l x lt =
    let before = length-drop k l in
    let after = length-drop k (l ++ x ∷ []) in
    let more = length-append l (x ∷ []) in
    omega arith

-- and after more was taken at most as long
drop-shorter : {X : Type 0} (k n most : ℕ) (l : List X) → k ≤ n → length (drop k l) ≤ most → length (drop n l) ≤ most
drop-shorter k n most l more le =
    let before = length-drop k l in
    let after = length-drop n l in
    omega arith

-- ---- the output queue

-- a send takes one front at most
front-more : (b : Bool) (n : ℕ) → n ≤ (if b then 1 else 0) + n
front-more true n = omega arith
front-more false n = omega arith

fronts-rise : (t : List SenderEntry) (given : Given) (w : What) (flit : List ℕ) → taken_fronts t ≤ taken_fronts (SenderEntry.sent given w flit ∷ t)
unfolding taken_fronts
fronts-rise t given New flit = front-more (is_none (unfinished t)) (taken_fronts t)
fronts-rise t given Train flit = omega arith
fronts-rise t given Clear flit = omega arith
fronts-rise t given Start flit = omega arith
fronts-rise t given Pret flit = omega arith
fronts-rise t given Tret flit = omega arith
fronts-rise t given Again flit = omega arith
fronts-rise t given NullFlit flit = omega arith

pub queue-fits : (link : LinkFields) (d : Toward) (past : List LinkEntry) → IsLawful link past → length (queue_in link d past) ≤ link.output
unfolding IsLawful sender_entries handed_packets taken_fronts given_after
queue-fits link d [] lawful = omega arith
queue-fits link Forth (LinkEntry.handed Forth packet ∷ past) lawful =
    drop-longer (taken_fronts (sender_entries link Forth past)) link.output (handed_packets Forth past) packet (ltb-true _ _ (lawful-handed link past Forth packet lawful).0)
queue-fits link Back (LinkEntry.handed Back packet ∷ past) lawful =
    drop-longer (taken_fronts (sender_entries link Back past)) link.output (handed_packets Back past) packet (ltb-true _ _ (lawful-handed link past Back packet lawful).0)
queue-fits link Forth (LinkEntry.handed Back packet ∷ past) lawful = queue-fits link Forth past lawful.1
queue-fits link Back (LinkEntry.handed Forth packet ∷ past) lawful = queue-fits link Back past lawful.1
queue-fits link Forth (LinkEntry.sent Forth feed w flit ∷ past) lawful =
    let t = sender_entries link Forth past in
    drop-shorter (taken_fronts t) (taken_fronts (SenderEntry.sent (given_in link Forth past feed) w flit ∷ t)) link.output (handed_packets Forth past) (fronts-rise t (given_in link Forth past feed) w flit) (queue-fits link Forth past lawful.1)
queue-fits link Back (LinkEntry.sent Back feed w flit ∷ past) lawful =
    let t = sender_entries link Back past in
    drop-shorter (taken_fronts t) (taken_fronts (SenderEntry.sent (given_in link Back past feed) w flit ∷ t)) link.output (handed_packets Back past) (fronts-rise t (given_in link Back past feed) w flit) (queue-fits link Back past lawful.1)
queue-fits link Forth (LinkEntry.sent Back feed w flit ∷ past) lawful = queue-fits link Forth past lawful.1
queue-fits link Back (LinkEntry.sent Forth feed w flit ∷ past) lawful = queue-fits link Back past lawful.1
queue-fits link Forth (LinkEntry.landed Forth mask flit o ∷ past) lawful = queue-fits link Forth past lawful.1
queue-fits link Back (LinkEntry.landed Back mask flit o ∷ past) lawful = queue-fits link Back past lawful.1
queue-fits link Forth (LinkEntry.landed Back mask flit o ∷ past) lawful =
    subst (λ (n : ℕ). length (drop n (handed_packets Forth past)) ≤ link.output)
    (sym (fronts-landed o (reception_of link.profile (receiver_entries Back past) flit).rrp (slice_get (line link.profile Back past) 0) (sender_entries link Forth past))) (queue-fits link Forth past lawful.1)
queue-fits link Back (LinkEntry.landed Forth mask flit o ∷ past) lawful =
    subst (λ (n : ℕ). length (drop n (handed_packets Back past)) ≤ link.output)
    (sym (fronts-landed o (reception_of link.profile (receiver_entries Forth past) flit).rrp (slice_get (line link.profile Forth past) 0) (sender_entries link Back past))) (queue-fits link Back past lawful.1)
queue-fits link Forth (LinkEntry.through Forth head flits ∷ past) lawful = queue-fits link Forth past lawful.1
queue-fits link Back (LinkEntry.through Back head flits ∷ past) lawful = queue-fits link Back past lawful.1
queue-fits link Forth (LinkEntry.through Back head flits ∷ past) lawful = queue-fits link Forth past lawful.1
queue-fits link Back (LinkEntry.through Forth head flits ∷ past) lawful = queue-fits link Back past lawful.1
queue-fits link d (LinkEntry.taken way ∷ past) lawful = queue-fits link d past lawful.1
queue-fits link d (LinkEntry.unlocked way ∷ past) lawful = queue-fits link d past lawful.1

-- ---- the line

pub line-fits : (link : LinkFields) (d : Toward) (past : List LinkEntry) → IsLawful link past → length (line link.profile d past) ≤ link.line
unfolding IsLawful line sent_flits landings
line-fits link d [] lawful = omega arith
line-fits link Forth (LinkEntry.sent Forth feed w flit ∷ past) lawful =
    drop-longer (landings Forth past) link.line (sent_flits link.profile Forth past) _ (leb-false link.line _ (lawful-sent link past Forth feed w flit lawful).has_room)
line-fits link Back (LinkEntry.sent Back feed w flit ∷ past) lawful =
    drop-longer (landings Back past) link.line (sent_flits link.profile Back past) _ (leb-false link.line _ (lawful-sent link past Back feed w flit lawful).has_room)
line-fits link Forth (LinkEntry.sent Back feed w flit ∷ past) lawful = line-fits link Forth past lawful.1
line-fits link Back (LinkEntry.sent Forth feed w flit ∷ past) lawful = line-fits link Back past lawful.1
line-fits link Forth (LinkEntry.landed Forth mask flit o ∷ past) lawful =
    drop-shorter (landings Forth past) (suc (landings Forth past)) link.line (sent_flits link.profile Forth past) (omega arith) (line-fits link Forth past lawful.1)
line-fits link Back (LinkEntry.landed Back mask flit o ∷ past) lawful =
    drop-shorter (landings Back past) (suc (landings Back past)) link.line (sent_flits link.profile Back past) (omega arith) (line-fits link Back past lawful.1)
line-fits link Forth (LinkEntry.landed Back mask flit o ∷ past) lawful = line-fits link Forth past lawful.1
line-fits link Back (LinkEntry.landed Forth mask flit o ∷ past) lawful = line-fits link Back past lawful.1
line-fits link d (LinkEntry.handed way packet ∷ past) lawful = line-fits link d past lawful.1
line-fits link d (LinkEntry.taken way ∷ past) lawful = line-fits link d past lawful.1
line-fits link d (LinkEntry.unlocked way ∷ past) lawful = line-fits link d past lawful.1
line-fits link d (LinkEntry.through way head flits ∷ past) lawful = line-fits link d past lawful.1
