-- A link holds few packets: no more wait than its output queue has room for, and no more cross or
-- are in a buffer than it has tokens.
use Rattle.std.proofs.Common.{◌≡◌, ◌∙◌, ◌<◌, ◌≤◌, ◌+◌, ℕ, zero, suc, Bool, true, false, List, [], ◌∷◌, ◌++◌, length, drop, take, map, inl, inr, refl, sym, ap, subst, arith, length-append, ltb-true}
use Rattle.std.specs.Prelude.{filter, cond, if◌then◌else◌, is_none, slice_get, sum_by}
use Rattle.std.proofs.lemmas.List.{length-drop, take-append-drop}
use Rattle.std.proofs.lemmas.List.Elements.{filter-append}
use Rattle.std.proofs.lemmas.List.Sums.{sum_by-cons, sum_by-append}
use Rattle.hmc_codes.specs.Link.{LinkFields}
use Rattle.hmc_codes.specs.declared.profile.Profile.{Profile}
use Rattle.hmc_packet.specs.declared.what.What.{What}
use Rattle.hmc_packet.specs.declared.what.What.TheVariants as what
use Rattle.hmc_packet.specs.Packet.{PacketFields, flits_of}
use Rattle.hmc_packet.specs.Receptions.{reception_of}
use Rattle.hmc_packet.proofs.PacketLemmas.{flits_of-few}
use Rattle.hmc_send.specs.declared.toward.Toward.{Toward}
use Rattle.hmc_send.specs.declared.toward.Toward.TheVariants.{Forth, Back}
use Rattle.hmc_send.specs.Entries.{SenderEntry, Given, unfinished, taken_fronts}
use Rattle.hmc_send.specs.LinkEntries.{LinkEntry, LinkEntry as entry, receiver_entries, handed_packets, accepted_packets, takes}
use Rattle.hmc_send.specs.LinkLines.{line}
use Rattle.hmc_send.specs.LinkSenders.{sender_entries, places_in, queue_in, given_in, given_after, tokens}
use Rattle.hmc_send.specs.LinkTokens.{flits_begun, flits_accepted}
use Rattle.hmc_send.specs.Places.{Place, is_token, takes_tokens, flits_at}
use Rattle.hmc_send.proofs.LinkLawful.{lawful-handed}
use Rattle.hmc_wire.specs.LinkLaws.{IsKept}
use Rattle.hmc_wire.proofs.EntryTurns.{kept-before}
use Rattle.hmc_wire.proofs.LawsHold.{direction-laws}
use Rattle.hmc_wire.proofs.Places.{FitOr, AllFit}
use Rattle.hmc_wire.proofs.TokenFacts.{token-laws}
use Rattle.hmc_link_state.specs.State as drain
use Rattle.hmc_steps.proofs.LandStep.{shown-fronts, buffer-sum}
use Rattle.hmc_steps.proofs.Wired.{wired}
use Rattle.hmc_bound.specs.Counts.{buffered, IsFew}

-- ---- what waits

taken_more : (t : List SenderEntry) (given : Given) (w : What) (flit : List ℕ) →
    taken_fronts t ≤ taken_fronts (SenderEntry.sent given w flit ∷ t)
unfolding taken_fronts
taken_more t given what.New flit =
    by_sums (if is_none (unfinished t) then 1 else 0) (taken_fronts t)
  where
    by_sums : (a b : ℕ) → b ≤ a + b
    by_sums a b = omega arith
taken_more t given what.Train flit = omega arith
taken_more t given what.Null flit = omega arith
taken_more t given what.Pret flit = omega arith
taken_more t given what.Start flit = omega arith
taken_more t given what.Clear flit = omega arith
taken_more t given what.Tret flit = omega arith
taken_more t given what.Again flit = omega arith

dropped : (k n m : ℕ) (l : List PacketFields) → k ≤ n → length (drop k l) ≤ m →
    length (drop n l) ≤ m
dropped k n m l le few =
    let a = length-drop k l in let b = length-drop n l in omega (arith, le, few, a, b)

one_more : (k m : ℕ) (l : List PacketFields) (p : PacketFields) → length (drop k l) < m →
    length (drop k (l ++ p ∷ [])) ≤ m
one_more k m l p less =
    let a = length-drop k l in
    let b =
    length-drop k (l ++ p ∷ []) in let c = length-append l (p ∷ []) in omega (arith, less, a, b, c)

few_forth : (link : LinkFields) (past : List LinkEntry) → IsKept link past →
    length (queue_in link Forth past) ≤ link.output
unfolding sender_entries handed_packets taken_fronts given_after
few_forth link [] kept = omega arith
few_forth link (entry.handed Forth packet ∷ past) kept =
    one_more (taken_fronts (sender_entries link Forth past)) link.output (handed_packets Forth past)
    packet (ltb-true (length (queue_in link Forth past)) link.output
    (lawful-handed link past Forth packet kept.lawful).0)
few_forth link (entry.handed Back packet ∷ past) kept =
    few_forth link past (kept-before link (entry.handed Back packet) past kept)
few_forth link (entry.taken v ∷ past) kept =
    few_forth link past (kept-before link (entry.taken v) past kept)
few_forth link (entry.sent Forth feed w flit ∷ past) kept =
    let t = sender_entries link Forth past in
    let given = given_in link Forth past feed in
    dropped (taken_fronts t) (taken_fronts (SenderEntry.sent given w flit ∷ t)) link.output
    (handed_packets Forth past) (taken_more t given w flit)
    (few_forth link past (kept-before link (entry.sent Forth feed w flit) past kept))
few_forth link (entry.sent Back feed w flit ∷ past) kept =
    few_forth link past (kept-before link (entry.sent Back feed w flit) past kept)
few_forth link (entry.landed Forth mask flit o ∷ past) kept =
    few_forth link past (kept-before link (entry.landed Forth mask flit o) past kept)
few_forth link (entry.landed Back mask flit o ∷ past) kept =
    subst (λ (n : ℕ). length (drop n (handed_packets Forth past)) ≤ link.output)
    (sym (shown-fronts o (reception_of link.profile (receiver_entries Back past) flit).rrp
    (slice_get (line link.profile Back past) 0) (sender_entries link Forth past)))
    (few_forth link past (kept-before link (entry.landed Back mask flit o) past kept))
few_forth link (entry.unlocked v ∷ past) kept =
    few_forth link past (kept-before link (entry.unlocked v) past kept)
few_forth link (entry.through Forth head flits ∷ past) kept =
    few_forth link past (kept-before link (entry.through Forth head flits) past kept)
few_forth link (entry.through Back head flits ∷ past) kept =
    few_forth link past (kept-before link (entry.through Back head flits) past kept)

few_back : (link : LinkFields) (past : List LinkEntry) → IsKept link past →
    length (queue_in link Back past) ≤ link.output
unfolding sender_entries handed_packets taken_fronts given_after
few_back link [] kept = omega arith
few_back link (entry.handed Back packet ∷ past) kept =
    one_more (taken_fronts (sender_entries link Back past)) link.output (handed_packets Back past)
    packet (ltb-true (length (queue_in link Back past)) link.output
    (lawful-handed link past Back packet kept.lawful).0)
few_back link (entry.handed Forth packet ∷ past) kept =
    few_back link past (kept-before link (entry.handed Forth packet) past kept)
few_back link (entry.taken v ∷ past) kept =
    few_back link past (kept-before link (entry.taken v) past kept)
few_back link (entry.sent Back feed w flit ∷ past) kept =
    let t = sender_entries link Back past in
    let given = given_in link Back past feed in
    dropped (taken_fronts t) (taken_fronts (SenderEntry.sent given w flit ∷ t)) link.output
    (handed_packets Back past) (taken_more t given w flit)
    (few_back link past (kept-before link (entry.sent Back feed w flit) past kept))
few_back link (entry.sent Forth feed w flit ∷ past) kept =
    few_back link past (kept-before link (entry.sent Forth feed w flit) past kept)
few_back link (entry.landed Back mask flit o ∷ past) kept =
    few_back link past (kept-before link (entry.landed Back mask flit o) past kept)
few_back link (entry.landed Forth mask flit o ∷ past) kept =
    subst (λ (n : ℕ). length (drop n (handed_packets Back past)) ≤ link.output)
    (sym (shown-fronts o (reception_of link.profile (receiver_entries Forth past) flit).rrp
    (slice_get (line link.profile Forth past) 0) (sender_entries link Back past)))
    (few_back link past (kept-before link (entry.landed Forth mask flit o) past kept))
few_back link (entry.unlocked v ∷ past) kept =
    few_back link past (kept-before link (entry.unlocked v) past kept)
few_back link (entry.through Back head flits ∷ past) kept =
    few_back link past (kept-before link (entry.through Back head flits) past kept)
few_back link (entry.through Forth head flits ∷ past) kept =
    few_back link past (kept-before link (entry.through Forth head flits) past kept)

few_waits : (link : LinkFields) (d : Toward) (past : List LinkEntry) → IsKept link past →
    length (queue_in link d past) ≤ link.output
few_waits link Forth past kept = few_forth link past kept
few_waits link Back past kept = few_back link past kept

-- ---- what crosses

some_flits : (q : Profile) (x : Place) → FitOr q x → 1 ≤ flits_at x
some_flits q x (inl h) =
    let f = flits_of-few h.packet h.fits.packet in let same = h.fits.flits in omega (arith, f, same)
some_flits q x (inr o) = let some = o.some in omega (arith, some)

fit_drop : (q : Profile) (n : ℕ) (l : List Place) → AllFit q l → AllFit q (drop n l)
fit_drop q zero l all = all
fit_drop q (suc n) [] all = tt
fit_drop q (suc n) (x ∷ l) all = fit_drop q n l all.1

few_flits : (q : Profile) (l : List Place) → AllFit q l →
    length (filter takes_tokens l) ≤ flits_begun l
few_flits q [] all = omega arith
few_flits q (x ∷ l) all = by_test (takes_tokens x) (few_flits q l all.1)
  where
    by_test : (b : Bool) → length (filter takes_tokens l) ≤ flits_begun l →
        length (cond b (x ∷ filter takes_tokens l) (filter takes_tokens l)) ≤ sum_by flits_at
        (cond b (x ∷ filter takes_tokens l) (filter takes_tokens l))
    by_test true le =
        let c = sum_by-cons flits_at x (filter takes_tokens l) in
        let s =
        some_flits q x all.0 in omega (arith, le, c, s)
    by_test false le = le

known_flits : (l : List PacketFields) → flits_begun (map Place.known l) ≡ flits_accepted l
known_flits [] = refl
known_flits (p ∷ l) = by_test (is_token p) (known_flits l)
  where
    by_test : (b : Bool) → flits_begun (map Place.known l) ≡ flits_accepted l →
        sum_by flits_at
        (cond b (Place.known p ∷ filter takes_tokens (map Place.known l))
        (filter takes_tokens (map Place.known l))) ≡ sum_by flits_of
        (cond b (p ∷ filter is_token l) (filter is_token l))
    by_test true e =
        sum_by-cons flits_at (Place.known p) (filter takes_tokens (map Place.known l))
        ∙ ap (λ (n : ℕ). flits_of p + n) e ∙ sym (sum_by-cons flits_of p (filter is_token l))
    by_test false e = e

few_cross : (link : LinkFields) (d : Toward) (past : List LinkEntry) → IsKept link past →
    length (filter takes_tokens
    (drop (length (accepted_packets link.profile d past)) (places_in link d past))) ≤ link.tokens
unfolding tokens
few_cross link d past kept =
    let l = places_in link d past in
    let was = accepted_packets link.profile d past in
    let n = length was in
    let parts : flits_begun l ≡ flits_begun (take n l) + flits_begun (drop n l) =
    ap flits_begun (sym (take-append-drop n l))
    ∙ ap (sum_by flits_at) (filter-append takes_tokens (take n l) (drop n l))
    ∙ sum_by-append flits_at (filter takes_tokens (take n l)) (filter takes_tokens (drop n l)) in
    let front : flits_begun (take n l) ≡ flits_accepted was =
    ap flits_begun (sym (direction-laws link d past kept).accepted) ∙ known_flits was in
    let few =
    few_flits link.profile (drop n l)
    (fit_drop link.profile n l (wired link d past kept).way.fit) in
    let sum = (token-laws link d past kept).sum in
    omega (arith, parts, front, few, sum)

-- ---- what is in a buffer

few_buffer : (l : List PacketFields) → length l ≤ drain.flits_of (map flits_of l)
few_buffer [] = omega arith
few_buffer (p ∷ l) = omega (arith, few_buffer l)

few_stored : (link : LinkFields) (d : Toward) (past : List LinkEntry) → IsKept link past →
    buffered link d past ≤ link.tokens
unfolding tokens
few_stored link d past kept =
    let accepted = accepted_packets link.profile d past in
    let sum = (token-laws link d past kept).sum in
    let parts = buffer-sum (takes d past) accepted in
    let few = few_buffer (drop (takes d past) (filter is_token accepted)) in
    omega (arith, sum, parts, few)

pub is_few : (link : LinkFields) (d : Toward) (past : List LinkEntry) → IsFew link d past
is_few link d past kept = (
  let a = few_waits link d past kept in let b = few_cross link d past kept in
      omega (arith, a, b),
  few_stored link d past kept,
)
