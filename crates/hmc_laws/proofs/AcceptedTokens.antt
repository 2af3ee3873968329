-- The packets that a link accepted are the first of those that it began. The requests and answers
-- among them are those that were handed to it, apart from their numbers, and copies of packets that
-- were forwarded.
use Rattle.std.proofs.Common.{◌≡◌, ◌∙◌, inl, inr, ℕ, zero, suc, Bool, true, false, if◌then◌else◌, List, [], ◌∷◌, ◌++◌, All, Some, None, length, take, drop, refl, sym, ap, ap₂, subst, take-append-drop}
use Rattle.std.specs.Prelude.{filter, map}
use Rattle.std.proofs.lemmas.List.{map-append}
use Rattle.std.proofs.lemmas.List.Elements.{All-head, All-tail, All-cons, All-nil, All-filter, All-same}
use Rattle.hmc_codes.specs.Link.{LinkFields}
use Rattle.hmc_codes.specs.declared.profile.Profile.{Profile}
use Rattle.hmc_packet.specs.Packet.{PacketFields, IsPacket}
use Rattle.hmc_send.specs.declared.toward.Toward.{Toward}
use Rattle.hmc_send.specs.declared.toward.Toward.TheVariants.{Forth, Back}
use Rattle.hmc_send.specs.Entries.{taken_fronts}
use Rattle.hmc_send.specs.LinkEntries.{LinkEntry, accepted_packets, handed_packets}
use Rattle.hmc_send.specs.LinkSenders.{sender_entries, places_in}
use Rattle.hmc_send.specs.declared.numbers.Numbers.{Numbers}
use Rattle.hmc_send.specs.Places.{Place, is_token, packet_in}
use Rattle.hmc_wire.specs.LinkLaws.{IsKept}
use Rattle.hmc_wire.proofs.LawsHold.{direction-laws}
use Rattle.hmc_wire.proofs.Places.{AllFit, FitOr}
use Rattle.hmc_wire.proofs.Turns.{own-joins}
use Rattle.hmc_journal.specs.Delivered.{unnumbered}
use Rattle.hmc_laws.proofs.LinkHanded.{own_marks, AreOwn, ShowsKnown, own_packets, fronts}

-- a view that shows the packets of places shows those that are known
known-packets : (view : Place → PacketFields) → ShowsKnown view → (packets : List PacketFields) → map view (map Place.known packets) ≡ packets
known-packets view shows [] = refl
known-packets view shows (p ∷ packets) = ap₂ (λ (x : PacketFields) (l : List PacketFields). x ∷ l) (shows p) (known-packets view shows packets)

-- The accepted packets are the first of those that were begun.
pub begun_first : (view : Place → PacketFields) → ShowsKnown view → (link : LinkFields) (d : Toward) (past : List LinkEntry) → IsKept link past
    → map view (places_in link d past) ≡ accepted_packets link.profile d past ++ map view (drop (length (accepted_packets link.profile d past)) (places_in link d past))
begun_first view shows link d past kept =
    let laws = direction-laws link d past kept in
    let n = length (accepted_packets link.profile d past) in
    let l = places_in link d past in
    ap (map view) (sym (take-append-drop n l)) ∙ map-append view (take n l) (drop n l)
    ∙ ap (λ k. k ++ map view (drop n l)) (ap (map view) (sym laws.accepted) ∙ known-packets view shows (accepted_packets link.profile d past))

-- ---- each of them is a packet

pub known_fit : (q : Profile) (p : PacketFields) → FitOr q (Place.known p) → IsPacket p
known_fit q p (inl has) = let same : p ≡ has.packet = (let e = has.fits.known in cc) in subst IsPacket (sym same) has.fits.packet
known_fit q p (inr open_slot) = absurd (let clash : Some p ≡ None = open_slot.none in cc)

-- each of those that are marked is one, too
own_fit : (q : Profile) (marks : List Bool) (l : List Place) → AllFit q l → AreOwn marks l → All IsPacket (own_packets packet_in marks l)
own_fit q [] [] fit own = All-nil IsPacket
own_fit q [] (x ∷ l) fit own = absurd own
own_fit q (mark ∷ marks) [] fit own = absurd own
own_fit q (true ∷ marks) (Place.known p ∷ l) fit own = All-cons IsPacket p (own_packets packet_in marks l) (known_fit q p fit.0) (own_fit q marks l fit.1 own)
own_fit q (true ∷ marks) (Place.awaited first flits numbers ∷ l) fit own = absurd own
own_fit q (false ∷ marks) (x ∷ l) fit own = own_fit q marks l fit.1 own

pub all_fit : (link : LinkFields) (d : Toward) (past : List LinkEntry) → IsKept link past → AllFit link.profile (places_in link d past)
all_fit link Forth past kept = let j = own-joins link past kept in j.forth.fit
all_fit link Back past kept = let j = own-joins link past kept in j.back.fit

-- ---- what holds of what was handed, whatever its numbers, and of each copy, holds of what was accepted

alike_first : (P : PacketFields → Type 0) → ((packet other : PacketFields) → unnumbered packet ≡ unnumbered other → IsPacket packet → P other → P packet)
    → (packets handed waiting : List PacketFields) → map unnumbered handed ≡ map unnumbered packets ++ waiting → All IsPacket packets → All P handed → All P packets
alike_first P alike [] handed waiting are fits all = All-nil P
alike_first P alike (p ∷ packets) [] waiting are fits all = absurd cc
alike_first P alike (p ∷ packets) (h ∷ handed) waiting are fits all =
    let first : unnumbered h ≡ unnumbered p = cc in
    let rest : map unnumbered handed ≡ map unnumbered packets ++ waiting = cc in
    All-cons P p packets (alike p h (sym first) (All-head IsPacket p packets fits) (All-head P h handed all))
    (alike_first P alike packets handed waiting rest (All-tail IsPacket p packets fits) (All-tail P h handed all))

-- it holds of each packet that isn't marked, once it is known: of the copies of packets that were forwarded
abbrev pub OthersHold : (PacketFields → Type 0) → List Bool → List Place → Type 0
OthersHold P [] l = Unit {0}
OthersHold P (mark ∷ marks) [] = Unit {0}
OthersHold P (true ∷ marks) (x ∷ l) = OthersHold P marks l
OthersHold P (false ∷ marks) (Place.known p ∷ l) = P p × OthersHold P marks l
OthersHold P (false ∷ marks) (Place.awaited first flits numbers ∷ l) = OthersHold P marks l

place_is : (x y : Place) (xs ys : List Place) → ◌≡◌ {A = List Place} (x ∷ xs) (y ∷ ys) → x ≡ y
place_is x y xs ys is = cc

places_are : (x y : Place) (xs ys : List Place) → ◌≡◌ {A = List Place} (x ∷ xs) (y ∷ ys) → xs ≡ ys
places_are x y xs ys is = cc

packet_is : (p r : PacketFields) → Place.known p ≡ Place.known r → p ≡ r
packet_is p r is = cc

not_known : (first : List ℕ) (flits : ℕ) (numbers : Numbers) (p : PacketFields) → Place.known p ≡ Place.awaited first flits numbers → ⊥
not_known first flits numbers p is = cc

by_token : (P : PacketFields → Type 0) (p : PacketFields) (packets : List PacketFields) (token : Bool) → is_token p ≡ token → (token ≡ true → P p) → All P (filter is_token packets) → All P (filter is_token (p ∷ packets))
by_token P p packets true is first rest = All-same P _ _ (ap (λ (b : Bool). if b then p ∷ filter is_token packets else filter is_token packets) is) (All-cons P p (filter is_token packets) (first refl) rest)
by_token P p packets false is first rest = All-same P _ _ (ap (λ (b : Bool). if b then p ∷ filter is_token packets else filter is_token packets) is) rest

-- the first of some tokens, and the others
token_parts : (P : PacketFields → Type 0) (p : PacketFields) (packets : List PacketFields) (token : Bool) → is_token p ≡ token → All P (filter is_token (p ∷ packets)) → (token ≡ true → P p) × All P (filter is_token packets)
token_parts P p packets true is all =
    let both = All-same P _ _ (sym (ap (λ (b : Bool). if b then p ∷ filter is_token packets else filter is_token packets) is)) all in
    (λ t. All-head P p (filter is_token packets) both, All-tail P p (filter is_token packets) both)
token_parts P p packets false is all =
    (λ t. absurd (let clash : false ≡ true = t in cc), All-same P _ _ (sym (ap (λ (b : Bool). if b then p ∷ filter is_token packets else filter is_token packets) is)) all)

merged : (P : PacketFields → Type 0) (marks : List Bool) (l : List Place) (packets : List PacketFields) (n : ℕ) → AreOwn marks l → All P (filter is_token (own_packets packet_in marks l)) → OthersHold P marks l → map Place.known packets ≡ take n l
    → All P (filter is_token packets)
merged P marks l [] n own owned others are = All-nil P
merged P [] [] (p ∷ packets) zero own owned others are = absurd cc
merged P [] [] (p ∷ packets) (suc n) own owned others are = absurd cc
merged P [] (x ∷ l) (p ∷ packets) n own owned others are = absurd own
merged P (mark ∷ marks) [] (p ∷ packets) n own owned others are = absurd own
merged P (mark ∷ marks) (x ∷ l) (p ∷ packets) zero own owned others are = absurd cc
merged P (true ∷ marks) (Place.known r ∷ l) (p ∷ packets) (suc n) own owned others are =
    let same : p ≡ r = packet_is p r (place_is (Place.known p) (Place.known r) (map Place.known packets) (take n l) are) in
    let parts = token_parts P r (own_packets packet_in marks l) (is_token r) refl owned in
    by_token P p packets (is_token p) refl (λ t. subst P (sym same) (parts.0 (ap is_token (sym same) ∙ t)))
    (merged P marks l packets n own parts.1 others (places_are (Place.known p) (Place.known r) (map Place.known packets) (take n l) are))
merged P (true ∷ marks) (Place.awaited first flits numbers ∷ l) (p ∷ packets) (suc n) own owned others are = absurd own
merged P (false ∷ marks) (Place.known r ∷ l) (p ∷ packets) (suc n) own owned others are =
    let same : p ≡ r = packet_is p r (place_is (Place.known p) (Place.known r) (map Place.known packets) (take n l) are) in
    by_token P p packets (is_token p) refl (λ t. subst P (sym same) others.0)
    (merged P marks l packets n own owned others.1 (places_are (Place.known p) (Place.known r) (map Place.known packets) (take n l) are))
merged P (false ∷ marks) (Place.awaited first flits numbers ∷ l) (p ∷ packets) (suc n) own owned others are =
    absurd (not_known first flits numbers p (place_is (Place.known p) (Place.awaited first flits numbers) (map Place.known packets) (take n l) are))

pub tokens_alike : (P : PacketFields → Type 0) → ((packet other : PacketFields) → unnumbered packet ≡ unnumbered other → IsPacket packet → P other → P packet)
    → (link : LinkFields) (d : Toward) (past : List LinkEntry) → IsKept link past → All P (handed_packets d past) → OthersHold P (own_marks (sender_entries link d past)) (places_in link d past)
    → All P (filter is_token (accepted_packets link.profile d past))
tokens_alike P alike link d past kept all others =
    let T = sender_entries link d past in
    let marks = own_marks T in
    let l = places_in link d past in
    let front = fronts link d past kept in
    let n = taken_fronts T in
    let handed = handed_packets d past in
    let laws = direction-laws link d past kept in
    let owned : All P (filter is_token (own_packets packet_in marks l)) =
    alike_first P alike (filter is_token (own_packets packet_in marks l)) handed (map unnumbered (drop n handed))
    (ap (map unnumbered) (sym (take-append-drop n handed)) ∙ map-append unnumbered (take n handed) (drop n handed) ∙ ap (λ k. k ++ map unnumbered (drop n handed)) (sym front.are))
    (All-filter is_token IsPacket (own_packets packet_in marks l) (own_fit link.profile marks l (all_fit link d past kept) front.own)) all in
    merged P marks l (accepted_packets link.profile d past) (length (accepted_packets link.profile d past)) front.own owned others laws.accepted
