-- What a lawful link begins are the fronts of its output queue, in order.
use Rattle.std.proofs.Common.{◌≡◌, ◌≤◌, ◌∙◌, ◌+◌, ◌-◌, ◌==◌, ℕ, zero, suc, Bool, true, false, if◌then◌else◌, List, [], ◌∷◌, ◌++◌, Option, Some, None, length, take, drop, refl, sym, ap, ap₂, subst, arith, append-nil, length-append}
use Rattle.std.specs.Prelude.{slice_get, filter, map, is_none}
use Rattle.std.proofs.lemmas.List.{map-append, take-append-le}
use Rattle.std.proofs.lemmas.List.Elements.{filter-append}
use Rattle.hmc_codes.specs.Link.{LinkFields}
use Rattle.hmc_codes.specs.Table.{table_line}
use Rattle.hmc_codes.specs.declared.profile.Profile.{Profile}
use Rattle.hmc_packet.specs.declared.feed.Feed.{Feed}
use Rattle.hmc_packet.specs.declared.kind.Kind.{Kind}
use Rattle.hmc_packet.specs.declared.kind.Kind.TheVariants.{Start, Clear}
use Rattle.hmc_packet.specs.declared.outcome.Outcome.{Outcome}
use Rattle.hmc_packet.specs.declared.outcome.Outcome.TheVariants as outcomes
use Rattle.hmc_packet.specs.declared.what.What.{What}
use Rattle.hmc_packet.specs.declared.what.What.TheVariants as what
use Rattle.hmc_packet.specs.Packet.{PacketFields}
use Rattle.hmc_packet.specs.Parts.{lng_of}
use Rattle.hmc_tokens.specs.Account.{code_for}
use Rattle.hmc_send.specs.declared.toward.Toward.{Toward}
use Rattle.hmc_send.specs.declared.toward.Toward.TheVariants.{Forth, Back}
use Rattle.hmc_send.specs.declared.sent.Sent.{Sent}
use Rattle.hmc_send.specs.declared.sent.Sent.TheVariants.{Out}
use Rattle.hmc_send.specs.Choice.{SendView, view_after, choice, part_what, what_of}
use Rattle.hmc_send.specs.Entries.{SenderEntry, Given, Part, UnderWay, or_null, part_with, part_after, unfinished, places, places_with, taken_fronts, last_begun, with_place}
use Rattle.hmc_send.specs.LinkCalls.{view_in}
use Rattle.hmc_send.specs.LinkEntries.{LinkEntry, other, push_if, handed_packets}
use Rattle.hmc_send.specs.LinkLines.{StampedFlit}
use Rattle.hmc_send.specs.LinkSenders.{sender_entries, given_in, given_after, run_entries, acknowledgement}
use Rattle.hmc_send.specs.Copies.{place_fed}
use Rattle.hmc_send.specs.Places.{Place, is_token, packet_in, with_last, place_at, pointer_of, number_of, next_packet, tret_packet}
use Rattle.hmc_send.proofs.Cases.{Case, case_of}
use Rattle.hmc_send.proofs.Cases.Case.{trains, goes_on, starves, steers, repeats, begins, returns, points, idles}
use Rattle.hmc_send.proofs.LinkLawful.{IsSend, lawful-sent}
use Rattle.hmc_wire.specs.LinkLaws.{IsKept}
use Rattle.hmc_wire.proofs.SenderLists.{none-under}
use Rattle.hmc_wire.proofs.Parts.{PartsFit, grown-left}
use Rattle.hmc_wire.specs.EntryTurns.{left_of}
use Rattle.hmc_wire.proofs.Links.{fronts-good}
use Rattle.hmc_wire.proofs.Turns.{own-joins}
use Rattle.hmc_journal.specs.Delivered.{unnumbered}
use Rattle.hmc_journal.specs.Carried.{marked}
use Rattle.hmc_wire.proofs.EntryTurns.{kept-before}
use Rattle.hmc_journal.proofs.Packets.{front_inside}

-- ---- a link's entries were kept to at every moment

-- ---- what a flit is sent as, by the packet under way

-- a new packet begins with the front of the queue
pub record HasNext (given : Given) : Type 0 where
  pub front : PacketFields
  pub is : given.front ≡ Some front

abbrev pub IsSentAs : What → Option Part → Given → Type 0
IsSentAs what.New None given = HasNext given
IsSentAs what.New (Some part) given = part.again ≡ false
IsSentAs what.Again (Some part) given = part.again ≡ true
IsSentAs _ part given = Unit {0}

part_begun : (place : Place) (u : Option Part) (begun : UnderWay) → with_place place u ≡ Some begun → u ≡ Some begun.part
part_begun place None begun is = absurd cc
part_begun place (Some part) begun is = let same : record { part = part; place = place } ≡ begun = cc in ap (λ (b : UnderWay). Some b.part) same

goes_as : (again : Bool) (part : Part) (given : Given) → part.again ≡ again → IsSentAs (if again then what.Again else what.New) (Some part) given
goes_as true part given is = is
goes_as false part given is = is

steers_as : (kind : Kind) (u : Option Part) (given : Given) → IsSentAs (what_of kind) u given
steers_as Start None given = tt
steers_as Start (Some part) given = tt
steers_as Clear None given = tt
steers_as Clear (Some part) given = tt

abbrev OutAs : Sent → Option Part → Given → Type 0
OutAs (Out flit as_what) u given = IsSentAs as_what u given
OutAs Sent.Starved u given = Unit {0}

as_case : (q : Profile) (s : SendView) (u : Option Part) (sent : Sent) → (s.under_way ≡ None → u ≡ None) → ((begun : UnderWay) → s.under_way ≡ Some begun → u ≡ Some begun.part) → Case q s sent → OutAs sent u s.given
as_case q s None _ none some (trains train) = tt
as_case q s (Some part) _ none some (trains train) = tt
as_case q s u _ none some (goes_on train begun under flit next) = subst (λ (o : Option Part). IsSentAs (part_what begun.part) o s.given) (sym (some begun under)) (goes_as begun.part.again begun.part s.given refl)
as_case q s u _ none some (starves train begun under next) = tt
as_case q s u _ none some (steers train under kind due) = steers_as kind u s.given
as_case q s u _ none some (repeats between place again) = subst (λ (o : Option Part). IsSentAs what.Again o s.given) (sym (none between.nothing)) tt
as_case q s u _ none some (begins free can) = subst (λ (o : Option Part). IsSentAs what.New o s.given) (sym (none free.between.nothing)) (record { front = can.packet; is = can.front })
as_case q s None _ none some (returns free opened may) = tt
as_case q s (Some part) _ none some (returns free opened may) = tt
as_case q s None _ none some (points free other) = tt
as_case q s (Some part) _ none some (points free other) = tt
as_case q s None _ none some (idles free same) = tt
as_case q s (Some part) _ none some (idles free same) = tt

pub sent_as : (link : LinkFields) (past : List LinkEntry) (d : Toward) (feed : Feed) (as_what : What) (flit : List ℕ) → IsSend link past d feed as_what flit
    → IsSentAs as_what (unfinished (sender_entries link d past)) (given_in link d past feed)
unfolding view_after
sent_as link past d feed as_what flit sent =
    let T = sender_entries link d past in
    let s = view_in link d past feed in
    let place = place_at (places link.profile T) (last_begun link.profile T) in
    subst (λ (x : Sent). OutAs x (unfinished T) (given_in link d past feed)) sent.chosen
    (as_case link.profile s (unfinished T) (choice link.profile s) (none-under place (unfinished T)) (part_begun place (unfinished T)) (case_of link.profile s))

-- ---- the flits of a new packet that are left

abbrev pub new_left_of : Part → ℕ
new_left_of part = if part.again then 0 else part.flits - length part.sent

abbrev pub new_left : Option Part → ℕ
new_left None = 0
new_left (Some part) = new_left_of part

grown_again : (part : Part) (flit : List ℕ) (whole : Bool) → new_left (if whole then None else Some (record part { sent = part.sent ++ flit ∷ [] })) ≡ (if part.again then 0 else left_of (if whole then None else Some (record part { sent = part.sent ++ flit ∷ [] })))
grown_again part flit true = by_again part.again
  where
    by_again : (again : Bool) → ◌≡◌ {A = ℕ} 0 (if again then 0 else 0)
    by_again true = refl
    by_again false = refl
grown_again part flit false = refl

pub new_grown : (part : Part) (flit : List ℕ) → part.again ≡ false → new_left (part_with part flit) ≡ part.flits - length part.sent - 1
new_grown part flit new =
    grown_again part flit (suc (length part.sent) == part.flits)
    ∙ ap (λ (b : Bool). if b then 0 else left_of (part_with part flit)) new ∙ grown-left part flit

pub again_grown : (part : Part) (flit : List ℕ) → part.again ≡ true → new_left (part_with part flit) ≡ 0
again_grown part flit again = grown_again part flit (suc (length part.sent) == part.flits) ∙ ap (λ (b : Bool). if b then 0 else left_of (part_with part flit)) again

pub parts-fit : (link : LinkFields) (d : Toward) (past : List LinkEntry) → IsKept link past → PartsFit link.profile (sender_entries link d past)
parts-fit link Forth past is = let j = own-joins link past is in j.forth.parts
parts-fit link Back past is = let j = own-joins link past is in j.back.parts

-- a flit that is sent again leaves as many
pub left-again : (u : Option Part) (given : Given) (flit : List ℕ) → IsSentAs what.Again u given → new_left (part_after true flit u) ≡ new_left u
left-again None given flit is = again_grown (record { again = true; flits = lng_of flit; sent = [] }) flit refl
left-again (Some part) given flit is = again_grown part flit is ∙ sym (ap (λ (b : Bool). if b then 0 else part.flits - length part.sent) is)

-- ---- what was handed and what was begun

-- of each packet that was begun, whether it was the front of the queue, or a TRET, and no cut-through
unfoldable pub own_marks : List SenderEntry → List Bool
own_marks [] = []
own_marks (SenderEntry.sent given what.New flit ∷ past) = push_if (is_none (unfinished past)) true (own_marks past)
own_marks (SenderEntry.sent given what.Tret flit ∷ past) = own_marks past ++ true ∷ []
own_marks (SenderEntry.through head flits due ∷ past) = own_marks past ++ false ∷ []
own_marks (_ ∷ past) = own_marks past

-- each place that is marked so has its packet
abbrev pub AreOwn : List Bool → List Place → Type 0
AreOwn [] [] = Unit {0}
AreOwn [] (place ∷ places) = ⊥
AreOwn (mark ∷ marks) [] = ⊥
AreOwn (true ∷ marks) (Place.known packet ∷ places) = AreOwn marks places
AreOwn (true ∷ marks) (Place.awaited head flits numbers ∷ places) = ⊥
AreOwn (false ∷ marks) (place ∷ places) = AreOwn marks places

own-push : (marks : List Bool) (l : List Place) (packet : PacketFields) → AreOwn marks l → AreOwn (marks ++ true ∷ []) (l ++ Place.known packet ∷ [])
own-push [] [] packet own = tt
own-push [] (x ∷ l) packet own = absurd own
own-push (mark ∷ marks) [] packet own = absurd own
own-push (true ∷ marks) (Place.known p ∷ l) packet own = own-push marks l packet own
own-push (true ∷ marks) (Place.awaited head flits numbers ∷ l) packet own = absurd own
own-push (false ∷ marks) (x ∷ l) packet own = own-push marks l packet own

other-push : (marks : List Bool) (l : List Place) (place : Place) → AreOwn marks l → AreOwn (marks ++ false ∷ []) (l ++ place ∷ [])
other-push [] [] place own = tt
other-push [] (x ∷ l) place own = absurd own
other-push (mark ∷ marks) [] place own = absurd own
other-push (true ∷ marks) (Place.known p ∷ l) place own = other-push marks l place own
other-push (true ∷ marks) (Place.awaited head flits numbers ∷ l) place own = absurd own
other-push (false ∷ marks) (x ∷ l) place own = other-push marks l place own

own-fed : (q : Profile) (sent : List (List ℕ)) (feed : Feed) (marks : List Bool) (l : List Place) → AreOwn marks l → AreOwn marks (with_last (place_fed q sent feed) l)
own-fed q sent feed [] [] own = tt
own-fed q sent feed [] (x ∷ l) own = absurd own
own-fed q sent feed (mark ∷ marks) [] own = absurd own
own-fed q sent feed (true ∷ marks) (Place.known p ∷ []) own = own
own-fed q sent feed (true ∷ marks) (Place.awaited head flits numbers ∷ []) own = absurd own
own-fed q sent feed (false ∷ marks) (x ∷ []) own = own
own-fed q sent feed (true ∷ marks) (Place.known p ∷ y ∷ l) own = own-fed q sent feed marks (y ∷ l) own
own-fed q sent feed (true ∷ marks) (Place.awaited head flits numbers ∷ y ∷ l) own = absurd own
own-fed q sent feed (false ∷ marks) (x ∷ y ∷ l) own = own-fed q sent feed marks (y ∷ l) own

-- there are as many marks as places
pub own-count : (marks : List Bool) (l : List Place) → AreOwn marks l → length marks ≡ length l
own-count [] [] own = refl
own-count [] (x ∷ l) own = absurd own
own-count (mark ∷ marks) [] own = absurd own
own-count (true ∷ marks) (Place.known p ∷ l) own = ap suc (own-count marks l own)
own-count (true ∷ marks) (Place.awaited head flits numbers ∷ l) own = absurd own
own-count (false ∷ marks) (x ∷ l) own = ap suc (own-count marks l own)

-- what is marked, by a view that shows the packets of places that have them
abbrev pub ShowsKnown : (Place → PacketFields) → Type 0
ShowsKnown view = (packet : PacketFields) → view (Place.known packet) ≡ packet

abbrev pub own_packets : (Place → PacketFields) → List Bool → List Place → List PacketFields
own_packets view marks l = marked marks (map view l)

-- it is the same by each such view
pub own-views : (view other : Place → PacketFields) → ShowsKnown view → ShowsKnown other → (marks : List Bool) (l : List Place) → AreOwn marks l → own_packets view marks l ≡ own_packets other marks l
own-views view other shows too [] [] own = refl
own-views view other shows too [] (x ∷ l) own = absurd own
own-views view other shows too (mark ∷ marks) [] own = absurd own
own-views view other shows too (true ∷ marks) (Place.known p ∷ l) own = ap₂ (λ (x : PacketFields) (r : List PacketFields). x ∷ r) (shows p ∙ sym (too p)) (own-views view other shows too marks l own)
own-views view other shows too (true ∷ marks) (Place.awaited head flits numbers ∷ l) own = absurd own
own-views view other shows too (false ∷ marks) (x ∷ l) own = own-views view other shows too marks l own

own_packets-push : (marks : List Bool) (l : List Place) (packet : PacketFields) → AreOwn marks l → own_packets packet_in (marks ++ true ∷ []) (l ++ Place.known packet ∷ []) ≡ own_packets packet_in marks l ++ packet ∷ []
own_packets-push [] [] packet own = refl
own_packets-push [] (x ∷ l) packet own = absurd own
own_packets-push (mark ∷ marks) [] packet own = absurd own
own_packets-push (true ∷ marks) (Place.known p ∷ l) packet own = ap (λ r. p ∷ r) (own_packets-push marks l packet own)
own_packets-push (true ∷ marks) (Place.awaited head flits numbers ∷ l) packet own = absurd own
own_packets-push (false ∷ marks) (x ∷ l) packet own = own_packets-push marks l packet own

own_packets-other : (marks : List Bool) (l : List Place) (place : Place) → AreOwn marks l → own_packets packet_in (marks ++ false ∷ []) (l ++ place ∷ []) ≡ own_packets packet_in marks l
own_packets-other [] [] place own = refl
own_packets-other [] (x ∷ l) place own = absurd own
own_packets-other (mark ∷ marks) [] place own = absurd own
own_packets-other (true ∷ marks) (Place.known p ∷ l) place own = ap (λ r. p ∷ r) (own_packets-other marks l place own)
own_packets-other (true ∷ marks) (Place.awaited head flits numbers ∷ l) place own = absurd own
own_packets-other (false ∷ marks) (x ∷ l) place own = own_packets-other marks l place own

own_packets-fed : (q : Profile) (sent : List (List ℕ)) (feed : Feed) (marks : List Bool) (l : List Place) → AreOwn marks l → own_packets packet_in marks (with_last (place_fed q sent feed) l) ≡ own_packets packet_in marks l
own_packets-fed q sent feed [] [] own = refl
own_packets-fed q sent feed [] (x ∷ l) own = absurd own
own_packets-fed q sent feed (mark ∷ marks) [] own = absurd own
own_packets-fed q sent feed (true ∷ marks) (Place.known p ∷ []) own = refl
own_packets-fed q sent feed (true ∷ marks) (Place.awaited head flits numbers ∷ []) own = absurd own
own_packets-fed q sent feed (false ∷ marks) (x ∷ []) own = refl
own_packets-fed q sent feed (true ∷ marks) (Place.known p ∷ y ∷ l) own = ap (λ r. p ∷ r) (own_packets-fed q sent feed marks (y ∷ l) own)
own_packets-fed q sent feed (true ∷ marks) (Place.awaited head flits numbers ∷ y ∷ l) own = absurd own
own_packets-fed q sent feed (false ∷ marks) (x ∷ y ∷ l) own = own_packets-fed q sent feed marks (y ∷ l) own

-- the requests and answers among them, apart from their numbers
abbrev pub own_tokens : List Bool → List Place → List PacketFields
own_tokens marks begun = map unnumbered (filter is_token (own_packets packet_in marks begun))

-- What was begun, without cut-throughs, are the first of those that were handed.
pub record Fronts (q : Profile) (sender : List SenderEntry) (handed : List PacketFields) : Type 0 where
  pub within : taken_fronts sender ≤ length handed
  pub own : AreOwn (own_marks sender) (places q sender)
  pub are : own_tokens (own_marks sender) (places q sender) ≡ map unnumbered (take (taken_fronts sender) handed)

-- the front of a queue, if it has one
take-front : (n : ℕ) (list : List PacketFields) (front : PacketFields) → slice_get (drop n list) 0 ≡ Some front → take (1 + n) list ≡ take n list ++ front ∷ []
take-front zero [] front is = absurd cc
take-front zero (x ∷ list) front is = let same : x ≡ front = cc in ap (λ (p : PacketFields). p ∷ []) same
take-front (suc n) [] front is = absurd cc
take-front (suc n) (x ∷ list) front is =
    let more : 1 + suc n ≡ suc (1 + n) = omega arith in
    ap (λ (k : ℕ). take k (x ∷ list)) more ∙ ap (λ l. x ∷ l) (take-front n list front is)

own_tokens-push : (marks : List Bool) (begun : List Place) (packet : PacketFields) (token : Bool) → AreOwn marks begun → is_token packet ≡ token
    → own_tokens (marks ++ true ∷ []) (begun ++ Place.known packet ∷ []) ≡ own_tokens marks begun ++ (if token then unnumbered packet ∷ [] else [])
own_tokens-push marks begun packet token own is =
    ap (λ l. map unnumbered (filter is_token l)) (own_packets-push marks begun packet own)
    ∙ ap (map unnumbered) (filter-append is_token (own_packets packet_in marks begun) (packet ∷ []))
    ∙ map-append unnumbered (filter is_token (own_packets packet_in marks begun)) (filter is_token (packet ∷ []))
    ∙ ap (λ l. own_tokens marks begun ++ l) (one token is)
  where
    one : (t : Bool) → is_token packet ≡ t → map unnumbered (filter is_token (packet ∷ [])) ≡ (if t then unnumbered packet ∷ [] else [])
    one true e = rw e refl
    one false e = rw e refl

tret_is_no_token : (q : Profile) (pointer number rtc : ℕ) → is_token (next_packet q pointer number rtc tret_packet) ≡ false
unfolding table_line
tret_is_no_token q pointer number rtc = refl

-- the marks, the places and what is handed after a flit that begins a packet, or goes on with one
record NewFronts (q : Profile) (u : Option Part) (given : Given) (marks : List Bool) (l : List Place) (n : ℕ) (handed : List PacketFields) : Type 0 where
  within : (if is_none u then 1 else 0) + n ≤ length handed
  own : AreOwn (push_if (is_none u) true marks) (places_with q u given l)
  are : own_tokens (push_if (is_none u) true marks) (places_with q u given l) ≡ map unnumbered (take ((if is_none u then 1 else 0) + n) handed)

new-fronts : (q : Profile) (given : Given) (marks : List Bool) (begun : List Place) (n : ℕ) (handed : List PacketFields) (u : Option Part) → IsSentAs what.New u given
    → given.front ≡ slice_get (drop n handed) 0 → ((p : PacketFields) → slice_get (drop n handed) 0 ≡ Some p → is_token p ≡ true)
    → AreOwn marks begun → n ≤ length handed → own_tokens marks begun ≡ map unnumbered (take n handed) → NewFronts q u given marks begun n handed
new-fronts q given marks l n handed None has front tokens own within are =
    let at : slice_get (drop n handed) 0 ≡ Some has.front = sym front ∙ has.is in
    let inside = front_inside n handed has.front at in
    let x : PacketFields = next_packet q (pointer_of q l) (number_of l) (code_for given.due) (or_null given.front) in
    let same : or_null given.front ≡ has.front = ap or_null has.is in
    let token : is_token x ≡ true = ap is_token same ∙ tokens has.front at in
    let more : unnumbered x ≡ unnumbered has.front = ap unnumbered same in record {
      within = omega arith;
      own = own-push marks l x own;
      are = own_tokens-push marks l x true own token ∙ ap (λ k. k ++ unnumbered x ∷ []) are ∙ ap (λ (p : PacketFields). map unnumbered (take n handed) ++ p ∷ []) more
          ∙ sym (map-append unnumbered (take n handed) (has.front ∷ [])) ∙ ap (map unnumbered) (sym (take-front n handed has.front at));
    }
new-fronts q given marks l n handed (Some part) has front tokens own within are =
    let m : 0 + n ≡ n = omega arith in record {
      within = omega arith;
      own = own-fed q part.sent given.feed marks l own;
      are = ap (λ k. map unnumbered (filter is_token k)) (own_packets-fed q part.sent given.feed marks l own) ∙ are ∙ ap (λ (k : ℕ). map unnumbered (take k handed)) (sym m);
    }

fronts-sent : (q : Profile) (given : Given) (as_what : What) (flit : List ℕ) (sender : List SenderEntry) (handed : List PacketFields) → IsSentAs as_what (unfinished sender) given
    → given.front ≡ slice_get (drop (taken_fronts sender) handed) 0 → ((p : PacketFields) → slice_get (drop (taken_fronts sender) handed) 0 ≡ Some p → is_token p ≡ true)
    → Fronts q sender handed → Fronts q (SenderEntry.sent given as_what flit ∷ sender) handed
unfolding places taken_fronts own_marks
fronts-sent q given what.New flit sender handed has front tokens is =
    let f = new-fronts q given (own_marks sender) (places q sender) (taken_fronts sender) handed (unfinished sender) has front tokens is.own is.within is.are in
    record { within = f.within; own = f.own; are = f.are }
fronts-sent q given what.Tret flit sender handed has front tokens is =
    let x : PacketFields = next_packet q (pointer_of q (places q sender)) (number_of (places q sender)) (code_for given.due) tret_packet in record {
      within = is.within;
      own = own-push (own_marks sender) (places q sender) x is.own;
      are = own_tokens-push (own_marks sender) (places q sender) x false is.own (tret_is_no_token q (pointer_of q (places q sender)) (number_of (places q sender)) (code_for given.due)) ∙ append-nil (own_tokens (own_marks sender) (places q sender)) ∙ is.are;
    }
fronts-sent q given what.Train flit sender handed has front tokens is = record { within = is.within; own = is.own; are = is.are }
fronts-sent q given what.Clear flit sender handed has front tokens is = record { within = is.within; own = is.own; are = is.are }
fronts-sent q given what.Start flit sender handed has front tokens is = record { within = is.within; own = is.own; are = is.are }
fronts-sent q given what.Null flit sender handed has front tokens is = record { within = is.within; own = is.own; are = is.are }
fronts-sent q given what.Pret flit sender handed has front tokens is = record { within = is.within; own = is.own; are = is.are }
fronts-sent q given what.Again flit sender handed has front tokens is = record { within = is.within; own = is.own; are = is.are }

fronts-handed : (q : Profile) (sender : List SenderEntry) (handed : List PacketFields) (packet : PacketFields) → Fronts q sender handed → Fronts q sender (handed ++ packet ∷ [])
fronts-handed q sender handed packet is =
    let long = length-append handed (packet ∷ []) in
    let w = is.within in record {
      within = omega arith;
      own = is.own;
      are = is.are ∙ ap (map unnumbered) (sym (take-append-le (taken_fronts sender) handed (packet ∷ []) is.within));
    }

fronts-through : (q : Profile) (head : List ℕ) (flits due : ℕ) (sender : List SenderEntry) (handed : List PacketFields) → Fronts q sender handed → Fronts q (SenderEntry.through head flits due ∷ sender) handed
unfolding places taken_fronts own_marks
fronts-through q head flits due sender handed is = record {
  within = is.within;
  own = other-push (own_marks sender) (places q sender) _ is.own;
  are = ap (λ k. map unnumbered (filter is_token k)) (own_packets-other (own_marks sender) (places q sender) _ is.own) ∙ is.are;
}

-- a landing changes nothing of them
rrp-same : {X : Type 0} (f : List SenderEntry → X) (rrp : Option ℕ) (front : Option StampedFlit) (past : List SenderEntry) → ((n : ℕ) → f (SenderEntry.acknowledged n ∷ past) ≡ f past) → f (acknowledgement rrp front ++ past) ≡ f past
rrp-same f (Some rrp) (Some front) past same = same front.stamp
rrp-same f (Some rrp) None past same = refl
rrp-same f None front past same = refl

pub landing-same : {X : Type 0} (f : List SenderEntry → X) (outcome : Outcome) (rrp : Option ℕ) (front : Option StampedFlit) (past : List SenderEntry) → ((l : List SenderEntry) (n : ℕ) → f (SenderEntry.acknowledged n ∷ l) ≡ f l)
    → ((l : List SenderEntry) → f (SenderEntry.ran ∷ l) ≡ f l) → f ((run_entries outcome ++ acknowledgement rrp front) ++ past) ≡ f past
landing-same f (outcomes.Ran Start) rrp front past same ran = ran (acknowledgement rrp front ++ past) ∙ rrp-same f rrp front past (same past)
landing-same f (outcomes.Ran Clear) rrp front past same ran = rrp-same f rrp front past (same past)
landing-same f _ rrp front past same ran = rrp-same f rrp front past (same past)

fronts-landed : (q : Profile) (outcome : Outcome) (rrp : Option ℕ) (front : Option StampedFlit) (sender : List SenderEntry) (handed : List PacketFields) → Fronts q sender handed → Fronts q ((run_entries outcome ++ acknowledgement rrp front) ++ sender) handed
unfolding places taken_fronts own_marks
fronts-landed q outcome rrp front sender handed is =
    let taken = landing-same taken_fronts outcome rrp front sender (λ l n. refl) (λ l. refl) in
    let begun = landing-same (places q) outcome rrp front sender (λ l n. refl) (λ l. refl) in
    let marks = landing-same own_marks outcome rrp front sender (λ l n. refl) (λ l. refl) in
    let w = is.within in record {
      within = omega arith;
      own = subst (λ (m : List Bool). AreOwn m (places q ((run_entries outcome ++ acknowledgement rrp front) ++ sender))) (sym marks) (subst (AreOwn (own_marks sender)) (sym begun) is.own);
      are = ap₂ own_tokens marks begun ∙ is.are ∙ ap (λ (k : ℕ). map unnumbered (take k handed)) (sym taken);
    }

-- every packet that is handed takes tokens
tokens-at : (link : LinkFields) (d : Toward) (past : List LinkEntry) (n : ℕ) → IsKept link past → (p : PacketFields) → slice_get (drop n (handed_packets d past)) 0 ≡ Some p → is_token p ≡ true
tokens-at link Forth past n is p at = let j = own-joins link past is in let good = fronts-good link.profile (handed_packets Forth past) n j.forth.handed p at in good.token
tokens-at link Back past n is p at = let j = own-joins link past is in let good = fronts-good link.profile (handed_packets Back past) n j.back.handed p at in good.token

send-fronts : (link : LinkFields) (d : Toward) (feed : Feed) (as_what : What) (flit : List ℕ) (past : List LinkEntry) → IsKept link (LinkEntry.sent d feed as_what flit ∷ past)
    → Fronts link.profile (sender_entries link d past) (handed_packets d past) → Fronts link.profile (SenderEntry.sent (given_in link d past feed) as_what flit ∷ sender_entries link d past) (handed_packets d past)
unfolding given_after
send-fronts link d feed as_what flit past is fronts =
    let T = sender_entries link d past in
    fronts-sent link.profile (given_in link d past feed) as_what flit T (handed_packets d past) (sent_as link past d feed as_what flit (lawful-sent link past d feed as_what flit is.lawful)) refl
    (λ p. tokens-at link d past (taken_fronts T) (kept-before link (LinkEntry.sent d feed as_what flit) past is) p) fronts

pub fronts : (link : LinkFields) (d : Toward) (past : List LinkEntry) → IsKept link past → Fronts link.profile (sender_entries link d past) (handed_packets d past)
unfolding sender_entries handed_packets places taken_fronts own_marks
fronts link d [] is = record { within = omega arith; own = tt; are = refl }
fronts link Forth (LinkEntry.handed Forth packet ∷ past) is = fronts-handed link.profile _ _ packet (fronts link Forth past (kept-before link (LinkEntry.handed Forth packet) past is))
fronts link Forth (LinkEntry.handed Back packet ∷ past) is = fronts link Forth past (kept-before link (LinkEntry.handed Back packet) past is)
fronts link Back (LinkEntry.handed Forth packet ∷ past) is = fronts link Back past (kept-before link (LinkEntry.handed Forth packet) past is)
fronts link Back (LinkEntry.handed Back packet ∷ past) is = fronts-handed link.profile _ _ packet (fronts link Back past (kept-before link (LinkEntry.handed Back packet) past is))
fronts link d (LinkEntry.taken way ∷ past) is = fronts link d past (kept-before link (LinkEntry.taken way) past is)
fronts link d (LinkEntry.unlocked way ∷ past) is = fronts link d past (kept-before link (LinkEntry.unlocked way) past is)
fronts link Forth (LinkEntry.sent Forth feed as_what flit ∷ past) is =
    send-fronts link Forth feed as_what flit past is (fronts link Forth past (kept-before link (LinkEntry.sent Forth feed as_what flit) past is))
fronts link Forth (LinkEntry.sent Back feed as_what flit ∷ past) is = fronts link Forth past (kept-before link (LinkEntry.sent Back feed as_what flit) past is)
fronts link Back (LinkEntry.sent Forth feed as_what flit ∷ past) is = fronts link Back past (kept-before link (LinkEntry.sent Forth feed as_what flit) past is)
fronts link Back (LinkEntry.sent Back feed as_what flit ∷ past) is =
    send-fronts link Back feed as_what flit past is (fronts link Back past (kept-before link (LinkEntry.sent Back feed as_what flit) past is))
fronts link Forth (LinkEntry.landed Forth mask flit outcome ∷ past) is = fronts link Forth past (kept-before link (LinkEntry.landed Forth mask flit outcome) past is)
fronts link Forth (LinkEntry.landed Back mask flit outcome ∷ past) is =
    fronts-landed link.profile outcome _ _ _ _ (fronts link Forth past (kept-before link (LinkEntry.landed Back mask flit outcome) past is))
fronts link Back (LinkEntry.landed Forth mask flit outcome ∷ past) is =
    fronts-landed link.profile outcome _ _ _ _ (fronts link Back past (kept-before link (LinkEntry.landed Forth mask flit outcome) past is))
fronts link Back (LinkEntry.landed Back mask flit outcome ∷ past) is = fronts link Back past (kept-before link (LinkEntry.landed Back mask flit outcome) past is)
fronts link Forth (LinkEntry.through Forth head flits ∷ past) is = fronts-through link.profile head flits _ _ _ (fronts link Forth past (kept-before link (LinkEntry.through Forth head flits) past is))
fronts link Forth (LinkEntry.through Back head flits ∷ past) is = fronts link Forth past (kept-before link (LinkEntry.through Back head flits) past is)
fronts link Back (LinkEntry.through Forth head flits ∷ past) is = fronts link Back past (kept-before link (LinkEntry.through Forth head flits) past is)
fronts link Back (LinkEntry.through Back head flits ∷ past) is = fronts-through link.profile head flits _ _ _ (fronts link Back past (kept-before link (LinkEntry.through Back head flits) past is))
