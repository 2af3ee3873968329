-- A sender that stands for a list stands for the list with one more flit of a packet, or with
-- another call.
use Rattle.std.proofs.Common.{◌≡◌, ◌∙◌, ◌<◌, ◌≤◌, ◌+◌, ◌-◌, ◌%◌, ◌⊎◌, inl, inr, ℕ, suc, min, max, Bool, true, false, List, [], ◌∷◌, ◌++◌, length, take, drop, map, get_or, Option, Some, None, refl, sym, ap, subst, arith, length-append}
use Rattle.std.specs.Prelude.{◌==◌, not, if◌then◌else◌, is_none, nat_lt}
use Rattle.std.proofs.lemmas.List.{append-nil, length-drop, get_or-drop}
use Rattle.std.proofs.lemmas.Option.{slice_get_within}
use Rattle.hmc_codes.specs.Profile.{modulus_of}
use Rattle.hmc_codes.specs.declared.profile.Profile.{Profile}
use Rattle.hmc_packet.specs.declared.feed.Feed.{Feed}
use Rattle.hmc_packet.specs.declared.feed.Feed.TheVariants.{Whole, Last}
use Rattle.hmc_packet.specs.declared.what.What.TheVariants as what
use Rattle.hmc_packet.specs.Packet.{PacketFields, flits_of, null_packet}
use Rattle.hmc_packet.specs.Parts.{lng_of}
use Rattle.hmc_retry.specs.RetryBuffer.{RetryFields, after_put, after_next, packet_at}
use Rattle.hmc_tokens.specs.Account.{code_for}
use Rattle.hmc_send.specs.declared.state.State.{State}
use Rattle.hmc_send.specs.Copies.{copy_of, place_fed}
use Rattle.hmc_send.specs.Entries.{SenderEntry, Given, Part, UnderWay, with_place, part_with, part_after, places_with, unfinished, places, acked, clears, starts, go_back, is_open, others, last_begun, shown_pointer, shows_pointer}
use Rattle.hmc_send.specs.declared.numbers.Numbers.{Numbers}
use Rattle.hmc_send.specs.Places.{Place, flits_at, flits_in, pointer_of, number_of, numbers_after, place_at, with_last}
use Rattle.hmc_send.specs.Sender.{open_places, places_held, position_held, view_held, retry_fed, after_new, after_again, part_of, after_sent, after_ran, after_acknowledged, through_numbers, after_through}
use Rattle.hmc_send.specs.StandsFor.{StandsFor, is_new}
use Rattle.hmc_send.proofs.Lists.{flits-push, drop-push, take-push, length-push, place-push, last-push, last-same, last-known, length-known, get-known, known-push, open-known, fed-whole}
use Rattle.std.proofs.lemmas.Grind.{common_steps}
use Rattle.std.proofs.lemmas.List.{drop-drop}
use Rattle.std.proofs.lemmas.List.Sums.{sum_by-append}
use Rattle.std.proofs.Math.Seq.{take-add}
use Rattle.hmc_codes.proofs.General.{mod_again, eight_again}
use Rattle.hmc_retry.specs.RetryBuffer as retry
use Rattle.hmc_send.proofs.Lists.{drop-last, take-last, length-last, flits-split, flits-known, known-drop, known-take}
use Rattle.hmc_send.proofs.Steps.{IsAtEnd, IsBegun, nothing-begun, some-begun, others-more, shown-same, bare-kept, position-end}

-- ---- a packet again

next-position : (p n : ℕ) → p < n → (if nat_lt p n then suc p else p) ≡ suc p
next-position p n lt = grind (arith, common_steps)

not-new : (place : Place) (part : Part) (flit : List ℕ) → part.again ≡ true → is_new (with_place place (part_with part flit)) ≡ true → ⊥
not-new place part flit again new = by_test (suc (length part.sent) == part.flits) new
  where
    by_test : (b : Bool) → is_new (with_place place (if b then None else Some (record part { sent = part.sent ++ flit ∷ [] }))) ≡ true → ⊥
    by_test true new = absurd cc
    by_test false new = let clash : false ≡ true = ap not (sym again) ∙ new in absurd cc

pub again-none : (held : State) (given : Given) (flit : List ℕ) → held.under_way ≡ None →
    after_sent given what.Again flit held ≡ record (after_again flit None held) {
      others = min (suc held.others) 64;
      shown = if shows_pointer what.Again flit (part_of held.under_way) then given.own.rrp else held.shown;
    }
again-none held given flit nothing = λ i. record (after_again flit (nothing i) held) {
  others = min (suc held.others) 64;
  shown = if shows_pointer what.Again flit (part_of held.under_way) then given.own.rrp else held.shown;
}

pub stands-again : (held : State) (past : List SenderEntry) (given : Given) (flit : List ℕ) (place : Place) → StandsFor held past → held.under_way ≡ None → (view_held held given).again ≡ Some place →
    StandsFor (after_sent given what.Again flit held) (SenderEntry.sent given what.Again flit ∷ past)
unfolding unfinished places acked clears starts go_back is_open others last_begun shown_pointer
stands-again held past given flit place is nothing some =
    let q = held.retry.profile in
    let l = places q past in
    let a = acked past in
    let d = Place.known null_packet in
    let none : unfinished past ≡ None = nothing-begun (place_at l (last_begun q past)) (unfinished past) (sym nothing ∙ is.begun) in
    let bare = bare-kept held past is nothing in
    let o : length (open_places held.under_way) ≡ 0 = ap (λ (u : Option UnderWay). length (open_places u)) nothing in
    let inside : position_held held < length (places_held held) = slice_get_within (places_held held) (position_held held) place some in
    let size : length (places_held held) ≡ length held.retry.kept + length (open_places held.under_way) =
    length-append (map Place.known held.retry.kept) (open_places held.under_way) ∙ ap (λ (n : ℕ). n + length (open_places held.under_way)) (length-known held.retry.kept) in
    let lt : held.retry.position < length held.retry.kept = omega arith in
    let next : (after_next held.retry).position ≡ suc held.retry.position = next-position held.retry.position (length held.retry.kept) lt in
    let packet = packet_at held.retry.kept held.retry.position in
    let first = part_after true flit None in
    let closed : open_places (with_place (Place.known packet) first) ≡ [] = open-known packet first in
    let zero_more : length (open_places (with_place (Place.known packet) first)) ≡ 0 = ap length closed in
    let at : a + held.retry.position ≡ suc (max a (last_begun q past)) - 1 = let r = is.reached in omega arith in
    let same : Place.known packet ≡ place_at l (suc (max a (last_begun q past))) =
    sym (get-known held.retry.kept held.retry.position) ∙ ap (λ (t : List Place). get_or t held.retry.position d) bare ∙ get_or-drop a l held.retry.position d ∙ ap (λ (n : ℕ). get_or l n d) at in
    let r = is.reached in
    subst (λ (h : State). StandsFor h (SenderEntry.sent given what.Again flit ∷ past)) (sym (again-none held given flit nothing)) (record {
      begun = ap (λ (p : Place). with_place p first) same
          ∙ sym (λ i. with_place (place_at l (if is_none (none i) then suc (max a (last_begun q past)) else last_begun q past)) (part_after true flit (none i)));
      last = λ new. absurd (not-new (Place.known packet) (record { again = true; flits = lng_of flit; sent = [] }) flit refl new);
      kept = (λ i. map Place.known held.retry.kept ++ closed i) ∙ append-nil (map Place.known held.retry.kept) ∙ bare;
      reached =
          (let e : (after_next held.retry).position + length (open_places (with_place (Place.known packet) first)) ≡ max a (suc (max a (last_begun q past))) - a = omega arith in e)
          ∙ sym (λ i. max a (if is_none (none i) then suc (max a (last_begun q past)) else last_begun q past) - a);
      within = is.within;
      base = is.base;
      pointer = is.pointer;
      number = is.number;
      lacks_clears = is.lacks_clears;
      lacks_starts = is.lacks_starts;
      goes_back = is.goes_back;
      opened = is.opened;
      counted = others-more held past is;
      showed = shown-same held past what.Again flit given.own.rrp is;
    })

-- ---- the next flit of a packet under way

begun-of : (held : State) (past : List SenderEntry) (begun : UnderWay) → StandsFor held past → held.under_way ≡ Some begun →
    IsBegun (place_at (places held.retry.profile past) (last_begun held.retry.profile past)) (unfinished past) begun
begun-of held past begun is some =
    some-begun (place_at (places held.retry.profile past) (last_begun held.retry.profile past)) (unfinished past) begun (sym some ∙ is.begun)

pub again-some : (held : State) (given : Given) (flit : List ℕ) (part : Part) (packet : PacketFields) → held.under_way ≡ Some (record { part = part; place = Place.known packet }) →
    after_sent given what.Again flit held ≡ record held {
      under_way = with_place (Place.known packet) (part_with part flit);
      others = min (suc held.others) 64;
      shown = if shows_pointer what.Again flit (part_of held.under_way) then given.own.rrp else held.shown;
    }
again-some held given flit part packet some = λ i. record (after_again flit (some i) held) {
  others = min (suc held.others) 64;
  shown = if shows_pointer what.Again flit (part_of held.under_way) then given.own.rrp else held.shown;
}

-- where no place is open, the kept packets are the places
closed-kept : (held : State) (part : Part) (packet : PacketFields) → held.under_way ≡ Some (record { part = part; place = Place.known packet }) → open_places held.under_way ≡ []
closed-kept held part packet some = ap open_places some

pub stands-again_on : (held : State) (past : List SenderEntry) (given : Given) (flit : List ℕ) (part : Part) (packet : PacketFields) → StandsFor held past →
    held.under_way ≡ Some (record { part = part; place = Place.known packet }) → part.again ≡ true →
    StandsFor (after_sent given what.Again flit held) (SenderEntry.sent given what.Again flit ∷ past)
unfolding unfinished places acked clears starts go_back is_open others last_begun shown_pointer
stands-again_on held past given flit part packet is some again =
    let q = held.retry.profile in
    let l = places q past in
    let a = acked past in
    let at = begun-of held past (record { part = part; place = Place.known packet }) is some in
    let u = at.part in
    let was : open_places held.under_way ≡ [] = closed-kept held part packet some in
    let closed : open_places (with_place (Place.known packet) (part_with part flit)) ≡ [] = open-known packet (part_with part flit) in
    let same : open_places (with_place (Place.known packet) (part_with part flit)) ≡ open_places held.under_way = closed ∙ sym was in
    subst (λ (h : State). StandsFor h (SenderEntry.sent given what.Again flit ∷ past)) (sym (again-some held given flit part packet some)) (record {
      begun = ap (λ (p : Place). with_place p (part_with part flit)) (sym at.place_is)
          ∙ sym (λ i. with_place (place_at l (if is_none (u i) then suc (max a (last_begun q past)) else last_begun q past)) (part_after true flit (u i)));
      last = λ new. absurd (not-new (Place.known packet) part flit again new);
      kept = (λ i. map Place.known held.retry.kept ++ same i) ∙ is.kept;
      reached = (λ i. held.retry.position + length (same i)) ∙ is.reached
          ∙ sym (λ i. max a (if is_none (u i) then suc (max a (last_begun q past)) else last_begun q past) - a);
      within = is.within;
      base = is.base;
      pointer = is.pointer;
      number = is.number;
      lacks_clears = is.lacks_clears;
      lacks_starts = is.lacks_starts;
      goes_back = is.goes_back;
      opened = is.opened;
      counted = others-more held past is;
      showed = shown-same held past what.Again flit given.own.rrp is;
    })

-- a further flit of a new packet leaves these numbers of a list
record IsSameList (q : Profile) (past : List SenderEntry) (given : Given) (part : Part) (after : List Place) : Type 0 where
  places_are : places_with q (unfinished past) given (places q past) ≡ after
  last : (if is_none (unfinished past) then suc (length (places q past)) else last_begun q past) ≡ last_begun q past

pub new-some : (held : State) (given : Given) (flit : List ℕ) (part : Part) (place : Place) → held.under_way ≡ Some (record { part = part; place = place }) →
    after_sent given what.New flit held ≡ record held {
      retry = retry_fed held.retry.profile part.sent given.feed place held.retry;
      under_way = with_place (place_fed held.retry.profile part.sent given.feed place) (part_with part flit);
      others = min (suc held.others) 64;
      shown = if shows_pointer what.New flit (part_of held.under_way) then given.own.rrp else held.shown;
    }
new-some held given flit part place some = λ i. record (after_new given flit (some i) held) {
  others = min (suc held.others) 64;
  shown = if shows_pointer what.New flit (part_of held.under_way) then given.own.rrp else held.shown;
}

pub stands-new_on : (held : State) (past : List SenderEntry) (given : Given) (flit : List ℕ) (part : Part) (packet : PacketFields) → StandsFor held past →
    held.under_way ≡ Some (record { part = part; place = Place.known packet }) → part.again ≡ false →
    StandsFor (after_sent given what.New flit held) (SenderEntry.sent given what.New flit ∷ past)
unfolding unfinished places acked clears starts go_back is_open others last_begun shown_pointer
stands-new_on held past given flit part packet is some new =
    let q = held.retry.profile in
    let l = places q past in
    let a = acked past in
    let n = last_begun q past in
    let f : Place → Place = place_fed q part.sent given.feed in
    let at = begun-of held past (record { part = part; place = Place.known packet }) is some in
    let u = at.part in
    let is_last : n ≡ length l = is.last (ap is_new some ∙ ap not new) in
    let known : place_at l (length l) ≡ Place.known packet = ap (place_at l) (sym is_last) ∙ at.place_is in
    let pl : places_with q (unfinished past) given l ≡ l = ap (λ (v : Option Part). places_with q v given l) u ∙ last-known f l packet known refl in
    let le : (if is_none (unfinished past) then suc (length l) else n) ≡ n = λ i. if is_none (u i) then suc (length l) else n in
    let was : open_places held.under_way ≡ [] = closed-kept held part packet some in
    let same : open_places (with_place (Place.known packet) (part_with part flit)) ≡ open_places held.under_way = open-known packet (part_with part flit) ∙ sym was in
    subst (λ (h : State). StandsFor h (SenderEntry.sent given what.New flit ∷ past)) (sym (new-some held given flit part (Place.known packet) some)) (record {
      begun = ap (λ (p : Place). with_place p (part_with part flit)) (sym at.place_is)
          ∙ sym (λ i. with_place (place_at (pl i) (le i)) (part_after false flit (u i)));
      last = λ again. le ∙ is_last ∙ sym (ap length pl);
      kept = (λ i. map Place.known held.retry.kept ++ same i) ∙ is.kept ∙ sym (ap (drop a) pl);
      reached = (λ i. held.retry.position + length (same i)) ∙ is.reached ∙ sym (ap (λ (k : ℕ). max a k - a) le);
      within = let e = ap length pl in let w = is.within in omega arith;
      base = is.base ∙ sym (ap (λ (t : List Place). pointer_of q (take a t)) pl);
      pointer = is.pointer ∙ sym (ap (pointer_of q) pl);
      number = is.number ∙ sym (ap number_of pl);
      lacks_clears = is.lacks_clears;
      lacks_starts = is.lacks_starts;
      goes_back = is.goes_back;
      opened = is.opened;
      counted = others-more held past is;
      showed = shown-same held past what.New flit given.own.rrp is;
    })

-- a flit of a cut-through before its last
pub stands-whole : (held : State) (past : List SenderEntry) (given : Given) (flit fed head : List ℕ) (flits : ℕ) (numbers : Numbers) (part : Part) → StandsFor held past →
    held.under_way ≡ Some (record { part = part; place = Place.awaited head flits numbers }) → part.again ≡ false → given.feed ≡ Whole fed → (suc (length part.sent) == part.flits) ≡ false →
    StandsFor (after_sent given what.New flit held) (SenderEntry.sent given what.New flit ∷ past)
unfolding unfinished places acked clears starts go_back is_open others last_begun shown_pointer
stands-whole held past given flit fed head flits numbers part is some new feed more =
    let q = held.retry.profile in
    let l = places q past in
    let a = acked past in
    let n = last_begun q past in
    let waits : Place = Place.awaited head flits numbers in
    let longer : Part = record part { sent = part.sent ++ flit ∷ [] } in
    let w : part_with part flit ≡ Some longer = ap (λ (b : Bool). if b then None else Some longer) more in
    let at = begun-of held past (record { part = part; place = waits }) is some in
    let u = at.part in
    let is_last : n ≡ length l = is.last (ap is_new some ∙ ap not new) in
    let pl : places_with q (unfinished past) given l ≡ l =
    ap (λ (v : Option Part). places_with q v given l) u ∙ ap (λ (f : Feed). with_last (place_fed q part.sent f) l) feed
    ∙ last-same (place_fed q part.sent (Whole fed)) l (fed-whole q part.sent fed) in
    let le : (if is_none (unfinished past) then suc (length l) else n) ≡ n = λ i. if is_none (u i) then suc (length l) else n in
    let same : open_places (Some (record { part = longer; place = waits })) ≡ open_places held.under_way = sym (ap open_places some) in
    let left : after_sent given what.New flit held ≡ record held {
      under_way = Some (record { part = longer; place = waits });
      others = min (suc held.others) 64;
      shown = if shows_pointer what.New flit (part_of held.under_way) then given.own.rrp else held.shown;
    } = new-some held given flit part waits some ∙ (λ i. record held {
      retry = retry_fed q part.sent (feed i) waits held.retry;
      under_way = with_place (place_fed q part.sent (feed i) waits) (w i);
      others = min (suc held.others) 64;
      shown = if shows_pointer what.New flit (part_of held.under_way) then given.own.rrp else held.shown;
    }) in
    subst (λ (h : State). StandsFor h (SenderEntry.sent given what.New flit ∷ past)) (sym left) (record {
      begun = ap (λ (p : Place). with_place p (Some longer)) (sym at.place_is) ∙ sym (ap (with_place (place_at l n)) w)
          ∙ sym (λ i. with_place (place_at (pl i) (le i)) (part_after false flit (u i)));
      last = λ again. le ∙ is_last ∙ sym (ap length pl);
      kept = (λ i. map Place.known held.retry.kept ++ same i) ∙ is.kept ∙ sym (ap (drop a) pl);
      reached = (λ i. held.retry.position + length (same i)) ∙ is.reached ∙ sym (ap (λ (k : ℕ). max a k - a) le);
      within = let e = ap length pl in let w = is.within in omega arith;
      base = is.base ∙ sym (ap (λ (t : List Place). pointer_of q (take a t)) pl);
      pointer = is.pointer ∙ sym (ap (pointer_of q) pl);
      number = is.number ∙ sym (ap number_of pl);
      lacks_clears = is.lacks_clears;
      lacks_starts = is.lacks_starts;
      goes_back = is.goes_back;
      opened = is.opened;
      counted = others-more held past is;
      showed = shown-same held past what.New flit given.own.rrp is;
    })

-- what the last flit of a cut-through is made of
pub record LastFed : Type 0 where
  pub half : List ℕ
  pub slid : ℕ
  pub errstat : ℕ
  pub good : Bool

-- the copy that it completes
abbrev pub copy_fed : Profile → (sent : List (List ℕ)) → LastFed → Numbers → PacketFields
copy_fed q sent fed numbers = copy_of q sent fed.half fed.slid fed.errstat fed.good numbers

-- the last flit of a cut-through
pub stands-last : (held : State) (past : List SenderEntry) (given : Given) (flit head : List ℕ) (fed : LastFed) (flits : ℕ) (numbers : Numbers) (part : Part) → StandsFor held past →
    held.under_way ≡ Some (record { part = part; place = Place.awaited head flits numbers }) → part.again ≡ false →
    given.feed ≡ Last fed.half fed.slid fed.errstat fed.good → (suc (length part.sent) == part.flits) ≡ true →
    flits_of (copy_fed held.retry.profile part.sent fed numbers) ≡ flits → held.retry.position ≡ length held.retry.kept →
    StandsFor (after_sent given what.New flit held) (SenderEntry.sent given what.New flit ∷ past)
unfolding unfinished places acked clears starts go_back is_open others last_begun shown_pointer
stands-last held past given flit head fed flits numbers part is some new feed whole size at_end =
    let q = held.retry.profile in
    let l = places q past in
    let a = acked past in
    let n = last_begun q past in
    let waits : Place = Place.awaited head flits numbers in
    let copy : PacketFields = copy_fed q part.sent fed numbers in
    let f : Place → Place = place_fed q part.sent (Last fed.half fed.slid fed.errstat fed.good) in
    let w : part_with part flit ≡ None = ap (λ (b : Bool). if b then None else Some (record part { sent = part.sent ++ flit ∷ [] })) whole in
    let at = begun-of held past (record { part = part; place = waits }) is some in
    let u = at.part in
    let pl : places_with q (unfinished past) given l ≡ with_last f l =
    ap (λ (v : Option Part). places_with q v given l) u ∙ ap (λ (g : Feed). with_last (place_fed q part.sent g) l) feed in
    let le : (if is_none (unfinished past) then suc (length l) else n) ≡ n = λ i. if is_none (u i) then suc (length l) else n in
    let kept : map Place.known held.retry.kept ++ waits ∷ [] ≡ drop a l = (λ i. map Place.known held.retry.kept ++ open_places (sym some i)) ∙ is.kept in
    let filled : drop a (with_last f l) ≡ map Place.known held.retry.kept ++ Place.known copy ∷ [] =
    drop-last f l a ∙ ap (with_last f) (sym kept) ∙ last-push f (map Place.known held.retry.kept) waits in
    let count : length (drop a l) ≡ suc (length held.retry.kept) = sym (ap length kept) ∙ length-push (map Place.known held.retry.kept) waits ∙ ap suc (length-known held.retry.kept) in
    let all : length (drop a l) ≡ length l - a = length-drop a l in
    let lt : a < length l = omega arith in
    let flits_same : flits_in (with_last f l) ≡ flits_in l =
    sym (flits-split a (with_last f l)) ∙ (λ i. flits_in (take-last f l a lt i) + flits_in (filled i))
    ∙ ap (λ (k : ℕ). flits_in (take a l) + k) (flits-push (map Place.known held.retry.kept) (Place.known copy) ∙ ap (λ (k : ℕ). flits_in (map Place.known held.retry.kept) + k) size ∙ sym (flits-push (map Place.known held.retry.kept) waits) ∙ ap flits_in kept)
    ∙ flits-split a l in
    let put : (after_put copy held.retry).position ≡ suc (length held.retry.kept) = position-end held.retry.position (length held.retry.kept) at_end in
    let one : length (open_places held.under_way) ≡ 1 = ap (λ (v : Option UnderWay). length (open_places v)) some in
    let left : after_sent given what.New flit held ≡ record held {
      retry = after_put copy held.retry;
      under_way = None;
      others = min (suc held.others) 64;
      shown = if shows_pointer what.New flit (part_of held.under_way) then given.own.rrp else held.shown;
    } = new-some held given flit part waits some ∙ (λ i. record held {
      retry = retry_fed q part.sent (feed i) waits held.retry;
      under_way = with_place (place_fed q part.sent (feed i) waits) (w i);
      others = min (suc held.others) 64;
      shown = if shows_pointer what.New flit (part_of held.under_way) then given.own.rrp else held.shown;
    }) in
    let r = is.reached in
    subst (λ (h : State). StandsFor h (SenderEntry.sent given what.New flit ∷ past)) (sym left) (record {
      begun = sym (ap (with_place (place_at (with_last f l) n)) w) ∙ sym (λ i. with_place (place_at (pl i) (le i)) (part_after false flit (u i)));
      last = λ none. absurd cc;
      kept = append-nil (map Place.known (held.retry.kept ++ copy ∷ [])) ∙ known-push held.retry.kept copy ∙ sym filled ∙ sym (ap (drop a) pl);
      reached = (let e : (after_put copy held.retry).position + 0 ≡ max a n - a = omega arith in e) ∙ sym (ap (λ (k : ℕ). max a k - a) le);
      within = let e = ap length pl in let g = length-last f l in let w = is.within in omega arith;
      base = is.base ∙ ap (pointer_of q) (sym (take-last f l a lt)) ∙ sym (ap (λ (t : List Place). pointer_of q (take a t)) pl);
      pointer = is.pointer ∙ ap (λ (k : ℕ). k % modulus_of q) (sym flits_same) ∙ sym (ap (pointer_of q) pl);
      number = is.number ∙ ap (λ (k : ℕ). k % 8) (sym (length-last f l)) ∙ sym (ap number_of pl);
      lacks_clears = is.lacks_clears;
      lacks_starts = is.lacks_starts;
      goes_back = is.goes_back;
      opened = is.opened;
      counted = others-more held past is;
      showed = shown-same held past what.New flit given.own.rrp is;
    })

-- ---- other calls

pub stands-ran : (held : State) (past : List SenderEntry) → StandsFor held past → StandsFor (after_ran held) (SenderEntry.ran ∷ past)
unfolding unfinished places acked clears starts go_back is_open others last_begun shown_pointer
stands-ran held past is = record {
  begun = is.begun;
  last = is.last;
  kept = is.kept;
  reached = is.reached;
  within = is.within;
  base = is.base;
  pointer = is.pointer;
  number = is.number;
  lacks_clears = is.lacks_clears;
  lacks_starts = is.lacks_starts;
  goes_back = refl;
  opened = refl;
  counted = is.counted;
  showed = is.showed;
}

acked-position : (p o count a n : ℕ) → (o ≡ 0) ⊎ (count ≤ p) → p + o ≡ max a n - a → (p - count) + o ≡ max (a + count) n - (a + count)
acked-position p o count a n (inl none) is = omega arith
acked-position p o count a n (inr few) is = omega arith

pub stands-acknowledged : (held : State) (past : List SenderEntry) (rrp count : ℕ) → StandsFor held past → count ≤ length held.retry.kept →
    rrp ≡ (held.retry.base + retry.flits_in (take count held.retry.kept)) % modulus_of held.retry.profile →
    (length (open_places held.under_way) ≡ 0) ⊎ (held.retry.position ≡ length held.retry.kept) →
    StandsFor (after_acknowledged rrp (Some count) held) (SenderEntry.acknowledged (acked past + count) ∷ past)
unfolding unfinished places acked clears starts go_back is_open others last_begun shown_pointer
stands-acknowledged held past rrp count is few pointer open_end =
    let q = held.retry.profile in
    let l = places q past in
    let a = acked past in
    let o = open_places held.under_way in
    let taken : take count (drop a l) ≡ map Place.known (take count held.retry.kept) = ap (take count) (sym is.kept) ∙ known-take count held.retry.kept o few in
    let flits : flits_in (take (a + count) l) ≡ flits_in (take a l) + retry.flits_in (take count held.retry.kept) =
    ap flits_in (take-add a count l) ∙ sum_by-append flits_at (take a l) (take count (drop a l))
    ∙ ap (λ (t : List Place). flits_in (take a l) + flits_in t) taken ∙ ap (λ (k : ℕ). flits_in (take a l) + k) (flits-known (take count held.retry.kept)) in
    let size : length (drop a l) ≡ length held.retry.kept + length o = sym (ap length is.kept) ∙ length-append (map Place.known held.retry.kept) o ∙ ap (λ (k : ℕ). k + length o) (length-known held.retry.kept) in
    let all = length-drop a l in
    let w = is.within in
    record {
      begun = is.begun;
      last = is.last;
      kept = sym (known-drop count held.retry.kept o few) ∙ ap (drop count) is.kept ∙ drop-drop count a l;
      reached = acked-position held.retry.position (length o) count a (last_begun q past) (closes open_end) is.reached;
      within = omega arith;
      base = pointer ∙ ap (λ (k : ℕ). (k + retry.flits_in (take count held.retry.kept)) % modulus_of q) is.base
          ∙ mod_again q (flits_in (take a l)) (retry.flits_in (take count held.retry.kept)) ∙ ap (λ (k : ℕ). k % modulus_of q) (sym flits);
      pointer = is.pointer;
      number = is.number;
      lacks_clears = is.lacks_clears;
      lacks_starts = is.lacks_starts;
      goes_back = is.goes_back;
      opened = is.opened;
      counted = is.counted;
      showed = is.showed;
    }
  where
    closes : (length (open_places held.under_way) ≡ 0) ⊎ (held.retry.position ≡ length held.retry.kept) → (length (open_places held.under_way) ≡ 0) ⊎ (count ≤ held.retry.position)
    closes (inl none) = inl none
    closes (inr at_end) = inr (omega arith)

pub stands-through : (held : State) (past : List SenderEntry) (head : List ℕ) (flits due : ℕ) → StandsFor held past → IsAtEnd held →
    StandsFor (after_through head flits due held) (SenderEntry.through head flits due ∷ past)
unfolding unfinished places acked clears starts go_back is_open others last_begun shown_pointer
stands-through held past head flits due is ends =
    let q = held.retry.profile in
    let l = places q past in
    let a = acked past in
    let mine : Place = Place.awaited head flits (through_numbers held flits due) in
    let x : Place = Place.awaited head flits (numbers_after q (pointer_of q l) (number_of l) flits (code_for due)) in
    let same : mine ≡ x = λ i. Place.awaited head flits (numbers_after q (is.pointer i) (is.number i) flits (code_for due)) in
    let bare = bare-kept held past is ends.nothing in
    let count : length held.retry.kept ≡ length l - a = sym (length-known held.retry.kept) ∙ ap length bare ∙ length-drop a l in
    let more : length (l ++ x ∷ []) ≡ suc (length l) = length-push l x in
    let w = is.within in
    let e = ends.all_sent in
    record {
      begun = ap (λ (p : Place). with_place p (Some (record { again = false; flits = flits; sent = [] }))) (same ∙ sym (place-push l x));
      last = λ new. sym more;
      kept = (λ i. bare i ++ same i ∷ []) ∙ sym (drop-push a l x is.within);
      reached = omega arith;
      within = omega arith;
      base = is.base ∙ ap (pointer_of q) (sym (take-push a l x is.within));
      pointer = ap (λ (k : ℕ). (k + flits) % modulus_of q) is.pointer ∙ mod_again q (flits_in l) flits ∙ ap (λ (k : ℕ). k % modulus_of q) (sym (flits-push l x));
      number = ap (λ (k : ℕ). (k + 1) % 8) is.number ∙ eight_again (length l) 1 ∙ ap (λ (k : ℕ). k % 8) (let f : length l + 1 ≡ suc (length l) = omega arith in f ∙ sym more);
      lacks_clears = is.lacks_clears;
      lacks_starts = is.lacks_starts;
      goes_back = is.goes_back;
      opened = is.opened;
      counted = is.counted;
      showed = is.showed;
    }
