-- A sender that stands for a list stands for the list with one more flit.
use Rattle.std.proofs.Common.{◌≡◌, ◌∙◌, ◌≤◌, ◌+◌, ◌-◌, ◌%◌, ◌⊎◌, inl, inr, ℕ, suc, min, max, Bool, true, false, List, [], ◌∷◌, ◌++◌, length, take, drop, map, Option, Some, None, refl, sym, ap, subst, arith, length-append}
use Rattle.std.specs.Prelude.{◌==◌, if◌then◌else◌, is_none}
use Rattle.std.proofs.lemmas.List.{append-nil, length-drop}
use Rattle.std.proofs.lemmas.Bool.{eq-eqb}
use Rattle.hmc_codes.proofs.General.{mod_again, eight_again}
use Rattle.hmc_codes.specs.Profile.{modulus_of}
use Rattle.hmc_packet.specs.declared.kind.Kind.{Kind}
use Rattle.hmc_packet.specs.declared.kind.Kind.TheVariants as kind
use Rattle.hmc_packet.specs.declared.what.What.{What}
use Rattle.hmc_packet.specs.declared.what.What.TheVariants as what
use Rattle.hmc_packet.specs.Packet.{PacketFields, flits_of}
use Rattle.hmc_irtry.specs.Burst.{next_of}
use Rattle.hmc_retry.specs.RetryBuffer.{after_put}
use Rattle.hmc_tokens.specs.Account.{code_for}
use Rattle.hmc_send.specs.declared.state.State.{State}
use Rattle.hmc_send.specs.Choice.{SendView, irtry_due, irtry_of}
use Rattle.hmc_send.specs.Entries.{SenderEntry, Given, Part, UnderWay, with_place, or_null, part_after, places_with, unfinished, places, acked, clears, starts, are_bursts, go_back, is_open, others, last_begun, shown_pointer, shows_pointer}
use Rattle.hmc_send.specs.Places.{Place, flits_in, pointer_of, number_of, next_packet, tret_packet, place_at}
use Rattle.hmc_send.specs.Sender.{open_places, places_held, position_held, view_held, with_kept, next_held, after_new, part_of, after_sent}
use Rattle.hmc_send.specs.StandsFor.{StandsFor, is_new}
use Rattle.hmc_send.proofs.Bursts.{lacks-after, left-none, left-some, begins-clears, one_more}
use Rattle.hmc_send.proofs.Lists.{flits-push, drop-push, take-push, length-push, place-push, length-known, known-push, get-none, open-known}
use Rattle.hmc_send.proofs.Views.{lacks}

-- ---- what is under way

pub nothing-begun : (place : Place) (u : Option Part) → None ≡ with_place place u → u ≡ None
nothing-begun place None is = refl
nothing-begun place (Some part) is = absurd cc

pub record IsBegun (place : Place) (u : Option Part) (begun : UnderWay) : Type 0 where
  pub part : u ≡ Some begun.part
  pub place_is : place ≡ begun.place

pub some-begun : (place : Place) (u : Option Part) (begun : UnderWay) → Some begun ≡ with_place place u → IsBegun place u begun
some-begun place None begun is = absurd cc
some-begun place (Some part) begun is =
    let same : begun ≡ record { part = part; place = place } = cc in
    record { part = ap (λ (b : UnderWay). Some b.part) (sym same); place_is = ap (λ (b : UnderWay). b.place) (sym same) }

part-of : (place : Place) (u : Option Part) → part_of (with_place place u) ≡ u
part-of place None = refl
part-of place (Some part) = refl

-- the part that a sender holds
pub held-part : (held : State) (past : List SenderEntry) → StandsFor held past → part_of held.under_way ≡ unfinished past
held-part held past is = ap part_of is.begun ∙ part-of (place_at (places held.retry.profile past) (last_begun held.retry.profile past)) (unfinished past)

-- ---- what every flit leaves

pub others-more : (held : State) (past : List SenderEntry) → StandsFor held past → min (suc held.others) 64 ≡ min (suc (others past)) 64
others-more held past is = ap (λ (n : ℕ). min (suc n) 64) is.counted ∙ one_more (others past)

pub shown-same : (held : State) (past : List SenderEntry) (as_what : What) (flit : List ℕ) (rrp : ℕ) → StandsFor held past →
    (if shows_pointer as_what flit (part_of held.under_way) then rrp else held.shown) ≡ (if shows_pointer as_what flit (unfinished past) then rrp else shown_pointer past)
shown-same held past as_what flit rrp is = λ i. if shows_pointer as_what flit (held-part held past is i) then rrp else is.showed i

-- ---- flits that carry no packet

pub stands-train : (held : State) (past : List SenderEntry) (given : Given) (flit : List ℕ) → StandsFor held past →
    StandsFor (after_sent given what.Train flit held) (SenderEntry.sent given what.Train flit ∷ past)
unfolding unfinished places acked clears starts go_back is_open others last_begun shown_pointer
stands-train held past given flit is = record {
  begun = is.begun;
  last = is.last;
  kept = is.kept;
  reached = is.reached;
  within = is.within;
  base = is.base;
  pointer = is.pointer;
  number = is.number;
  lacks_clears = is.lacks_clears;
  lacks_starts = is.lacks_starts;
  goes_back = is.goes_back;
  opened = is.opened;
  counted = others-more held past is;
  showed = is.showed;
}

pub stands-null : (held : State) (past : List SenderEntry) (given : Given) (flit : List ℕ) → StandsFor held past →
    StandsFor (after_sent given what.Null flit held) (SenderEntry.sent given what.Null flit ∷ past)
unfolding unfinished places acked clears starts go_back is_open others last_begun shown_pointer
stands-null held past given flit is = record {
  begun = is.begun;
  last = is.last;
  kept = is.kept;
  reached = is.reached;
  within = is.within;
  base = is.base;
  pointer = is.pointer;
  number = is.number;
  lacks_clears = is.lacks_clears;
  lacks_starts = is.lacks_starts;
  goes_back = is.goes_back;
  opened = is.opened;
  counted = others-more held past is;
  showed = is.showed;
}

pub stands-pret : (held : State) (past : List SenderEntry) (given : Given) (flit : List ℕ) → StandsFor held past →
    StandsFor (after_sent given what.Pret flit held) (SenderEntry.sent given what.Pret flit ∷ past)
unfolding unfinished places acked clears starts go_back is_open others last_begun shown_pointer
stands-pret held past given flit is = record {
  begun = is.begun;
  last = is.last;
  kept = is.kept;
  reached = is.reached;
  within = is.within;
  base = is.base;
  pointer = is.pointer;
  number = is.number;
  lacks_clears = is.lacks_clears;
  lacks_starts = is.lacks_starts;
  goes_back = is.goes_back;
  opened = is.opened;
  counted = others-more held past is;
  showed = refl;
}

-- ---- IRTRYs

-- the IRTRY that is due is the next of the burst, or begins one
due-by : (s : SendView) (k : Kind) (left : ℕ) (of : Kind) (next : Option Kind) → next_of k left ≡ next → irtry_due next s.given.own.mode s.go_back s.may_start ≡ Some of → (left ≡ 0) ⊎ (k ≡ of)
due-by s k left of None is due = inl (left-none k left is)
due-by s k left of (Some next) is due = let same : next ≡ of = cc in inr (left-some k left next is ∙ same)

pub is-due : (held : State) (given : Given) (of : Kind) → irtry_of (view_held held given) ≡ Some of → (held.burst.left ≡ 0) ⊎ (held.burst.kind ≡ of)
is-due held given of due = due-by (view_held held given) held.burst.kind held.burst.left of (next_of held.burst.kind held.burst.left) refl due

none-some : (u : Option Part) (v : Option UnderWay) → v ≡ None → is_new v ≡ true → ⊥
none-some u v none is = let clash : false ≡ true = ap is_new (sym none) ∙ is in absurd cc

pub stands-start : (held : State) (past : List SenderEntry) (given : Given) (flit : List ℕ) → StandsFor held past → (held.burst.left ≡ 0) ⊎ (held.burst.kind ≡ kind.Start) →
    StandsFor (after_sent given what.Start flit held) (SenderEntry.sent given what.Start flit ∷ past)
unfolding unfinished places acked clears starts go_back is_open others last_begun shown_pointer
stands-start held past given flit is due =
    let more = lacks-after kind.Start held.burst.kind held.burst.left (clears past) (starts past) (lacks held past is) due in record {
      begun = is.begun;
      last = is.last;
      kept = is.kept;
      reached = is.reached;
      within = is.within;
      base = is.base;
      pointer = is.pointer;
      number = is.number;
      lacks_clears = more.of_clears;
      lacks_starts = more.of_starts;
      goes_back = is.goes_back;
      opened = is.opened;
      counted = refl;
      showed = refl;
    }

-- by whether a burst of Clears begins
cleared : (b : Bool) (a last n o : ℕ) → o ≡ 0 → n + o ≡ max a last - a → (if b then 0 else n) + o ≡ max a (if b then 0 else last) - a
cleared true a last n o none is = omega arith
cleared false a last n o none is = is

pub stands-clear : (held : State) (past : List SenderEntry) (given : Given) (flit : List ℕ) → StandsFor held past → held.under_way ≡ None → (held.burst.left ≡ 0) ⊎ (held.burst.kind ≡ kind.Clear) →
    StandsFor (after_sent given what.Clear flit held) (SenderEntry.sent given what.Clear flit ∷ past)
unfolding unfinished places acked clears starts go_back is_open others last_begun shown_pointer
stands-clear held past given flit is nothing due =
    let q = held.retry.profile in
    let more = lacks-after kind.Clear held.burst.kind held.burst.left (clears past) (starts past) (lacks held past is) due in
    let test : (held.burst.left == 0) ≡ are_bursts (clears past) = begins-clears held.burst.kind held.burst.left (clears past) (starts past) (lacks held past is) due in
    let none : unfinished past ≡ None = nothing-begun (place_at (places q past) (last_begun q past)) (unfinished past) (sym nothing ∙ is.begun) in
    let o : length (open_places held.under_way) ≡ 0 = ap (λ (u : Option UnderWay). length (open_places u)) nothing in
    let at : Place = place_at (places q past) (if are_bursts (clears past) then 0 else last_begun q past) in
    record {
      begun = nothing ∙ ap (with_place at) (sym none);
      last = λ new. absurd (none-some None held.under_way nothing new);
      kept = is.kept;
      reached = (λ i. (if test i then 0 else held.retry.position) + length (open_places held.under_way)) ∙ cleared (are_bursts (clears past)) (acked past) (last_begun q past) held.retry.position (length (open_places held.under_way)) o is.reached;
      within = is.within;
      base = is.base;
      pointer = is.pointer;
      number = is.number;
      lacks_clears = more.of_clears;
      lacks_starts = more.of_starts;
      goes_back = λ i. if test i then false else is.goes_back i;
      opened = is.opened;
      counted = others-more held past is;
      showed = refl;
    }

-- ---- a packet more

-- where nothing is under way and nothing is to be sent again
pub record IsAtEnd (held : State) : Type 0 where
  pub nothing : held.under_way ≡ None
  pub all_sent : held.retry.position ≡ length held.retry.kept

pub bare-kept : (held : State) (past : List SenderEntry) → StandsFor held past → held.under_way ≡ None → map Place.known held.retry.kept ≡ drop (acked past) (places held.retry.profile past)
bare-kept held past is nothing =
    sym (append-nil (map Place.known held.retry.kept)) ∙ (λ i. map Place.known held.retry.kept ++ open_places (sym nothing i)) ∙ is.kept

pub at-end : (held : State) (given : Given) → held.under_way ≡ None → held.retry.position ≤ length held.retry.kept → (view_held held given).again ≡ None → IsAtEnd held
at-end held given nothing within none =
    let o : open_places held.under_way ≡ [] = ap open_places nothing in
    let size : length (places_held held) ≡ length held.retry.kept + 0 =
    length-append (map Place.known held.retry.kept) (open_places held.under_way) ∙ (λ i. length-known held.retry.kept i + length (o i)) in
    let on : position_held held ≡ held.retry.position + 0 = ap (λ (l : List Place). held.retry.position + length l) o in
    let past_end = get-none (places_held held) (position_held held) none in
    record { nothing = nothing; all_sent = omega (arith, size, on, past_end, within) }

pub position-end : (p n : ℕ) → p ≡ n → (if p == n then suc p else p) ≡ suc n
position-end p n same = by_test (p == n) refl
  where
    by_test : (b : Bool) → (p == n) ≡ b → (if b then suc p else p) ≡ suc n
    by_test true is = ap suc same
    by_test false is = let clash : true ≡ false = sym (eq-eqb p n same) ∙ is in absurd cc

-- what is known of a packet that is kept
record IsKeptNow (held : State) (past : List SenderEntry) (mine packet : PacketFields) (part : Option Part) : Type 0 where
  place_is : Place.known mine ≡ place_at (places held.retry.profile past ++ Place.known packet ∷ []) (suc (length (places held.retry.profile past)))
  last : suc (length (places held.retry.profile past)) ≡ length (places held.retry.profile past ++ Place.known packet ∷ [])
  kept : map Place.known (held.retry.kept ++ mine ∷ []) ++ open_places (with_place (Place.known mine) part) ≡ drop (acked past) (places held.retry.profile past ++ Place.known packet ∷ [])
  reached : (after_put mine held.retry).position + length (open_places (with_place (Place.known mine) part)) ≡ max (acked past) (suc (length (places held.retry.profile past))) - acked past
  within : acked past ≤ length (places held.retry.profile past ++ Place.known packet ∷ [])
  base : held.retry.base ≡ pointer_of held.retry.profile (take (acked past) (places held.retry.profile past ++ Place.known packet ∷ []))
  pointer : mine.frp ≡ pointer_of held.retry.profile (places held.retry.profile past ++ Place.known packet ∷ [])
  number : mine.seq ≡ number_of (places held.retry.profile past ++ Place.known packet ∷ [])

kept-now : (held : State) (past : List SenderEntry) (mine packet : PacketFields) (part : Option Part) → StandsFor held past → IsAtEnd held → mine ≡ packet →
    mine.frp ≡ (held.pointer + flits_of mine) % modulus_of held.retry.profile → mine.seq ≡ (held.number + 1) % 8 → IsKeptNow held past mine packet part
kept-now held past mine packet part is ends same frp seq =
    let q = held.retry.profile in
    let l = places q past in
    let x = Place.known packet in
    let bare = bare-kept held past is ends.nothing in
    let count : length held.retry.kept ≡ length l - acked past = sym (length-known held.retry.kept) ∙ ap length bare ∙ length-drop (acked past) l in
    let more : length (l ++ x ∷ []) ≡ suc (length l) = length-push l x in
    let none : open_places (with_place (Place.known mine) part) ≡ [] = open-known mine part in
    let put : (after_put mine held.retry).position ≡ suc (length held.retry.kept) = position-end held.retry.position (length held.retry.kept) ends.all_sent in
    let zero_more : length (open_places (with_place (Place.known mine) part)) ≡ 0 = ap length none in
    let sum : flits_in (l ++ x ∷ []) ≡ flits_in l + flits_of packet = flits-push l x in
    record {
      place_is = ap Place.known same ∙ sym (place-push l x);
      last = sym more;
      kept =
          (λ i. map Place.known (held.retry.kept ++ same i ∷ []) ++ none i) ∙ append-nil (map Place.known (held.retry.kept ++ packet ∷ [])) ∙ known-push held.retry.kept packet
          ∙ ap (λ (t : List Place). t ++ x ∷ []) bare ∙ sym (drop-push (acked past) l x is.within);
      reached = omega (arith, put, zero_more, count, is.within);
      within = omega (arith, more, is.within);
      base = is.base ∙ ap (pointer_of q) (sym (take-push (acked past) l x is.within));
      pointer =
          frp ∙ (λ i. (is.pointer i + flits_of (same i)) % modulus_of q) ∙ mod_again q (flits_in l) (flits_of packet)
          ∙ ap (λ (n : ℕ). n % modulus_of q) (sym sum);
      number = seq ∙ ap (λ (n : ℕ). (n + 1) % 8) is.number ∙ eight_again (length l) 1 ∙ ap (λ (n : ℕ). n % 8) (let e : length l + 1 ≡ suc (length l) = omega arith in e ∙ sym more);
    }

same-next : (held : State) (past : List SenderEntry) (due : ℕ) (packet : PacketFields) → StandsFor held past →
    next_held held due packet ≡ next_packet held.retry.profile (pointer_of held.retry.profile (places held.retry.profile past)) (number_of (places held.retry.profile past)) (code_for due) packet
same-next held past due packet is = λ i. next_packet held.retry.profile (is.pointer i) (is.number i) (code_for due) packet

-- the list's packet
abbrev list_next : (held : State) (past : List SenderEntry) (due : ℕ) (packet : PacketFields) → PacketFields
list_next held past due packet = next_packet held.retry.profile (pointer_of held.retry.profile (places held.retry.profile past)) (number_of (places held.retry.profile past)) (code_for due) packet

pub stands-tret : (held : State) (past : List SenderEntry) (given : Given) (flit : List ℕ) → StandsFor held past → IsAtEnd held →
    StandsFor (after_sent given what.Tret flit held) (SenderEntry.sent given what.Tret flit ∷ past)
unfolding unfinished places acked clears starts go_back is_open others last_begun shown_pointer
stands-tret held past given flit is ends =
    let q = held.retry.profile in
    let none : unfinished past ≡ None = nothing-begun (place_at (places q past) (last_begun q past)) (unfinished past) (sym ends.nothing ∙ is.begun) in
    let k = kept-now held past (next_held held given.due tret_packet) (list_next held past given.due tret_packet) None is ends (same-next held past given.due tret_packet is) refl refl in
    let at : Place = place_at (places q past ++ Place.known (list_next held past given.due tret_packet) ∷ []) (suc (length (places q past))) in
    record {
      begun = ap (with_place at) (sym none);
      last = λ new. k.last;
      kept = k.kept;
      reached = k.reached;
      within = k.within;
      base = k.base;
      pointer = k.pointer;
      number = k.number;
      lacks_clears = is.lacks_clears;
      lacks_starts = is.lacks_starts;
      goes_back = is.goes_back;
      opened = is.opened;
      counted = others-more held past is;
      showed = refl;
    }

-- a packet is begun for the first time
record IsBegunNow (held : State) (past : List SenderEntry) (given : Given) (flit : List ℕ) (u : Option Part) : Type 0 where
  begun : with_place (Place.known (next_held held given.due (or_null given.front))) (part_after false flit None)
      ≡ with_place (place_at (places_with held.retry.profile u given (places held.retry.profile past)) (if is_none u then suc (length (places held.retry.profile past)) else last_begun held.retry.profile past)) (part_after false flit u)
  last : (if is_none u then suc (length (places held.retry.profile past)) else last_begun held.retry.profile past) ≡ length (places_with held.retry.profile u given (places held.retry.profile past))
  kept : map Place.known (held.retry.kept ++ next_held held given.due (or_null given.front) ∷ []) ++ open_places (with_place (Place.known (next_held held given.due (or_null given.front))) (part_after false flit None))
      ≡ drop (acked past) (places_with held.retry.profile u given (places held.retry.profile past))
  reached : (after_put (next_held held given.due (or_null given.front)) held.retry).position + length (open_places (with_place (Place.known (next_held held given.due (or_null given.front))) (part_after false flit None)))
      ≡ max (acked past) (if is_none u then suc (length (places held.retry.profile past)) else last_begun held.retry.profile past) - acked past
  within : acked past ≤ length (places_with held.retry.profile u given (places held.retry.profile past))
  base : held.retry.base ≡ pointer_of held.retry.profile (take (acked past) (places_with held.retry.profile u given (places held.retry.profile past)))
  pointer : (next_held held given.due (or_null given.front)).frp ≡ pointer_of held.retry.profile (places_with held.retry.profile u given (places held.retry.profile past))
  number : (next_held held given.due (or_null given.front)).seq ≡ number_of (places_with held.retry.profile u given (places held.retry.profile past))

begun-now : (held : State) (past : List SenderEntry) (given : Given) (flit : List ℕ) (u : Option Part) → StandsFor held past → IsAtEnd held → u ≡ None → IsBegunNow held past given flit u
begun-now held past given flit (Some part) is ends none = absurd cc
begun-now held past given flit None is ends none =
    let packet = or_null given.front in
    let k = kept-now held past (next_held held given.due packet) (list_next held past given.due packet) (part_after false flit None) is ends (same-next held past given.due packet is) refl refl in
    record {
      begun = ap (λ (p : Place). with_place p (part_after false flit None)) k.place_is;
      last = k.last;
      kept = k.kept;
      reached = k.reached;
      within = k.within;
      base = k.base;
      pointer = k.pointer;
      number = k.number;
    }

-- what a sender with nothing under way does of a new packet
pub new-none : (held : State) (given : Given) (flit : List ℕ) → held.under_way ≡ None →
    after_sent given what.New flit held ≡ record (with_kept (next_held held given.due (or_null given.front)) (part_after false flit None) held) {
      others = min (suc held.others) 64;
      shown = if shows_pointer what.New flit (part_of held.under_way) then given.own.rrp else held.shown;
    }
new-none held given flit nothing = λ i. record (after_new given flit (nothing i) held) {
  others = min (suc held.others) 64;
  shown = if shows_pointer what.New flit (part_of held.under_way) then given.own.rrp else held.shown;
}

pub stands-new : (held : State) (past : List SenderEntry) (given : Given) (flit : List ℕ) → StandsFor held past → IsAtEnd held →
    StandsFor (after_sent given what.New flit held) (SenderEntry.sent given what.New flit ∷ past)
unfolding unfinished places acked clears starts go_back is_open others last_begun shown_pointer
stands-new held past given flit is ends =
    let q = held.retry.profile in
    let none : unfinished past ≡ None = nothing-begun (place_at (places q past) (last_begun q past)) (unfinished past) (sym ends.nothing ∙ is.begun) in
    let k = begun-now held past given flit (unfinished past) is ends none in
    subst (λ (h : State). StandsFor h (SenderEntry.sent given what.New flit ∷ past)) (sym (new-none held given flit ends.nothing)) (record {
      begun = k.begun;
      last = λ new. k.last;
      kept = k.kept;
      reached = k.reached;
      within = k.within;
      base = k.base;
      pointer = k.pointer;
      number = k.number;
      lacks_clears = is.lacks_clears;
      lacks_starts = is.lacks_starts;
      goes_back = is.goes_back;
      opened = is.opened;
      counted = others-more held past is;
      showed = shown-same held past what.New flit given.own.rrp is;
    })
