-- The calls of a sender other than a send.
use Rattle.std.proofs.Common.{◌≡◌, ◌∙◌, ◌<◌, ◌≤◌, ◌+◌, ◌-◌, ◌%◌, ◌⊎◌, inl, inr, ℕ, suc, Bool, true, false, List, [], ◌∷◌, ◌++◌, length, take, drop, map, Option, Some, None, refl, sym, ap, subst, arith}
use Rattle.std.specs.Prelude.{◌==◌, ◌&&◌, not, nat_lt, if◌then◌else◌, is_none, is_some, position}
use Rattle.std.specs.List.{position_or_len}
use Rattle.std.proofs.lemmas.Bool.{and_parts, eqb-true}
use Rattle.std.proofs.lemmas.Grind.{common_steps}
use Rattle.std.proofs.lemmas.List.{append-nil, length-drop, get_or-drop, take-append-drop}
use Rattle.std.proofs.lemmas.List.Sums.{sum_by-append}
use Rattle.hmc_codes.proofs.General.{mod_again}
use Rattle.hmc_codes.specs.Profile.{modulus_of}
use Rattle.hmc_codes.specs.declared.profile.Profile.{Profile}
use Rattle.hmc_codes.specs.declared.profile.Profile.TheVariants.{One, Two}
use Rattle.hmc_packet.specs.declared.feed.Feed.{Feed}
use Rattle.hmc_packet.specs.Packet.{PacketFields, flits_of}
use Rattle.hmc_packet.proofs.CommandLemmas.{allows_few}
use Rattle.hmc_retry.specs.RetryBuffer.{RetryFields, IsRetryBuffer, opening_buffer, pointer_after, next_pointer, room_of, place_after, acknowledged_by, after_acknowledge, packet_at}
use Rattle.hmc_retry.specs.RetryBuffer as retry
use Rattle.hmc_retry.proofs.Kept.{IsRetryBuffer-dropped, found, last_pointer}
use Rattle.hmc_send.specs.declared.state.State.{State}
use Rattle.hmc_send.specs.Acknowledged.{ends_at, acknowledged_among, acknowledged_after, entries_acknowledged}
use Rattle.hmc_send.specs.Choice.{irtry_of, is_train, is_free}
use Rattle.hmc_send.specs.Entries.{SenderEntry, Part, UnderWay, flits_through, through_place, places, acked, unfinished, clears, starts, go_back, is_open, others, last_begun, shown_pointer, room}
use Rattle.hmc_send.specs.Given.{given_only, good_view}
use Rattle.hmc_send.specs.IsSender.{IsFed, IsSender, IsPlaceKept, IsBegunKept}
use Rattle.hmc_send.specs.Kept.{CanBeSent, IsFedFor, IsHead}
use Rattle.hmc_send.specs.Places.{Place, flits_in}
use Rattle.hmc_send.specs.Sender.{opening_sender, open_place, open_places, open_flits, open_flits_at, places_held, room_held, view_held, after_acknowledged, through_numbers, after_through, after_ran}
use Rattle.hmc_send.specs.StandsFor.{StandsFor}
use Rattle.hmc_send.proofs.CopyLemmas.{head-says}
use Rattle.hmc_send.proofs.KeptLemmas.{flits-bare, next-bare}
use Rattle.hmc_send.proofs.Lists.{flits-push, flits-split, flits-known, known-drop, known-take}
use Rattle.hmc_send.proofs.Parts.{stands-acknowledged}
use Rattle.hmc_send.proofs.Steps.{IsAtEnd, at-end}

-- ---- a new sender

pointer-none : (q : Profile) → 0 ≡ 0 % modulus_of q
pointer-none One = refl
pointer-none Two = refl

pub IsSender-opening : (flits : ℕ) (q : Profile) → IsRetryBuffer (opening_buffer flits q) → IsSender (opening_sender flits q)
IsSender-opening flits q is = record {
  profile = refl;
  buffer = is;
  sendable = λ k d lt. absurd (omega arith);
  room = omega arith;
  pointer = pointer-none q;
  number = omega arith;
  others = omega arith;
  begun = tt;
}

pub stands-opening : (flits : ℕ) (q : Profile) → StandsFor (opening_sender flits q) []
unfolding unfinished places acked clears starts go_back is_open others last_begun shown_pointer
stands-opening flits q = record {
  begun = refl;
  last = λ new. absurd cc;
  kept = refl;
  reached = refl;
  within = omega arith;
  base = pointer-none q;
  pointer = pointer-none q;
  number = refl;
  lacks_clears = refl;
  lacks_starts = refl;
  goes_back = refl;
  opened = refl;
  counted = refl;
  showed = refl;
}

-- ---- an acknowledgement

-- the kept packets up to one are acknowledged by its pointer
pub record Acknowledges (buffer : RetryFields) (rrp count : ℕ) : Type 0 where
  pub few : count ≤ length buffer.kept
  pub pointer : rrp ≡ pointer_after buffer (retry.flits_in (take count buffer.kept))

base_again : (q : Profile) (base : ℕ) → base < modulus_of q → base ≡ (base + 0) % modulus_of q
base_again One base small = omega arith
base_again Two base small = omega arith

by_place : (buffer : RetryFields) (rrp count : ℕ) (o : Option ℕ) → IsRetryBuffer buffer → o ≡ position (λ packet. packet.frp == rrp) buffer.kept → place_after o ≡ Some count → Acknowledges buffer rrp count
by_place buffer rrp count None is at some = absurd cc
by_place buffer rrp count (Some place) is at some =
    let is_found = found buffer rrp place is at in
    let e : suc place ≡ count = cc in
    let back : suc place - 1 ≡ place = omega arith in
    let there = is_found.there in
    let pointer : (packet_at buffer.kept (suc place - 1)).frp ≡ rrp = ap (λ (n : ℕ). (packet_at buffer.kept n).frp) back ∙ is_found.pointer in
    subst (Acknowledges buffer rrp) e (record { few = omega arith; pointer = last_pointer buffer (suc place) rrp is (omega arith) (omega arith) pointer })

by_base : (buffer : RetryFields) (rrp count : ℕ) (b : Bool) → IsRetryBuffer buffer → (rrp == buffer.base) ≡ b →
    (if b then Some 0 else place_after (position (λ packet. packet.frp == rrp) buffer.kept)) ≡ Some count → Acknowledges buffer rrp count
by_base buffer rrp count true is test some =
    let e : 0 ≡ count = cc in
    subst (Acknowledges buffer rrp) e (record { few = omega arith; pointer = eqb-true rrp buffer.base test ∙ base_again buffer.profile buffer.base is.base })
by_base buffer rrp count false is test some = by_place buffer rrp count (position (λ packet. packet.frp == rrp) buffer.kept) is refl some

acknowledges : (buffer : RetryFields) (rrp count : ℕ) → IsRetryBuffer buffer → acknowledged_by rrp buffer ≡ Some count → Acknowledges buffer rrp count
acknowledges buffer rrp count is some = by_base buffer rrp count (rrp == buffer.base) is refl some

-- an open place stays one
next-left : (buffer : RetryFields) (rrp count : ℕ) (place : Place) → Acknowledges buffer rrp count → IsPlaceKept buffer place → IsPlaceKept (after_acknowledge rrp (Some count) buffer) place
next-left buffer rrp count (Place.known packet) a kept = kept
next-left buffer rrp count (Place.awaited head flits n) a kept =
    let e = kept.at_end in
    let few = a.few in
    let size = length-drop count buffer.kept in
    let q = buffer.profile in
    let first = retry.flits_in (take count buffer.kept) in
    let rest = retry.flits_in (drop count buffer.kept) in
    let all : first + rest ≡ retry.flits_in buffer.kept = kept-split count buffer.kept in
    record {
      at_end = omega arith;
      next = kept.next ∙ ap (λ (k : ℕ). k % modulus_of q) (let e : buffer.base + (retry.flits_in buffer.kept + flits) ≡ buffer.base + first + (rest + flits) = omega arith in e)
          ∙ sym (mod_again q (buffer.base + first) (rest + flits)) ∙ ap (λ (k : ℕ). (k + (rest + flits)) % modulus_of q) (sym a.pointer);
    }
  where
    kept-split : (count : ℕ) (kept : List PacketFields) → retry.flits_in (take count kept) + retry.flits_in (drop count kept) ≡ retry.flits_in kept
    kept-split count kept = sym (sum_by-append flits_of (take count kept) (drop count kept)) ∙ ap retry.flits_in (take-append-drop count kept)

begun-left : (buffer : RetryFields) (rrp count : ℕ) (u : Option UnderWay) → Acknowledges buffer rrp count → IsBegunKept buffer u → IsBegunKept (after_acknowledge rrp (Some count) buffer) u
begun-left buffer rrp count None a kept = tt
begun-left buffer rrp count (Some begun) a kept = next-left buffer rrp count begun.place a kept

keep-some : (held : State) (rrp count : ℕ) → IsSender held → Acknowledges held.retry rrp count → IsSender (after_acknowledged rrp (Some count) held)
keep-some held rrp count is a =
    let q = held.retry.profile in
    let kept = held.retry.kept in
    let o = open_places held.under_way in
    let all = places_held held in
    let left : drop count all ≡ map Place.known (drop count kept) ++ o = known-drop count kept o a.few in
    let first : flits_in (take count all) ≡ retry.flits_in (take count kept) = ap flits_in (known-take count kept o a.few) ∙ flits-known (take count kept) in
    let rest : flits_in (drop count all) ≡ flits_in (map Place.known (drop count kept) ++ o) = ap flits_in left in
    let split = flits-split count all in
    let within = is.room in
    record {
      profile = is.profile;
      buffer = IsRetryBuffer-dropped held.retry count rrp is.buffer a.few a.pointer;
      sendable = λ k d lt. let size = length-drop count kept in subst (CanBeSent q) (sym (get_or-drop count kept k d)) (is.sendable (count + k) d (omega arith));
      room = omega arith;
      pointer = is.pointer
          ∙ ap (λ (k : ℕ). k % modulus_of q) (let e : held.retry.base + flits_in all ≡ held.retry.base + retry.flits_in (take count kept) + flits_in (map Place.known (drop count kept) ++ o) = omega arith in e)
          ∙ sym (mod_again q (held.retry.base + retry.flits_in (take count kept)) (flits_in (map Place.known (drop count kept) ++ o)))
          ∙ ap (λ (k : ℕ). (k + flits_in (map Place.known (drop count kept) ++ o)) % modulus_of q) (sym a.pointer);
      number = is.number;
      others = is.others;
      begun = begun-left held.retry rrp count held.under_way a is.begun;
    }

keep-by : (held : State) (rrp : ℕ) (o : Option ℕ) → IsSender held → acknowledged_by rrp held.retry ≡ o → IsSender (after_acknowledged rrp o held)
keep-by held rrp None is by = is
keep-by held rrp (Some count) is by = keep-some held rrp count is (acknowledges held.retry rrp count is.buffer by)

pub keep-acknowledged : (held : State) (rrp : ℕ) → IsSender held → IsSender (after_acknowledged rrp (acknowledged_by rrp held.retry) held)
keep-acknowledged held rrp is = keep-by held rrp (acknowledged_by rrp held.retry) is refl

-- no place is open, or all packets were sent
closes-place : (buffer : RetryFields) (place : Place) → IsPlaceKept buffer place → (length (open_place place) ≡ 0) ⊎ (buffer.position ≡ length buffer.kept)
closes-place buffer (Place.known packet) kept = inl refl
closes-place buffer (Place.awaited head flits n) kept = inr kept.at_end

closes : (buffer : RetryFields) (u : Option UnderWay) → IsBegunKept buffer u → (length (open_places u) ≡ 0) ⊎ (buffer.position ≡ length buffer.kept)
closes buffer None kept = inl refl
closes buffer (Some begun) kept = closes-place buffer begun.place kept

stands-by : (held : State) (past : List SenderEntry) (rrp : ℕ) (o : Option ℕ) → IsSender held → StandsFor held past → acknowledged_by rrp held.retry ≡ o → StandsFor (after_acknowledged rrp o held) (entries_acknowledged o past)
stands-by held past rrp None is stands by = stands
stands-by held past rrp (Some count) is stands by =
    let a = acknowledges held.retry rrp count is.buffer by in
    stands-acknowledged held past rrp count stands a.few a.pointer (closes held.retry held.under_way is.begun)

-- the first kept packet with a pointer is the first place that ends at it
record Alike (n count m of : ℕ) : Type 0 where
  inside : nat_lt n count ≡ nat_lt m of
  same : nat_lt m of ≡ true → n ≡ m

one_later : (n k : ℕ) → nat_lt (1 + n) (suc k) ≡ nat_lt n k
one_later n k = grind (arith, common_steps)

alike-later : (n count m of : ℕ) → Alike n count m of → Alike (1 + n) (suc count) (1 + m) (suc of)
alike-later n count m of is = record {
  inside = one_later n count ∙ is.inside ∙ sym (one_later m of);
  same = λ lt. ap (λ (k : ℕ). 1 + k) (is.same (sym (one_later m of) ∙ lt));
}

alike-here : (count of : ℕ) → Alike 0 (suc count) 0 (suc of)
alike-here count of = record { inside = (let a : nat_lt 0 (suc count) ≡ true = grind (arith, common_steps) in let b : nat_lt 0 (suc of) ≡ true = grind (arith, common_steps) in a ∙ sym b); same = λ lt. refl }

alike-open : (rrp : ℕ) (place : Place) → Alike (position_or_len (ends_at rrp) (open_place place)) (length (open_place place)) 0 0
alike-open rrp (Place.known packet) = record { inside = refl; same = λ lt. refl }
alike-open rrp (Place.awaited head flits n) = record { inside = refl; same = λ lt. absurd cc }

alike-begun : (rrp : ℕ) (u : Option UnderWay) → Alike (position_or_len (ends_at rrp) (open_places u)) (length (open_places u)) 0 0
alike-begun rrp None = record { inside = refl; same = λ lt. refl }
alike-begun rrp (Some begun) = alike-open rrp begun.place

alike : (rrp : ℕ) (u : Option UnderWay) (kept : List PacketFields) →
    Alike (position_or_len (ends_at rrp) (map Place.known kept ++ open_places u)) (length (map Place.known kept ++ open_places u)) (position_or_len (λ (packet : PacketFields). packet.frp == rrp) kept) (length kept)
alike rrp u [] = alike-begun rrp u
alike rrp u (p ∷ kept) = by_test (p.frp == rrp) (alike rrp u kept)
  where
    by_test : (b : Bool) →
        Alike (position_or_len (ends_at rrp) (map Place.known kept ++ open_places u)) (length (map Place.known kept ++ open_places u)) (position_or_len (λ (packet : PacketFields). packet.frp == rrp) kept) (length kept) →
        Alike (if not b then 1 + position_or_len (ends_at rrp) (map Place.known kept ++ open_places u) else 0) (suc (length (map Place.known kept ++ open_places u)))
        (if not b then 1 + position_or_len (λ (packet : PacketFields). packet.frp == rrp) kept else 0) (suc (length kept))
    by_test true rest = alike-here _ _
    by_test false rest = alike-later _ _ _ _ rest

option-by : (n m : ℕ) (b c : Bool) → b ≡ c → (c ≡ true → n ≡ m) → (if b then Some n else None) ≡ (if c then Some m else None)
option-by n m true true same at = ap (λ (k : ℕ). Some k) (at refl)
option-by n m true false same at = absurd cc
option-by n m false true same at = absurd cc
option-by n m false false same at = refl

position-same : (rrp : ℕ) (u : Option UnderWay) (kept : List PacketFields) → position (λ (packet : PacketFields). packet.frp == rrp) kept ≡ position (ends_at rrp) (map Place.known kept ++ open_places u)
position-same rrp u kept = let is = alike rrp u kept in sym (option-by _ _ _ _ is.inside is.same)

pub acknowledged-same : (held : State) (past : List SenderEntry) (rrp : ℕ) → StandsFor held past → acknowledged_by rrp held.retry ≡ acknowledged_after held.retry.profile rrp past
acknowledged-same held past rrp is =
    ap (λ (o : Option ℕ). if rrp == held.retry.base then Some 0 else place_after o) (position-same rrp held.under_way held.retry.kept)
    ∙ (λ i. acknowledged_among rrp (is.base i) (is.kept i))

pub stands-acked : (held : State) (past : List SenderEntry) (rrp : ℕ) → IsSender held → StandsFor held past →
    StandsFor (after_acknowledged rrp (acknowledged_by rrp held.retry) held) (entries_acknowledged (acknowledged_after held.retry.profile rrp past) past)
stands-acked held past rrp is stands =
    subst (λ (o : Option ℕ). StandsFor (after_acknowledged rrp (acknowledged_by rrp held.retry) held) (entries_acknowledged o past)) (acknowledged-same held past rrp stands)
    (stands-by held past rrp (acknowledged_by rrp held.retry) is stands refl)

-- ---- room

open-length : (known : List Place) (place : Place) → flits_in (known ++ open_place place) ≡ flits_in known + open_flits_at place
open-length known (Place.known packet) = ap flits_in (append-nil known) ∙ (let e : flits_in known ≡ flits_in known + 0 = omega arith in e)
open-length known (Place.awaited head flits n) = flits-push known (Place.awaited head flits n)

begun-length : (known : List Place) (u : Option UnderWay) → flits_in (known ++ open_places u) ≡ flits_in known + open_flits u
begun-length known None = ap flits_in (append-nil known) ∙ (let e : flits_in known ≡ flits_in known + 0 = omega arith in e)
begun-length known (Some begun) = open-length known begun.place

-- the flits of kept packets and of an open place
pub flits-open : (held : State) → flits_in (places_held held) ≡ retry.flits_in held.retry.kept + open_flits held.under_way
flits-open held = begun-length (map Place.known held.retry.kept) held.under_way ∙ ap (λ (k : ℕ). k + open_flits held.under_way) (flits-known held.retry.kept)

pub room-open : (held : State) → room_of held.retry - open_flits held.under_way ≡ room_held held
room-open held = let e = flits-open held in omega arith

pub open-few : (held : State) → IsSender held → open_flits held.under_way ≤ room_of held.retry
open-few held is = let e = flits-open held in let r = is.room in omega arith

pub room-same : (held : State) (past : List SenderEntry) → StandsFor held past → room_held held ≡ room held.retry.profile held.retry.flits past
room-same held past is = ap (λ (l : List Place). held.retry.flits - flits_in l) is.kept

-- ---- whether it is free

is-none : (u : Option UnderWay) → is_none u ≡ not (is_some u)
is-none None = refl
is-none (Some begun) = refl

pub none-of : (u : Option UnderWay) → is_none u ≡ true → u ≡ None
none-of None is = refl
none-of (Some begun) is = absurd cc

pub place-none : (o : Option Place) → is_none o ≡ true → o ≡ None
place-none None is = refl
place-none (Some place) is = absurd cc

-- what a sender is that is free
pub free-ends : (held : State) → IsSender held → is_free (view_held held (given_only good_view)) ≡ true → IsAtEnd held
free-ends held is free =
    let s = view_held held (given_only good_view) in
    let opened = s.is_open && not (is_train s.given.own.mode) in
    let last = and_parts (opened && is_none s.under_way && is_none (irtry_of s)) (is_none s.again) free in
    let calm = and_parts (opened && is_none s.under_way) (is_none (irtry_of s)) last.0 in
    let nothing = and_parts opened (is_none s.under_way) calm.0 in
    at-end held (given_only good_view) (none-of held.under_way nothing.1) is.buffer.position (place-none s.again last.1)

-- ---- a cut-through

pub head-few : (flit : List ℕ) (flits : ℕ) → IsHead flit flits → flits ≤ 17
head-few flit flits is =
    let says = head-says flit is.head (sym is.reads) in
    let few = (allows_few is.head.command is.head.flits says.allowed).1 in
    let e = is.length in
    omega arith

pub keep-through : (held : State) (head : List ℕ) (flits due : ℕ) → IsSender held → IsAtEnd held → flits ≤ room_held held → IsSender (after_through head flits due held)
keep-through held head flits due is ends room =
    let q = held.retry.profile in
    let n = through_numbers held flits due in
    let known = map Place.known held.retry.kept in
    let bare = flits-bare held ends.nothing in
    let size : flits_in (known ++ Place.awaited head flits n ∷ []) ≡ retry.flits_in held.retry.kept + flits = flits-push known (Place.awaited head flits n) ∙ ap (λ (k : ℕ). k + flits) (flits-known held.retry.kept) in
    let next : n.frp ≡ next_pointer held.retry flits = (λ i. (held.pointer + flits) % modulus_of (sym is.profile i)) ∙ next-bare held flits is ends.nothing in
    let within = is.room in
    record {
      profile = is.profile;
      buffer = is.buffer;
      sendable = is.sendable;
      room = omega arith;
      pointer = next ∙ ap (pointer_after held.retry) (sym size);
      number = omega arith;
      others = is.others;
      begun = record { at_end = ends.all_sent; next = next };
    }

-- ---- a run of Starts

pub keep-ran : (held : State) → IsSender held → IsSender (after_ran held)
keep-ran held is = record {
  profile = is.profile;
  buffer = is.buffer;
  sendable = is.sendable;
  room = is.room;
  pointer = is.pointer;
  number = is.number;
  others = is.others;
  begun = is.begun;
}

-- ---- what is fed

-- where no packet is passed on, anything may be fed
fed-place : (part : Part) (place : Place) (feed : Feed) → flits_through place part ≡ None → IsFedFor part place feed
fed-place part (Place.known packet) feed none = tt
fed-place part (Place.awaited head flits n) feed none = absurd cc

pub fed-none : (u : Option UnderWay) (feed : Feed) → through_place u ≡ None → IsFed u feed
fed-none None feed none = tt
fed-none (Some begun) feed none = fed-place begun.part begun.place feed none
