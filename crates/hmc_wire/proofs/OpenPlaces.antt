-- At most one place is open: the last, whose packet is under way. Used by Senders, Choices and
-- Agreements.
use Rattle.std.proofs.Common.{◌≡◌, ◌≢◌, ◌∙◌, ◌≤◌, ◌⊎◌, inl, inr, ℕ, zero, suc, Bool, true, false, List, [], ◌∷◌, ◌++◌, length, get_or, Option, Some, None, refl, sym, ap, subst, arith}
use Rattle.std.specs.List.{concat}
use Rattle.std.specs.Prelude.{◌==◌, is_none, if◌then◌else◌}
use Rattle.std.proofs.lemmas.Option.{same_Some}
use Rattle.hmc_codes.specs.Bytes.{IsBytes}
use Rattle.hmc_codes.proofs.BytesLemmas.{IsBytes-append, IsBytes-[]}
use Rattle.hmc_codes.proofs.General.{concat-more}
use Rattle.hmc_codes.specs.declared.profile.Profile.{Profile}
use Rattle.hmc_packet.specs.declared.feed.Feed.{Feed}
use Rattle.hmc_packet.specs.declared.feed.Feed.TheVariants.{Waiting, Whole, Last}
use Rattle.hmc_packet.specs.declared.what.What.{What}
use Rattle.hmc_packet.specs.declared.what.What.TheVariants.{Train, Clear, Start, Pret, Tret, New, Again}
use Rattle.hmc_packet.specs.declared.what.What.TheVariants.{Null as NullFlit}
use Rattle.hmc_packet.specs.Head.{head_in}
use Rattle.hmc_packet.proofs.FlitLemmas.{AreFlits}
use Rattle.hmc_send.specs.declared.numbers.Numbers.{Numbers}
use Rattle.hmc_send.specs.declared.sent.Sent.{Sent}
use Rattle.hmc_send.specs.declared.sent.Sent.TheVariants.{Out}
use Rattle.hmc_send.specs.Choice.{SendView, view_after, choice, part_what, next_flit}
use Rattle.hmc_send.specs.Copies.{place_fed}
use Rattle.hmc_send.specs.Entries as entries
use Rattle.hmc_send.specs.Entries.{SenderEntry, Given, Part, UnderWay, part_with, part_after, with_place, places_with, or_null, unfinished, last_begun, under_way}
use Rattle.hmc_send.specs.Entries.SenderEntry.{sent, ran, acknowledged, through}
use Rattle.hmc_send.specs.IsSender.{IsFed}
use Rattle.hmc_send.specs.Kept.{IsFedNext}
use Rattle.hmc_send.specs.LinkCalls.{names_flits}
use Rattle.hmc_send.specs.Places.{Place, place_at, pointer_of, number_of, numbers_after, next_packet, tret_packet, with_last}
use Rattle.hmc_send.proofs.Cases.{Case, case_of}
use Rattle.hmc_send.proofs.Cases.Case.{trains, goes_on, starves, steers, repeats, begins, returns, points, idles}
use Rattle.hmc_send.proofs.Lists.{length-push, place-push, last-push, last-same, fed-whole}
use Rattle.hmc_tokens.specs.Account.{code_for}
use Rattle.hmc_wire.specs.Conditions.{AreFed, IsFeed}
use Rattle.hmc_wire.proofs.Places.{packet_of}
use Rattle.hmc_wire.proofs.SenderLists.{Chosen, what_is}

-- ---- places that have their packets

abbrev pub AreKnown : List Place → Type 0
AreKnown [] = Unit {0}
AreKnown (place ∷ places) = (is_none (packet_of place) ≡ false) × AreKnown places

pub known-push : (l : List Place) (x : Place) → AreKnown l → is_none (packet_of x) ≡ false → AreKnown (l ++ x ∷ [])
known-push [] x all one = (one, tt)
known-push (y ∷ l) x all one = (all.0, known-push l x all.1 one)

-- what is fed leaves a place that has its packet
pub fed-known : (q : Profile) (flits : List (List ℕ)) (feed : Feed) (x : Place) → is_none (packet_of x) ≡ false → place_fed q flits feed x ≡ x
fed-known q flits feed (Place.known packet) known = refl
fed-known q flits feed (Place.awaited head count numbers) known = absurd cc

pub last-fed_known : (q : Profile) (flits : List (List ℕ)) (feed : Feed) (l : List Place) → AreKnown l → with_last (place_fed q flits feed) l ≡ l
last-fed_known q flits feed [] all = refl
last-fed_known q flits feed (x ∷ []) all = ap (λ (s : Place). s ∷ []) (fed-known q flits feed x all.0)
last-fed_known q flits feed (x ∷ y ∷ l) all = ap (λ (r : List Place). x ∷ r) (last-fed_known q flits feed (y ∷ l) all.1)

-- ---- what came of a packet that is passed on

-- whole flits of bytes, of which the first names the length
pub record HasWholeFlits (part : Part) : Type 0 where
  pub flits : AreFlits part.sent
  pub bytes : IsBytes (concat part.sent)
  pub head : 1 ≤ length part.sent → names_flits part.flits (head_in (get_or part.sent 0 [])) ≡ true

flits-push : (l : List (List ℕ)) (x : List ℕ) → AreFlits l → length x ≡ 16 → AreFlits (l ++ x ∷ [])
flits-push [] x all len zero lt = len
flits-push [] x all len (suc k) lt = absurd (omega arith)
flits-push (y ∷ l) x all len zero lt = all 0 (omega arith)
flits-push (y ∷ l) x all len (suc k) lt = flits-push l x (λ j h. all (suc j) (omega arith)) len k (omega arith)

first-push : (l : List (List ℕ)) (x : List ℕ) → 1 ≤ length l → get_or (l ++ x ∷ []) 0 [] ≡ get_or l 0 []
first-push [] x some = absurd (omega arith)
first-push (y ∷ l) x some = refl

pub whole_flits-push : (part : Part) (flit : List ℕ) → HasWholeFlits part → length flit ≡ 16 → IsBytes flit → (length part.sent ≡ 0 → names_flits part.flits (head_in flit) ≡ true) → HasWholeFlits (record part { sent = part.sent ++ flit ∷ [] })
whole_flits-push part flit whole_flits len bytes head = record {
  flits = flits-push part.sent flit whole_flits.flits len;
  bytes = subst IsBytes (sym (concat-more part.sent flit)) (IsBytes-append (concat part.sent) flit whole_flits.bytes bytes);
  head = λ some. by_sent part.sent refl;
}
  where
    by_sent : (l : List (List ℕ)) → part.sent ≡ l → names_flits part.flits (head_in (get_or (part.sent ++ flit ∷ []) 0 [])) ≡ true
    by_sent [] e = ap (λ (l : List (List ℕ)). names_flits part.flits (head_in (get_or (l ++ flit ∷ []) 0 []))) e ∙ head (ap (λ (l : List (List ℕ)). length l) e)
    by_sent (x ∷ l) e =
        let some : 1 ≤ length part.sent = let k = ap (λ (j : List (List ℕ)). length j) e in omega arith in
        ap (λ (f : List ℕ). names_flits part.flits (head_in f)) (first-push part.sent flit some) ∙ whole_flits.head some

-- nothing came yet
pub whole_flits-none : (flits : ℕ) → HasWholeFlits (record { again = false; flits = flits; sent = [] })
whole_flits-none flits = record { flits = λ k lt. absurd (omega arith); bytes = IsBytes-[]; head = λ some. absurd (omega arith) }

-- ---- the open place

-- the open place, and the packet that is under way there
pub record IsOpen (q : Profile) (past : List SenderEntry) : Type 0 where
  pub before : List Place
  pub head : List ℕ
  pub count : ℕ
  pub numbers : Numbers
  pub part : Part
  pub places : entries.places q past ≡ before ++ Place.awaited head count numbers ∷ []
  pub known : AreKnown before
  pub under : unfinished past ≡ Some part
  pub new : part.again ≡ false
  pub flits : part.flits ≡ count
  pub last : last_begun q past ≡ length (entries.places q past)
  pub names : names_flits count (head_in head) ≡ true
  pub whole_flits : HasWholeFlits part

abbrev pub open_place : {q : Profile} {past : List SenderEntry} → IsOpen q past → Place
open_place o = Place.awaited o.head o.count o.numbers

pub open-at : (q : Profile) (past : List SenderEntry) (o : IsOpen q past) → place_at (entries.places q past) (last_begun q past) ≡ open_place o
open-at q past o =
    let x : Place = open_place o in
    let number : last_begun q past ≡ suc (length o.before) = o.last ∙ ap (λ (l : List Place). length l) o.places ∙ length-push o.before x in
    (λ i. place_at (o.places i) (number i)) ∙ place-push o.before x

-- the packet under way with its place
pub under-open : (q : Profile) (past : List SenderEntry) (o : IsOpen q past) → under_way q past ≡ Some (record { part = o.part; place = open_place o })
under-open q past o = λ i. with_place (open-at q past o i) (o.under i)

none_some : (part : Part) (u : Option Part) → u ≡ None → u ≡ Some part → ⊥
none_some part u none some = let clash : None ≡ Some part = sym none ∙ some in cc

none_begun : (begun : UnderWay) (u : Option UnderWay) → u ≡ None → u ≡ Some begun → ⊥
none_begun begun u none some = let clash : None ≡ Some begun = sym none ∙ some in cc

flit_is : (f g : List ℕ) (v w : What) → Out f v ≡ Out g w → f ≡ g
flit_is f g v w is = cc

-- while a packet is under way a send goes on with it, or trains
under-by : (q : Profile) (s : SendView) (x : Sent) → Case q s x → (begun : UnderWay) → s.under_way ≡ Some begun → (flit : List ℕ) (what : What) → x ≡ Out flit what → what ≢ Train →
    (what ≡ part_what begun.part) × (next_flit q s.given.own.rrp s.given.feed begun.place begun.part ≡ Some flit)
under-by q s x (trains t) begun some flit what is other = absurd (other (sym (what_is _ flit Train what is)))
under-by q s x (goes_on t b some' f next) begun some flit what is other =
    let same : b ≡ begun = same_Some b begun (sym some' ∙ some) in (
      sym (what_is f flit (part_what b.part) what is) ∙ ap (λ (y : UnderWay). part_what y.part) same,
      ap (λ (y : UnderWay). next_flit q s.given.own.rrp s.given.feed y.place y.part) (sym same) ∙ next ∙ ap (λ (y : List ℕ). Some y) (flit_is f flit (part_what b.part) what is),
    )
under-by q s x (starves t b some' next) begun some flit what is other = absurd cc
under-by q s x (steers t nothing kind due) begun some flit what is other = absurd (none_begun begun s.under_way nothing some)
under-by q s x (repeats b place again) begun some flit what is other = absurd (none_begun begun s.under_way b.nothing some)
under-by q s x (begins f can) begun some flit what is other = absurd (none_begun begun s.under_way f.between.nothing some)
under-by q s x (returns f opened due) begun some flit what is other = absurd (none_begun begun s.under_way f.between.nothing some)
under-by q s x (points f other_rrp) begun some flit what is other = absurd (none_begun begun s.under_way f.between.nothing some)
under-by q s x (idles f same_rrp) begun some flit what is other = absurd (none_begun begun s.under_way f.between.nothing some)

pub under : (q : Profile) (retry : ℕ) (past : List SenderEntry) (given : Given) (flit : List ℕ) (what : What) (part : Part) → choice q (view_after q retry past given) ≡ Out flit what → unfinished past ≡ Some part → what ≢ Train →
    (what ≡ part_what part) × (next_flit q given.own.rrp given.feed (place_at (entries.places q past) (last_begun q past)) part ≡ Some flit)
unfolding view_after
under q retry past given flit what part is some other =
    let place = place_at (entries.places q past) (last_begun q past) in
    under-by q (view_after q retry past given) (choice q (view_after q retry past given)) (case_of q (view_after q retry past given))
    (record { part = part; place = place }) (ap (with_place place) some) flit what is other

-- ---- one entry more

abbrev Places : Profile → List SenderEntry → Type 0
Places q past = AreKnown (entries.places q past) ⊎ IsOpen q past

unfoldable pub is_new : What → Bool
is_new New = true
is_new _ = false

-- no other flit is sent while an open place's packet is under way
pub only_new : (q : Profile) (retry : ℕ) (past : List SenderEntry) (given : Given) (flit : List ℕ) (what : What) → choice q (view_after q retry past given) ≡ Out flit what → is_new what ≡ false → what ≢ Train → IsOpen q past → ⊥
unfolding is_new
only_new q retry past given flit what is no_new other o =
    let same : what ≡ New = (under q retry past given flit what o.part is o.under other).0 ∙ ap (λ (b : Bool). if b then Again else New) o.new in
    let clash : false ≡ true = sym no_new ∙ ap is_new same in cc

-- a flit more of the packet under way, which isn't its last
pub grown-later : (part : Part) (flit : List ℕ) → (suc (length part.sent) == part.flits) ≡ false → part_with part flit ≡ Some (record part { sent = part.sent ++ flit ∷ [] })
grown-later part flit more = ap (λ (b : Bool). if b then None else Some (record part { sent = part.sent ++ flit ∷ [] })) more

by_feed : (q : Profile) (retry : ℕ) (past : List SenderEntry) (given : Given) (flit : List ℕ) (o : IsOpen q past) (feed : Feed) → given.feed ≡ feed →
    next_flit q given.own.rrp feed (open_place o) o.part ≡ Some flit → IsFedNext o.part o.head feed → IsFeed feed → Places q (sent given New flit ∷ past)
unfolding entries.places unfinished last_begun
by_feed q retry past given flit o Waiting fed next fits is = absurd cc
by_feed q retry past given flit o (Whole whole) fed next fits is =
    let same : whole ≡ flit = cc in
    let l = entries.places q past in
    let places : places_with q (unfinished past) given l ≡ l =
    ap (λ (u : Option Part). places_with q u given l) o.under ∙ ap (λ (f : Feed). with_last (place_fed q o.part.sent f) l) fed
    ∙ last-same (place_fed q o.part.sent (Whole whole)) l (fed-whole q o.part.sent whole) in
    let named : length o.part.sent ≡ 0 → names_flits o.part.flits (head_in flit) ≡ true =
    λ z. (λ i. names_flits (o.flits i) (head_in ((sym same ∙ fits.1 z) i))) ∙ o.names in
    inr (record {
      before = o.before;
      head = o.head;
      count = o.count;
      numbers = o.numbers;
      part = record o.part { sent = o.part.sent ++ flit ∷ [] };
      places = places ∙ o.places;
      known = o.known;
      under = ap (part_after false flit) o.under ∙ grown-later o.part flit fits.0;
      new = o.new;
      flits = o.flits;
      last = ap (λ (u : Option Part). if is_none u then suc (length l) else last_begun q past) o.under ∙ o.last ∙ ap (λ (j : List Place). length j) (sym places);
      names = o.names;
      whole_flits = whole_flits-push o.part flit o.whole_flits (ap (λ (f : List ℕ). length f) (sym same) ∙ is.long) (subst IsBytes same is.bytes) named;
    })
by_feed q retry past given flit o (Last half slid errstat good) fed next fits is =
    let l = entries.places q past in
    let f : Place → Place = place_fed q o.part.sent (Last half slid errstat good) in
    let places : places_with q (unfinished past) given l ≡ o.before ++ f (open_place o) ∷ [] =
    ap (λ (u : Option Part). places_with q u given l) o.under ∙ ap (λ (g : Feed). with_last (place_fed q o.part.sent g) l) fed
    ∙ ap (with_last f) o.places ∙ last-push f o.before (open_place o) in
    inl (subst AreKnown (sym places) (known-push o.before (f (open_place o)) o.known refl))

by_open : (q : Profile) (retry : ℕ) (past : List SenderEntry) (given : Given) (flit : List ℕ) (o : IsOpen q past) → choice q (view_after q retry past given) ≡ Out flit New → IsFed (under_way q past) given.feed → IsFeed given.feed →
    Places q (sent given New flit ∷ past)
by_open q retry past given flit o chosen fed feed =
    let next = (under q retry past given flit New o.part chosen o.under (λ e. let clash : New ≡ Train = e in cc)).1 in
    by_feed q retry past given flit o given.feed refl
    (ap (λ (x : Place). next_flit q given.own.rrp given.feed x o.part) (sym (open-at q past o)) ∙ next)
    (subst (λ (u : Option UnderWay). IsFed u given.feed) (under-open q past o) fed) feed

-- a flit of a packet that is sent for the first time, where each place has its packet
by_known : (q : Profile) (past : List SenderEntry) (given : Given) (u : Option Part) → AreKnown (entries.places q past) → AreKnown (places_with q u given (entries.places q past))
by_known q past given None all =
    let l = entries.places q past in
    known-push l (Place.known (next_packet q (pointer_of q l) (number_of l) (code_for given.due) (or_null given.front))) all refl
by_known q past given (Some part) all = subst AreKnown (sym (last-fed_known q part.sent given.feed (entries.places q past) all)) all

-- an entry that leaves the places and the packet under way
stays-open : (q : Profile) (past longer : List SenderEntry) → entries.places q longer ≡ entries.places q past → unfinished longer ≡ unfinished past → last_begun q longer ≡ last_begun q past → IsOpen q past → IsOpen q longer
stays-open q past longer places under last o = record {
  before = o.before;
  head = o.head;
  count = o.count;
  numbers = o.numbers;
  part = o.part;
  places = places ∙ o.places;
  known = o.known;
  under = under ∙ o.under;
  new = o.new;
  flits = o.flits;
  last = last ∙ o.last ∙ ap (λ (j : List Place). length j) (sym places);
  names = o.names;
  whole_flits = o.whole_flits;
}

-- each place has its packet, but for an open one at the end whose packet is under way
pub open-place : (q : Profile) (retry : ℕ) (past : List SenderEntry) → Chosen q retry past → AreFed q past → AreKnown (entries.places q past) ⊎ IsOpen q past
unfolding Chosen AreFed entries.places unfinished last_begun is_new
open-place q retry [] chosen fed = inl tt
open-place q retry (sent given New flit ∷ past) chosen fed =
    elim (open-place q retry past chosen.1 fed.2) [
      | inl all ↦ inl (by_known q past given (unfinished past) all)
      | inr o ↦ by_open q retry past given flit o chosen.0 fed.0 fed.1
    ]
open-place q retry (sent given Tret flit ∷ past) chosen fed =
    let l = entries.places q past in
    elim (open-place q retry past chosen.1 fed.2) [
      | inl all ↦ inl (known-push l (Place.known (next_packet q (pointer_of q l) (number_of l) (code_for given.due) tret_packet)) all refl)
      | inr o ↦ absurd (only_new q retry past given flit Tret chosen.0 refl (λ e. let clash : Tret ≡ Train = e in cc) o)
    ]
open-place q retry (sent given Again flit ∷ past) chosen fed =
    elim (open-place q retry past chosen.1 fed.2) [
      | inl all ↦ inl all
      | inr o ↦ absurd (only_new q retry past given flit Again chosen.0 refl (λ e. let clash : Again ≡ Train = e in cc) o)
    ]
open-place q retry (sent given Clear flit ∷ past) chosen fed =
    elim (open-place q retry past chosen.1 fed.2) [
      | inl all ↦ inl all
      | inr o ↦ absurd (only_new q retry past given flit Clear chosen.0 refl (λ e. let clash : Clear ≡ Train = e in cc) o)
    ]
open-place q retry (sent given Start flit ∷ past) chosen fed =
    elim (open-place q retry past chosen.1 fed.2) [
      | inl all ↦ inl all
      | inr o ↦ absurd (only_new q retry past given flit Start chosen.0 refl (λ e. let clash : Start ≡ Train = e in cc) o)
    ]
open-place q retry (sent given Pret flit ∷ past) chosen fed =
    elim (open-place q retry past chosen.1 fed.2) [
      | inl all ↦ inl all
      | inr o ↦ absurd (only_new q retry past given flit Pret chosen.0 refl (λ e. let clash : Pret ≡ Train = e in cc) o)
    ]
open-place q retry (sent given NullFlit flit ∷ past) chosen fed =
    elim (open-place q retry past chosen.1 fed.2) [
      | inl all ↦ inl all
      | inr o ↦ absurd (only_new q retry past given flit NullFlit chosen.0 refl (λ e. let clash : NullFlit ≡ Train = e in cc) o)
    ]
open-place q retry (sent given Train flit ∷ past) chosen fed =
    elim (open-place q retry past chosen.1 fed.2) [
      | inl all ↦ inl all
      | inr o ↦ inr (stays-open q past (sent given Train flit ∷ past) refl refl refl o)
    ]
open-place q retry (ran ∷ past) chosen fed =
    elim (open-place q retry past chosen fed) [
      | inl all ↦ inl all
      | inr o ↦ inr (stays-open q past (ran ∷ past) refl refl refl o)
    ]
open-place q retry (acknowledged packets ∷ past) chosen fed =
    elim (open-place q retry past chosen.2 fed) [
      | inl all ↦ inl all
      | inr o ↦ inr (stays-open q past (acknowledged packets ∷ past) refl refl refl o)
    ]
open-place q retry (through head flits due ∷ past) chosen fed =
    elim (open-place q retry past chosen.3 fed.1) [
      | inl all ↦
          let l = entries.places q past in
          let n = numbers_after q (pointer_of q l) (number_of l) flits (code_for due) in
          inr (record {
            before = l;
            head = head;
            count = flits;
            numbers = n;
            part = record { again = false; flits = flits; sent = [] };
            places = refl;
            known = all;
            under = refl;
            new = refl;
            flits = refl;
            last = sym (length-push l (Place.awaited head flits n));
            names = chosen.4;
            whole_flits = whole_flits-none flits;
          })
      | inr o ↦ absurd (none_some o.part (unfinished past) chosen.0 o.under)
    ]
