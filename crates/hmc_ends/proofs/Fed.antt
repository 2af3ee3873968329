-- What is fed to a packet under way changes neither its length nor its tokens.
use Rattle.std.proofs.Common.{◌≡◌, ◌∙◌, ◌+◌, ◌⊎◌, inl, inr, ℕ, Bool, true, false, List, [], ◌∷◌, ◌++◌, Option, Some, refl, sym, ap, subst, arith, append-nil}
use Rattle.std.specs.Prelude.{filter, if◌then◌else◌}
use Rattle.std.proofs.lemmas.List.Sums.{sum_by_push}
use Rattle.std.proofs.lemmas.Option.{same_Some}
use Rattle.std.proofs.lemmas.List.Elements.{filter-append}
use Rattle.hmc_codes.specs.Link.{LinkFields}
use Rattle.hmc_codes.specs.declared.profile.Profile.{Profile}
use Rattle.hmc_packet.specs.declared.feed.Feed.{Feed}
use Rattle.hmc_packet.specs.declared.feed.Feed.TheVariants.{Waiting, Whole, Last}
use Rattle.hmc_packet.specs.declared.what.What.TheVariants as what
use Rattle.hmc_send.specs.Copies.{place_fed}
use Rattle.hmc_send.specs.Entries as entries
use Rattle.hmc_send.specs.Entries.{SenderEntry, Given, Part, UnderWay, places_with, under_way}
use Rattle.hmc_send.specs.IsSender.{IsFed}
use Rattle.hmc_send.specs.Kept.{IsFedNext}
use Rattle.hmc_send.specs.LinkEntries.{LinkEntry}
use Rattle.hmc_send.specs.LinkSenders.{sender_entries}
use Rattle.hmc_send.specs.LinkTokens.{flits_begun, tokens_returned}
use Rattle.hmc_send.specs.Places.{Place, flits_at, numbers_at, takes_tokens, with_last}
use Rattle.hmc_send.specs.Places as places
use Rattle.hmc_send.specs.declared.toward.Toward.{Toward}
use Rattle.hmc_send.specs.declared.toward.Toward.TheVariants.{Forth, Back}
use Rattle.hmc_send.proofs.Lists.{last-push, last-same, fed-waiting, fed-whole}
use Rattle.hmc_numbers.specs.Weights.{Weight}
use Rattle.hmc_tokens.specs.Account.{tokens_of_code}
use Rattle.hmc_wire.specs.Conditions.{IsFeed, AreFed}
use Rattle.hmc_wire.specs.LinkLaws.{IsKept}
use Rattle.hmc_wire.proofs.Choices.{fit-last, open-fit}
use Rattle.hmc_wire.proofs.Filled.{completed-last}
use Rattle.hmc_wire.proofs.Joins.{kept-joins}
use Rattle.hmc_wire.proofs.OpenPlaces.{AreKnown, IsOpen, open_place, open-place, under-open, last-fed_known}
use Rattle.hmc_wire.proofs.Places.{AllFit}
use Rattle.hmc_wire.proofs.SenderLists.{Chosen}
use Rattle.hmc_wire.specs.EntryTurns.{weight}
use Rattle.hmc_numbers.specs.Tokens.{if_token}

-- ---- the tokens of places

filter-one : (b : Bool) (x : Place) (l : List Place) → places.flits_in (filter takes_tokens l ++ (if b then x ∷ [] else [])) ≡ flits_begun l + if_token b (flits_at x)
filter-one true x l = sum_by_push flits_at (filter takes_tokens l) x
filter-one false x l = ap places.flits_in (append-nil (filter takes_tokens l)) ∙ (let e : flits_begun l ≡ flits_begun l + 0 = omega arith in e)

pub begun-push : (l : List Place) (x : Place) → flits_begun (l ++ x ∷ []) ≡ flits_begun l + if_token (takes_tokens x) (flits_at x)
begun-push l x = ap places.flits_in (filter-append takes_tokens l (x ∷ [])) ∙ filter-one (takes_tokens x) x l

pub returned-push : (l : List Place) (x : Place) → tokens_returned (l ++ x ∷ []) ≡ tokens_returned l + tokens_of_code (numbers_at x).rtc
returned-push l x = sum_by_push (λ (place : Place). tokens_of_code (numbers_at place).rtc) l x

-- ---- a place that is filled

-- these places have the tokens of those
pub record SameTokens (l m : List Place) : Type 0 where
  pub begun : flits_begun m ≡ flits_begun l
  pub returned : tokens_returned m ≡ tokens_returned l

same-places : (l m : List Place) → m ≡ l → SameTokens l m
same-places l m is = record { begun = ap flits_begun is; returned = ap tokens_returned is }

same-last : (before : List Place) (x y : Place) → weight y ≡ weight x → SameTokens (before ++ x ∷ []) (before ++ y ∷ [])
same-last before x y is = record {
  begun = begun-push before y ∙ ap (λ (w : Weight). flits_begun before + if_token w.token w.flits) is ∙ sym (begun-push before x);
  returned = returned-push before y ∙ ap (λ (w : Weight). tokens_returned before + w.returns) is ∙ sym (returned-push before x);
}

fed-open : (q : Profile) (t : List SenderEntry) (o : IsOpen q t) (feed : Feed) → AllFit q (entries.places q t) → IsFedNext o.part o.head feed → IsFeed feed → SameTokens (entries.places q t) (with_last (place_fed q o.part.sent feed) (entries.places q t))
fed-open q t o Waiting all fits is = same-places _ _ (last-same (place_fed q o.part.sent Waiting) (entries.places q t) (fed-waiting q o.part.sent))
fed-open q t o (Whole whole) all fits is = same-places _ _ (last-same (place_fed q o.part.sent (Whole whole)) (entries.places q t) (fed-whole q o.part.sent whole))
fed-open q t o (Last half slid errstat good) all fits is =
    let x : Place = open_place o in
    let f : Place → Place = place_fed q o.part.sent (Last half slid errstat good) in
    let open_all = subst (AllFit q) o.places all in
    let completed = completed-last q x o.part half slid errstat good (open-fit q x refl (fit-last q o.before x open_all)) o.whole_flits o.flits fits.0 is.long is.bytes fits.1 in
    let filled : with_last f (entries.places q t) ≡ o.before ++ f x ∷ [] = ap (with_last f) o.places ∙ last-push f o.before x in
    let same = same-last o.before x (f x) completed.weighs in
    record {
      begun = ap flits_begun filled ∙ same.begun ∙ ap flits_begun (sym o.places);
      returned = ap tokens_returned filled ∙ same.returned ∙ ap tokens_returned (sym o.places);
    }

fed-by : (q : Profile) (t : List SenderEntry) (feed : Feed) (part : Part) → AreKnown (entries.places q t) ⊎ IsOpen q t → AllFit q (entries.places q t) → IsFed (under_way q t) feed → IsFeed feed → entries.unfinished t ≡ Some part →
    SameTokens (entries.places q t) (with_last (place_fed q part.sent feed) (entries.places q t))
fed-by q t feed part (inl known) all fed is some = same-places _ _ (last-fed_known q part.sent feed (entries.places q t) known)
fed-by q t feed part (inr o) all fed is some =
    let e : o.part ≡ part = same_Some o.part part (sym o.under ∙ some) in
    let fits : IsFedNext o.part o.head feed = subst (λ (u : Option UnderWay). IsFed u feed) (under-open q t o) fed in
    subst (λ (p : Part). SameTokens (entries.places q t) (with_last (place_fed q p.sent feed) (entries.places q t))) e (fed-open q t o feed all fits is)

-- the next flit of a new packet
pub fed-same : (q : Profile) (retry : ℕ) (t : List SenderEntry) (given : Given) (flit : List ℕ) (part : Part) → Chosen q retry t → AreFed q t → AllFit q (entries.places q t) → IsFed (under_way q t) given.feed → IsFeed given.feed → entries.unfinished t ≡ Some part →
    SameTokens (entries.places q t) (entries.places q (SenderEntry.sent given what.New flit ∷ t))
unfolding entries.places
fed-same q retry t given flit part chosen fed all fits is some =
    subst (SameTokens (entries.places q t)) (ap (λ (u : Option Part). places_with q u given (entries.places q t)) (sym some))
    (fed-by q t given.feed part (open-place q retry t chosen fed) all fits is some)

-- ---- of a link

-- what is known of the sender of a direction
pub record SenderIs (q : Profile) (retry : ℕ) (t : List SenderEntry) : Type 0 where
  pub chosen : Chosen q retry t
  pub fed : AreFed q t
  pub fit : AllFit q (entries.places q t)

pub sender-is : (link : LinkFields) (d : Toward) (past : List LinkEntry) → IsKept link past → SenderIs link.profile link.retry (sender_entries link d past)
sender-is link Forth past kept = let j = kept-joins 0 link past kept in record { chosen = j.forth.chosen; fed = kept.met.forth; fit = j.forth.fit }
sender-is link Back past kept = let j = kept-joins 0 link past kept in record { chosen = j.back.chosen; fed = kept.met.back; fit = j.back.fit }
