-- Each place has what it was begun of: a packet of the output queue, a TRET, or a cut-through. Used
-- by LawsHold.
use Rattle.std.proofs.Common.{◌≡◌, ◌∙◌, ◌⊎◌, inl, inr, ℕ, List, [], ◌∷◌, ◌++◌, Option, Some, None, refl, sym, ap, subst}
use Rattle.std.specs.Prelude.{is_none}
use Rattle.hmc_codes.specs.declared.profile.Profile.{Profile}
use Rattle.hmc_packet.specs.declared.feed.Feed.{Feed}
use Rattle.hmc_packet.specs.declared.feed.Feed.TheVariants.{Waiting, Whole, Last}
use Rattle.hmc_packet.specs.declared.what.What.TheVariants.{Train, Clear, Start, Pret, Tret, New, Again}
use Rattle.hmc_packet.specs.declared.what.What.TheVariants.{Null as NullFlit}
use Rattle.hmc_send.specs.Copies.{place_fed}
use Rattle.hmc_send.specs.Entries as entries
use Rattle.hmc_send.specs.Entries.{SenderEntry, Given, Part, UnderWay, places_with, or_null, unfinished, under_way}
use Rattle.hmc_send.specs.Entries.SenderEntry.{sent, ran, acknowledged, through}
use Rattle.hmc_send.specs.IsSender.{IsFed}
use Rattle.hmc_send.specs.Kept.{IsFedNext}
use Rattle.hmc_send.specs.Places.{Place, pointer_of, number_of, numbers_after, next_packet, tret_packet, with_last}
use Rattle.hmc_send.proofs.Lists.{last-push}
use Rattle.hmc_tokens.specs.Account.{code_for}
use Rattle.hmc_wire.specs.Conditions.{AreFed, IsFeed}
use Rattle.hmc_wire.specs.LinkLaws.{Put, begun_of, IsBegunOf, AreBegunOf}
use Rattle.hmc_wire.specs.LinkLaws.Put.{put_packet, put_through}
use Rattle.hmc_wire.proofs.SenderLists.{Chosen}
use Rattle.hmc_wire.proofs.OpenPlaces.{AreKnown, IsOpen, open_place, under-open, last-fed_known, open-place}
use Rattle.hmc_wire.proofs.NumberedPlaces.{fed-flits}
use Rattle.hmc_send.specs.LinkEntries.{push_if}

all-push : (l : List Place) (os : List Put) (x : Place) (o : Put) → AreBegunOf l os → IsBegunOf x o → AreBegunOf (l ++ x ∷ []) (os ++ o ∷ [])
all-push [] [] x o all is = (is, tt)
all-push [] (p ∷ os) x o all is = absurd all
all-push (y ∷ l) [] x o all is = absurd all
all-push (y ∷ l) (p ∷ os) x o all is = (all.0, all-push l os x o all.1 is)

all-last : (l : List Place) (os : List Put) (x y : Place) → ((o : Put) → IsBegunOf x o → IsBegunOf y o) → AreBegunOf (l ++ x ∷ []) os → AreBegunOf (l ++ y ∷ []) os
all-last [] [] x y same all = absurd all
all-last [] (p ∷ os) x y same all = (same p all.0, all.1)
all-last (z ∷ l) [] x y same all = absurd all
all-last (z ∷ l) (p ∷ os) x y same all = (all.0, all-last l os x y same all.1)

-- what is fed keeps this of an open place
fed-begun : (q : Profile) (past : List SenderEntry) (o : IsOpen q past) (feed : Feed) → IsFedNext o.part o.head feed → IsFeed feed → (p : Put) → IsBegunOf (open_place o) p → IsBegunOf (place_fed q o.part.sent feed (open_place o)) p
fed-begun q past o Waiting fits is p begun = begun
fed-begun q past o (Whole flit) fits is p begun = begun
fed-begun q past o (Last half slid errstat good) fits is (put_packet of) begun = absurd begun
fed-begun q past o (Last half slid errstat good) fits is (put_through head flits) begun = fed-flits q past o (Last half slid errstat good) fits is ∙ begun.1

begun-new : (q : Profile) (past : List SenderEntry) (given : Given) → IsFed (under_way q past) given.feed → IsFeed given.feed → AreKnown (entries.places q past) ⊎ IsOpen q past → AreBegunOf (entries.places q past) (begun_of past) →
    AreBegunOf (places_with q (unfinished past) given (entries.places q past)) (push_if (is_none (unfinished past)) (put_packet (or_null given.front)) (begun_of past))
begun-new q past given fed is (inl known) all = by_part (unfinished past)
  where
    by_part : (u : Option Part) → AreBegunOf (places_with q u given (entries.places q past)) (push_if (is_none u) (put_packet (or_null given.front)) (begun_of past))
    by_part None = all-push (entries.places q past) (begun_of past) (Place.known (next_packet q (pointer_of q (entries.places q past)) (number_of (entries.places q past)) (code_for given.due) (or_null given.front))) (put_packet (or_null given.front)) all refl
    by_part (Some part) = subst (λ (l : List Place). AreBegunOf l (begun_of past)) (sym (last-fed_known q part.sent given.feed (entries.places q past) known)) all
begun-new q past given fed is (inr o) all =
    let l = entries.places q past in
    let f : Place → Place = place_fed q o.part.sent given.feed in
    let fits : IsFedNext o.part o.head given.feed = subst (λ (u : Option UnderWay). IsFed u given.feed) (under-open q past o) fed in
    let places : places_with q (unfinished past) given l ≡ o.before ++ f (open_place o) ∷ [] =
    ap (λ (u : Option Part). places_with q u given l) o.under ∙ ap (with_last f) o.places ∙ last-push f o.before (open_place o) in
    let same : push_if (is_none (unfinished past)) (put_packet (or_null given.front)) (begun_of past) ≡ begun_of past = ap (λ (u : Option Part). push_if (is_none u) (put_packet (or_null given.front)) (begun_of past)) o.under in
    let last : AreBegunOf (o.before ++ f (open_place o) ∷ []) (begun_of past) =
    all-last o.before (begun_of past) (open_place o) (f (open_place o)) (fed-begun q past o given.feed fits is) (subst (λ (k : List Place). AreBegunOf k (begun_of past)) o.places all) in
    subst (λ (k : List Place). AreBegunOf k (push_if (is_none (unfinished past)) (put_packet (or_null given.front)) (begun_of past))) (sym places)
    (subst (AreBegunOf (o.before ++ f (open_place o) ∷ [])) (sym same) last)

-- of every list of a sender whose sends are the choice
pub contents : (q : Profile) (retry : ℕ) (past : List SenderEntry) → Chosen q retry past → AreFed q past → AreBegunOf (entries.places q past) (begun_of past)
unfolding Chosen AreFed entries.places begun_of
contents q retry [] chosen fed = tt
contents q retry (sent given New flit ∷ past) chosen fed = begun-new q past given fed.0 fed.1 (open-place q retry past chosen.1 fed.2) (contents q retry past chosen.1 fed.2)
contents q retry (sent given Tret flit ∷ past) chosen fed =
    all-push (entries.places q past) (begun_of past) (Place.known (next_packet q (pointer_of q (entries.places q past)) (number_of (entries.places q past)) (code_for given.due) tret_packet)) (put_packet tret_packet) (contents q retry past chosen.1 fed.2) refl
contents q retry (through head flits due ∷ past) chosen fed =
    all-push (entries.places q past) (begun_of past) (Place.awaited head flits (numbers_after q (pointer_of q (entries.places q past)) (number_of (entries.places q past)) flits (code_for due))) (put_through head flits) (contents q retry past chosen.3 fed.1) (refl, refl)
contents q retry (sent given Again flit ∷ past) chosen fed = contents q retry past chosen.1 fed.2
contents q retry (sent given Train flit ∷ past) chosen fed = contents q retry past chosen.1 fed.2
contents q retry (sent given Clear flit ∷ past) chosen fed = contents q retry past chosen.1 fed.2
contents q retry (sent given Start flit ∷ past) chosen fed = contents q retry past chosen.1 fed.2
contents q retry (sent given Pret flit ∷ past) chosen fed = contents q retry past chosen.1 fed.2
contents q retry (sent given NullFlit flit ∷ past) chosen fed = contents q retry past chosen.1 fed.2
contents q retry (ran ∷ past) chosen fed = contents q retry past chosen fed
contents q retry (acknowledged packets ∷ past) chosen fed = contents q retry past chosen.2 fed
