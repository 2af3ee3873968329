-- The n-th place has the flits of the first n places as its pointer, and n as its number. Used by
-- Links, Choices and Agreements.
use Rattle.std.proofs.Common.{◌≡◌, ◌∙◌, ◌<◌, ◌+◌, ◌%◌, ◌⊎◌, inl, inr, ℕ, suc, Bool, true, false, List, [], ◌∷◌, ◌++◌, length, take, get_or, Option, Some, None, refl, sym, ap, subst, arith, ltb-false, ltb-true}
use Rattle.std.specs.Prelude.{nat_lt}
use Rattle.std.proofs.lemmas.Bool.{eqb-true}
use Rattle.std.proofs.lemmas.List.{take_all, get_or_append_left}
use Rattle.hmc_codes.proofs.General.{mod_again, eight_again}
use Rattle.hmc_codes.specs.Profile.{modulus_of}
use Rattle.hmc_codes.specs.declared.profile.Profile.{Profile}
use Rattle.hmc_packet.specs.declared.feed.Feed.{Feed}
use Rattle.hmc_packet.specs.declared.feed.Feed.TheVariants.{Waiting, Whole, Last}
use Rattle.hmc_packet.specs.declared.what.What.TheVariants.{Train, Clear, Start, Pret, Tret, New, Again}
use Rattle.hmc_packet.specs.declared.what.What.TheVariants.{Null as NullFlit}
use Rattle.hmc_packet.specs.Copy.{copied_packet}
use Rattle.hmc_packet.specs.Packet.{PacketFields, null_packet}
use Rattle.hmc_packet.specs.Reading.{packet_from}
use Rattle.hmc_send.specs.declared.numbers.Numbers.{Numbers}
use Rattle.hmc_send.specs.Copies.{copy_of, place_fed}
use Rattle.hmc_send.specs.Entries as entries
use Rattle.hmc_send.specs.Entries.{SenderEntry, Given, Part, UnderWay, places_with, or_null, unfinished, under_way}
use Rattle.hmc_send.specs.Entries.SenderEntry.{sent, ran, acknowledged, through}
use Rattle.hmc_send.specs.IsSender.{IsFed}
use Rattle.hmc_send.specs.Kept.{IsFedNext}
use Rattle.hmc_send.specs.Places.{Place, flits_at, flits_in, numbers_at, pointer_of, number_of, numbers_after, next_packet, tret_packet, with_last}
use Rattle.hmc_send.proofs.CopyLemmas.{copy-length}
use Rattle.hmc_send.proofs.Lists.{flits-push, take-push, get-push, length-push, last-push}
use Rattle.hmc_tokens.specs.Account.{code_for}
use Rattle.hmc_wire.specs.Conditions.{AreFed, IsFeed}
use Rattle.hmc_wire.specs.LinkLaws.{HasNumbers}
use Rattle.hmc_wire.proofs.Places.{AreNumbered}
use Rattle.hmc_wire.proofs.SenderLists.{Chosen}
use Rattle.hmc_wire.proofs.OpenPlaces.{AreKnown, IsOpen, open_place, under-open, last-fed_known, open-place}

push-by : (q : Profile) (l : List Place) (x : Place) (n : ℕ) (b : Bool) → nat_lt n (length l) ≡ b → AreNumbered q l → (numbers_at x).frp ≡ (flits_in l + flits_at x) % modulus_of q → (numbers_at x).seq ≡ (length l + 1) % 8 →
    n < suc (length l) → HasNumbers q (l ++ x ∷ []) n
push-by q l x n true is all frp seq lt =
    let d : Place = Place.known null_packet in
    let below = ltb-true n (length l) is in
    let same : get_or (l ++ x ∷ []) n d ≡ get_or l n d = get_or_append_left l (x ∷ []) d n below in
    record {
      frp = ap (λ (s : Place). (numbers_at s).frp) same ∙ (all n below).frp ∙ ap (λ (t : List Place). flits_in t % modulus_of q) (sym (take-push (suc n) l x (omega arith)));
      seq = ap (λ (s : Place). (numbers_at s).seq) same ∙ (all n below).seq;
    }
push-by q l x n false is all frp seq lt =
    let d : Place = Place.known null_packet in
    let above = ltb-false n (length l) is in
    let at : n ≡ length l = omega arith in
    let len = length-push l x in
    let same : get_or (l ++ x ∷ []) n d ≡ x = ap (λ (k : ℕ). get_or (l ++ x ∷ []) k d) at ∙ get-push l x d in
    record {
      frp = ap (λ (s : Place). (numbers_at s).frp) same ∙ frp ∙ ap (λ (k : ℕ). k % modulus_of q) (sym (flits-push l x) ∙ ap flits_in (sym (take_all (suc n) (l ++ x ∷ []) (omega arith))));
      seq = ap (λ (s : Place). (numbers_at s).seq) same ∙ seq ∙ ap (λ (k : ℕ). k % 8) (omega arith);
    }

-- a place more
pub numbered-push : (q : Profile) (l : List Place) (x : Place) → AreNumbered q l → (numbers_at x).frp ≡ (pointer_of q l + flits_at x) % modulus_of q → (numbers_at x).seq ≡ (number_of l + 1) % 8 → AreNumbered q (l ++ x ∷ [])
numbered-push q l x all frp seq n lt =
    let len = length-push l x in
    push-by q l x n _ refl all (frp ∙ mod_again q (flits_in l) (flits_at x)) (seq ∙ eight_again (length l) 1) (omega arith)

-- of the next packet, and of a cut-through
pub numbered-packet : (q : Profile) (l : List Place) (rtc : ℕ) (p : PacketFields) → AreNumbered q l → AreNumbered q (l ++ Place.known (next_packet q (pointer_of q l) (number_of l) rtc p) ∷ [])
numbered-packet q l rtc p all = numbered-push q l (Place.known (next_packet q (pointer_of q l) (number_of l) rtc p)) all refl refl

pub numbered-through : (q : Profile) (l : List Place) (head : List ℕ) (flits rtc : ℕ) → AreNumbered q l → AreNumbered q (l ++ Place.awaited head flits (numbers_after q (pointer_of q l) (number_of l) flits rtc) ∷ [])
numbered-through q l head flits rtc all = numbered-push q l (Place.awaited head flits (numbers_after q (pointer_of q l) (number_of l) flits rtc)) all refl refl

-- the last place by another of the same numbers and flits
pub numbered-last : (q : Profile) (l : List Place) (x y : Place) → numbers_at y ≡ numbers_at x → flits_at y ≡ flits_at x → AreNumbered q (l ++ x ∷ []) → AreNumbered q (l ++ y ∷ [])
numbered-last q l x y numbers flits all n lt = by_index (nat_lt n (length l)) refl
  where
    by_index : (b : Bool) → nat_lt n (length l) ≡ b → HasNumbers q (l ++ y ∷ []) n
    by_index true is =
        let d : Place = Place.known null_packet in
        let lx = length-push l x in
        let below = ltb-true n (length l) is in
        let at = all n (omega arith) in
        let same : get_or (l ++ y ∷ []) n d ≡ get_or (l ++ x ∷ []) n d = get_or_append_left l (y ∷ []) d n below ∙ sym (get_or_append_left l (x ∷ []) d n below) in
        let front : take (suc n) (l ++ y ∷ []) ≡ take (suc n) (l ++ x ∷ []) = take-push (suc n) l y (omega arith) ∙ sym (take-push (suc n) l x (omega arith)) in
        record {
          frp = ap (λ (s : Place). (numbers_at s).frp) same ∙ at.frp ∙ ap (λ (t : List Place). flits_in t % modulus_of q) (sym front);
          seq = ap (λ (s : Place). (numbers_at s).seq) same ∙ at.seq;
        }
    by_index false is =
        let d : Place = Place.known null_packet in
        let lx = length-push l x in
        let ly = length-push l y in
        let above = ltb-false n (length l) is in
        let here : n ≡ length l = omega arith in
        let at = all n (omega arith) in
        let of_x : get_or (l ++ x ∷ []) n d ≡ x = ap (λ (k : ℕ). get_or (l ++ x ∷ []) k d) here ∙ get-push l x d in
        let of_y : get_or (l ++ y ∷ []) n d ≡ y = ap (λ (k : ℕ). get_or (l ++ y ∷ []) k d) here ∙ get-push l y d in
        let same : numbers_at (get_or (l ++ y ∷ []) n d) ≡ numbers_at (get_or (l ++ x ∷ []) n d) = ap numbers_at of_y ∙ numbers ∙ ap numbers_at (sym of_x) in
        let sized : flits_in (take (suc n) (l ++ y ∷ [])) ≡ flits_in (take (suc n) (l ++ x ∷ [])) =
        ap flits_in (take_all (suc n) (l ++ y ∷ []) (omega arith)) ∙ flits-push l y ∙ ap (λ (k : ℕ). flits_in l + k) flits ∙ sym (flits-push l x) ∙ ap flits_in (sym (take_all (suc n) (l ++ x ∷ []) (omega arith))) in
        record {
          frp = ap (λ (m : Numbers). m.frp) same ∙ at.frp ∙ ap (λ (k : ℕ). k % modulus_of q) (sym sized);
          seq = ap (λ (m : Numbers). m.seq) same ∙ at.seq;
        }

-- what is fed leaves the numbers of a place
pub fed-numbers : (q : Profile) (flits : List (List ℕ)) (feed : Feed) (x : Place) → numbers_at (place_fed q flits feed x) ≡ numbers_at x
unfolding copy_of copied_packet packet_from
fed-numbers q flits feed (Place.known packet) = refl
fed-numbers q flits Waiting (Place.awaited head count n) = refl
fed-numbers q flits (Whole flit) (Place.awaited head count n) = refl
fed-numbers q flits (Last half slid errstat good) (Place.awaited head count n) = refl

-- and the flits of an open place
pub fed-flits : (q : Profile) (past : List SenderEntry) (o : IsOpen q past) (feed : Feed) → IsFedNext o.part o.head feed → IsFeed feed → flits_at (place_fed q o.part.sent feed (open_place o)) ≡ o.count
fed-flits q past o Waiting fits is = refl
fed-flits q past o (Whole flit) fits is = refl
fed-flits q past o (Last half slid errstat good) fits is =
    copy-length q o.part.sent half slid errstat good o.numbers o.whole_flits.flits is.long ∙ eqb-true (suc (length o.part.sent)) o.part.flits fits.0 ∙ o.flits

numbered-new : (q : Profile) (past : List SenderEntry) (given : Given) → IsFed (under_way q past) given.feed → IsFeed given.feed → AreKnown (entries.places q past) ⊎ IsOpen q past → AreNumbered q (entries.places q past) →
    AreNumbered q (places_with q (unfinished past) given (entries.places q past))
numbered-new q past given fed is (inl known) all = by_part (unfinished past)
  where
    by_part : (u : Option Part) → AreNumbered q (places_with q u given (entries.places q past))
    by_part None = numbered-packet q (entries.places q past) (code_for given.due) (or_null given.front) all
    by_part (Some part) = subst (AreNumbered q) (sym (last-fed_known q part.sent given.feed (entries.places q past) known)) all
numbered-new q past given fed is (inr o) all =
    let l = entries.places q past in
    let f : Place → Place = place_fed q o.part.sent given.feed in
    let fits : IsFedNext o.part o.head given.feed = subst (λ (u : Option UnderWay). IsFed u given.feed) (under-open q past o) fed in
    let places : places_with q (unfinished past) given l ≡ o.before ++ f (open_place o) ∷ [] =
    ap (λ (u : Option Part). places_with q u given l) o.under ∙ ap (with_last f) o.places ∙ last-push f o.before (open_place o) in
    subst (AreNumbered q) (sym places)
    (numbered-last q o.before (open_place o) (f (open_place o)) (fed-numbers q o.part.sent given.feed (open_place o)) (fed-flits q past o given.feed fits is) (subst (AreNumbered q) o.places all))

-- of every list of a sender whose sends are the choice
pub first-numbered : (q : Profile) (retry : ℕ) (past : List SenderEntry) → Chosen q retry past → AreFed q past → AreNumbered q (entries.places q past)
unfolding Chosen AreFed entries.places
first-numbered q retry [] chosen fed = λ n lt. absurd (omega arith)
first-numbered q retry (sent given New flit ∷ past) chosen fed =
    numbered-new q past given fed.0 fed.1 (open-place q retry past chosen.1 fed.2) (first-numbered q retry past chosen.1 fed.2)
first-numbered q retry (sent given Tret flit ∷ past) chosen fed = numbered-packet q (entries.places q past) (code_for given.due) tret_packet (first-numbered q retry past chosen.1 fed.2)
first-numbered q retry (through head flits due ∷ past) chosen fed = numbered-through q (entries.places q past) head flits (code_for due) (first-numbered q retry past chosen.3 fed.1)
first-numbered q retry (sent given Again flit ∷ past) chosen fed = first-numbered q retry past chosen.1 fed.2
first-numbered q retry (sent given Train flit ∷ past) chosen fed = first-numbered q retry past chosen.1 fed.2
first-numbered q retry (sent given Clear flit ∷ past) chosen fed = first-numbered q retry past chosen.1 fed.2
first-numbered q retry (sent given Start flit ∷ past) chosen fed = first-numbered q retry past chosen.1 fed.2
first-numbered q retry (sent given Pret flit ∷ past) chosen fed = first-numbered q retry past chosen.1 fed.2
first-numbered q retry (sent given NullFlit flit ∷ past) chosen fed = first-numbered q retry past chosen.1 fed.2
first-numbered q retry (ran ∷ past) chosen fed = first-numbered q retry past chosen fed
first-numbered q retry (acknowledged packets ∷ past) chosen fed = first-numbered q retry past chosen.2 fed
