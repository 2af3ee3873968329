-- What a send leaves of an open place.
use Rattle.std.proofs.Common.{◌≡◌, ◌≢◌, ◌∙◌, ◌==◌, inl, inr, ℕ, suc, Bool, true, false, if◌then◌else◌, List, [], ◌∷◌, ◌++◌, Option, Some, None, length, refl, sym, ap, subst}
use Rattle.std.specs.Prelude.{is_none}
use Rattle.hmc_codes.specs.Link.{LinkFields}
use Rattle.hmc_codes.specs.declared.profile.Profile.{Profile}
use Rattle.hmc_packet.specs.declared.feed.Feed.{Feed}
use Rattle.hmc_packet.specs.declared.feed.Feed.TheVariants.{Waiting, Whole, Last}
use Rattle.hmc_packet.specs.declared.what.What.{What}
use Rattle.hmc_packet.specs.declared.what.What.TheVariants as what
use Rattle.hmc_tokens.specs.Account.{code_for}
use Rattle.hmc_send.specs.declared.numbers.Numbers.{Numbers}
use Rattle.hmc_send.specs.declared.toward.Toward.{Toward}
use Rattle.hmc_send.specs.Choice as cases
use Rattle.hmc_send.specs.Copies.{place_fed, fed_flit}
use Rattle.hmc_send.specs.Entries.{SenderEntry, Given, Part, UnderWay, or_null, part_after, unfinished, places, places_with, last_begun, with_place, under_way}
use Rattle.hmc_send.specs.IsSender.{IsFed}
use Rattle.hmc_send.specs.Kept.{IsFedNext}
use Rattle.hmc_send.specs.LinkEntries.{LinkEntry}
use Rattle.hmc_send.specs.LinkSenders.{sender_entries, given_in, given_after}
use Rattle.hmc_send.specs.Places.{Place, place_at, with_last, pointer_of, number_of, next_packet, tret_packet}
use Rattle.hmc_send.proofs.LinkLawful.{lawful-sent}
use Rattle.hmc_wire.specs.LinkLaws.{IsKept}
use Rattle.hmc_wire.proofs.OpenPlaces.{AreKnown, IsOpen, open_place, known-push, last-fed_known, open-at, under, under-open, is_new, only_new, grown-later}
use Rattle.hmc_send.proofs.Lists.{last-same, fed-whole}
use Rattle.hmc_journal.proofs.LinkKept.{opened}
use Rattle.hmc_laws.proofs.OpenParts.{sent-fed, same_flit}
use Rattle.hmc_wire.proofs.EntryTurns.{kept-before}

-- the sender's entries after a send
abbrev pub sent_on : LinkFields → Toward → Feed → What → (flit : List ℕ) → List LinkEntry → List SenderEntry
sent_on link d feed as_what flit past = SenderEntry.sent (given_in link d past feed) as_what flit ∷ sender_entries link d past

-- A send leaves each place known, where each was known before; or the packet under way as it was; or
-- an open place with one flit more; or it fills the open place with its packet.
pub data OpenAfter (link : LinkFields) (d : Toward) (feed : Feed) (as_what : What) (flit : List ℕ) (past : List LinkEntry) : Type 0 where
  AllKnown : AreKnown (places link.profile (sender_entries link d past)) → AreKnown (places link.profile (sent_on link d feed as_what flit past)) → OpenAfter link d feed as_what flit past
  SameUp : under_way link.profile (sent_on link d feed as_what flit past) ≡ under_way link.profile (sender_entries link d past) → OpenAfter link d feed as_what flit past
  Grows : (part : Part) → (head : List ℕ) → (count : ℕ) → (numbers : Numbers) → under_way link.profile (sender_entries link d past) ≡ Some (record { part = part; place = Place.awaited head count numbers })
      → feed ≡ Whole flit → as_what ≡ what.New
      → under_way link.profile (sent_on link d feed as_what flit past) ≡ Some (record { part = record part { sent = part.sent ++ flit ∷ [] }; place = Place.awaited head count numbers }) → OpenAfter link d feed as_what flit past
  Fills : (part : Part) → (head : List ℕ) → (count : ℕ) → (numbers : Numbers) → (half : List ℕ) → (slid errstat : ℕ) → (good : Bool) → under_way link.profile (sender_entries link d past) ≡ Some (record { part = part; place = Place.awaited head count numbers })
      → feed ≡ Last half slid errstat good → as_what ≡ what.New → under_way link.profile (sent_on link d feed as_what flit past) ≡ None → OpenAfter link d feed as_what flit past

known_new : (q : Profile) (u : Option Part) (given : Given) (l : List Place) → AreKnown l → AreKnown (places_with q u given l)
known_new q None given l known = known-push l (Place.known (next_packet q (pointer_of q l) (number_of l) (code_for given.due) (or_null given.front))) known refl
known_new q (Some part) given l known = subst AreKnown (sym (last-fed_known q part.sent given.feed l known)) known

known_sent : (q : Profile) (given : Given) (as_what : What) (flit : List ℕ) (T : List SenderEntry) → AreKnown (places q T) → AreKnown (places q (SenderEntry.sent given as_what flit ∷ T))
unfolding places
known_sent q given what.New flit T known = known_new q (unfinished T) given (places q T) known
known_sent q given what.Tret flit T known = known-push (places q T) (Place.known (next_packet q (pointer_of q (places q T)) (number_of (places q T)) (code_for given.due) tret_packet)) known refl
known_sent q given what.Again flit T known = known
known_sent q given what.Train flit T known = known
known_sent q given what.Clear flit T known = known
known_sent q given what.Start flit T known = known
known_sent q given what.Null flit T known = known
known_sent q given what.Pret flit T known = known

same_train : (q : Profile) (given : Given) (flit : List ℕ) (T : List SenderEntry) → under_way q (SenderEntry.sent given what.Train flit ∷ T) ≡ under_way q T
unfolding places unfinished last_begun
same_train q given flit T = refl

-- a flit more of an open place
whole_under : (q : Profile) (given : Given) (flit : List ℕ) (T : List SenderEntry) (o : IsOpen q T) → given.feed ≡ Whole flit → (suc (length o.part.sent) == o.part.flits) ≡ false
    → under_way q (SenderEntry.sent given what.New flit ∷ T) ≡ Some (record { part = record o.part { sent = o.part.sent ++ flit ∷ [] }; place = open_place o })
unfolding places unfinished last_begun
whole_under q given flit T o fed more =
    let l = places q T in
    let same_places : places_with q (unfinished T) given l ≡ l =
    ap (λ (u : Option Part). places_with q u given l) o.under ∙ ap (λ (f : Feed). with_last (place_fed q o.part.sent f) l) fed ∙ last-same (place_fed q o.part.sent (Whole flit)) l (fed-whole q o.part.sent flit) in
    let same_last : (if is_none (unfinished T) then suc (length l) else last_begun q T) ≡ last_begun q T = ap (λ (u : Option Part). if is_none u then suc (length l) else last_begun q T) o.under in
    let grown : part_after false flit (unfinished T) ≡ Some (record o.part { sent = o.part.sent ++ flit ∷ [] }) = ap (part_after false flit) o.under ∙ grown-later o.part flit more in
    (λ i. with_place (place_at (same_places i) (same_last i)) (grown i)) ∙ ap (λ (x : Place). with_place x (Some (record o.part { sent = o.part.sent ++ flit ∷ [] }))) (open-at q T o)

-- its last flit
last_under : (q : Profile) (given : Given) (flit : List ℕ) (T : List SenderEntry) (o : IsOpen q T) → (suc (length o.part.sent) == o.part.flits) ≡ true → under_way q (SenderEntry.sent given what.New flit ∷ T) ≡ None
unfolding places unfinished last_begun
last_under q given flit T o last =
    let grown : part_after false flit (unfinished T) ≡ None = ap (part_after false flit) o.under ∙ ap (λ (b : Bool). if b then None else Some (record o.part { sent = o.part.sent ++ flit ∷ [] })) last in
    ap (with_place (place_at (places_with q (unfinished T) given (places q T)) (if is_none (unfinished T) then suc (length (places q T)) else last_begun q T))) grown

new_by : (link : LinkFields) (d : Toward) (feed : Feed) (flit : List ℕ) (past : List LinkEntry) (o : IsOpen link.profile (sender_entries link d past)) (fed : Feed) → feed ≡ fed → (given_in link d past feed).feed ≡ feed
    → fed_flit link.profile o.numbers o.part.sent (given_in link d past feed).own.rrp fed ≡ Some flit → IsFedNext o.part o.head fed → OpenAfter link d feed what.New flit past
new_by link d feed flit past o Waiting is given_fed next fits = absurd cc
new_by link d feed flit past o (Whole whole) is given_fed next fits =
    let same : whole ≡ flit = same_flit whole flit next in
    let whole_is : feed ≡ Whole flit = is ∙ ap Whole same in
    Grows o.part o.head o.count o.numbers (under-open link.profile (sender_entries link d past) o) whole_is refl
    (whole_under link.profile (given_in link d past feed) flit (sender_entries link d past) o (given_fed ∙ whole_is) fits.0)
new_by link d feed flit past o (Last half slid errstat good) is given_fed next fits =
    Fills o.part o.head o.count o.numbers half slid errstat good (under-open link.profile (sender_entries link d past) o) is refl
    (last_under link.profile (given_in link d past feed) flit (sender_entries link d past) o fits.0)

given_feed : (link : LinkFields) (d : Toward) (feed : Feed) (past : List LinkEntry) → (given_in link d past feed).feed ≡ feed
unfolding given_after
given_feed link d feed past = refl

open_new : (link : LinkFields) (d : Toward) (feed : Feed) (flit : List ℕ) (past : List LinkEntry) → IsKept link (LinkEntry.sent d feed what.New flit ∷ past) → (o : IsOpen link.profile (sender_entries link d past)) → OpenAfter link d feed what.New flit past
open_new link d feed flit past kept o =
    let T = sender_entries link d past in
    let q = link.profile in
    let given = given_in link d past feed in
    let send = lawful-sent link past d feed what.New flit kept.lawful in
    let next = (under q link.retry T given flit what.New o.part send.chosen o.under (λ e. let clash : what.New ≡ what.Train = e in cc)).1 in
    let here : cases.next_flit q given.own.rrp feed (open_place o) o.part ≡ Some flit =
    ap (λ (f : Feed). cases.next_flit q given.own.rrp f (open_place o) o.part) (sym (given_feed link d feed past)) ∙ ap (λ (x : Place). cases.next_flit q given.own.rrp given.feed x o.part) (sym (open-at q T o)) ∙ next in
    let fits : IsFedNext o.part o.head feed = subst (λ (u : Option UnderWay). IsFed u feed) (under-open q T o) (sent-fed link d feed what.New flit past kept) in
    new_by link d feed flit past o feed refl (given_feed link d feed past) here fits

not_open : (link : LinkFields) (d : Toward) (feed : Feed) (as_what : What) (flit : List ℕ) (past : List LinkEntry) → IsKept link (LinkEntry.sent d feed as_what flit ∷ past) → IsOpen link.profile (sender_entries link d past) → is_new as_what ≡ false → as_what ≢ what.Train → ⊥
not_open link d feed as_what flit past kept o old other =
    let send = lawful-sent link past d feed as_what flit kept.lawful in
    only_new link.profile link.retry (sender_entries link d past) (given_in link d past feed) flit as_what send.chosen old other o

by_what : (link : LinkFields) (d : Toward) (feed : Feed) (as_what : What) (flit : List ℕ) (past : List LinkEntry) → IsKept link (LinkEntry.sent d feed as_what flit ∷ past) → IsOpen link.profile (sender_entries link d past) → OpenAfter link d feed as_what flit past
unfolding is_new
by_what link d feed what.New flit past kept o = open_new link d feed flit past kept o
by_what link d feed what.Train flit past kept o = SameUp (same_train link.profile (given_in link d past feed) flit (sender_entries link d past))
by_what link d feed what.Tret flit past kept o = absurd (not_open link d feed what.Tret flit past kept o refl (λ e. let clash : what.Tret ≡ what.Train = e in cc))
by_what link d feed what.Again flit past kept o = absurd (not_open link d feed what.Again flit past kept o refl (λ e. let clash : what.Again ≡ what.Train = e in cc))
by_what link d feed what.Clear flit past kept o = absurd (not_open link d feed what.Clear flit past kept o refl (λ e. let clash : what.Clear ≡ what.Train = e in cc))
by_what link d feed what.Start flit past kept o = absurd (not_open link d feed what.Start flit past kept o refl (λ e. let clash : what.Start ≡ what.Train = e in cc))
by_what link d feed what.Null flit past kept o = absurd (not_open link d feed what.Null flit past kept o refl (λ e. let clash : what.Null ≡ what.Train = e in cc))
by_what link d feed what.Pret flit past kept o = absurd (not_open link d feed what.Pret flit past kept o refl (λ e. let clash : what.Pret ≡ what.Train = e in cc))

pub open_sent : (link : LinkFields) (d : Toward) (feed : Feed) (as_what : What) (flit : List ℕ) (past : List LinkEntry) → IsKept link (LinkEntry.sent d feed as_what flit ∷ past) → OpenAfter link d feed as_what flit past
open_sent link d feed as_what flit past kept =
    elim (opened link d past (kept-before link (LinkEntry.sent d feed as_what flit) past kept)) [
      | inl known ↦ AllKnown known (known_sent link.profile (given_in link d past feed) as_what flit (sender_entries link d past) known)
      | inr o ↦ by_what link d feed as_what flit past kept o
    ]
