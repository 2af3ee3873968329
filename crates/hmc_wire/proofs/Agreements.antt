-- Flits that agree with the places of a sender's list agree with those of each list before it.
-- Used by Joins, which goes through a list from its end.
use Rattle.std.proofs.Common.{◌≡◌, ◌∙◌, ◌<◌, ◌≤◌, ◌-◌, ◌⊎◌, inl, inr, ℕ, zero, suc, Bool, true, false, List, [], ◌∷◌, ◌++◌, length, get_or, Option, Some, None, refl, sym, ap, subst, arith, length-append, append_assoc}
use Rattle.std.specs.Prelude.{nat_lt, is_none}
use Rattle.std.proofs.lemmas.Grind.{common_steps}
use Rattle.std.proofs.lemmas.List.{get_or_append_left}
use Rattle.std.proofs.lemmas.Bool.{eqb-true}
use Rattle.std.proofs.lemmas.Option.{same_Some}
use Rattle.hmc_codes.specs.declared.profile.Profile.{Profile}
use Rattle.hmc_packet.specs.declared.feed.Feed.{Feed}
use Rattle.hmc_packet.specs.declared.feed.Feed.TheVariants.{Waiting, Whole, Last}
use Rattle.hmc_packet.specs.declared.kind.Kind.TheVariants.{Start}
use Rattle.hmc_packet.specs.declared.outcome.Outcome.{Outcome}
use Rattle.hmc_packet.specs.declared.outcome.Outcome.TheVariants.{Ran}
use Rattle.hmc_packet.specs.declared.what.What.TheVariants as what
use Rattle.hmc_packet.specs.Packet.{PacketFields, flits_of, null_packet}
use Rattle.hmc_tokens.specs.Account.{code_for}
use Rattle.hmc_send.specs.declared.numbers.Numbers.{Numbers}
use Rattle.hmc_send.specs.Choice.{next_flit}
use Rattle.hmc_send.specs.Copies.{copy_of, place_fed}
use Rattle.hmc_send.specs.Entries as entries
use Rattle.hmc_send.specs.Entries.{Given, Part, SenderEntry, UnderWay, or_null, part_with, part_after, places_with, unfinished}
use Rattle.hmc_send.specs.Entries.SenderEntry.{sent, ran, acknowledged, through}
use Rattle.hmc_send.specs.IsSender.{IsFed}
use Rattle.hmc_send.specs.Kept.{IsFedNext}
use Rattle.hmc_send.specs.LinkLines.{StampedFlit}
use Rattle.hmc_send.specs.LinkSenders.{run_entries, acknowledgement}
use Rattle.hmc_send.specs.Places.{Place, place_at, pointer_of, number_of, numbers_after, next_packet, tret_packet, with_last}
use Rattle.hmc_send.proofs.Lists.{place-push, last-push, last-same, fed-whole}
use Rattle.hmc_wire.specs.Conditions.{IsFeed, AreFed}
use Rattle.hmc_wire.proofs.SenderLists.{Chosen}
use Rattle.hmc_wire.proofs.OpenPlaces.{AreKnown, IsOpen, open_place, open-at, under-open, grown-later, under, is_new, only_new}
use Rattle.hmc_wire.proofs.NumberedPlaces.{fed-numbers}
use Rattle.hmc_wire.proofs.Spelled.{Sent}
use Rattle.hmc_wire.proofs.PacketGrammar.{grammar}
use Rattle.hmc_wire.proofs.Places.{packet_of, AllFit, Weighs, AgreesAt, Agrees, AgreesWith}
use Rattle.hmc_wire.proofs.Parts.{new-same}
use Rattle.hmc_wire.proofs.Filled.{Completed, completed-last}
use Rattle.hmc_wire.proofs.Choices.{fit-last, open-fit}

-- where each place has its packet, what is under way doesn't matter

known-none : (l : List Place) (n : ℕ) → n < length l → AreKnown l → packet_of (get_or l n (Place.known null_packet)) ≡ None → ⊥
known-none [] n lt known none = omega arith
known-none (x ∷ l) zero lt known none = let clash : true ≡ false = ap is_none (sym none) ∙ known.0 in cc
known-none (x ∷ l) (suc n) lt known none = known-none l n (omega arith) known.1 none

agrees-known : (q : Profile) (s : Sent (grammar q)) (l : List Place) (u v : Option Part) → AreKnown l → Agrees q s l u → Agrees q s l v
agrees-known q s l u v known agree n some le =
    let a = agree n some le in
    record { packet = a.packet; front = a.front; weighs = a.weighs; sent = λ none. absurd (known-none l (n - 1) (omega arith) known none) }

at-front : (l : List Place) (x : Place) (n : ℕ) → 1 ≤ n → n ≤ length l → place_at (l ++ x ∷ []) n ≡ place_at l n
at-front l x n some le = get_or_append_left l (x ∷ []) (Place.known null_packet) (n - 1) (omega arith)

agrees-front : (q : Profile) (s : Sent (grammar q)) (l : List Place) (x : Place) (u v : Option Part) → AreKnown l → Agrees q s (l ++ x ∷ []) u → Agrees q s l v
agrees-front q s l x u v known agree n some le =
    let len = length-append l (x ∷ []) in
    let a = subst (λ (y : Place). AgreesAt q s n y u) (at-front l x n some le) (agree n some (omega arith)) in
    record { packet = a.packet; front = a.front; weighs = a.weighs; sent = λ none. absurd (known-none l (n - 1) (omega arith) known none) }

agrees-new : (q : Profile) (s : Sent (grammar q)) (given : Given) (l : List Place) (u w : Option Part) → AreKnown l → Agrees q s (places_with q u given l) w → Agrees q s l u
agrees-new q s given l None w known agree =
    agrees-front q s l (Place.known (next_packet q (pointer_of q l) (number_of l) (code_for given.due) (or_null given.front))) w None known agree
agrees-new q s given l (Some part) w known agree =
    agrees-known q s l w (Some part) known (subst (λ (j : List Place). Agrees q s j w) (new-same q given l (Some part) part refl known) agree)

-- an open place, before the last flit

agrees-whole : (q : Profile) (s : Sent (grammar q)) (l : List Place) (part : Part) (flit : List ℕ) → Agrees q s l (Some (record part { sent = part.sent ++ flit ∷ [] })) → Agrees q s l (Some part)
agrees-whole q s l part flit agree n some le =
    let a = agree n some le in
    record {
      packet = a.packet;
      front = a.front;
      weighs = a.weighs;
      sent = λ none p is k lt.
          let same : part ≡ p = same_Some part p is in
          let below : k < length part.sent = subst (λ (r : Part). k < length r.sent) (sym same) lt in
          let len = length-append part.sent (flit ∷ []) in
          a.sent none (record part { sent = part.sent ++ flit ∷ [] }) refl k (omega arith) ∙ get_or_append_left part.sent (flit ∷ []) [] k below ∙ ap (λ (r : Part). get_or r.sent k []) same;
    }

-- and with it

split : (n m : ℕ) (b : Bool) → nat_lt n m ≡ b → n ≤ m → (n < m) ⊎ (n ≡ m)
split n m true e le = inl (grind (arith, common_steps))
split n m false e le = inr (let h : m ≤ n = grind (arith, common_steps) in omega arith)

agrees-last : (q : Profile) (s : Sent (grammar q)) (before : List Place) (x : Place) (part : Part) (feed : Feed) (p : PacketFields) (w : Option Part) → AreKnown before → packet_of x ≡ None → Completed q x part feed p → Weighs x p →
    length part.sent < flits_of p → Agrees q s (before ++ place_fed q part.sent feed x ∷ []) w → suc (length part.sent) ≡ flits_of p → Agrees q s (before ++ x ∷ []) (Some part)
agrees-last q s before x part feed p w known none completed weighs more agree whole n some le =
    let y = place_fed q part.sent feed x in
    let len = length-append before (x ∷ []) in
    let len_fed = length-append before (y ∷ []) in
    elim (split n (suc (length before)) (nat_lt n (suc (length before))) refl (omega arith)) [
      | inl lt ↦
          let a = subst (λ (z : Place). AgreesAt q s n z w) (at-front before y n some (omega arith)) (agree n some (omega arith)) in
          subst (λ (z : Place). AgreesAt q s n z (Some part)) (sym (at-front before x n some (omega arith)))
          (record { packet = a.packet; front = a.front; weighs = a.weighs; sent = λ nothing. absurd (known-none before (n - 1) (omega arith) known nothing) })
      | inr e ↦
          let a = subst (λ (z : Place). AgreesAt q s n z w) (ap (place_at (before ++ y ∷ [])) e ∙ place-push before y) (agree n some (omega arith)) in
          subst (λ (z : Place). AgreesAt q s n z (Some part)) (sym (ap (place_at (before ++ x ∷ [])) e ∙ place-push before x))
          (record {
            packet = λ r is. absurd (let clash : None ≡ Some r = sym none ∙ is in cc);
            front = λ r is. absurd (let clash : None ≡ Some r = sym none ∙ is in cc);
            weighs = λ nothing. subst (Weighs x) (sym (a.packet p completed.fits.known)) weighs;
            sent = λ nothing r is k lt.
                let same : part ≡ r = same_Some part r is in
                let below : k < length part.sent = subst (λ (t : Part). k < length t.sent) (sym same) lt in
                a.front p completed.fits.known k (omega arith) ∙ completed.front k below ∙ ap (λ (t : Part). get_or t.sent k []) same;
          })
    ]

-- what a sender's entries before give
pub record Before (q : Profile) (t : List SenderEntry) : Type 0 where
  pub places : AreKnown (entries.places q t) ⊎ IsOpen q t
  pub fit : AllFit q (entries.places q t)

agrees-open : (q : Profile) (s : Sent (grammar q)) (t : List SenderEntry) (given : Given) (flit : List ℕ) (o : IsOpen q t) (feed : Feed) → given.feed ≡ feed → Before q t → IsFedNext o.part o.head feed → IsFeed feed →
    next_flit q given.own.rrp feed (open_place o) o.part ≡ Some flit → Agrees q s (places_with q (Some o.part) given (entries.places q t)) (part_with o.part flit) → Agrees q s (entries.places q t) (Some o.part)
agrees-open q s t given flit o Waiting fed b fits is next agree = absurd (let clash : None ≡ Some flit = next in cc)
agrees-open q s t given flit o (Whole whole) fed b fits is next agree =
    let l = entries.places q t in
    let same : places_with q (Some o.part) given l ≡ l =
    ap (λ (f : Feed). with_last (place_fed q o.part.sent f) l) fed ∙ last-same (place_fed q o.part.sent (Whole whole)) l (fed-whole q o.part.sent whole) in
    agrees-whole q s l o.part flit (subst (λ (u : Option Part). Agrees q s l u) (grown-later o.part flit fits.0) (subst (λ (j : List Place). Agrees q s j (part_with o.part flit)) same agree))
agrees-open q s t given flit o (Last half slid errstat good) fed b fits is next agree =
    let l = entries.places q t in
    let feed : Feed = Last half slid errstat good in
    let x = open_place o in
    let f : Place → Place = place_fed q o.part.sent feed in
    let place = open-fit q x refl (fit-last q o.before x (subst (AllFit q) o.places b.fit)) in
    let copy = copy_of q o.part.sent half slid errstat good o.numbers in
    let completed = completed-last q x o.part half slid errstat good place o.whole_flits o.flits fits.0 is.long is.bytes fits.1 in
    let last = eqb-true (suc (length o.part.sent)) o.part.flits fits.0 in
    let same = o.flits in
    let size : flits_of copy ≡ o.count = completed.fits.flits ∙ ap (λ w. w.flits) completed.weighs in
    let weighs : Weighs x copy = record {
      flits = λ some. size;
      token = completed.fits.token ∙ ap (λ w. w.token) completed.weighs;
      rtc = ap (λ (n : Numbers). n.rtc) (fed-numbers q o.part.sent feed x);
    } in
    let whole : places_with q (Some o.part) given l ≡ o.before ++ f x ∷ [] =
    ap (λ (g : Feed). with_last (place_fed q o.part.sent g) l) fed ∙ ap (with_last f) o.places ∙ last-push f o.before x in
    subst (λ (j : List Place). Agrees q s j (Some o.part)) (sym o.places)
    (agrees-last q s o.before x o.part feed copy (part_with o.part flit) o.known refl completed weighs (omega arith) (subst (λ (j : List Place). Agrees q s j (part_with o.part flit)) whole agree) (omega arith))

-- one entry of a sender before

pub agrees-turn : (q : Profile) (s : Sent (grammar q)) (retry : ℕ) (u : SenderEntry) (t : List SenderEntry) → Chosen q retry (u ∷ t) → AreFed q (u ∷ t) → Before q t → AgreesWith q s (u ∷ t) → AgreesWith q s t
unfolding Chosen AreFed entries.places unfinished is_new
agrees-turn q s retry (sent given what.New flit) t chosen fed b agree =
    elim b.places [
      | inl known ↦ agrees-new q s given (entries.places q t) (unfinished t) (part_after false flit (unfinished t)) known agree
      | inr o ↦
          let next = (under q retry t given flit what.New o.part chosen.0 o.under (λ e. let clash : what.New ≡ what.Train = e in cc)).1 in
          let fits : IsFedNext o.part o.head given.feed = subst (λ (u : Option UnderWay). IsFed u given.feed) (under-open q t o) fed.0 in
          subst (λ (u : Option Part). Agrees q s (entries.places q t) u) (sym o.under)
          (agrees-open q s t given flit o given.feed refl b fits fed.1
          (ap (λ (x : Place). next_flit q given.own.rrp given.feed x o.part) (sym (open-at q t o)) ∙ next)
          (subst (λ (u : Option Part). Agrees q s (places_with q u given (entries.places q t)) (part_after false flit u)) o.under agree))
    ]
agrees-turn q s retry (sent given what.Tret flit) t chosen fed b agree =
    let l = entries.places q t in
    elim b.places [
      | inl known ↦ agrees-front q s l (Place.known (next_packet q (pointer_of q l) (number_of l) (code_for given.due) tret_packet)) (unfinished t) (unfinished t) known agree
      | inr o ↦ absurd (only_new q retry t given flit what.Tret chosen.0 refl (λ e. let clash : what.Tret ≡ what.Train = e in cc) o)
    ]
agrees-turn q s retry (sent given what.Again flit) t chosen fed b agree =
    elim b.places [
      | inl known ↦ agrees-known q s (entries.places q t) (part_after true flit (unfinished t)) (unfinished t) known agree
      | inr o ↦ absurd (only_new q retry t given flit what.Again chosen.0 refl (λ e. let clash : what.Again ≡ what.Train = e in cc) o)
    ]
agrees-turn q s retry (through head flits due) t chosen fed b agree =
    let l = entries.places q t in
    elim b.places [
      | inl known ↦
          agrees-front q s l (Place.awaited head flits (numbers_after q (pointer_of q l) (number_of l) flits (code_for due))) (Some (record { again = false; flits = flits; sent = [] })) (unfinished t) known agree
      | inr o ↦ absurd (let clash : None ≡ Some o.part = sym chosen.0 ∙ o.under in cc)
    ]
agrees-turn q s retry (sent given what.Train flit) t chosen fed b agree = agree
agrees-turn q s retry (sent given what.Clear flit) t chosen fed b agree = agree
agrees-turn q s retry (sent given what.Start flit) t chosen fed b agree = agree
agrees-turn q s retry (sent given what.Pret flit) t chosen fed b agree = agree
agrees-turn q s retry (sent given what.Null flit) t chosen fed b agree = agree
agrees-turn q s retry ran t chosen fed b agree = agree
agrees-turn q s retry (acknowledged n) t chosen fed b agree = agree

-- the entries of a landing

ran-agrees : (q : Profile) (s : Sent (grammar q)) (o : Outcome) (t : List SenderEntry) → AgreesWith q s (run_entries o ++ t) → AgreesWith q s t
unfolding entries.places unfinished
ran-agrees q s (Ran Start) t agree = agree
ran-agrees q s _ t agree = agree

acknowledged-agrees : (q : Profile) (s : Sent (grammar q)) (rrp : Option ℕ) (front : Option StampedFlit) (t : List SenderEntry) → AgreesWith q s (acknowledgement rrp front ++ t) → AgreesWith q s t
unfolding entries.places unfinished
acknowledged-agrees q s (Some rrp) (Some front) t agree = agree
acknowledged-agrees q s (Some rrp) None t agree = agree
acknowledged-agrees q s None front t agree = agree

pub landed-agrees : (q : Profile) (s : Sent (grammar q)) (o : Outcome) (rrp : Option ℕ) (front : Option StampedFlit) (t : List SenderEntry) → AgreesWith q s ((run_entries o ++ acknowledgement rrp front) ++ t) → AgreesWith q s t
landed-agrees q s o rrp front t agree =
    acknowledged-agrees q s rrp front t (ran-agrees q s o (acknowledgement rrp front ++ t) (subst (AgreesWith q s) (append_assoc (run_entries o) (acknowledgement rrp front) t) agree))

ran-fed : (q : Profile) (o : Outcome) (t : List SenderEntry) → AreFed q (run_entries o ++ t) → AreFed q t
unfolding AreFed
ran-fed q (Ran Start) t fed = fed
ran-fed q _ t fed = fed

acknowledged-fed : (q : Profile) (rrp : Option ℕ) (front : Option StampedFlit) (t : List SenderEntry) → AreFed q (acknowledgement rrp front ++ t) → AreFed q t
unfolding AreFed
acknowledged-fed q (Some rrp) (Some front) t fed = fed
acknowledged-fed q (Some rrp) None t fed = fed
acknowledged-fed q None front t fed = fed

pub landed-fed : (q : Profile) (o : Outcome) (rrp : Option ℕ) (front : Option StampedFlit) (t : List SenderEntry) → AreFed q ((run_entries o ++ acknowledgement rrp front) ++ t) → AreFed q t
landed-fed q o rrp front t fed =
    acknowledged-fed q rrp front t (ran-fed q o (acknowledgement rrp front ++ t) (subst (AreFed q) (append_assoc (run_entries o) (acknowledgement rrp front) t) fed))

pub fed-turn : (q : Profile) (u : SenderEntry) (t : List SenderEntry) → AreFed q (u ∷ t) → AreFed q t
unfolding AreFed
fed-turn q (sent given w flit) t fed = fed.2
fed-turn q ran t fed = fed
fed-turn q (acknowledged n) t fed = fed
fed-turn q (through head flits due) t fed = fed.1
