-- What a send adds to the pieces of a wire.
use Rattle.std.proofs.Common.{◌≡◌, ◌≢◌, ◌∙◌, ◌≤◌, ◌<◌, ◌-◌, ◌⊎◌, ℕ, zero, suc, Bool, true, false, List, [], ◌∷◌, ◌++◌, length, take, get_or, Option, Some, None, inl, inr, refl, sym, ap, subst, arith}
use Rattle.std.specs.Prelude.{◌==◌, is_none, slice_get, if◌then◌else◌}
use Rattle.std.proofs.lemmas.Bool.{eq-eqb}
use Rattle.std.proofs.lemmas.List.{ext_get_or, get_or-take, length-take}
use Rattle.std.proofs.lemmas.Option.{same_Some}
use Rattle.hmc_codes.specs.declared.profile.Profile.{Profile}
use Rattle.hmc_packet.specs.declared.feed.Feed.{Feed}
use Rattle.hmc_packet.specs.declared.feed.Feed.TheVariants.{Waiting, Whole, Last}
use Rattle.hmc_packet.specs.declared.kind.Kind.{Kind}
use Rattle.hmc_packet.specs.declared.kind.Kind.TheVariants as kinds
use Rattle.hmc_packet.specs.declared.what.What.{What}
use Rattle.hmc_packet.specs.declared.what.What.TheVariants.{Train, Clear, Start, Pret, Tret, New, Again}
use Rattle.hmc_packet.specs.declared.what.What.TheVariants.{Null as NullFlit}
use Rattle.hmc_packet.specs.Packet.{PacketFields, flits_of, null_packet}
use Rattle.hmc_packet.specs.Parts.{lng_of}
use Rattle.hmc_packet.specs.Spelling.{spelling}
use Rattle.hmc_packet.proofs.LinkLemmas.{length-spelling}
use Rattle.hmc_tokens.specs.Account.{code_for}
use Rattle.hmc_send.specs.declared.sent.Sent.{Sent}
use Rattle.hmc_send.specs.declared.sent.Sent.TheVariants.{Out}
use Rattle.hmc_send.specs.Choice.{SendView, view_after, choice, part_what, what_of, next_flit, next_of_view}
use Rattle.hmc_send.specs.Copies.{place_fed, copy_of}
use Rattle.hmc_send.specs.Entries.{SenderEntry, Given, Part, UnderWay, part_after, with_place, places_with, with_packet, or_null, unfinished, places, last_begun, position, under_way}
use Rattle.hmc_send.specs.Entries.SenderEntry.{sent}
use Rattle.hmc_send.specs.IsSender.{IsFed}
use Rattle.hmc_send.specs.Kept.{IsFedNext}
use Rattle.hmc_send.specs.Places.{Place, flits_at, pointer_of, number_of, next_packet, tret_packet, place_at, packet_in, flit_of, with_last}
use Rattle.hmc_send.proofs.Cases.{Case, case_of}
use Rattle.hmc_send.proofs.Cases.Case.{trains, goes_on, starves, steers, repeats, begins, returns, points, idles}
use Rattle.hmc_send.proofs.Lists.{get-push, length-push, last-push, last-same, fed-whole}
use Rattle.hmc_numbers.specs.Weights.{Weight}
use Rattle.hmc_wire.specs.Conditions.{AreFed, IsFeed}
use Rattle.hmc_wire.proofs.Choices.{fit-last, open-fit}
use Rattle.hmc_wire.proofs.Filled.{completed-last}
use Rattle.hmc_wire.proofs.Marks.{first-lng}
use Rattle.hmc_wire.proofs.OpenPlaces.{AreKnown, IsOpen, open_place, open-place, open-at, under-open, under, is_new, only_new}
use Rattle.hmc_wire.proofs.Parts.{PartsFit, known-at}
use Rattle.hmc_wire.proofs.Places.{packet_of, AllFit}
use Rattle.hmc_wire.proofs.SenderLists.{Chosen, carries, what_is, carries-part, carries-irtry, none-under}
use Rattle.hmc_link_laws.specs.Wire.{Piece, with_flit, pieces, alone_flit, AreWhole, ArePieces}
use Rattle.hmc_link_laws.proofs.Pieces.{Keeps, keeps-same, keeps-push, keeps-last, whole-keeps, at-known, begun, Next, Next as next, stepped}

flit-is : (f g : List ℕ) (v w : What) → Out f v ≡ Out g w → f ≡ g
flit-is f g v w is = cc

-- ---- a flit that is of no packet

alone-irtry : (q : Profile) (s : SendView) (kind : Kind) (f flit : List ℕ) (w : What) → f ≡ alone_flit q (what_of kind) s.given.own.rrp → Out f (what_of kind) ≡ Out flit w → flit ≡ alone_flit q w s.given.own.rrp
alone-irtry q s kind f flit w is same = sym (flit-is f flit (what_of kind) w same) ∙ is ∙ ap (λ (v : What). alone_flit q v s.given.own.rrp) (what_is f flit (what_of kind) w same)

pub record IsAlone (q : Profile) (s : SendView) (flit : List ℕ) (w : What) : Type 0 where
  pub calm : w ≢ Train → s.under_way ≡ None
  pub flit_is : flit ≡ alone_flit q w s.given.own.rrp

carried : {X : Type 0} (f flit : List ℕ) (v w : What) → Out f v ≡ Out flit w → carries v ≡ true → carries w ≡ false → X
carried f flit v w is carry none = let clash : true ≡ false = sym carry ∙ ap carries (what_is f flit v w is) ∙ none in absurd cc

alone-by : (q : Profile) (s : SendView) (x : Sent) → Case q s x → (flit : List ℕ) (w : What) → x ≡ Out flit w → carries w ≡ false → IsAlone q s flit w
alone-by q s x (trains t) flit w is none = record {
  calm = λ other. absurd (other (sym (what_is _ flit Train w is)));
  flit_is = sym (flit-is _ flit Train w is) ∙ ap (λ (v : What). alone_flit q v s.given.own.rrp) (what_is _ flit Train w is);
}
alone-by q s x (goes_on t b some f next) flit w is none = carried f flit (part_what b.part) w is (carries-part b.part) none
alone-by q s x (starves t b some next) flit w is none = absurd cc
alone-by q s x (steers t nothing kinds.Clear due) flit w is none = record { calm = λ other. nothing; flit_is = alone-irtry q s kinds.Clear _ flit w refl is }
alone-by q s x (steers t nothing kinds.Start due) flit w is none = record { calm = λ other. nothing; flit_is = alone-irtry q s kinds.Start _ flit w refl is }
alone-by q s x (repeats b place again) flit w is none = carried _ flit Again w is refl none
alone-by q s x (begins f can) flit w is none = carried _ flit New w is refl none
alone-by q s x (returns f opened due) flit w is none = carried _ flit Tret w is refl none
alone-by q s x (points f other_rrp) flit w is none = record {
  calm = λ other. f.between.nothing;
  flit_is = sym (flit-is _ flit Pret w is) ∙ ap (λ (v : What). alone_flit q v s.given.own.rrp) (what_is _ flit Pret w is);
}
alone-by q s x (idles f same_rrp) flit w is none = record {
  calm = λ other. f.between.nothing;
  flit_is = sym (flit-is _ flit NullFlit w is) ∙ ap (λ (v : What). alone_flit q v s.given.own.rrp) (what_is _ flit NullFlit w is);
}

alone-step : (q : Profile) (l : List Place) (u : Option Part) (last later : ℕ) (w : What) (rrp : ℕ) (flit : List ℕ) (ps : List Piece) → u ≡ None → flit ≡ alone_flit q w rrp → ArePieces q l u last ps → ArePieces q l u later (Piece.alone w rrp flit ∷ ps)
alone-step q l u last later w rrp flit ps none is are =
    let whole = subst (λ (o : Option Part). ArePieces q l o last ps) none are in
    subst (λ (o : Option Part). ArePieces q l o later (Piece.alone w rrp flit ∷ ps)) (sym none) (is, whole)

-- ---- what is known of a sender

pub record Facts (q : Profile) (retry : ℕ) (t : List SenderEntry) : Type 0 where
  pub chosen : Chosen q retry t
  pub fed : AreFed q t
  pub fit : AllFit q (places q t)
  pub parts : PartsFit q t
  pub last : last_begun q t ≤ length (places q t)

known-of : (x : Place) (p : PacketFields) → packet_of x ≡ Some p → x ≡ Place.known p
known-of (Place.known packet) p is = let same : packet ≡ p = cc in ap Place.known same
known-of (Place.awaited head flits numbers) p is = absurd (let clash : None ≡ Some p = is in cc)

-- ---- a packet goes on

-- its place has its packet, and so has each place
goes-known : (q : Profile) (l m : List Place) (part : Part) (last rrp : ℕ) (feed : Feed) (flit : List ℕ) → AreKnown l → AllFit q l → Keeps l m → 1 ≤ last → last ≤ length l → part.flits ≡ flits_at (place_at l last) → length part.sent < part.flits →
    next_flit q rrp feed (place_at l last) part ≡ Some flit → Next q l m part last rrp flit
goes-known q l m part last rrp feed flit known fit keeps some few count more is =
    let h = known-at q l (last - 1) (omega arith) known fit in
    let at : get_or l (last - 1) (Place.known null_packet) ≡ Place.known h.packet = known-of _ h.packet h.fits.known in
    let here = at-known q l (last - 1) h.packet (omega arith) fit at in
    let inside : last - 1 < length m = let k = keeps.few in omega arith in
    next.goes h.packet at
    (record { begun = inside; at = keeps.same (last - 1) h.packet here.begun at; packet = here.packet; sequenced = here.sequenced })
    (count ∙ ap flits_at at) more
    (same_Some _ _ (sym is ∙ ap (λ (x : Place). next_flit q rrp feed x part) at))

-- the spelling of the copy begins with what was sent
front-of-copy : (q : Profile) (p : PacketFields) (fs : List (List ℕ)) → length fs ≤ length (spelling q p 0) → ((k : ℕ) → k < length fs → flit_of q p 0 k ≡ get_or fs k []) → fs ≡ take (length fs) (spelling q p 0)
unfolding flit_of
front-of-copy q p fs few same =
    let size = length-take (length fs) (spelling q p 0) in
    ext_get_or [] fs (take (length fs) (spelling q p 0)) (omega arith) (λ k lt. sym (same k lt) ∙ sym (get_or-take (length fs) (spelling q p 0) k [] lt))

goes-open : (q : Profile) (t : List SenderEntry) (o : IsOpen q t) (rrp : ℕ) (feed : Feed) (flit : List ℕ) → AllFit q (places q t) → next_flit q rrp feed (open_place o) o.part ≡ Some flit → IsFedNext o.part o.head feed → IsFeed feed → AllFit q (with_last (place_fed q o.part.sent feed) (places q t)) → length o.part.sent < o.part.flits →
    Next q (places q t) (with_last (place_fed q o.part.sent feed) (places q t)) o.part (last_begun q t) rrp flit
goes-open q t o rrp Waiting flit fit is fits feed after more = absurd cc
goes-open q t o rrp (Whole whole) flit fit is fits feed after more =
    next.waits (λ p at. let clash : open_place o ≡ Place.known p = sym (open-at q t o) ∙ ap (λ (l : List Place). place_at l (last_begun q t)) (sym (last-same (place_fed q o.part.sent (Whole whole)) (places q t) (fed-whole q o.part.sent whole))) ∙ at in cc) fits.0
goes-open q t o rrp (Last half slid errstat good) flit fit is fits feed after more =
    let x : Place = open_place o in
    let f : Place → Place = place_fed q o.part.sent (Last half slid errstat good) in
    let p = copy_of q o.part.sent half slid errstat good o.numbers in
    let open_all = subst (AllFit q) o.places fit in
    let completed = completed-last q x o.part half slid errstat good (open-fit q x refl (fit-last q o.before x open_all)) o.whole_flits o.flits fits.0 feed.long feed.bytes fits.1 in
    let filled : with_last f (places q t) ≡ o.before ++ Place.known p ∷ [] = ap (with_last f) o.places ∙ last-push f o.before x in
    let index : last_begun q t - 1 ≡ length o.before = less (last_begun q t) (length o.before) (o.last ∙ ap (λ (l : List Place). length l) o.places ∙ length-push o.before x) in
    let at : get_or (with_last f (places q t)) (last_begun q t - 1) (Place.known null_packet) ≡ Place.known p = (λ i. get_or (filled i) (index i) (Place.known null_packet)) ∙ get-push o.before (Place.known p) (Place.known null_packet) in
    let inside : last_begun q t - 1 < length (with_last f (places q t)) = within (last_begun q t - 1) (length o.before) _ index (ap (λ (l : List Place). length l) filled ∙ length-push o.before (Place.known p)) in
    let size = length-spelling q p 0 completed.fits.packet in
    let count : o.part.flits ≡ flits_of p = o.flits ∙ sym (ap (λ (w : Weight). w.flits) completed.weighs) in
    next.fills p (at-known q _ (last_begun q t - 1) p inside after at) count more
    (front-of-copy q p o.part.sent (omega arith) completed.front) (sym (same_Some _ _ is))
  where
    less : (a b : ℕ) → a ≡ suc b → a - 1 ≡ b
    less a b is = omega arith

    within : (a b c : ℕ) → a ≡ b → c ≡ suc b → a < c
    within a b c is size = omega arith

-- ---- a packet begins

some-none : {X : Type 0} (u : Option UnderWay) (b : UnderWay) → u ≡ None → u ≡ Some b → X
some-none u b none some = absurd (let clash : None ≡ Some b = sym none ∙ some in cc)

irtry-none : {X : Type 0} (kind : Kind) (f flit : List ℕ) (w : What) → Out f (what_of kind) ≡ Out flit w → carries w ≡ true → X
irtry-none kind f flit w is carry = let clash : false ≡ true = sym (carries-irtry kind) ∙ ap carries (what_is f flit (what_of kind) w is) ∙ carry in absurd cc

other-what : {X : Type 0} (f flit : List ℕ) (v w : What) → Out f v ≡ Out flit w → (v ≡ w → ⊥) → X
other-what f flit v w is never = absurd (never (what_is f flit v w is))

new-flit : (q : Profile) (s : SendView) (x : Sent) → Case q s x → (flit : List ℕ) → x ≡ Out flit New → s.under_way ≡ None → flit ≡ flit_of q (next_of_view q s (or_null s.given.front)) s.given.own.rrp 0
new-flit q s x (trains t) flit is none = other-what _ flit Train New is (λ e. cc e)
new-flit q s x (goes_on t b some f next) flit is none = some-none s.under_way b none some
new-flit q s x (starves t b some next) flit is none = absurd cc
new-flit q s x (steers t nothing kind due) flit is none = irtry-none kind _ flit New is refl
new-flit q s x (repeats b place again) flit is none = other-what _ flit Again New is (λ e. cc e)
new-flit q s x (begins f can) flit is none = sym (flit-is _ flit New New is)
new-flit q s x (returns f opened due) flit is none = other-what _ flit Tret New is (λ e. cc e)
new-flit q s x (points f other_rrp) flit is none = other-what _ flit Pret New is (λ e. cc e)
new-flit q s x (idles f same_rrp) flit is none = other-what _ flit NullFlit New is (λ e. cc e)

record IsTret (q : Profile) (s : SendView) (flit : List ℕ) : Type 0 where
  nothing : s.under_way ≡ None
  flit_is : flit ≡ flit_of q (next_of_view q s tret_packet) s.given.own.rrp 0

tret-flit : (q : Profile) (s : SendView) (x : Sent) → Case q s x → (flit : List ℕ) → x ≡ Out flit Tret → IsTret q s flit
tret-flit q s x (trains t) flit is = other-what _ flit Train Tret is (λ e. cc e)
tret-flit q s x (goes_on t b some f next) flit is = by-again b.part.again (what_is f flit (part_what b.part) Tret is)
  where
    by-again : (again : Bool) → (if again then Again else New) ≡ Tret → IsTret q s flit
    by-again true e = absurd (cc e)
    by-again false e = absurd (cc e)
tret-flit q s x (starves t b some next) flit is = absurd cc
tret-flit q s x (steers t nothing kind due) flit is = irtry-none kind _ flit Tret is refl
tret-flit q s x (repeats b place again) flit is = other-what _ flit Again Tret is (λ e. cc e)
tret-flit q s x (begins f can) flit is = other-what _ flit New Tret is (λ e. cc e)
tret-flit q s x (returns f opened due) flit is = record { nothing = f.between.nothing; flit_is = sym (flit-is _ flit Tret Tret is) }
tret-flit q s x (points f other_rrp) flit is = other-what _ flit Pret Tret is (λ e. cc e)
tret-flit q s x (idles f same_rrp) flit is = other-what _ flit NullFlit Tret is (λ e. cc e)

record IsAgain (q : Profile) (s : SendView) (flit : List ℕ) : Type 0 where
  place : Place
  there : s.again ≡ Some place
  flit_is : flit ≡ flit_of q (packet_in place) s.given.own.rrp 0

again-flit : (q : Profile) (s : SendView) (x : Sent) → Case q s x → (flit : List ℕ) → x ≡ Out flit Again → s.under_way ≡ None → IsAgain q s flit
again-flit q s x (trains t) flit is none = other-what _ flit Train Again is (λ e. cc e)
again-flit q s x (goes_on t b some f next) flit is none = some-none s.under_way b none some
again-flit q s x (starves t b some next) flit is none = absurd cc
again-flit q s x (steers t nothing kind due) flit is none = irtry-none kind _ flit Again is refl
again-flit q s x (repeats b place again) flit is none = record { place = place; there = again; flit_is = sym (flit-is _ flit Again Again is) }
again-flit q s x (begins f can) flit is none = other-what _ flit New Again is (λ e. cc e)
again-flit q s x (returns f opened due) flit is none = other-what _ flit Tret Again is (λ e. cc e)
again-flit q s x (points f other_rrp) flit is none = other-what _ flit Pret Again is (λ e. cc e)
again-flit q s x (idles f same_rrp) flit is none = other-what _ flit NullFlit Again is (λ e. cc e)

-- ---- a new packet

pushed : (q : Profile) (l : List Place) (p : PacketFields) (rrp : ℕ) (flit : List ℕ) (ps : List Piece) → AllFit q (l ++ Place.known p ∷ []) → flit ≡ flit_of q p rrp 0 → AreWhole q l ps →
    ArePieces q (l ++ Place.known p ∷ []) (part_after false flit None) (suc (length l)) (with_flit None (length l) rrp flit ps)
pushed q l p rrp flit ps fit is all =
    let m = l ++ Place.known p ∷ [] in
    let size = length-push l (Place.known p) in
    let inside : length l < length m = omega arith in
    begun q m p rrp (suc (length l)) false flit _ ps (at-known q m (length l) p inside fit (get-push l (Place.known p) (Place.known null_packet))) refl refl refl is (whole-keeps q l m ps (keeps-push l (Place.known p)) all)

-- nothing is under way where no packet is unfinished
nothing-under : (q : Profile) (t : List SenderEntry) → unfinished t ≡ None → under_way q t ≡ None
nothing-under q t none = ap (with_place (place_at (places q t) (last_begun q t))) none

new-step : (q : Profile) (retry : ℕ) (t : List SenderEntry) (given : Given) (flit : List ℕ) (u : Option Part) → unfinished t ≡ u → Facts q retry t → AllFit q (places_with q u given (places q t)) → choice q (view_after q retry t given) ≡ Out flit New → IsFed (under_way q t) given.feed → IsFeed given.feed →
    ArePieces q (places q t) u (last_begun q t) (pieces q t) →
    ArePieces q (places_with q u given (places q t)) (part_after false flit u) (if is_none u then suc (length (places q t)) else last_begun q t) (with_flit u (length (places q t)) given.own.rrp flit (pieces q t))
unfolding view_after
new-step q retry t given flit None none facts fit chosen fed feed are =
    let s = view_after q retry t given in
    let l = places q t in
    let is = new-flit q s (choice q s) (case_of q s) flit chosen (nothing-under q t none) in
    pushed q l (next_packet q (pointer_of q l) (number_of l) (code_for given.due) (or_null given.front)) given.own.rrp flit (pieces q t) fit is are
new-step q retry t given flit (Some part) some facts fit chosen fed feed are =
    let l = places q t in
    let last = last_begun q t in
    let goes = under q retry t given flit New part chosen some (λ e. cc e) in
    let keeps = keeps-last (place_fed q part.sent given.feed) l (λ p. refl) in
    let is = facts.parts part some in
    stepped q l (with_last (place_fed q part.sent given.feed) l) part last (length l) given.own.rrp flit (pieces q t) are keeps (by-place (open-place q retry t facts.chosen facts.fed) keeps goes.1)
  where
    by-place : AreKnown (places q t) ⊎ IsOpen q t → Keeps (places q t) (with_last (place_fed q part.sent given.feed) (places q t)) → next_flit q given.own.rrp given.feed (place_at (places q t) (last_begun q t)) part ≡ Some flit →
        Next q (places q t) (with_last (place_fed q part.sent given.feed) (places q t)) part (last_begun q t) given.own.rrp flit
    by-place (inl known) keeps goes =
        let is = facts.parts part some in goes-known q (places q t) _ part (last_begun q t) given.own.rrp given.feed flit known facts.fit keeps is.least facts.last is.flits is.more goes
    by-place (inr o) keeps goes =
        let e : o.part ≡ part = same_Some o.part part (sym o.under ∙ some) in
        let is = facts.parts part some in
        let fits : IsFedNext o.part o.head given.feed = subst (λ (u : Option UnderWay). IsFed u given.feed) (under-open q t o) fed in
        subst (λ (p : Part). Next q (places q t) (with_last (place_fed q p.sent given.feed) (places q t)) p (last_begun q t) given.own.rrp flit) e
        (goes-open q t o given.own.rrp given.feed flit facts.fit ((λ i. next_flit q given.own.rrp given.feed (sym (open-at q t o) i) (e i)) ∙ goes) fits feed
        (subst (λ (p : Part). AllFit q (with_last (place_fed q p.sent given.feed) (places q t))) (sym e) fit) (subst (λ (p : Part). length p.sent < p.flits) (sym e) is.more))

-- ---- a packet again

slice-some : (l : List Place) (n : ℕ) (x : Place) → slice_get l n ≡ Some x → (n < length l) × (get_or l n (Place.known null_packet) ≡ x)
slice-some [] n x is = absurd cc
slice-some (y ∷ l) zero x is = (omega arith, cc)
slice-some (y ∷ l) (suc n) x is = let rest = slice-some l n x is in (omega (arith, rest.0), rest.1)

-- while nothing is unfinished, each place has its packet
all-known : (q : Profile) (retry : ℕ) (t : List SenderEntry) → Facts q retry t → unfinished t ≡ None → AreKnown (places q t)
all-known q retry t facts none = elim (open-place q retry t facts.chosen facts.fed) [
  | inl known ↦ known
  | inr o ↦ absurd (let clash : None ≡ Some o.part = sym none ∙ o.under in cc)
]

again-step : (q : Profile) (retry : ℕ) (t : List SenderEntry) (given : Given) (flit : List ℕ) (u : Option Part) → unfinished t ≡ u → Facts q retry t → choice q (view_after q retry t given) ≡ Out flit Again →
    ArePieces q (places q t) u (last_begun q t) (pieces q t) →
    ArePieces q (places q t) (part_after true flit u) (if is_none u then suc (position q t) else last_begun q t) (with_flit u (position q t) given.own.rrp flit (pieces q t))
unfolding view_after is_new
again-step q retry t given flit None none facts chosen are =
    let s = view_after q retry t given in
    let l = places q t in
    let n = position q t in
    let is = again-flit q s (choice q s) (case_of q s) flit chosen (nothing-under q t none) in
    let found = slice-some l n is.place is.there in
    let h = known-at q l n found.0 (all-known q retry t facts none) facts.fit in
    let at : get_or l n (Place.known null_packet) ≡ Place.known h.packet = known-of _ h.packet h.fits.known in
    let same : flit ≡ flit_of q h.packet given.own.rrp 0 = is.flit_is ∙ ap (λ (x : Place). flit_of q (packet_in x) given.own.rrp 0) (sym found.1 ∙ at) in
    begun q l h.packet given.own.rrp (suc n) true flit _ (pieces q t) (at-known q l n h.packet found.0 facts.fit at) refl refl refl same are
again-step q retry t given flit (Some part) some facts chosen are =
    let l = places q t in
    let goes = under q retry t given flit Again part chosen some (λ e. cc e) in
    let is = facts.parts part some in
    let keeps = keeps-same l l refl in
    let known : AreKnown l = elim (open-place q retry t facts.chosen facts.fed) [
      | inl known ↦ known
      | inr o ↦ absurd (only_new q retry t given flit Again chosen refl (λ e. cc e) o)
    ] in
    stepped q l l part (last_begun q t) (position q t) given.own.rrp flit (pieces q t) are keeps (goes-known q l l part (last_begun q t) given.own.rrp given.feed flit known facts.fit keeps is.least facts.last is.flits is.more goes.1)

-- ---- a TRET

tret-one : (q : Profile) (l : List Place) (p : PacketFields) (rrp last : ℕ) (flit : List ℕ) (u : Option Part) (ps : List Piece) → flits_of p ≡ 1 → lng_of flit ≡ flits_of p → u ≡ None → ArePieces q l (part_after false flit None) last ps → ArePieces q l u last ps
tret-one q l p rrp last flit u ps one lng none are =
    let e : 1 ≡ lng_of flit = sym (lng ∙ one) in
    let done : (suc 0 == lng_of flit) ≡ true = eq-eqb 1 (lng_of flit) e in
    subst (λ (o : Option Part). ArePieces q l o last ps) (sym none)
    (subst (λ (b : Bool). ArePieces q l (if b then None else Some (record { again = false; flits = lng_of flit; sent = flit ∷ [] })) last ps) done are)

tret-step : (q : Profile) (retry : ℕ) (t : List SenderEntry) (given : Given) (flit : List ℕ) → Facts q retry t → AllFit q (with_packet q given.due tret_packet (places q t)) → choice q (view_after q retry t given) ≡ Out flit Tret →
    ArePieces q (places q t) (unfinished t) (last_begun q t) (pieces q t) →
    ArePieces q (with_packet q given.due tret_packet (places q t)) (unfinished t) (suc (length (places q t))) (with_flit None (length (places q t)) given.own.rrp flit (pieces q t))
unfolding view_after
tret-step q retry t given flit facts fit chosen are =
    let s = view_after q retry t given in
    let l = places q t in
    let p = next_packet q (pointer_of q l) (number_of l) (code_for given.due) tret_packet in
    let m = l ++ Place.known p ∷ [] in
    let is = tret-flit q s (choice q s) (case_of q s) flit chosen in
    let none = none-under (place_at l (last_begun q t)) (unfinished t) is.nothing in
    let size = length-push l (Place.known p) in
    let inside : length l < length m = omega arith in
    let here = at-known q m (length l) p inside fit (get-push l (Place.known p) (Place.known null_packet)) in
    let whole = subst (λ (o : Option Part). ArePieces q l o (last_begun q t) (pieces q t)) none are in
    tret-one q m p given.own.rrp (suc (length l)) flit (unfinished t) _ refl (ap lng_of is.flit_is ∙ first-lng q p given.own.rrp here.packet here.sequenced) none (pushed q l p given.own.rrp flit (pieces q t) fit is.flit_is whole)

-- ---- every send

pub step-sent : (q : Profile) (retry : ℕ) (t : List SenderEntry) (given : Given) (w : What) (flit : List ℕ) → Facts q retry t → AllFit q (places q (sent given w flit ∷ t)) → choice q (view_after q retry t given) ≡ Out flit w → IsFed (under_way q t) given.feed → IsFeed given.feed →
    (w ≡ Train → unfinished t ≡ None) → ArePieces q (places q t) (unfinished t) (last_begun q t) (pieces q t) →
    ArePieces q (places q (sent given w flit ∷ t)) (unfinished (sent given w flit ∷ t)) (last_begun q (sent given w flit ∷ t)) (pieces q (sent given w flit ∷ t))
unfolding pieces unfinished places last_begun view_after
step-sent q retry t given New flit facts fit chosen fed feed trained are = new-step q retry t given flit (unfinished t) refl facts fit chosen fed feed are
step-sent q retry t given Again flit facts fit chosen fed feed trained are = again-step q retry t given flit (unfinished t) refl facts chosen are
step-sent q retry t given Tret flit facts fit chosen fed feed trained are = tret-step q retry t given flit facts fit chosen are
step-sent q retry t given Train flit facts fit chosen fed feed trained are =
    let s = view_after q retry t given in
    let is = alone-by q s (choice q s) (case_of q s) flit Train chosen refl in
    alone-step q (places q t) (unfinished t) (last_begun q t) _ Train given.own.rrp flit (pieces q t) (trained refl) is.flit_is are
step-sent q retry t given Clear flit facts fit chosen fed feed trained are =
    let s = view_after q retry t given in
    let is = alone-by q s (choice q s) (case_of q s) flit Clear chosen refl in
    alone-step q (places q t) (unfinished t) (last_begun q t) _ Clear given.own.rrp flit (pieces q t) (none-under (place_at (places q t) (last_begun q t)) (unfinished t) (is.calm (λ e. cc e))) is.flit_is are
step-sent q retry t given Start flit facts fit chosen fed feed trained are =
    let s = view_after q retry t given in
    let is = alone-by q s (choice q s) (case_of q s) flit Start chosen refl in
    alone-step q (places q t) (unfinished t) (last_begun q t) _ Start given.own.rrp flit (pieces q t) (none-under (place_at (places q t) (last_begun q t)) (unfinished t) (is.calm (λ e. cc e))) is.flit_is are
step-sent q retry t given Pret flit facts fit chosen fed feed trained are =
    let s = view_after q retry t given in
    let is = alone-by q s (choice q s) (case_of q s) flit Pret chosen refl in
    alone-step q (places q t) (unfinished t) (last_begun q t) _ Pret given.own.rrp flit (pieces q t) (none-under (place_at (places q t) (last_begun q t)) (unfinished t) (is.calm (λ e. cc e))) is.flit_is are
step-sent q retry t given NullFlit flit facts fit chosen fed feed trained are =
    let s = view_after q retry t given in
    let is = alone-by q s (choice q s) (case_of q s) flit NullFlit chosen refl in
    alone-step q (places q t) (unfinished t) (last_begun q t) _ NullFlit given.own.rrp flit (pieces q t) (none-under (place_at (places q t) (last_begun q t)) (unfinished t) (is.calm (λ e. cc e))) is.flit_is are
