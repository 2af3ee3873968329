-- What a sender chooses is a send that the numbers allow, in each of its cases. Used by Ways and
-- Joins.
use Rattle.std.proofs.Common.{◌≡◌, ◌≢◌, ◌∙◌, ◌<◌, ◌≤◌, ◌-◌, ◌⊎◌, inl, inr, ℕ, suc, Bool, true, false, List, [], ◌∷◌, ◌++◌, length, get_or, map, Option, Some, None, refl, sym, ap, subst, arith, leb-true}
use Rattle.std.specs.Prelude.{◌==◌, nat_le, nat_lt, is_none, if◌then◌else◌, slice_get}
use Rattle.std.proofs.lemmas.Bool.{and_parts, eq-eqb}
use Rattle.std.proofs.lemmas.List.{map_push}
use Rattle.std.proofs.lemmas.Option.{slice_get_within, get_or_from_slice_get, same_Some}
use Rattle.hmc_codes.specs.Table.{table_line}
use Rattle.hmc_codes.specs.Commands.{layout_of, is_flow}
use Rattle.hmc_codes.specs.Flit.{IsFlit}
use Rattle.hmc_codes.specs.declared.profile.Profile.{Profile}
use Rattle.hmc_packet.specs.declared.feed.Feed.{Feed}
use Rattle.hmc_packet.specs.declared.feed.Feed.TheVariants.{Waiting, Whole, Last}
use Rattle.hmc_packet.specs.declared.kind.Kind.{Kind}
use Rattle.hmc_packet.specs.declared.kind.Kind.TheVariants as kinds
use Rattle.hmc_packet.specs.declared.what.What.{What}
use Rattle.hmc_packet.specs.declared.what.What.TheVariants as what
use Rattle.hmc_packet.specs.Packet.{PacketFields, IsPacket, flits_of, null_packet}
use Rattle.hmc_packet.specs.Parts.{lng_of}
use Rattle.hmc_packet.specs.Tail.{FitsField, tail_layout}
use Rattle.hmc_packet.proofs.PacketLemmas.{IsPacket-tret, flits_of-few}
use Rattle.hmc_tokens.specs.Account.{tokens_of_code, code_for}
use Rattle.hmc_send.specs.declared.sent.Sent as outer_sent
use Rattle.hmc_send.specs.declared.sent.Sent.TheVariants.{Out, Starved}
use Rattle.hmc_send.specs.Choice.{view_after, is_train, irtry_sent, part_what, next_flit}
use Rattle.hmc_send.specs.Copies.{copy_of, place_fed}
use Rattle.hmc_send.specs.Entries as entries
use Rattle.hmc_send.specs.Entries.{SenderEntry, Given, Part, UnderWay, or_null, part_with, part_after, places_with, are_bursts}
use Rattle.hmc_send.specs.IsSender.{IsFed}
use Rattle.hmc_send.specs.Kept.{IsFedNext}
use Rattle.hmc_send.specs.Places.{Place, flits_at, numbers_at, takes_tokens, is_token, place_at, packet_in, flit_of, pointer_of, number_of, next_packet, tret_packet, with_last}
use Rattle.hmc_send.proofs.Cases.{Case, Case as case}
use Rattle.hmc_send.proofs.KeptLemmas.{IsPacket-next, code-few}
use Rattle.hmc_send.proofs.Lists.{last-push, last-same, fed-whole, length-push, place-push}
use Rattle.hmc_send.proofs.Steps.{nothing-begun, some-begun}
use Rattle.hmc_send.proofs.KeepSends.{zero-fits}
use Rattle.hmc_numbers.specs.Direction.{Filler as fill}
use Rattle.hmc_numbers.specs.Events.{Event}
use Rattle.hmc_numbers.specs.Events.Event.{begins, begins_again}
use Rattle.hmc_numbers.specs.Pair.{Half}
use Rattle.hmc_numbers.specs.Tokens.{cost}
use Rattle.hmc_wire.specs.Conditions.{IsFeed}
use Rattle.hmc_wire.proofs.Flits.{irtry-flit, null-flit, pret-flit, training-is_flit}
use Rattle.hmc_wire.proofs.Spelled.{Sent}
use Rattle.hmc_wire.proofs.PacketGrammar.{grammar, IsSequenced}
use Rattle.hmc_wire.specs.EntryTurns.{weight}
use Rattle.hmc_wire.specs.EntryTurns.{next_place, sent_event, unless_begun}
use Rattle.hmc_wire.proofs.SenderLists.{between-bursts, within}
use Rattle.hmc_wire.proofs.OpenPlaces.{AreKnown, IsOpen, open_place, open-at, under-open, grown-later}
use Rattle.hmc_wire.proofs.Places.{packet_of, Fits, IsOpenPlace, FitOr, AllFit, fit-push, AreNumbered}
use Rattle.hmc_wire.proofs.NumberedPlaces.{numbered-packet, numbered-last, fed-numbers, fed-flits}
use Rattle.hmc_wire.proofs.Marks.{mark-null, mark-train, mark-pret, mark-start, first-lng}
use Rattle.hmc_wire.proofs.Parts.{known-at, new-same, rtc-le}
use Rattle.hmc_wire.proofs.Filled.{token-sequenced, heads-lng, completed-last}
use Rattle.hmc_wire.proofs.Senders.{Env, Done, new-part, none-part, left-none, filler-done, clear-done, begun-done, again-done, goes-done, goes-open}

-- a front of the queue is a request or a response, and its error number fits the profile
pub record IsGood (q : Profile) (p : PacketFields) : Type 0 where
  pub packet : IsPacket p
  pub token : is_token p ≡ true
  pub errstat : FitsField (tail_layout q).errstat p.errstat

-- where a flit is sent, the send is done
pub DoneAs : (q : Profile) (s : Sent (grammar q)) (retry adv : ℕ) (t : List SenderEntry) (given : Given) (own oth : Half) → outer_sent.Sent → Type 0
DoneAs q s retry adv t given own oth (Out flit w) = Done q s retry adv (SenderEntry.sent given w flit ∷ t) (sent_event q t given w) flit own oth
DoneAs q s retry adv t given own oth Starved = Unit {0}

-- ---- packets with their numbers

-- the next packet after these places
abbrev next_after : Profile → List Place → (due : ℕ) → PacketFields → PacketFields
next_after q l due p = next_packet q (pointer_of q l) (number_of l) (code_for due) p

fits-next : (q : Profile) (l : List Place) (due : ℕ) (p : PacketFields) → (is_flow (layout_of p.command) ≡ false) ⊎ (p ≡ tret_packet) → IsSequenced (layout_of p.command) → IsPacket p → FitsField (tail_layout q).errstat p.errstat →
    Fits q (next_place q due p l) (next_after q l due p)
fits-next q l due p kind sequenced is errstat = record {
  known = refl;
  packet = IsPacket-next q (pointer_of q l) (number_of l) (code_for due) p kind is (code-few due);
  sequenced = sequenced;
  errstat = errstat;
  flits = refl;
  token = refl;
  frp = refl;
  seq = refl;
  rtc = refl;
}

fits-new : (q : Profile) (l : List Place) (due : ℕ) (p : PacketFields) → IsGood q p → Fits q (next_place q due p l) (next_after q l due p)
fits-new q l due p good =
    let kind = token-sequenced (layout_of p.command) good.token in
    fits-next q l due p (inl kind.0) kind.1 good.packet good.errstat

tret-sequenced : IsSequenced (layout_of tret_packet.command)
unfolding table_line
tret-sequenced = tt

pub tret-token : is_token tret_packet ≡ false
unfolding table_line
tret-token = refl

fits-tret : (q : Profile) (l : List Place) (due : ℕ) → Fits q (next_place q due tret_packet l) (next_after q l due tret_packet)
fits-tret q l due = fits-next q l due tret_packet (inr refl) tret-sequenced (IsPacket-tret 0 0 0 (omega arith) (omega arith) (omega arith)) (zero-fits q)

-- a place costs no more than its flits
cost-le : (x : Place) → cost (weight x) ≤ flits_at x
cost-le x = by_token (takes_tokens x)
  where
    by_token : (b : Bool) → cost (record { flits = flits_at x; token = b; returns = tokens_of_code (numbers_at x).rtc }) ≤ flits_at x
    by_token true = omega arith
    by_token false = omega arith

-- where nothing is under way each place has its packet
pub all-known : (q : Profile) (t : List SenderEntry) → AreKnown (entries.places q t) ⊎ IsOpen q t → entries.unfinished t ≡ None → AreKnown (entries.places q t)
all-known q t places nothing = elim places [ inl known ↦ known | inr o ↦ absurd (let clash : None ≡ Some o.part = sym nothing ∙ o.under in cc) ]

-- ---- new packets

-- a front of the queue
begins-case : (q : Profile) (s : Sent (grammar q)) (retry adv : ℕ) (t : List SenderEntry) (given : Given) (own oth : Half) → Env q s retry adv t given own oth → ((p : PacketFields) → given.front ≡ Some p → IsGood q p) →
    is_train given.own.mode ≡ false → entries.unfinished t ≡ None → are_bursts (entries.clears t) ≡ true → slice_get (entries.places q t) (entries.position q t) ≡ None →
    (p : PacketFields) → given.front ≡ Some p → flits_of p ≤ given.held → flits_of p ≤ entries.room q retry t →
    DoneAs q s retry adv t given own oth (Out (flit_of q (next_after q (entries.places q t) given.due (or_null given.front)) given.own.rrp 0) what.New)
unfolding DoneAs entries.places entries.acked entries.last_begun entries.unfinished entries.clears
begins-case q s retry adv t given own oth env fronts ready nothing whole again p front held room =
    let l = entries.places q t in
    let same : or_null given.front ≡ p = ap or_null front in
    let good : IsGood q (or_null given.front) = subst (IsGood q) (sym same) (fronts p front) in
    let x : Place = next_place q given.due (or_null given.front) l in
    let mine = next_after q l given.due (or_null given.front) in
    let flit = flit_of q mine given.own.rrp 0 in
    let T = SenderEntry.sent given what.New flit ∷ t in
    let fits = fits-new q l given.due (or_null given.front) good in
    let sized : flits_of (or_null given.front) ≡ flits_of p = ap flits_of same in
    let few = flits_of-few mine fits.packet in
    let costs = cost-le x in
    let first : places_with q (entries.unfinished t) given l ≡ l ++ x ∷ [] = ap (λ (u : Option Part). places_with q u given l) nothing in
    subst (λ (e : Event). Done q s retry adv T e flit own oth) (ap (λ (u : Option Part). unless_begun u (begins (weight x))) (sym nothing))
    (begun-done q s retry adv t T given own oth x mine (part_after false flit None) env fits
    (record {
      first = first;
      acked = refl;
      last = ap (λ (u : Option Part). if is_none u then suc (length l) else entries.last_begun q t) nothing;
      unfinished = ap (part_after false flit) nothing;
      clears = refl;
    })
    (new-part l x flit (first-lng q mine given.own.rrp fits.packet fits.sequenced) few.0)
    (subst (AreNumbered q) (sym first) (numbered-packet q l (code_for given.due) (or_null given.front) env.numbered))
    ready nothing whole again (omega arith) (omega arith) (rtc-le given.due))

-- a packet that returns tokens alone
returns-case : (q : Profile) (s : Sent (grammar q)) (retry adv : ℕ) (t : List SenderEntry) (given : Given) (own oth : Half) → Env q s retry adv t given own oth →
    is_train given.own.mode ≡ false → entries.unfinished t ≡ None → are_bursts (entries.clears t) ≡ true → slice_get (entries.places q t) (entries.position q t) ≡ None → 1 ≤ entries.room q retry t →
    DoneAs q s retry adv t given own oth (Out (flit_of q (next_after q (entries.places q t) given.due tret_packet) given.own.rrp 0) what.Tret)
unfolding DoneAs entries.places entries.acked entries.last_begun entries.unfinished entries.clears
returns-case q s retry adv t given own oth env ready nothing whole again room =
    let l = entries.places q t in
    let x : Place = next_place q given.due tret_packet l in
    let mine = next_after q l given.due tret_packet in
    let T = SenderEntry.sent given what.Tret (flit_of q mine given.own.rrp 0) ∷ t in
    let free : cost (weight x) ≡ 0 = ap (λ (b : Bool). cost (record { flits = 1; token = b; returns = tokens_of_code (code_for given.due) })) tret-token in
    begun-done q s retry adv t T given own oth x mine None env (fits-tret q l given.due)
    (record { first = refl; acked = refl; last = refl; unfinished = nothing; clears = refl })
    (none-part l x refl) (numbered-packet q l (code_for given.due) tret_packet env.numbered)
    ready nothing whole again room (omega arith) (rtc-le given.due)

-- ---- packets again

packet-in : (x : Place) (p : PacketFields) → packet_of x ≡ Some p → packet_in x ≡ p
packet-in (Place.known packet) p is = cc
packet-in (Place.awaited head flits numbers) p is = absurd cc

repeats-case : (q : Profile) (s : Sent (grammar q)) (retry adv : ℕ) (t : List SenderEntry) (given : Given) (own oth : Half) → Env q s retry adv t given own oth →
    is_train given.own.mode ≡ false → entries.unfinished t ≡ None → are_bursts (entries.clears t) ≡ true →
    (x : Place) → slice_get (entries.places q t) (entries.position q t) ≡ Some x → DoneAs q s retry adv t given own oth (Out (flit_of q (packet_in x) given.own.rrp 0) what.Again)
unfolding DoneAs entries.places entries.acked entries.last_begun entries.unfinished entries.clears
repeats-case q s retry adv t given own oth env ready nothing whole x again =
    let l = entries.places q t in
    let d : Place = Place.known null_packet in
    let inside = slice_get_within l (entries.position q t) x again in
    let h = known-at q l (entries.position q t) inside (all-known q t env.places nothing) env.fit in
    let at : get_or l (entries.position q t) d ≡ x = get_or_from_slice_get l (entries.position q t) x d again in
    let known : packet_in x ≡ h.packet = packet-in x h.packet (ap packet_of (sym at) ∙ h.fits.known) in
    let flit = flit_of q h.packet given.own.rrp 0 in
    let T = SenderEntry.sent given what.Again flit ∷ t in
    subst (λ (p : PacketFields). DoneAs q s retry adv t given own oth (Out (flit_of q p given.own.rrp 0) what.Again)) (sym known)
    (subst (λ (e : Event). Done q s retry adv T e flit own oth) (ap (λ (u : Option Part). unless_begun u begins_again) (sym nothing))
    (again-done q s retry adv t T given own oth h.packet env h.fits
    (record {
      first = refl;
      acked = refl;
      last = ap (λ (u : Option Part). if is_none u then suc (entries.position q t) else entries.last_begun q t) nothing;
      unfinished = ap (part_after true flit) nothing;
      clears = refl;
    }) ready nothing whole inside))

-- ---- the packet under way

abbrev again_what : Bool → What
again_what again = if again then what.Again else what.New

-- its next flit, where its place has it
goes-case : (q : Profile) (s : Sent (grammar q)) (retry adv : ℕ) (t : List SenderEntry) (given : Given) (own oth : Half) → Env q s retry adv t given own oth → AreKnown (entries.places q t) → (under : Part) → entries.unfinished t ≡ Some under → (p : PacketFields) →
    Fits q (place_at (entries.places q t) (entries.last_begun q t)) p → (again : Bool) → DoneAs q s retry adv t given own oth (Out (flit_of q p given.own.rrp (length under.sent)) (again_what again))
unfolding DoneAs entries.places entries.acked entries.last_begun entries.unfinished entries.clears
goes-case q s retry adv t given own oth env known under some p fits false =
    let l = entries.places q t in
    let flit = flit_of q p given.own.rrp (length under.sent) in
    let T = SenderEntry.sent given what.New flit ∷ t in
    let same = new-same q given l (entries.unfinished t) under some known in
    subst (λ (e : Event). Done q s retry adv T e flit own oth) (ap (λ (u : Option Part). unless_begun u (begins (weight (next_place q given.due (or_null given.front) l)))) (sym some))
    (goes-done q s retry adv t T given own oth under p env some (subst (AllFit q) (sym same) env.fit)
    (subst (λ (j : List Place). Fits q (place_at j (entries.last_begun q t)) p) (sym same) fits)
    (subst (AreNumbered q) (sym same) env.numbered) (record {
      weights = ap (map weight) same;
      acked = refl;
      last = ap (λ (u : Option Part). if is_none u then suc (length l) else entries.last_begun q t) some;
      unfinished = ap (part_after false flit) some;
      clears = refl;
    }))
goes-case q s retry adv t given own oth env known under some p fits true =
    let flit = flit_of q p given.own.rrp (length under.sent) in
    let T = SenderEntry.sent given what.Again flit ∷ t in
    subst (λ (e : Event). Done q s retry adv T e flit own oth) (ap (λ (u : Option Part). unless_begun u begins_again) (sym some))
    (goes-done q s retry adv t T given own oth under p env some env.fit fits env.numbered (record {
      weights = refl;
      acked = refl;
      last = ap (λ (u : Option Part). if is_none u then suc (entries.position q t) else entries.last_begun q t) some;
      unfinished = ap (part_after true flit) some;
      clears = refl;
    }))

longer : (sent flits : ℕ) → (suc sent == flits) ≡ false → sent < flits → 1 < flits - sent
longer sent flits test more =
    let other : suc sent ≢ flits = λ is. let clash : true ≡ false = sym (eq-eqb (suc sent) flits is) ∙ test in cc in
    omega arith

next-known : (q : Profile) (x : Place) (p : PacketFields) (under : Part) (rrp : ℕ) (feed : Feed) (flit : List ℕ) → packet_of x ≡ Some p → next_flit q rrp feed x under ≡ Some flit → flit_of q p rrp (length under.sent) ≡ flit
next-known q (Place.known packet) p under rrp feed flit known next =
    let same : packet ≡ p = cc in
    ap (λ (r : PacketFields). flit_of q r rrp (length under.sent)) (sym same) ∙ cc
next-known q (Place.awaited head flits numbers) p under rrp feed flit known next = absurd cc

-- ---- a packet that is passed on

pub fit-front : (q : Profile) (l : List Place) (x : Place) → AllFit q (l ++ x ∷ []) → AllFit q l
fit-front q [] x all = tt
fit-front q (y ∷ l) x all = (all.0, fit-front q l x all.1)

pub fit-last : (q : Profile) (l : List Place) (x : Place) → AllFit q (l ++ x ∷ []) → FitOr q x
fit-last q [] x all = all.0
fit-last q (y ∷ l) x all = fit-last q l x all.1

pub open-fit : (q : Profile) (x : Place) → packet_of x ≡ None → FitOr q x → IsOpenPlace q x
open-fit q x none fit = elim fit [ inl h ↦ absurd (let clash : None ≡ Some h.packet = sym none ∙ h.fits.known in cc) | inr is ↦ is ]

-- its next flit, where its place is open
feed-by : (q : Profile) (s : Sent (grammar q)) (retry adv : ℕ) (t : List SenderEntry) (given : Given) (own oth : Half) → Env q s retry adv t given own oth → (o : IsOpen q t) (flit : List ℕ) (feed : Feed) → given.feed ≡ feed →
    IsFedNext o.part o.head feed → IsFeed feed → next_flit q given.own.rrp feed (open_place o) o.part ≡ Some flit → DoneAs q s retry adv t given own oth (Out flit what.New)
unfolding DoneAs entries.places entries.acked entries.last_begun entries.unfinished entries.clears
feed-by q s retry adv t given own oth env o flit Waiting fed fits is next = absurd cc
feed-by q s retry adv t given own oth env o flit (Whole whole) fed fits is next =
    let l = entries.places q t in
    let same : whole ≡ flit = cc in
    let T = SenderEntry.sent given what.New flit ∷ t in
    let at = open-at q t o in
    let long = longer (length o.part.sent) o.part.flits fits.0 (env.parts o.part o.under).more in
    let first : places_with q (entries.unfinished t) given l ≡ l =
    ap (λ (u : Option Part). places_with q u given l) o.under ∙ ap (λ (f : Feed). with_last (place_fed q o.part.sent f) l) fed
    ∙ last-same (place_fed q o.part.sent (Whole whole)) l (fed-whole q o.part.sent whole) in
    let grown : part_after false flit (entries.unfinished t) ≡ part_with o.part flit = ap (part_after false flit) o.under in
    let lng : length o.part.sent ≡ 0 → lng_of flit ≡ o.part.flits =
    λ z. ap lng_of (sym same ∙ fits.1 z) ∙ heads-lng o.count o.head o.names ∙ sym o.flits in
    subst (λ (e : Event). Done q s retry adv T e flit own oth) (ap (λ (u : Option Part). unless_begun u (begins (weight (next_place q given.due (or_null given.front) l)))) (sym o.under))
    (goes-open q s retry adv t T given own oth o.part flit env o.under first (ap packet_of at) long (grown ∙ grown-later o.part flit fits.0) lng (record {
      weights = ap (map weight) first;
      acked = refl;
      last = ap (λ (u : Option Part). if is_none u then suc (length l) else entries.last_begun q t) o.under;
      unfinished = grown;
      clears = refl;
    }) (subst IsFlit same is))
feed-by q s retry adv t given own oth env o flit (Last half slid errstat good) fed fits is next =
    let l = entries.places q t in
    let x : Place = open_place o in
    let f : Place → Place = place_fed q o.part.sent (Last half slid errstat good) in
    let copy = copy_of q o.part.sent half slid errstat good o.numbers in
    let same : flit_of q copy given.own.rrp (length o.part.sent) ≡ flit = cc in
    let all = subst (AllFit q) o.places env.fit in
    let completed = completed-last q x o.part half slid errstat good (open-fit q x refl (fit-last q o.before x all)) o.whole_flits o.flits fits.0 is.long is.bytes fits.1 in
    let first : places_with q (entries.unfinished t) given l ≡ o.before ++ f x ∷ [] =
    ap (λ (u : Option Part). places_with q u given l) o.under ∙ ap (λ (g : Feed). with_last (place_fed q o.part.sent g) l) fed
    ∙ ap (with_last f) o.places ∙ last-push f o.before x in
    let number : entries.last_begun q t ≡ suc (length o.before) = o.last ∙ ap (λ (j : List Place). length j) o.places ∙ length-push o.before x in
    let weights : map weight (places_with q (entries.unfinished t) given l) ≡ map weight l =
    ap (map weight) first ∙ map_push weight o.before (f x) ∙ ap (λ w. map weight o.before ++ w ∷ []) completed.weighs ∙ sym (map_push weight o.before x) ∙ ap (map weight) (sym o.places) in
    let numbers : AreNumbered q (places_with q (entries.unfinished t) given l) =
    subst (AreNumbered q) (sym first)
    (numbered-last q o.before x (f x) (fed-numbers q o.part.sent (Last half slid errstat good) x) (fed-flits q t o (Last half slid errstat good) fits is) (subst (AreNumbered q) o.places env.numbered)) in
    let mine = flit_of q copy given.own.rrp (length o.part.sent) in
    let T = SenderEntry.sent given what.New mine ∷ t in
    subst (λ (g : List ℕ). Done q s retry adv (SenderEntry.sent given what.New g ∷ t) (sent_event q t given what.New) g own oth) same
    (subst (λ (e : Event). Done q s retry adv T e mine own oth) (ap (λ (u : Option Part). unless_begun u (begins (weight (next_place q given.due (or_null given.front) l)))) (sym o.under))
    (goes-done q s retry adv t T given own oth o.part copy env o.under
    (subst (AllFit q) (sym first) (fit-push q o.before (f x) (fit-front q o.before x all) (inl (record { packet = copy; fits = completed.fits }))))
    (subst (λ (y : Place). Fits q y copy) (sym ((λ i. place_at (first i) (number i)) ∙ place-push o.before (f x))) completed.fits)
    numbers (record {
      weights = weights;
      acked = refl;
      last = ap (λ (u : Option Part). if is_none u then suc (length l) else entries.last_begun q t) o.under;
      unfinished = ap (part_after false mine) o.under;
      clears = refl;
    })))

goes-by : (q : Profile) (s : Sent (grammar q)) (retry adv : ℕ) (t : List SenderEntry) (given : Given) (own oth : Half) → Env q s retry adv t given own oth → IsFed (entries.under_way q t) given.feed → IsFeed given.feed →
    AreKnown (entries.places q t) ⊎ IsOpen q t → (under : Part) → entries.unfinished t ≡ Some under → (flit : List ℕ) →
    next_flit q given.own.rrp given.feed (place_at (entries.places q t) (entries.last_begun q t)) under ≡ Some flit → DoneAs q s retry adv t given own oth (Out flit (part_what under))
goes-by q s retry adv t given own oth env fed is (inl known) under some flit next =
    let l = entries.places q t in
    let part = env.parts under some in
    let least = part.least in
    let most = (within q retry t env.chosen).last in
    let h = known-at q l (entries.last_begun q t - 1) (omega arith) known env.fit in
    subst (λ (f : List ℕ). DoneAs q s retry adv t given own oth (Out f (part_what under))) (next-known q (place_at l (entries.last_begun q t)) h.packet under given.own.rrp given.feed flit h.fits.known next)
    (goes-case q s retry adv t given own oth env known under some h.packet h.fits under.again)
goes-by q s retry adv t given own oth env fed is (inr o) under some flit next =
    let same : o.part ≡ under = same_Some o.part under (sym o.under ∙ some) in
    let new : what.New ≡ part_what under = ap (λ (b : Bool). again_what b) (sym o.new) ∙ ap (λ (p : Part). part_what p) same in
    subst (λ (w : What). DoneAs q s retry adv t given own oth (Out flit w)) new
    (feed-by q s retry adv t given own oth env o flit given.feed refl
    (subst (λ (u : Option UnderWay). IsFed u given.feed) (under-open q t o) fed) is
    ((λ i. next_flit q given.own.rrp given.feed (sym (open-at q t o) i) (same i)) ∙ next))

-- ---- IRTRYs

steers-case : (q : Profile) (s : Sent (grammar q)) (retry adv : ℕ) (t : List SenderEntry) (given : Given) (own oth : Half) → Env q s retry adv t given own oth →
    is_train given.own.mode ≡ false → entries.unfinished t ≡ None → (kind : Kind) → DoneAs q s retry adv t given own oth (irtry_sent q given.own.rrp kind)
unfolding DoneAs entries.places entries.acked entries.last_begun entries.unfinished entries.clears
steers-case q s retry adv t given own oth env ready nothing kinds.Clear =
    clear-done q s retry adv t _ given own oth env ready nothing refl refl refl refl refl
steers-case q s retry adv t given own oth env ready nothing kinds.Start =
    filler-done q s retry adv t _ given fill.start _ own oth env (record { first = refl; acked = refl; last = refl; unfinished = refl; clears = refl }) (env.ready ready, left-none q t own.direction env.sends nothing)
    (mark-start q s own.direction.first oth.direction.first oth.direction.accepted given.own.rrp env.below env.rrp) (irtry-flit q kinds.Start given.own.rrp)

-- ---- each case

-- what a view without a packet under way says of the list
bare : (q : Profile) (retry : ℕ) (t : List SenderEntry) (given : Given) → (view_after q retry t given).under_way ≡ None → entries.unfinished t ≡ None
unfolding view_after
bare q retry t given nothing = nothing-begun (place_at (entries.places q t) (entries.last_begun q t)) (entries.unfinished t) (sym nothing)

by-case : (q : Profile) (s : Sent (grammar q)) (retry adv : ℕ) (t : List SenderEntry) (given : Given) (own oth : Half) → Env q s retry adv t given own oth → ((p : PacketFields) → given.front ≡ Some p → IsGood q p) → IsFed (entries.under_way q t) given.feed → IsFeed given.feed →
    (x : outer_sent.Sent) → Case q (view_after q retry t given) x → DoneAs q s retry adv t given own oth x
unfolding DoneAs view_after entries.places entries.acked entries.last_begun entries.unfinished entries.clears
by-case q s retry adv t given own oth env fronts fed is x (case.trains train) =
    filler-done q s retry adv t _ given fill.train _ own oth env (record { first = refl; acked = refl; last = refl; unfinished = refl; clears = refl }) (env.train train) (mark-train q s own.direction.first oth.direction.first oth.direction.accepted) training-is_flit
by-case q s retry adv t given own oth env fronts fed is x (case.goes_on ready begun some flit next) =
    let found = some-begun (place_at (entries.places q t) (entries.last_begun q t)) (entries.unfinished t) begun (sym some) in
    goes-by q s retry adv t given own oth env fed is env.places begun.part found.part flit
    (ap (λ (y : Place). next_flit q given.own.rrp given.feed y begun.part) found.place_is ∙ next)
by-case q s retry adv t given own oth env fronts fed is x (case.starves ready begun some next) = tt
by-case q s retry adv t given own oth env fronts fed is x (case.steers ready nothing kind due) =
    steers-case q s retry adv t given own oth env ready (bare q retry t given nothing) kind
by-case q s retry adv t given own oth env fronts fed is x (case.repeats b place again) =
    repeats-case q s retry adv t given own oth env b.trained (bare q retry t given b.nothing) (between-bursts q retry t given b).0 place again
by-case q s retry adv t given own oth env fronts fed is x (case.begins free can) =
    let b = free.between in
    begins-case q s retry adv t given own oth env fronts b.trained (bare q retry t given b.nothing) (between-bursts q retry t given b).0 free.all_sent can.packet can.front (leb-true _ _ can.held) (leb-true _ _ can.room)
by-case q s retry adv t given own oth env fronts fed is x (case.returns free opened may) =
    let b = free.between in
    returns-case q s retry adv t given own oth env b.trained (bare q retry t given b.nothing) (between-bursts q retry t given b).0 free.all_sent (leb-true _ _ (and_parts (nat_lt 0 given.due) (nat_le 1 (entries.room q retry t)) may).1)
by-case q s retry adv t given own oth env fronts fed is x (case.points free other) =
    let b = free.between in
    filler-done q s retry adv t _ given fill.pret _ own oth env (record { first = refl; acked = refl; last = refl; unfinished = refl; clears = refl }) (env.ready b.trained, left-none q t own.direction env.sends (bare q retry t given b.nothing))
    (mark-pret q s own.direction.first oth.direction.first oth.direction.accepted given.own.rrp env.below env.rrp) (pret-flit q given.own.rrp)
by-case q s retry adv t given own oth env fronts fed is x (case.idles free same) =
    let b = free.between in
    filler-done q s retry adv t _ given fill.null _ own oth env (record { first = refl; acked = refl; last = refl; unfinished = refl; clears = refl }) (env.ready b.trained, left-none q t own.direction env.sends (bare q retry t given b.nothing))
    (mark-null q s own.direction.first oth.direction.first oth.direction.accepted) null-flit

-- a flit that is the choice is sent as the numbers allow
pub sent-done : (q : Profile) (s : Sent (grammar q)) (retry adv : ℕ) (t : List SenderEntry) (given : Given) (own oth : Half) → Env q s retry adv t given own oth → ((p : PacketFields) → given.front ≡ Some p → IsGood q p) → IsFed (entries.under_way q t) given.feed → IsFeed given.feed →
    (w : What) (flit : List ℕ) → Case q (view_after q retry t given) (Out flit w) → Done q s retry adv (SenderEntry.sent given w flit ∷ t) (sent_event q t given w) flit own oth
unfolding DoneAs
sent-done q s retry adv t given own oth env fronts fed is w flit sent = by-case q s retry adv t given own oth env fronts fed is (Out flit w) sent
