-- What each part of a send gives and leaves is what the choice says.
use Rattle.std.proofs.Common.{◌≡◌, ◌∙◌, ◌+◌, ℕ, zero, suc, min, Bool, true, false, List, [], ◌∷◌, ◌++◌, length, map, Option, Some, None, refl, sym, ap, subst, arith}
use Rattle.std.specs.Prelude.{◌==◌, ◌&&◌, not, if◌then◌else◌, is_none, is_some, slice_get, IfSome}
use Rattle.std.proofs.lemmas.List.{append-nil}
use Rattle.std.proofs.lemmas.Option.{slice_get_past}
use Rattle.hmc_codes.specs.Flit.{zero_flit}
use Rattle.hmc_codes.specs.declared.profile.Profile.{Profile}
use Rattle.hmc_packet.specs.declared.feed.Feed.{Feed}
use Rattle.hmc_packet.specs.declared.kind.Kind.{Kind}
use Rattle.hmc_packet.specs.declared.what.What.TheVariants as what
use Rattle.hmc_packet.specs.Packet.{PacketFields}
use Rattle.hmc_packet.specs.Parts.{lng_of}
use Rattle.hmc_packet.specs.Spelling.{training_flit}
use Rattle.hmc_retry.specs.RetryBuffer.{RetryFields, after_next, are_all_sent, packet_at}
use Rattle.hmc_send.specs.declared.sent.Sent.{Sent}
use Rattle.hmc_send.specs.declared.sent.Sent.TheVariants.{Out, Starved}
use Rattle.hmc_send.specs.declared.state.State.{State}
use Rattle.hmc_send.specs.Choice.{SendView, view_after, choice, is_train, irtry_sent, irtry_of, irtry_or, going_on, part_what, next_flit, unless_starved, first_flit, again_or, first_time, next_of_view, pointer_or_null, may_take, may_return}
use Rattle.hmc_send.specs.Entries.{SenderEntry, Given, UnderWay, with_place, part_after, or_null, shows_pointer}
use Rattle.hmc_send.specs.Given.{IsOneFlit}
use Rattle.hmc_send.specs.IsSender.{IsSender, IsBegunKept, IsPlaceKept}
use Rattle.hmc_send.specs.Kept.{IsPlaceOf, IsPartFit}
use Rattle.hmc_send.specs.Places.{Place, flit_of, next_packet, tret_packet, pret_packet}
use Rattle.std.proofs.lemmas.Bool.{eqb-true}
use Rattle.hmc_tokens.specs.Account.{code_for}
use Rattle.hmc_send.specs.Sender.{view_held, open_places, after_send, after_sent, after_first, with_kept, with_new, again_sent, again_begun, irtry_begun, next_held, next_first, part_of, MaySend, FitsPlace, IsFedAt}
use Rattle.hmc_send.proofs.Parts.{again-none}
use Rattle.hmc_send.proofs.Steps.{new-none}
use Rattle.hmc_send.specs.StandsFor.{StandsFor, entries_after}
use Rattle.hmc_send.proofs.Sends.{stands-send}
use Rattle.hmc_send.proofs.Views.{view-same}

-- ---- what is sent

pub choice-train : (q : Profile) (s : SendView) → true ≡ is_train s.given.own.mode → Out training_flit what.Train ≡ choice q s
unfolding choice
choice-train q s is = ap (λ (b : Bool). if b then Out training_flit what.Train else going_on q s s.under_way) is

choice-on : (q : Profile) (s : SendView) → false ≡ is_train s.given.own.mode → going_on q s s.under_way ≡ choice q s
unfolding choice
choice-on q s is = ap (λ (b : Bool). if b then Out training_flit what.Train else going_on q s s.under_way) is

pub choice-part : (q : Profile) (s : SendView) (u : Option UnderWay) (x : Sent) → s.under_way ≡ u → false ≡ is_train s.given.own.mode → true ≡ is_some u →
    IfSome u (λ begun. x ≡ unless_starved (part_what begun.part) (next_flit q s.given.own.rrp s.given.feed begun.place begun.part)) → x ≡ choice q s
choice-part q s None x is trained some answer = absurd cc
choice-part q s (Some begun) x is trained some answer = answer ∙ ap (going_on q s) (sym is) ∙ choice-on q s trained

pub nothing-there : (u : Option UnderWay) → false ≡ is_some u → u ≡ None
nothing-there None is = refl
nothing-there (Some begun) is = absurd cc

pub choice-irtry : (q : Profile) (s : SendView) (kind : Kind) → s.under_way ≡ None → false ≡ is_train s.given.own.mode → Some kind ≡ irtry_of s → irtry_sent q s.given.own.rrp kind ≡ choice q s
choice-irtry q s kind nothing trained due = ap (irtry_or q s) due ∙ ap (going_on q s) (sym nothing) ∙ choice-on q s trained

choice-calm : (q : Profile) (s : SendView) → s.under_way ≡ None → false ≡ is_train s.given.own.mode → None ≡ irtry_of s → again_or q s s.again ≡ choice q s
choice-calm q s nothing trained calm = ap (irtry_or q s) calm ∙ ap (going_on q s) (sym nothing) ∙ choice-on q s trained

-- the place at the position is that of the packet at the position
known-get : (packets : List PacketFields) (n : ℕ) (o : Option PacketFields) → slice_get packets n ≡ o → slice_get (map Place.known packets) n ≡ elim o [ None ↦ None | Some p ↦ Some (Place.known p) ]
known-get [] n None is = refl
known-get [] n (Some p) is = absurd cc
known-get (x ∷ packets) zero None is = absurd cc
known-get (x ∷ packets) zero (Some p) is = let e : x ≡ p = cc in ap (λ (t : PacketFields). Some (Place.known t)) e
known-get (x ∷ packets) (suc n) o is = known-get packets n o is

again-get : (held : State) (given : Given) (o : Option PacketFields) → held.under_way ≡ None → slice_get held.retry.kept held.retry.position ≡ o →
    (view_held held given).again ≡ elim o [ None ↦ None | Some p ↦ Some (Place.known p) ]
again-get held given o nothing is =
    let e : held.retry.position + 0 ≡ held.retry.position = omega arith in
    (λ i. slice_get (map Place.known held.retry.kept ++ open_places (nothing i)) (held.retry.position + length (open_places (nothing i))))
    ∙ (λ i. slice_get (append-nil (map Place.known held.retry.kept) i) (e i)) ∙ known-get held.retry.kept held.retry.position o is

pub choice-again : (q : Profile) (held : State) (given : Given) (x : Sent) (o : Option PacketFields) → held.under_way ≡ None → false ≡ is_train given.own.mode → None ≡ irtry_of (view_held held given) →
    slice_get held.retry.kept held.retry.position ≡ o → Some x ≡ again_sent q given.own.rrp o → x ≡ choice q (view_held held given)
choice-again q held given x None nothing trained calm is some = absurd cc
choice-again q held given x (Some p) nothing trained calm is some =
    let e : x ≡ first_flit q given.own.rrp what.Again p = cc in
    e ∙ ap (again_or q (view_held held given)) (sym (again-get held given (Some p) nothing is)) ∙ choice-calm q (view_held held given) nothing trained calm

none-again : (q : Profile) (rrp : ℕ) (o : Option PacketFields) → None ≡ again_sent q rrp o → o ≡ None
none-again q rrp None is = refl
none-again q rrp (Some p) is = absurd cc

pub choice-first : (q : Profile) (held : State) (given : Given) → held.under_way ≡ None → false ≡ is_train given.own.mode → None ≡ irtry_of (view_held held given) →
    None ≡ again_sent q given.own.rrp (slice_get held.retry.kept held.retry.position) → first_time q (view_held held given) ≡ choice q (view_held held given)
choice-first q held given nothing trained calm none =
    ap (again_or q (view_held held given)) (sym (again-get held given None nothing (none-again q given.own.rrp (slice_get held.retry.kept held.retry.position) none)))
    ∙ choice-calm q (view_held held given) nothing trained calm

-- ---- what is left

get-packet : (packets : List PacketFields) (n : ℕ) (p : PacketFields) → slice_get packets n ≡ Some p → packet_at packets n ≡ p
get-packet [] n p is = absurd cc
get-packet (x ∷ packets) zero p is = let e : x ≡ p = cc in e
get-packet (x ∷ packets) (suc n) p is = get-packet packets n p is

pub left-again : (q : Profile) (held : State) (given : Given) (x : Sent) (o : Option PacketFields) → held.under_way ≡ None → slice_get held.retry.kept held.retry.position ≡ o → Some x ≡ again_sent q given.own.rrp o →
    again_begun q given.own.rrp o held ≡ after_send given x held
left-again q held given x None nothing is some = absurd cc
left-again q held given x (Some p) nothing is some =
    let flit = flit_of q p given.own.rrp 0 in
    let e : Out flit what.Again ≡ x = cc in
    let same : p ≡ packet_at held.retry.kept held.retry.position = sym (get-packet held.retry.kept held.retry.position p is) in
    (λ i. record held {
      retry = after_next held.retry;
      under_way = with_place (Place.known (same i)) (part_after true flit None);
      others = min (suc held.others) 64;
      shown = if shows_pointer what.Again flit (part_of (sym nothing i)) then given.own.rrp else held.shown;
    }) ∙ sym (again-none held given flit nothing) ∙ ap (λ (y : Sent). after_send given y held) e

-- a sender is given the same, except for the feed
pub record SameGiven (a b : Given) : Type 0 where
  pub own : a.own ≡ b.own
  pub front : a.front ≡ b.front
  pub due : a.due ≡ b.due

-- the first flit of a TRET is its only one
one-flit : (flit : List ℕ) → lng_of flit ≡ 1 → part_after false flit None ≡ None
one-flit flit one = ap (λ (n : ℕ). if 1 == n then None else Some (record { again = false; flits = n; sent = flit ∷ [] })) one

left-new : (held : State) (given : Given) (flit : List ℕ) → held.under_way ≡ None → held.profile ≡ held.retry.profile → after_first given (Out flit what.New) held ≡ after_sent given what.New flit held
left-new held given flit nothing profile =
    (λ i. record (with_kept (next_held_by i) (part_after false flit None) held) {
      others = min (suc held.others) 64;
      shown = if shows_pointer what.New flit (part_of (sym nothing i)) then given.own.rrp else held.shown;
    }) ∙ sym (new-none held given flit nothing)
  where
    next_held_by : next_first held given.due (or_null given.front) ≡ next_held held given.due (or_null given.front)
    next_held_by = ap (λ (q : Profile). next_packet q held.pointer held.number (code_for given.due) (or_null given.front)) profile

left-tret : (held : State) (given : Given) (flit : List ℕ) → held.profile ≡ held.retry.profile → lng_of flit ≡ 1 → after_first given (Out flit what.Tret) held ≡ after_sent given what.Tret flit held
left-tret held given flit profile one =
    λ i. record (with_kept (next_held_by i) (one-flit flit one i) held) {
      others = min (suc held.others) 64;
      shown = if is_none (one-flit flit one i) then given.own.rrp else held.shown;
    }
  where
    next_held_by : next_first held given.due tret_packet ≡ next_held held given.due tret_packet
    next_held_by = ap (λ (q : Profile). next_packet q held.pointer held.number (code_for given.due) tret_packet) profile

null-left : (held : State) (given : Given) (same : Bool) → (given.own.rrp == held.shown) ≡ same →
    after_first given (if not same then Out (flit_of held.profile pret_packet given.own.rrp 0) what.Pret else Out zero_flit what.Null) held
    ≡ after_send given (if not same then Out (flit_of held.profile pret_packet given.own.rrp 0) what.Pret else Out zero_flit what.Null) held
null-left held given false is = refl
null-left held given true is = ap (λ (n : ℕ). record held { shown = n; others = min (suc held.others) 64 }) (eqb-true given.own.rrp held.shown is)

left-by : (held : State) (given : Given) (new tokens : Bool) (f g : List ℕ) (x : Sent) → held.under_way ≡ None → held.profile ≡ held.retry.profile →
    x ≡ (if new then Out f what.New else if tokens then Out g what.Tret else pointer_or_null held.profile (view_held held given)) → IsOneFlit x → after_first given x held ≡ after_send given x held
left-by held given true tokens f g x nothing profile is one = subst (λ (y : Sent). after_first given y held ≡ after_send given y held) (sym is) (left-new held given f nothing profile)
left-by held given false true f g x nothing profile is one =
    subst (λ (y : Sent). after_first given y held ≡ after_send given y held) (sym is) (left-tret held given g profile (subst IsOneFlit is one))
left-by held given false false f g x nothing profile is one =
    subst (λ (y : Sent). after_first given y held ≡ after_send given y held) (sym is) (null-left held given (given.own.rrp == held.shown) refl)

pub left-first : (held : State) (given : Given) (x : Sent) → held.under_way ≡ None → held.profile ≡ held.retry.profile → x ≡ first_time held.profile (view_held held given) → IsOneFlit x → after_first given x held ≡ after_send given x held
left-first held given x nothing profile is one =
    left-by held given ((view_held held given).is_open && may_take (view_held held given) given.front) ((view_held held given).is_open && may_return (view_held held given))
    (flit_of held.profile (next_of_view held.profile (view_held held given) (or_null given.front)) given.own.rrp 0) (flit_of held.profile (next_of_view held.profile (view_held held given) tret_packet) given.own.rrp 0)
    x nothing profile is one

-- ---- what is asked

fed-at : (held : State) (begun : UnderWay) (place : Place) (feed : Feed) → IsPlaceKept held.retry place → IsPlaceOf begun.part place → FitsPlace held.retry.profile begun.part place feed → IsFedAt held.retry begun.part place feed
fed-at held begun (Place.known packet) feed kept of fits = tt
fed-at held begun (Place.awaited head flits n) feed kept of fits = record { first_time = of.first_time; at_end = kept.at_end; fits = fits }

pub may-send : (held : State) (given : Given) → IsSender held → IfSome held.under_way (λ begun. (profile : Profile) → FitsPlace profile begun.part begun.place given.feed) → IfSome held.under_way (λ begun. IsPartFit begun.part begun.place) → MaySend held given
may-send held given is fits part = record {
  within = is.buffer.position;
  fed = λ begun some.
      let kept = subst (IsBegunKept held.retry) some is.begun in
      let of = subst (λ (u : Option UnderWay). IfSome u (λ b. IsPartFit b.part b.place)) some part in
      let fit = subst (λ (u : Option UnderWay). IfSome u (λ b. (profile : Profile) → FitsPlace profile b.part b.place given.feed)) some fits in
      fed-at held begun begun.place given.feed kept of.place_is (fit held.retry.profile);
}

-- where no IRTRY is due and nothing is to be sent again, nothing has changed
pub same-state : (held steered begun : State) (rrp : ℕ) → steered ≡ irtry_begun None held → begun ≡ again_begun steered.profile rrp (slice_get steered.retry.kept steered.retry.position) steered →
    None ≡ again_sent held.profile rrp (slice_get held.retry.kept held.retry.position) → begun ≡ held
same-state held steered begun rrp calm left none =
    left ∙ ap (λ (t : State). again_begun t.profile rrp (slice_get t.retry.kept t.retry.position) t) calm
    ∙ ap (λ (o : Option PacketFields). again_begun held.profile rrp o held) (none-again held.profile rrp (slice_get held.retry.kept held.retry.position) none)

-- what is fed doesn't matter where nothing is under way
pub first-given : (held : State) (a b : Given) (x : Sent) → a.own ≡ b.own → a.front ≡ b.front → a.due ≡ b.due → after_first a x held ≡ after_first b x held
first-given held a b (Out flit what.New) own front due = λ i. with_new (next_first held (due i) (or_null (front i))) (own i).rrp flit held
first-given held a b (Out flit what.Tret) own front due = λ i. with_new (next_first held (due i) tret_packet) (own i).rrp flit held
first-given held a b (Out flit what.Train) own front due = λ i. record held { shown = (own i).rrp; others = min (suc held.others) 64 }
first-given held a b (Out flit what.Clear) own front due = λ i. record held { shown = (own i).rrp; others = min (suc held.others) 64 }
first-given held a b (Out flit what.Start) own front due = λ i. record held { shown = (own i).rrp; others = min (suc held.others) 64 }
first-given held a b (Out flit what.Null) own front due = λ i. record held { shown = (own i).rrp; others = min (suc held.others) 64 }
first-given held a b (Out flit what.Pret) own front due = λ i. record held { shown = (own i).rrp; others = min (suc held.others) 64 }
first-given held a b (Out flit what.Again) own front due = λ i. record held { shown = (own i).rrp; others = min (suc held.others) 64 }
first-given held a b Starved own front due = λ i. record held { shown = (own i).rrp; others = min (suc held.others) 64 }

-- ---- the list

pub sent-stands : (held : State) (past : List SenderEntry) (given : Given) (x : Sent) → held.profile ≡ held.retry.profile → MaySend held given → x ≡ choice held.profile (view_held held given) → StandsFor held past →
    StandsFor (after_send given x held) (entries_after given x past)
sent-stands held past given x profile may is stands =
    let e : x ≡ choice held.retry.profile (view_held held given) = is ∙ ap (λ (q : Profile). choice q (view_held held given)) profile in
    subst (λ (y : Sent). StandsFor (after_send given y held) (entries_after given y past)) (sym e) (stands-send held past given stands may)

pub sent-answer : (held : State) (past : List SenderEntry) (given : Given) (x : Sent) → held.profile ≡ held.retry.profile → x ≡ choice held.profile (view_held held given) → StandsFor held past →
    x ≡ choice held.retry.profile (view_after held.retry.profile held.retry.flits past given)
sent-answer held past given x profile is stands =
    is ∙ ap (λ (q : Profile). choice q (view_held held given)) profile ∙ ap (choice held.retry.profile) (view-same held past given stands)

-- where all kept packets were sent, none is begun again
pub none_left : (retry : RetryFields) → true ≡ are_all_sent retry → slice_get retry.kept retry.position ≡ None
none_left retry all = slice_get_past retry.kept retry.position (omega (arith, eqb-true retry.position (length retry.kept) (sym all)))
