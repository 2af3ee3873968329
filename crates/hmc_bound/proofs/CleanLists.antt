-- The landing of a flit that isn't changed is the one that hmc_link_state's rounds make, by the
-- lists of a direction.
use Rattle.std.proofs.Common.{◌≡◌, ◌∙◌, ◌+◌, ◌-◌, ◌≤◌, ℕ, suc, Bool, true, false, List, [], ◌∷◌, ◌++◌, length, drop, map, Option, Some, None, refl, sym, ap, subst, arith, length-append, append-nil}
use Rattle.std.specs.Prelude.{◌||◌, if◌then◌else◌, is_some, slice_get, filter, sum_by, cond}
use Rattle.std.specs.Str.{bytes_eq}
use Rattle.std.proofs.lemmas.Slice.Eq.{bytes_eq-Decides}
use Rattle.std.proofs.lemmas.List.{map_push, drop-append-le}
use Rattle.std.proofs.lemmas.List.Elements.{filter-append}
use Rattle.std.proofs.lemmas.List.Sums.{sum_by_push}
use Rattle.hmc_codes.specs.Flit.{zero_flit}
use Rattle.hmc_codes.specs.declared.profile.Profile.{Profile}
use Rattle.hmc_packet.specs.declared.kind.Kind.TheVariants as outer_kinds
use Rattle.hmc_packet.specs.declared.outcome.Outcome as outer_outcome
use Rattle.hmc_packet.specs.declared.outcome.Outcome.TheVariants as out
use Rattle.hmc_packet.specs.Irtry.{irtry_in}
use Rattle.hmc_packet.specs.Landings as receipts
use Rattle.hmc_packet.specs.Landings.ReceiverEntry.{Land}
use Rattle.hmc_packet.specs.Packet.{PacketFields, flits_of}
use Rattle.hmc_packet.specs.Parts.{lng_of, word_of}
use Rattle.hmc_packet.specs.Receptions.{reception_of}
use Rattle.hmc_packet.specs.Spelling.{training_flit}
use Rattle.hmc_packet.proofs.ReadOf.{is_null-is}
use Rattle.hmc_packet.specs.Masks.{changes}
use Rattle.hmc_send.specs.LinkLines.{StampedFlit}
use Rattle.hmc_send.specs.Places.{is_token}
use Rattle.hmc_numbers.specs.Weights.{Weight, upto, size}
use Rattle.hmc_numbers.specs.Direction.{Item, Direction, Reached as far, Filler as fill, begun, front_or}
use Rattle.hmc_numbers.specs.Direction.Item.{filler, clear, part}
use Rattle.hmc_numbers.specs.Events.{Reading, Event, Event as events, happens}
use Rattle.hmc_numbers.specs.Pair.{Half, own_after}
use Rattle.hmc_numbers.specs.Places as numbers
use Rattle.hmc_codes.specs.Profile.{window_of as window}
use Rattle.hmc_numbers.specs.Tokens.{if_token, cost}
use Rattle.hmc_numbers.specs.Turns.{MayMove, MayHere, MayCount}
use Rattle.hmc_numbers.proofs.Effect.{effect}
use Rattle.hmc_wire.proofs.EntryTurns.{reading-same}
use Rattle.hmc_wire.specs.EntryTurns.{reading_of, counted_move}
use Rattle.hmc_wire.proofs.Actions.{SideOf, landing_event}
use Rattle.hmc_wire.proofs.ActionLaw.{Linked, facts}
use Rattle.hmc_wire.proofs.Flits.{flits-left}
use Rattle.hmc_wire.proofs.Grammar.{Kind as inner_kinds}
use Rattle.hmc_wire.proofs.GrammarCounted.{counted}
use Rattle.hmc_wire.proofs.GrammarLandings as inner
use Rattle.hmc_wire.proofs.GrammarLandings.{Outcome as inner_outcomes, Outcome, Landing as landing, mode, is_spoilt}
use Rattle.hmc_wire.proofs.Lands.{Lands}
use Rattle.hmc_wire.proofs.Links.{may-land, unchanged, accepted-sum, accepted-count, cost-fit}
use Rattle.hmc_wire.proofs.Matches as matches
use Rattle.hmc_wire.proofs.Mirrors.{mirrored, mirrors-landed}
use Rattle.hmc_wire.proofs.PacketGrammar.{grammar, alone}
use Rattle.hmc_wire.proofs.Places.{AgreesWith}
use Rattle.hmc_wire.proofs.Readings.{alone-same}
use Rattle.hmc_wire.proofs.Spelled.{Sent, Spelled}
use Rattle.hmc_wire.proofs.Ways.{Lists, Way}
use Rattle.hmc_wire.proofs.Words.{outcome_as}
use Rattle.hmc_link_state.specs.Facts.{SideFacts}
use Rattle.hmc_link_state.specs.Landing.{IsLanding}
use Rattle.hmc_link_state.specs.Round.{Reads, is_steady, front, event_here, event_at_far, is_counted_at, is_ran_start_at, steady_after, costs_next}
use Rattle.hmc_link_state.specs.State.{Side, wire, count_if, count_of}
use Rattle.hmc_link_state.proofs.CleanLandings.{buffer_after}
use Rattle.hmc_link_state.proofs.TokenSums.{cost_next, count_next}
use Rattle.hmc_steps.specs.Doings.{is_ran_start}
use Rattle.hmc_steps.specs.SideIn.{lacking}
use Rattle.hmc_steps.proofs.CleanLands.{clean-reads, is_ran, IsNoPartItem}
use Rattle.hmc_steps.proofs.Landed.{event_in, landing-event_is}
use Rattle.hmc_steps.proofs.LandStep.{IsLandingOf}
use Rattle.hmc_steps.proofs.Sides.{side_of, setup}
use Rattle.hmc_bound.proofs.CleanGrammar.{Knows, clean, lacking_of}
use Rattle.hmc_bound.proofs.CleanModes.{CleanIn, never}
use Rattle.hmc_bound.proofs.Trains.{TrainsAre}

-- ---- readings in Train

train_is : bytes_eq training_flit training_flit ≡ true
train_is = (bytes_eq-Decides training_flit training_flit).1 refl

zero_trains : bytes_eq zero_flit training_flit ≡ false
unfolding zero_flit training_flit
zero_trains = refl

train_lng : lng_of training_flit ≡ 20
unfolding training_flit lng_of word_of
train_lng = refl

or_some : (b : Bool) (x : Option (inner_kinds × ℕ)) (k : inner_kinds) (r : ℕ) → x ≡ Some (k, r) →
    (b || inner.is_some_irtry x) ≡ true
or_some true x k r e = refl
or_some false x k r e = ap inner.is_some_irtry e

steady-reads : (q : Profile) (s : Sent (grammar q)) (ps : List Weight) (y : Item) (f : List ℕ) →
    Spelled (grammar q) s ps y f → (y ≡ filler fill.train → f ≡ training_flit) → IsNoPartItem y →
    inner.is_steady (grammar q) f ≡ is_steady y (matches.reading_of (alone q f))
steady-reads q s ps (filler fill.null) f h t p =
    (λ i. (ap (λ (g : List ℕ). bytes_eq g training_flit) (is_null-is f h.0) ∙ zero_trains) i
    || inner.is_some_irtry (h.1 i))
    ∙ ap (λ x. is_steady (filler fill.null) (matches.reading_of x)) (sym h.1)
steady-reads q s ps (filler fill.train) f h t p =
    λ i. (ap (λ (g : List ℕ). bytes_eq g training_flit) (t refl) ∙ train_is) i
    || inner.is_some_irtry (alone q f)
steady-reads q s ps (filler fill.pret) f h t p =
    (λ i. never (bytes_eq f training_flit)
    (λ e. let same = ap lng_of ((bytes_eq-Decides f training_flit).0 e) in let long = h.lng in
    let l = train_lng in omega (arith, same, long, l)) i || inner.is_some_irtry (h.alone i))
    ∙ ap (λ x. is_steady (filler fill.pret) (matches.reading_of x)) (sym h.alone)
steady-reads q s ps (filler fill.start) f h t p =
    or_some (bytes_eq f training_flit) (alone q f) inner_kinds.start h.r h.alone
    ∙ ap (λ x. is_steady (filler fill.start) (matches.reading_of x)) (sym h.alone)
steady-reads q s ps clear f h t p =
    or_some (bytes_eq f training_flit) (alone q f) inner_kinds.clear h.r h.alone
    ∙ ap (λ x. is_steady clear (matches.reading_of x)) (sym h.alone)
steady-reads q s ps (part n k more) f h t p = absurd p

train-front : (x : Item) (xs line : List Item) (fs : List StampedFlit) (front : StampedFlit) →
    line ≡ x ∷ xs → slice_get fs 0 ≡ Some front → TrainsAre line fs → x ≡ filler fill.train →
    front.flit ≡ training_flit
train-front x xs line [] front e at all t = absurd (cc at)
train-front x xs [] (f ∷ fs) front e at all t = absurd all
train-front x xs (y ∷ line) (f ∷ fs) front e at all t =
    let same : f ≡ front = cc in
    let here : y ≡ x =
    cc in subst (λ (g : StampedFlit). g.flit ≡ training_flit) same (all.0 (here ∙ t))

no-part : (y : Item) (xs line : List Item) (ps : List Weight) → line ≡ y ∷ xs →
    ((n k more : ℕ) (zs : List Item) → line ≡ part n k more ∷ zs → (1 ≤ n) × (n ≤ length ps)) →
    ps ≡ [] → IsNoPartItem y
no-part (filler f) xs line ps e placed none = tt
no-part clear xs line ps e placed none = tt
no-part (part n k more) xs line ps e placed none =
    let z = placed n k more xs e in
    let l : length ps ≡ 0 =
    ap (λ (l : List Weight). length l) none in absurd (omega (arith, z, l))

-- ---- what is lacking

lacking-same : (q : Profile) (l : List (List ℕ)) → lacking l ≡ lacking_of (grammar q) l
lacking-same q [] = refl
lacking-same q (f ∷ l) = refl

lacking-push : (l : List (List ℕ)) (f : List ℕ) → 1 ≤ lacking l →
    lacking (l ++ f ∷ []) ≡ lacking l - 1
lacking-push [] f some = absurd (omega (arith, some))
lacking-push (g ∷ l) f some =
    by_length (lng_of g) (length l) (length (l ++ f ∷ [])) (length-append l (f ∷ []))
  where
    by_length : (n a b : ℕ) → b ≡ a + 1 → n - suc b ≡ n - suc a - 1
    by_length n a b e = omega (arith, e)

gathered-is : (o : outer_outcome.Outcome) → outcome_as o ≡ inner_outcomes.gathered →
    o ≡ out.Gathered
gathered-is out.Gathered e = refl
gathered-is out.Quiet e = absurd (cc e)
gathered-is out.Trained e = absurd (cc e)
gathered-is out.Accepted e = absurd (cc e)
gathered-is out.Poisoned e = absurd (cc e)
gathered-is out.Repeat e = absurd (cc e)
gathered-is (out.AbortedBad bad) e = absurd (cc e)
gathered-is out.AbortedOrder e = absurd (cc e)
gathered-is (out.Ran k) e = absurd (cc e)

pending-gathered : (rs : List receipts.ReceiverEntry) (flit : List ℕ) (o : outer_outcome.Outcome) →
    o ≡ out.Gathered → receipts.pending (Land flit o ∷ rs) ≡ receipts.pending rs ++ flit ∷ []
unfolding receipts.pending
pending-gathered rs flit out.Gathered e = refl
pending-gathered rs flit o e = absurd (cc e)

ran-same : (o : outer_outcome.Outcome) → is_ran_start o ≡ is_ran (outcome_as o)
ran-same out.Gathered = refl
ran-same out.Quiet = refl
ran-same out.Trained = refl
ran-same out.Accepted = refl
ran-same out.Poisoned = refl
ran-same out.Repeat = refl
ran-same (out.AbortedBad bad) = refl
ran-same out.AbortedOrder = refl
ran-same (out.Ran outer_kinds.Start) = refl
ran-same (out.Ran outer_kinds.Clear) = refl

-- ---- the packet that is accepted

-- what a list of accepted packets is by numbers
pub record Sums (l : List PacketFields) (w : Direction) : Type 0 where
  pub count : length l ≡ w.accepted
  pub tokens : sum_by (λ (p : PacketFields). count_if (is_token p)) l ≡ upto count_of w.first
      w.accepted
  pub costs : sum_by (λ (p : PacketFields). if_token (is_token p) (flits_of p)) l ≡ upto cost
      w.first w.accepted

pub sums-of : (q : Profile) (retry adv : ℕ) (mine : Lists q) (s : Sent (grammar q))
    (own oth : SideOf (grammar q)) → Way q retry mine own → Linked (grammar q) s retry adv own oth →
    AgreesWith q s mine.sender → Sums (receipts.accepted q mine.receiver) own.half.direction
sums-of q retry adv mine s own oth is linked agree = record {
  count = accepted-count q retry adv mine s own oth is linked;
  tokens =
      accepted-sum q retry adv mine s own oth (λ p. count_if (is_token p)) count_of is linked agree
      (λ y p some fits. ap count_if fits.token);
  costs =
      accepted-sum q retry adv mine s own oth (λ p. if_token (is_token p) (flits_of p)) cost is
      linked agree cost-fit;
}

-- one packet more
push-buffer : (n : ℕ) (l : List PacketFields) (p : PacketFields) (b tok : Bool) (k : ℕ) →
    n ≤ length (filter is_token l) → is_token p ≡ b → count_if b ≡ (if tok then 1 else 0) →
    if_token b (flits_of p) ≡ (if tok then k else 0) →
    map flits_of
    (drop n (filter is_token (l ++ p ∷ []))) ≡ (if tok then map flits_of
    (drop n (filter is_token l)) ++ k ∷ [] else map flits_of (drop n (filter is_token l)))
push-buffer n l p true true k le is c e =
    ap (λ (m : List PacketFields). map flits_of (drop n m)) (filter-append is_token l (p ∷ [])
    ∙ ap (λ (b : Bool). filter is_token l ++ cond b (p ∷ []) []) is)
    ∙ ap (map flits_of) (drop-append-le n (filter is_token l) (p ∷ []) le)
    ∙ map_push flits_of (drop n (filter is_token l)) p
    ∙ ap (λ (m : ℕ). map flits_of (drop n (filter is_token l)) ++ m ∷ []) e
push-buffer n l p true false k le is c e = absurd (omega (arith, c))
push-buffer n l p false true k le is c e = absurd (omega (arith, c))
push-buffer n l p false false k le is c e =
    ap (λ (m : List PacketFields). map flits_of (drop n m)) (filter-append is_token l (p ∷ [])
    ∙ ap (λ (b : Bool). filter is_token l ++ cond b (p ∷ []) []) is
    ∙ append-nil (filter is_token l))

same-first : (l more : List PacketFields) → length (l ++ more) ≡ length l → more ≡ []
same-first l [] e = refl
same-first l (p ∷ more) e = absurd (let n = length-append l (p ∷ more) in omega (arith, e, n))

one-first : (l more : List PacketFields) → length (l ++ more) ≡ length l + 1 → (p : PacketFields)
    × (more ≡ p ∷ [])
one-first l [] e = absurd (let n = length-append l [] in omega (arith, e, n))
one-first l (p ∷ []) e = (p, refl)
one-first l (p ∷ r ∷ more) e =
    absurd (let n = length-append l (p ∷ r ∷ more) in omega (arith, e, n))

stays : (n : ℕ) (l more : List PacketFields) (costs : Bool) (b : List ℕ) →
    b ≡ map flits_of (drop n (filter is_token l)) → length (l ++ more) ≡ length l →
    map flits_of (drop n (filter is_token (l ++ more))) ≡ (if costs then b ++ [] else b)
stays n l more true b is e =
    ap (λ (m : List PacketFields). map flits_of (drop n (filter is_token (l ++ m))))
    (same-first l more e)
    ∙ ap (λ (m : List PacketFields). map flits_of (drop n (filter is_token m))) (append-nil l)
    ∙ sym is ∙ sym (append-nil b)
stays n l more false b is e =
    ap (λ (m : List PacketFields). map flits_of (drop n (filter is_token (l ++ m))))
    (same-first l more e)
    ∙ ap (λ (m : List PacketFields). map flits_of (drop n (filter is_token m))) (append-nil l)
    ∙ sym is

accepts-buffer : (n : ℕ) (l more : List PacketFields) (x : Side) →
    x.buffer ≡ map flits_of (drop n (filter is_token l)) → n ≤ length (filter is_token l) →
    suc (wire x).accepted ≤ begun (wire x) → Sums l (wire x) →
    Sums (l ++ more) (happens (wire x) events.accepts) →
    map flits_of (drop n (filter is_token (l ++ more))) ≡ buffer_after x (costs_next x)
    events.accepts
accepts-buffer n l more x is le lt before after =
    let w = wire x in
    let one = one-first l more (after.count ∙ ap (λ (m : ℕ). m + 1) (sym before.count)) in
    let p = one.0 in
    let tok = numbers.is_token w.first (w.accepted + 1) in
    let k = size w.first (w.accepted + 1) in
    let tokens : sum_by (λ (r : PacketFields). count_if (is_token r)) l
    + count_if (is_token p) ≡ upto count_of w.first w.accepted + (if tok then 1 else 0) =
    sym (sum_by_push (λ (r : PacketFields). count_if (is_token r)) l p)
    ∙ ap (λ (m : List PacketFields). sum_by (λ (r : PacketFields). count_if (is_token r))
    (l ++ m)) (sym one.1) ∙ after.tokens ∙ count_next w.first w.accepted lt in
    let costs : sum_by (λ (r : PacketFields). if_token (is_token r) (flits_of r)) l
    + if_token (is_token p) (flits_of p) ≡ upto cost w.first w.accepted
    + (if tok then k else 0) =
    sym (sum_by_push (λ (r : PacketFields). if_token (is_token r) (flits_of r)) l p)
    ∙ ap (λ (m : List PacketFields).
    sum_by (λ (r : PacketFields). if_token (is_token r) (flits_of r)) (l ++ m)) (sym one.1)
    ∙ after.costs ∙ cost_next w.first w.accepted lt in
    ap (λ (m : List PacketFields). map flits_of (drop n (filter is_token (l ++ m)))) one.1
    ∙ push-buffer n l p (is_token p) tok k le refl (less _ _ _ _ tokens before.tokens)
    (less _ _ _ _ costs before.costs)
    ∙ ap (λ (b : List ℕ). if tok then b ++ k ∷ [] else b) (sym is)
  where
    less : (a b c d : ℕ) → a + b ≡ c + d → a ≡ c → b ≡ d
    less a b c d e f = omega (arith, e, f)

buffer-by : (n : ℕ) (l more : List PacketFields) (x : Side) (e : Event) → IsLanding e →
    x.buffer ≡ map flits_of (drop n (filter is_token l)) → n ≤ length (filter is_token l) →
    (happens (wire x) e).accepted ≤ begun (happens (wire x) e) → Sums l (wire x) →
    Sums (l ++ more) (happens (wire x) e) →
    map flits_of (drop n (filter is_token (l ++ more))) ≡ buffer_after x (costs_next x) e
buffer-by n l more x events.accepts h is le lt before after =
    accepts-buffer n l more x is le (let k : (wire x).accepted + 1 ≤ begun (wire x) = lt in
    omega (arith, k)) before after
buffer-by n l more x (events.drops r) h is le lt before after =
    stays n l more (costs_next x) x.buffer is (after.count ∙ sym before.count)
buffer-by n l more x events.trains h is le lt before after =
    stays n l more (costs_next x) x.buffer is (after.count ∙ sym before.count)
buffer-by n l more x events.opens h is le lt before after =
    stays n l more (costs_next x) x.buffer is (after.count ∙ sym before.count)
buffer-by n l more x (events.passes r) h is le lt before after =
    stays n l more (costs_next x) x.buffer is (after.count ∙ sym before.count)
buffer-by n l more x events.gathers h is le lt before after =
    stays n l more (costs_next x) x.buffer is (after.count ∙ sym before.count)
buffer-by n l more x events.repeats h is le lt before after =
    stays n l more (costs_next x) x.buffer is (after.count ∙ sym before.count)
buffer-by n l more x (events.spoils c) h is le lt before after =
    stays n l more (costs_next x) x.buffer is (after.count ∙ sym before.count)
buffer-by n l more x (events.breaks c) h is le lt before after =
    stays n l more (costs_next x) x.buffer is (after.count ∙ sym before.count)
buffer-by n l more x e h is le lt before after = absurd h

-- ---- a landing

-- what is known of the lists after it
pub record After (q : Profile) (mine : Lists q) (flit : List ℕ) (o : outer_outcome.Outcome)
    (w : Direction) : Type 0 where
  pub sums : Sums (receipts.accepted q (Land flit o ∷ mine.receiver)) w
  pub begun_is : w.accepted ≤ begun w

pub record Clean (q : Profile) (mine : Lists q) (x : Side) (flit : List ℕ)
    (o : outer_outcome.Outcome) (e : Event) : Type 0 where
  pub reads : Reads (front x) (reading_of (irtry_in q flit))
  pub event : e ≡ event_here x (reading_of (irtry_in q flit))
  pub counted_is : is_some (reception_of q mine.receiver flit).rrp ≡ is_counted_at x (wire x).far e
  pub ran_is : is_ran_start o ≡ is_ran_start_at x (wire x).far (reading_of (irtry_in q flit))
  pub steady : (happens (wire x) e).far ≡ far.training → ((wire x).far ≡ far.training)
      × (receipts.training q (Land flit o ∷ mine.receiver) ≡ steady_after x
      (reading_of (irtry_in q flit)))
  pub lacks : (happens (wire x) e).far ≡ far.spoilt → ((wire x).far ≡ far.spoilt)
      × (lacking (receipts.pending (Land flit o ∷ mine.receiver)) ≡ x.missing - 1)
  pub buffer :
      map flits_of
      (drop mine.taken (filter is_token (receipts.accepted q (Land flit o ∷ mine.receiver))))
      ≡ buffer_after x (costs_next x) e

may-here : (retry adv : ℕ) (h k : Half) (rrp : Option ℕ) (e : Event) →
    MayMove retry adv h k (counted_move rrp e) → MayHere retry adv h k e
may-here retry adv h k None e m = m
may-here retry adv h k (Some r) e m = m.0

may-count : (retry adv : ℕ) (h k : Half) (rrp : Option ℕ) (e : Event) →
    MayMove retry adv h k (counted_move rrp e) → is_some rrp ≡ true → MayCount h.direction e
may-count retry adv h k None e m s = absurd (cc s)
may-count retry adv h k (Some r) e m s = m.1

after-is : (h : Half) (n : ℕ) (rrp : Option ℕ) (e : Event) →
    (own_after h n (counted_move rrp e)).direction ≡ happens h.direction e
after-is h n None e = refl
after-is h n (Some r) e = refl

accepted-more : (q : Profile) (rs : List receipts.ReceiverEntry) (flit : List ℕ)
    (o : outer_outcome.Outcome) → receipts.accepted q (Land flit o ∷ rs) ≡ receipts.accepted q rs
    ++ receipts.accepted_by q (receipts.pending rs) (Land flit o)
unfolding receipts.accepted
accepted-more q rs flit o = refl

pub clean-lists : (q : Profile) (line retry adv : ℕ) (mine theirs : Lists q) (s : Sent (grammar q))
    (own oth : SideOf (grammar q)) (ack their_ack missing their_missing : ℕ) (mask flit : List ℕ)
    (o : outer_outcome.Outcome) (sent : StampedFlit) → retry ≤ window q →
    Way q retry mine own → Linked (grammar q) s retry adv own oth →
    IsLandingOf q mine mask flit o sent → changes mask ≡ false →
    SideFacts (setup line retry adv) (side_of q own.half mine ack missing)
    (side_of q oth.half theirs their_ack their_missing) →
    SideFacts (setup line retry adv) (side_of q oth.half theirs their_ack their_missing)
    (side_of q own.half mine ack missing) →
    TrainsAre own.half.direction.line (drop mine.landed mine.sent) →
    (own.half.direction.far ≡ far.spoilt → missing ≡ lacking (receipts.pending mine.receiver)) →
    MayMove retry adv own.half oth.half
    (counted_move (reception_of q mine.receiver flit).rrp (event_in q mine false flit o)) →
    Sums (receipts.accepted q mine.receiver) own.half.direction →
    After q mine flit o
    (own_after own.half oth.half.direction.accepted
    (counted_move (reception_of q mine.receiver flit).rrp
    (event_in q mine false flit o))).direction →
    IsLanding (event_in q mine false flit o) →
    Clean q mine (side_of q own.half mine ack missing) flit o (event_in q mine false flit o)
clean-lists q line retry adv mine theirs s own oth ack their_ack missing their_missing mask flit o
    sent few is linked l ce side other_side trains lack may before after landing_is =
    let g = grammar q in
    let x = side_of q own.half mine ack missing in
    let w = own.half.direction in
    let rrp = (reception_of q mine.receiver flit).rrp in
    let e = event_in q mine false flit o in
    let can = may-land q retry mine own mask flit sent is l.is_front l.flit_is l.caught in
    let f = facts g s retry adv own oth (changes mask) flit few linked can in
    let y = f.front.0 in
    let ys = f.front.1.0 in
    let lands : Lands g s retry w own.received y ys false flit =
    subst (λ (c : Bool). Lands g s retry w own.received y ys c flit) ce f.front.1.1 in
    let said = mirrored q mine.receiver mine.landings flit is.mirrors in
    let outcome : inner.outcome g own.received flit ≡ outcome_as o =
    (λ i. inner.outcome g (is.received i) flit) ∙ sym said.outcome
    ∙ ap outcome_as (sym l.outcome_is) in
    let pointer : counted g own.received flit ≡ rrp =
    (λ i. counted g (is.received i) flit) ∙ sym said.pointer in
    let event : landing_event g own.received false flit ≡ e =
    landing-event_is q retry mine own false flit o is outcome in
    let reading : matches.reading_of (alone q flit) ≡ reading_of (irtry_in q flit) =
    ap matches.reading_of (alone-same q flit) ∙ reading-same (irtry_in q flit) in
    let front_is : front x ≡ y = ap (front_or w.before) lands.line in
    let knows : Knows g x y own.received flit = record {
      steady = λ z. is.mirrors.trained ∙ ap (inner.trained_count g) (sym is.received);
      reads_steady = λ z.
          steady-reads q s w.first y flit (lands.spelled refl) (λ t. l.flit_is
          ∙ unchanged mask sent.flit
          (flits-left mine.sent mine.landed 0 sent is.whole l.is_front) ce
          ∙ train-front y ys w.line (drop mine.landed mine.sent) sent lands.line l.is_front
          trains t)
          (no-part y ys w.line w.first lands.line
          (λ n k more zs at. let p = lands.laws.placed n k more zs at in (p.least, p.most))
          (other_side.untrained z).others);
      missing =
          λ z. lack z ∙ lacking-same q (receipts.pending mine.receiver)
          ∙ ap (lacking_of g) (is.mirrors.pending ∙ ap (inner.pending g) (sym is.received));
      some = λ z. (side.missing z).0;
    } in
    let here : MayHere retry adv own.half oth.half e =
    may-here retry adv own.half oth.half rrp e may in
    let cl : CleanIn g x y own.received flit w.far (mode g own.received)
    (is_spoilt g own.received) =
    clean g s retry x y ys own.received flit w.far lands knows refl linked.matches.place
    (λ z. subst (MayCount w) (sym event)
    (may-count retry adv own.half oth.half rrp e may (ap (λ (p : Option ℕ). is_some p) (sym pointer)
    ∙ z))) in
    let here_is : e ≡ event_here x (reading_of (irtry_in q flit)) =
    sym event ∙ cl.event ∙ (λ i. event_at_far x (reading i) (sym front_is i) w.far) in
    record {
      reads =
          subst (λ (r : Reading). Reads (front x) r) reading
          (subst (λ (i : Item). Reads i (matches.reading_of (alone q flit))) (sym front_is)
          (clean-reads g s w.first y flit (lands.spelled refl)));
      event = here_is;
      counted_is =
          ap (λ (p : Option ℕ). is_some p) (sym pointer) ∙ cl.counted
          ∙ ap (is_counted_at x w.far) event;
      ran_is =
          ran-same o ∙ ap (λ (z : Outcome g.Bad). is_ran z) (sym outcome) ∙ cl.ran_is
          ∙ ap (is_ran_start_at x w.far) reading;
      steady = λ z.
          let train = (effect retry adv own.half oth.half e here).far z in (
            train,
            (mirrors-landed q mine.receiver mine.landings false flit o is.mirrors
                l.outcome_is).trained
                ∙ (λ i. inner.trained_count g (landing.landed false flit (sym outcome i)
                ∷ sym is.received i))
                ∙ cl.steady train (ap (λ (v : Event). (happens w v).far) event ∙ z)
                ∙ (λ i. if is_steady (sym front_is i) (reading i) then x.steady + 1 else 0),
          );
      lacks = λ z.
          let found = cl.lacks (ap (λ (v : Event). (happens w v).far) event ∙ z) in (
            found.0,
            ap lacking
                (pending-gathered mine.receiver flit o (gathered-is o (sym outcome ∙ found.1)))
                ∙ lacking-push (receipts.pending mine.receiver) flit
                (subst (λ (n : ℕ). 1 ≤ n) (lack found.0) (side.missing found.0).0)
                ∙ ap (λ (n : ℕ). n - 1) (sym (lack found.0)),
          );
      buffer =
          ap (λ (m : List PacketFields). map flits_of (drop mine.taken (filter is_token m)))
          (accepted-more q mine.receiver flit o)
          ∙ buffer-by mine.taken (receipts.accepted q mine.receiver)
          (receipts.accepted_by q (receipts.pending mine.receiver) (Land flit o)) x e landing_is
          refl is.takes
          (subst (λ (v : Direction). v.accepted ≤ begun v)
          (after-is own.half oth.half.direction.accepted rrp e) after.begun_is)
          before (subst (λ (m : List PacketFields). Sums m (happens w e))
          (accepted-more q mine.receiver flit o)
          (subst (Sums (receipts.accepted q (Land flit o ∷ mine.receiver)))
          (after-is own.half oth.half.direction.accepted rrp e) after.sums));
    }
