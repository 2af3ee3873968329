-- A round keeps a caught-up link caught up.
use Rattle.std.proofs.Common.{◌≡◌, ℕ, zero, suc, ◌+◌, ◌%◌, ◌≤◌, ◌==◌, max, nat_lt, nat_le, Bool, true, false, not, ◌&&◌, if◌then◌else◌, List, [], ◌∷◌, ◌++◌, length, inl, inr, refl, sym, ◌∙◌, ap, subst, arith}
use Rattle.std.proofs.lemmas.Grind.{common_steps}
use Rattle.hmc_codes.specs.declared.profile.Profile.{Profile}
use Rattle.hmc_numbers.specs.Weights.{Weight}
use Rattle.hmc_numbers.specs.Direction.{Filler as fill, Item, Direction, begun, position}
use Rattle.hmc_numbers.specs.Direction.Item.{filler, clear, part}
use Rattle.hmc_numbers.specs.Events.{Reading, Event, happens}
use Rattle.hmc_numbers.specs.Events.Event.{accepts, repeats}
use Rattle.hmc_numbers.specs.Pair.{other_after, front_stamp}
use Rattle.hmc_numbers.specs.Pair.Move.{does, counts}
use Rattle.hmc_numbers.specs.PairLaws.{Rising}
use Rattle.hmc_link_state.specs.Choice.{Sight, Choice, choice, begun_choice, free_choice, packet_choice, new_choice, idle_choice, is_training, is_abort, fits, flits_or}
use Rattle.hmc_link_state.specs.Choice.Choice.{train, starved, next, clear as clears, start, again, new, tret, pret, null}
use Rattle.hmc_link_state.specs.State.{Setup, Side, State, wire, IsSettled, IsSettledSide}
use Rattle.hmc_link_state.specs.Round.{sight, sent, sent_by, event_in_good, event_here, is_counted_at, landed_own, landed_other, link_round, front, costs_next, CubeRound, IsRound}
use Rattle.hmc_link_state.specs.EachRound.{StaysReady}
use Rattle.hmc_link_state.proofs.Calm.{not_zero, whole_mode, landed_wire, sent_settled, landed_other_settled}
use Rattle.hmc_link_state.proofs.Lines.{sent_fits}
use Rattle.hmc_link_state.proofs.Settled.{stays_settled}
use Rattle.hmc_link_state.proofs.Steady.{steadies}
use Rattle.hmc_numbers.specs.May.{IsGood}
use Rattle.hmc_numbers.proofs.Rising.{rising_front, rising_snoc}

-- what a settled sender that is caught up sends
abbrev IsNewer : Choice → Type 0
IsNewer next = Unit {0}
IsNewer (new n) = Unit {0}
IsNewer tret = Unit {0}
IsNewer pret = Unit {0}
IsNewer null = Unit {0}
IsNewer c = ⊥

if_newer : (b : Bool) (c d : Choice) → IsNewer c → IsNewer d → IsNewer (if b then c else d)
if_newer true c d h k = h
if_newer false c d h k = k

else_newer : (b : Bool) (c d : Choice) → b ≡ false → IsNewer d → IsNewer (if b then c else d)
else_newer b c d q k = subst (λ x. IsNewer (if x then c else d)) (sym q) k

new_newer : (s : Sight) → IsNewer (new_choice s)
new_newer s =
    if_newer (s.is_open && fits s.front s.held s.room) (new (flits_or s.front))
    (if s.is_open && (nat_lt 0 s.due && nat_le 1 s.room) then tret else idle_choice s) tt
    (if_newer (s.is_open && (nat_lt 0 s.due && nat_le 1 s.room)) tret (idle_choice s) tt
    (if_newer (not s.is_acknowledged) pret null tt tt))

not_less : (a b : ℕ) → a ≡ b → nat_lt a b ≡ false
not_less a b h = grind (arith, common_steps)

newer : (c : Setup) (own other : Side) → IsSettledSide own → IsGood (wire other).far →
    position (wire own) ≡ begun (wire own) → IsNewer (choice (sight c own other))
newer c own other h g p =
    let s : Sight = sight c own other in
    let m = whole_mode (wire other).far g in
    else_newer (is_training s.mode) train (begun_choice s) (ap is_training m)
    (if_newer (not ((wire own).left == 0)) next (if not ((wire own).clears % 32 == 0) then clears
    else free_choice s) tt
    (else_newer (not ((wire own).clears % 32 == 0)) clears (free_choice s)
    (not_zero ((wire own).clears % 32) h.clears)
    (else_newer (not (own.starts % 32 == 0)) start (if s.go_back then clears
    else (if is_abort s.mode && s.is_long_ago then start else packet_choice s))
    (not_zero (own.starts % 32) h.starts)
    (else_newer own.go_back clears (if is_abort s.mode && s.is_long_ago then start
    else packet_choice s) h.back
    (else_newer (is_abort s.mode && s.is_long_ago) start (packet_choice s)
    (ap (λ x. is_abort x && s.is_long_ago) m)
    (else_newer (nat_lt s.position s.begun) again (new_choice s) (not_less s.position s.begun p)
    (new_newer s)))))))

-- caught up, with what is acknowledged between two numbers
abbrev pub IsCaught : Side → Type 0
IsCaught x = (position (wire x) ≡ begun (wire x)) × ((wire x).acked ≤ begun (wire x))

one_longer : (ps : List Weight) (p : Weight) → length (ps ++ p ∷ []) ≡ suc (length ps)
one_longer [] p = refl
one_longer (q ∷ ps) p = ap suc (one_longer ps p)

grows : (ps : List Weight) (p : Weight) (acked : ℕ) → acked ≤ length ps →
    (max acked (length ps + 1) ≡ length (ps ++ p ∷ [])) × (acked ≤ length (ps ++ p ∷ []))
grows ps p acked h =
    let e : length (ps ++ p ∷ []) ≡ suc (length ps) = one_longer ps p in
    (omega (arith, e, h), omega (arith, e, h))

caught_sent : (c : Setup) (own other : Side) (x : Choice) → IsNewer x → IsCaught own →
    IsCaught (sent_by c own other x)
caught_sent c own other train k h = absurd k
caught_sent c own other starved k h = absurd k
caught_sent c own other clears k h = absurd k
caught_sent c own other start k h = absurd k
caught_sent c own other again k h = absurd k
caught_sent c own other next k h = h
caught_sent c own other (new n) k h = grows (wire own).first _ (wire own).acked h.1
caught_sent c own other tret k h = grows (wire own).first _ (wire own).acked h.1
caught_sent c own other pret k h = h
caught_sent c own other null k h = h

if_caught : (b : Bool) (x y : Side) → IsCaught x → IsCaught y → IsCaught (if b then x else y)
if_caught true x y h k = h
if_caught false x y h k = k

pub sent_caught : (c : Setup) (own other : Side) → IsSettledSide own → IsGood (wire other).far →
    IsCaught own → IsCaught (sent c own other)
sent_caught c own other h g k =
    if_caught (nat_lt (length (wire own).line) c.line)
    (sent_by c own other (choice (sight c own other))) own
    (caught_sent c own other (choice (sight c own other)) (newer c own other h g k.0) k) k

-- a landing changes nothing of its own sender
same_caught : (w : Direction) (i : Item) → (max w.acked w.last ≡ length w.first)
    × (w.acked ≤ length w.first) →
    (position (happens w (event_in_good w i)) ≡ begun (happens w (event_in_good w i)))
    × ((happens w (event_in_good w i)).acked ≤ begun (happens w (event_in_good w i)))
same_caught w (filler fill.null) h = h
same_caught w (filler fill.train) h = h
same_caught w (filler fill.pret) h = h
same_caught w (filler fill.start) h = h
same_caught w clear h = h
same_caught w (part n k (suc more)) h = h
same_caught w (part n k zero) h = by_next (n == w.accepted + 1)
  where
    by_next : (b : Bool) →
        (position (happens w (if b then accepts else repeats)) ≡ begun
        (happens w (if b then accepts else repeats)))
        × ((happens w (if b then accepts else repeats)).acked ≤ begun
        (happens w (if b then accepts else repeats)))
    by_next true = h
    by_next false = h

pub own_caught : (x : Side) (costs : Bool) (look : Reading) → IsSettledSide x → IsCaught x →
    IsCaught (landed_own x costs look)
own_caught x costs look h k =
    subst (λ w. (position w ≡ begun w) × (w.acked ≤ begun w))
    (sym (landed_wire x costs look h.good)) (same_caught (wire x) (front x) k)

-- a landing acknowledges a number between what is acknowledged and what is begun
pub higher_caught : (a n l f : ℕ) → (max a l ≡ f) × (a ≤ f) → a ≤ n → n ≤ f → (max n l ≡ f)
    × (n ≤ f)
higher_caught a n l f h u v = (omega (arith, h.0, u, v), v)

pub other_caught : (own other : Side) (look : Reading) → IsCaught other →
    (wire other).acked ≤ front_stamp (wire other).acked own.half.stamps →
    front_stamp (wire other).acked own.half.stamps ≤ begun (wire other) →
    IsCaught (landed_other own other look)
other_caught own other look h u v =
    by_count (is_counted_at own (wire own).far (event_here own look))
  where
    e : Event
    e = event_here own look

    by_count : (b : Bool) →
        (position (other_after own.half other.half (if b then counts e else does e)).direction
        ≡ begun (other_after own.half other.half (if b then counts e else does e)).direction)
        × ((other_after own.half other.half (if b then counts e else does e)).direction.acked
        ≤ begun (other_after own.half other.half (if b then counts e else does e)).direction)
    by_count true =
        higher_caught (wire other).acked (front_stamp (wire other).acked own.half.stamps)
        (wire other).last (begun (wire other)) h u v
    by_count false = h

-- Stamps

longer : (ps : List Weight) (p : Weight) → length ps ≤ length (ps ++ p ∷ [])
longer ps p = let e : length (ps ++ p ∷ []) ≡ suc (length ps) = one_longer ps p in omega (arith, e)

-- what a send keeps
record Kept (low high : ℕ) (x y : Side) : Type 0 where
  acked : (wire y).acked ≡ (wire x).acked
  accepted : (wire y).accepted ≡ (wire x).accepted
  begun : length (wire x).first ≤ length (wire y).first
  stamps : Rising low x.half.stamps high → Rising low y.half.stamps high

newer_keeps : (c : Setup) (own other : Side) (low : ℕ) (x : Choice) → IsNewer x →
    Kept low (wire other).accepted own (sent_by c own other x)
newer_keeps c own other low train k = absurd k
newer_keeps c own other low starved k = absurd k
newer_keeps c own other low clears k = absurd k
newer_keeps c own other low start k = absurd k
newer_keeps c own other low again k = absurd k
newer_keeps c own other low next k =
    record {
      acked = refl;
      accepted = refl;
      begun = omega arith;
      stamps = rising_snoc low (wire other).accepted own.half.stamps;
    }
newer_keeps c own other low (new n) k =
    record {
      acked = refl;
      accepted = refl;
      begun = longer (wire own).first _;
      stamps = rising_snoc low (wire other).accepted own.half.stamps;
    }
newer_keeps c own other low tret k =
    record {
      acked = refl;
      accepted = refl;
      begun = longer (wire own).first _;
      stamps = rising_snoc low (wire other).accepted own.half.stamps;
    }
newer_keeps c own other low pret k =
    record {
      acked = refl;
      accepted = refl;
      begun = omega arith;
      stamps = rising_snoc low (wire other).accepted own.half.stamps;
    }
newer_keeps c own other low null k =
    record {
      acked = refl;
      accepted = refl;
      begun = omega arith;
      stamps = rising_snoc low (wire other).accepted own.half.stamps;
    }

if_kept : (low high : ℕ) (x y : Side) (b : Bool) → Kept low high x y →
    Kept low high x (if b then y else x)
if_kept low high x y true h = h
if_kept low high x y false h =
    record { acked = refl; accepted = refl; begun = omega arith; stamps = λ r. r }

sent_keeps : (c : Setup) (own other : Side) (low : ℕ) → IsSettledSide own →
    IsGood (wire other).far → position (wire own) ≡ begun (wire own) →
    Kept low (wire other).accepted own (sent c own other)
sent_keeps c own other low h g p =
    if_kept low (wire other).accepted own (sent_by c own other (choice (sight c own other)))
    (nat_lt (length (wire own).line) c.line)
    (newer_keeps c own other low (choice (sight c own other)) (newer c own other h g p))

good_same : (w : Direction) (i : Item) → ((happens w (event_in_good w i)).acked ≡ w.acked)
    × (length (happens w (event_in_good w i)).first ≡ length w.first)
good_same w (filler fill.null) = (refl, refl)
good_same w (filler fill.train) = (refl, refl)
good_same w (filler fill.pret) = (refl, refl)
good_same w (filler fill.start) = (refl, refl)
good_same w clear = (refl, refl)
good_same w (part n k (suc more)) = (refl, refl)
good_same w (part n k zero) = by_next (n == w.accepted + 1)
  where
    by_next : (b : Bool) → ((happens w (if b then accepts else repeats)).acked ≡ w.acked)
        × (length (happens w (if b then accepts else repeats)).first ≡ length w.first)
    by_next true = (refl, refl)
    by_next false = (refl, refl)

own_same : (x : Side) (costs : Bool) (look : Reading) → IsSettledSide x →
    ((wire (landed_own x costs look)).acked ≡ (wire x).acked)
    × (length (wire (landed_own x costs look)).first ≡ length (wire x).first)
own_same x costs look h =
    subst (λ w. (w.acked ≡ (wire x).acked) × (length w.first ≡ length (wire x).first))
    (sym (landed_wire x costs look h.good)) (good_same (wire x) (front x))

other_stamps : (own other : Side) (look : Reading) →
    (landed_other own other look).half.stamps ≡ other.half.stamps
other_stamps own other look = by_count (is_counted_at own (wire own).far (event_here own look))
  where
    by_count : (b : Bool) →
        (other_after own.half other.half (if b then counts (event_here own look)
        else does (event_here own look))).stamps ≡ other.half.stamps
    by_count true = refl
    by_count false = refl

-- what is counted lies between what is acknowledged and what is begun
between_two : (low high l f : ℕ) (ss : List ℕ) → Rising low ss high → l ≡ low → high ≤ f →
    (l ≤ front_stamp l ss) × (front_stamp l ss ≤ f)
between_two low high l f ss r q h =
    let z : (low ≤ front_stamp low ss) × (front_stamp low ss ≤ high) = rising_front low high ss r in
    subst (λ k. (k ≤ front_stamp k ss) × (front_stamp k ss ≤ f)) (sym q)
    (z.0, omega (arith, z.1, h))

-- A round

link_caught : (c : Setup) (l m : Reading) (s : State) → IsSettled s →
    length (wire s.forth).line ≤ c.line → length (wire s.back).line ≤ c.line → 1 ≤ c.line →
    IsCaught s.forth → IsCaught s.back →
    Rising (wire s.back).acked s.forth.half.stamps (wire s.back).accepted →
    Rising (wire s.forth).acked s.back.half.stamps (wire s.forth).accepted →
    (wire s.forth).accepted ≤ begun (wire s.forth) →
    (wire s.back).accepted ≤ begun (wire s.back) → IsCaught (link_round c l m s).forth
    × IsCaught (link_round c l m s).back
link_caught c l m s h n1 n2 k f b rf rb af ab =
    let a : Side = sent c s.forth s.back in
    let d : Side = sent c s.back a in
    let sa : IsSettledSide a = sent_settled c s.forth s.back h.0 h.1.good in
    let ca : IsCaught a = sent_caught c s.forth s.back h.0 h.1.good f in
    let cd : IsCaught d = sent_caught c s.back a h.1 sa.good b in
    let ka : Kept (wire s.back).acked (wire s.back).accepted s.forth a =
    sent_keeps c s.forth s.back (wire s.back).acked h.0 h.1.good f.0 in
    let kd : Kept (wire s.forth).acked (wire a).accepted s.back d =
    sent_keeps c s.back a (wire s.forth).acked h.1 sa.good b.0 in
    let ra : Rising (wire s.back).acked a.half.stamps (wire s.back).accepted = ka.stamps rf in
    let rd : Rising (wire s.forth).acked d.half.stamps (wire a).accepted =
    kd.stamps (subst (λ k. Rising (wire s.forth).acked s.back.half.stamps k) (sym ka.accepted)
    rb) in
    let e : Side = landed_own a (costs_next a) l in
    let g : Side = landed_other a d l in
    let sd : IsSettledSide d = sent_settled c s.back a h.1 sa.good in
    let ce : IsCaught e = own_caught a (costs_next a) l sa ca in
    let z : ((wire d).acked ≤ front_stamp (wire d).acked a.half.stamps)
    × (front_stamp (wire d).acked a.half.stamps ≤ begun (wire d)) =
    between_two (wire s.back).acked (wire s.back).accepted (wire d).acked (begun (wire d))
    a.half.stamps ra kd.acked (omega (arith, ab, kd.begun)) in
    let sg : IsSettledSide g =
    landed_other_settled a d l sa (sent_fits c s.forth s.back n1 k).1 sd in
    let cg : IsCaught g = other_caught a d l cd z.0 z.1 in
    let oe : ((wire e).acked ≡ (wire a).acked)
    × (length (wire e).first ≡ length (wire a).first) = own_same a (costs_next a) l sa in
    let rg : Rising (wire s.forth).acked g.half.stamps (wire a).accepted =
    subst (λ ss. Rising (wire s.forth).acked ss (wire a).accepted) (sym (other_stamps a d l))
    rd in
    let y : ((wire e).acked ≤ front_stamp (wire e).acked g.half.stamps)
    × (front_stamp (wire e).acked g.half.stamps ≤ begun (wire e)) =
    between_two (wire s.forth).acked (wire a).accepted (wire e).acked (begun (wire e))
    g.half.stamps rg (oe.0 ∙ ka.acked) (omega (arith, ka.accepted, ka.begun, oe.1, af)) in
    (other_caught g e m ce y.0 y.1, own_caught g (costs_next g) m (sg) cg)

moved_caught : (s t : State) → CubeRound s t → IsCaught s.forth → IsCaught s.back → IsCaught t.forth
    × IsCaught t.back
moved_caught s t (inl m) f b = (subst IsCaught (sym m.forth) f, subst IsCaught (sym m.back) b)
moved_caught s t (inr i) f b = subst (λ z. IsCaught z.forth × IsCaught z.back) (sym i.0) (f, b)

pub stays_ready : (p : Profile) (c : Setup) → StaysReady p c
stays_ready p c = λ f run r a h.
    let x : IsRound c (run 0) (run 1) = r 0 (omega arith) in
    let u = a.forth.joined in
    let v = a.back.joined in
    let kf : IsCaught (run 0).forth = (h.2.0, omega (arith, u.order.acked, u.order.accepted)) in
    let kb : IsCaught (run 0).back = (h.2.1, omega (arith, v.order.acked, v.order.accepted)) in
    let z : IsCaught (link_round c x.0 x.1 (run 0)).forth
    × IsCaught (link_round c x.0 x.1 (run 0)).back =
    link_caught c x.0 x.1 (run 0) h.1 a.forth.short a.back.short f.line.0 kf kb u.stamps v.stamps
    u.order.accepted v.order.accepted in
    let y : IsCaught (run 1).forth × IsCaught (run 1).back =
    moved_caught (link_round c x.0 x.1 (run 0)) (run 1) x.4 z.0 z.1 in
    (steadies p c f run r a tt, stays_settled p c f run r a h.1, (y.0.0, y.1.0))
