-- Spans in which no request or response is begun: all due tokens are returned, then all is
-- acknowledged.
use Rattle.std.proofs.Common.{◌≡◌, ℕ, suc, ◌+◌, ◌-◌, ◌<◌, ◌≤◌, nat_lt, nat_le, ◌&&◌, Bool, true, false, List, [], ◌∷◌, ◌++◌, length, ◌⊎◌, inl, inr, refl, sym, ◌∙◌, ap, subst, arith, length-append}
use Rattle.std.proofs.lemmas.Grind.{common_steps}
use Rattle.hmc_codes.specs.declared.profile.Profile.{Profile}
use Rattle.hmc_numbers.specs.Weights.{Weight, upto, flits_to}
use Rattle.hmc_numbers.specs.Direction.{begun}
use Rattle.hmc_numbers.proofs.DirectionLaws.{unfinished}
use Rattle.hmc_numbers.proofs.Effect.{begun_one}
use Rattle.hmc_numbers.proofs.Sums.{upto-append, upto-up}
use Rattle.hmc_link_state.specs.Choice.{tokens_for}
use Rattle.hmc_link_state.specs.Choice.Choice.{tret}
use Rattle.hmc_link_state.specs.Sees.{tret_slot}
use Rattle.hmc_link_state.specs.State.{Setup, Side, State, wire, room, IsSteady}
use Rattle.hmc_link_state.specs.Round.{sight, IsRound, Rounds}
use Rattle.hmc_link_state.specs.Facts.{SideFacts, Facts}
use Rattle.hmc_link_state.specs.EachRound.{IsFit}
use Rattle.hmc_drain.proofs.Arriving.{progress_along}
use Rattle.hmc_drain.proofs.Backlog.{zero_or_more}
use Rattle.hmc_link_state.proofs.Chosen.{Chosen, IsIdle, less_lt, not_less}
use Rattle.hmc_link_state.proofs.Counts.{begun_count}
use Rattle.hmc_link_state.proofs.Falls.{falls, facts_along, AreReady}
use Rattle.hmc_link_state.proofs.Keeps.{Both}
use Rattle.hmc_drain.proofs.Quiet.{Counted, Begun, Span, span_round}
use Rattle.hmc_drain.proofs.Acknowledging.{Acknowledged, acknowledge}
use Rattle.hmc_drain.proofs.Returns.{capacity, returned, falls_at}
use Rattle.hmc_drain.proofs.Views.{View, due_of, Views, view_links}

abbrev pub due_in : Setup → List Weight → ℕ → ℕ
due_in c ps m = c.tokens + m - upto (λ s. s.returns) ps (length ps)

-- i TRETs were begun since the first b packets, which have f flits
pub record Window (c : Setup) (J b f : ℕ) (ps : List Weight) (m : ℕ) : Type 0 where
  pub least : b ≤ length ps
  pub from : flits_to ps b ≡ f
  pub i : ℕ
  pub flits : flits_to ps (length ps) ≡ f + i
  pub due : due_in c ps m < capacity (J - i)

abbrev Waiting : Setup → (J b f k : ℕ) → List Weight → ℕ → ℕ → ℕ → Type 0
Waiting c J b f k ps l a m = Window c J b f ps m × (l ≤ k)

window_more : (c : Setup) (J b f : ℕ) (x y : Side) → Both c x y → Chosen (sight c x y) tret →
    (w : Window c J b f (wire x).first y.half.moved) →
    (v : Window c J b f ((wire x).first ++ tret_slot (due_of c x y) ∷ []) y.half.moved)
    × (v.i ≡ w.i + 1)
window_more c J b f x y h k w =
    let s : Weight = tret_slot (due_of c x y) in
    let ps : List Weight = (wire x).first in
    let u : flits_to (ps ++ s ∷ []) (length (ps ++ s ∷ [])) ≡ flits_to ps (length ps) + 1 =
    begun_one (λ q. q.flits) ps s in
    let v : upto (λ q. q.returns) (ps ++ s ∷ []) (length (ps ++ s ∷ [])) ≡ upto (λ q. q.returns) ps
    (length ps) + tokens_for (due_of c x y) = begun_one (λ q. q.returns) ps s in
    let d =
    falls_at J w.i (due_in c ps y.half.moved) (tokens_for (due_of c x y))
    (returned (due_of c x y)) k.due w.due in (
      record {
        least = omega (arith, w.least, length-append ps (s ∷ []));
        from = upto-append (λ q. q.flits) ps (s ∷ []) b w.least ∙ w.from;
        i = w.i + 1;
        flits = omega (arith, u, w.flits);
        due = omega (arith, v, d);
      },
      refl,
    )

waits : (c : Setup) (J b f k : ℕ) → Views c (Waiting c J b f (suc k)) (Waiting c J b f k)
waits c J b f k = record {
  up = λ ps l a d m q h. h;
  up_after = λ ps l a d m q h. h;
  goes = λ ps l a m q h. (h.0, omega (arith, h.1, q));
  returns = λ x y h q t z. ((window_more c J b f x y h t z.0).0, omega arith);
  still = λ x y h r q t z. (z.0, omega (arith, q));
}

-- what was begun before the window is acknowledged: while fewer than 17 TRETs were begun in it,
-- there is room for more
record Returning (c : Setup) (J b f k : ℕ) (ps : List Weight) (l a m : ℕ) : Type 0 where
  window : Window c J b f ps m
  left : l ≡ 0
  acked : b ≤ a
  more : (17 ≤ window.i + k) ⊎ (due_in c ps m ≡ 0)

one_room : (r b a f i : ℕ) → 17 ≤ r → b ≡ f + i → f ≤ a → i < 17 → 1 ≤ r - (b - a)
one_room r b a f i p q l m = omega arith

may_return : (o : Bool) (d r : ℕ) → o ≡ true → 1 ≤ d → 1 ≤ r →
    (o && (nat_lt 0 d && nat_le 1 r)) ≡ false → ⊥
may_return true d r q l m h =
    let a : nat_lt 0 d ≡ true = grind (arith, common_steps) in
    let b : nat_le 1 r ≡ true = grind (arith, common_steps) in
    let z : (nat_lt 0 d && nat_le 1 r) ≡ true = ap (λ x. x && nat_le 1 r) a ∙ b in
    let y : true ≡ false = sym z ∙ h in cc y
may_return false d r q l m h = cc q

returns_all : (c : Setup) (J b f k : ℕ) → 17 ≤ c.retry →
    Views c (Returning c J b f (suc k)) (Returning c J b f k)
returns_all c J b f k rt = record {
  up =
      λ ps l a d m q h. record {
        window = h.window;
        left = h.left;
        acked = omega (arith, h.acked, q);
        more = h.more;
      };
  up_after =
      λ ps l a d m q h. record {
        window = h.window;
        left = h.left;
        acked = omega (arith, h.acked, q);
        more = h.more;
      };
  goes = λ ps l a m q h. absurd (omega (arith, q, h.left));
  returns =
      λ x y h q t z. let w =
      window_more c J b f x y h t z.window in
      record {
        window = w.0;
        left = refl;
        acked = z.acked;
        more = inl (by_more x y z.window.i (w.0.i) w.1 t z.more);
      };
  still =
      λ x y h r q t z. record {
        window = z.window;
        left = z.left;
        acked = z.acked;
        more = by_room x y h r t z z.more (less_or (z.window.i)) (zero_or_more (due_of c x y));
      };
}
  where
    by_more : (x y : Side) (i j : ℕ) → j ≡ i + 1 → Chosen (sight c x y) tret → (17 ≤ i + suc k)
        ⊎ (due_in c (wire x).first y.half.moved ≡ 0) → 17 ≤ j + k
    by_more x y i j q t (inl h) = omega (arith, h, q)
    by_more x y i j q t (inr h) =
        let z : 1 ≤ due_in c (wire x).first y.half.moved = t.due in absurd (omega (arith, z, h))

    less_or : (i : ℕ) → (i < 17) ⊎ (17 ≤ i)
    less_or i = by_less (nat_lt i 17) refl
      where
        by_less : (t : Bool) → nat_lt i 17 ≡ t → (i < 17) ⊎ (17 ≤ i)
        by_less true q = inl (less_lt i 17 q)
        by_less false q = inr (not_less i 17 q)

    by_room : (x y : Side) → Both c x y → AreReady x y → IsIdle (sight c x y) →
        (z : Returning c J b f (suc k) (wire x).first (wire x).left (wire x).acked
        y.half.moved) → (17 ≤ z.window.i + suc k) ⊎ (due_in c (wire x).first y.half.moved ≡ 0) →
        (z.window.i < 17) ⊎ (17 ≤ z.window.i) → (due_of c x y ≡ 0) ⊎ (1 ≤ due_of c x y) →
        (17 ≤ z.window.i + k) ⊎ (due_in c (wire x).first y.half.moved ≡ 0)
    by_room x y h r t z o u (inl d) = inr d
    by_room x y h r t z o (inr u) (inr d) = inl (omega (arith, u))
    by_room x y h r t z o (inl u) (inr d) =
        let w = upto-up (λ s. s.flits) (wire x).first b (wire x).acked z.acked in
        let e : 1 ≤ room c x =
        one_room c.retry (flits_to (wire x).first (length (wire x).first))
        (flits_to (wire x).first (wire x).acked) f z.window.i rt z.window.flits
        (omega (arith, w, z.window.from)) u in
        absurd (may_return x.is_open (due_of c x y) (room c x) r.settled.0.opened d e t.due)

-- from one capacity to a smaller one, in 180 rounds

abbrev pub Due : Setup → ℕ → Side → Side → Type 0
Due c J x y = due_of c x y < capacity J

span_falls : (p : Profile) (c : Setup) → IsFit p c →
    (bf bb : ℕ) (N M : ℕ → List Weight → ℕ → ℕ → ℕ → Type 0) →
    ((k : ℕ) → Views c (N (suc k)) (N k)) → ((k : ℕ) → Views c (M (suc k)) (M k)) →
    (k : ℕ) (s t : State) → Facts c s → IsSteady c s → IsRound c s t →
    Span bf bb (View (N (suc k))) (View (M (suc k))) s → Span bf bb (View (N k)) (View (M k)) t
span_falls p c f bf bb N M u v k s t h n r z =
    span_round p c bf bb (View (N (suc k))) (View (N k)) (View (N k)) (View (M (suc k)))
    (View (M k)) (View (M k)) f (view_links c bf (N (suc k)) (N k) (u k))
    (view_links c bb (M (suc k)) (M k) (v k)) s t h n r z

pub left_most : (c : Setup) (x y : Side) → SideFacts c x y → (wire x).left ≤ 17
left_most c x y f = by_left (zero_or_more (wire x).left)
  where
    by_left : ((wire x).left ≡ 0) ⊎ (1 ≤ (wire x).left) → (wire x).left ≤ 17
    by_left (inl q) = omega (arith, q)
    by_left (inr q) =
        let u =
        unfinished c.retry (wire x) (wire x).left f.joined.order.valid_sizes f.joined.order.last
        f.joined.order.unfinished q in omega (arith, u.2, u.3)

waiting_first : (c : Setup) (J : ℕ) (x y : Side) → SideFacts c x y → Due c J x y →
    View (Waiting c J (begun (wire x)) (flits_to (wire x).first (begun (wire x))) 163) x y
waiting_first c J x y f d = (
  record {
    least = omega arith;
    from = refl;
    i = 0;
    flits = omega arith;
    due =
        let q : J ≡ J - 0 = omega arith in
        subst (λ j. due_of c x y < capacity j) q d;
  },
  let z = left_most c x y f in
      omega (arith, z),
)

waiting_last : (c : Setup) (J b f : ℕ) (x y : Side) → b ≤ (wire x).acked →
    View (Waiting c J b f 0) x y → View (Returning c J b f 17) x y
waiting_last c J b f x y a h =
    record { window = h.0; left = omega (arith, h.1); acked = a; more = inl (omega arith) }

returning_last : (c : Setup) (J J' b f : ℕ) →
    ((i : ℕ) → 17 ≤ i → (d : ℕ) → d < capacity (J - i) → d < capacity J') → 1 ≤ capacity J' →
    (x y : Side) → View (Returning c J b f 0) x y → Due c J' x y
returning_last c J J' b f g o x y h = by_more h.more
  where
    by_more : (17 ≤ h.window.i + 0) ⊎ (due_in c (wire x).first y.half.moved ≡ 0) → Due c J' x y
    by_more (inl q) = g h.window.i (omega (arith, q)) (due_of c x y) h.window.due
    by_more (inr q) = omega (arith, q, o)

pub begun_along : (p : Profile) (c : Setup) → IsFit p c →
    (bf bb : ℕ) (run : ℕ → State) (m k n : ℕ) → Rounds c run n → m + k ≤ n → Facts c (run k) →
    IsSteady c (run k) → Begun bf bb (run k) → Begun bf bb (run (m + k))
begun_along p c f bf bb run m k n r h a b (inl z) =
    inl (let y = (progress_along p c f run m k n r h a b).begun.0 in
    more bf (begun_count (wire (run k).forth)) (begun_count (wire (run (m + k)).forth)) z y)
  where
    more : (b a d : ℕ) → suc b ≤ a → a ≤ d → suc b ≤ d
    more b a d l m = omega arith
begun_along p c f bf bb run m k n r h a b (inr z) =
    inr (let y = (progress_along p c f run m k n r h a b).begun.1 in
    more bb (begun_count (wire (run k).back)) (begun_count (wire (run (m + k)).back)) z y)
  where
    more : (b a d : ℕ) → suc b ≤ a → a ≤ d → suc b ≤ d
    more b a d l m = omega arith

-- 163 rounds of waiting, with what is acknowledged then
pub span_waits : (p : Profile) (c : Setup) → IsFit p c →
    (bf bb : ℕ) (N M : ℕ → List Weight → ℕ → ℕ → ℕ → Type 0) →
    ((k : ℕ) → Views c (N (suc k)) (N k)) → ((k : ℕ) → Views c (M (suc k)) (M k)) →
    (run : ℕ → State) (k n : ℕ) → Rounds c run n → 163 + k ≤ n → Facts c (run k) →
    IsSteady c (run k) → Counted bf bb (View (N 163)) (View (M 163)) (run k) →
    Begun bf bb (run (163 + k))
    ⊎ (Counted bf bb (View (N 0)) (View (M 0)) (run (163 + k))
    × Acknowledged (run k) (run (163 + k)))
span_waits p c f bf bb N M u v run k n r h a b z =
    by_span (falls p c (λ i. Span bf bb (View (N i)) (View (M i))) (span_falls p c f bf bb N M u v)
    f run 163 k n r h a b (inr z))
  where
    by_span : Span bf bb (View (N 0)) (View (M 0)) (run (163 + k)) → Begun bf bb (run (163 + k))
        ⊎ (Counted bf bb (View (N 0)) (View (M 0)) (run (163 + k))
        × Acknowledged (run k) (run (163 + k)))
    by_span (inl y) = inl y
    by_span (inr y) = inr (y, acknowledge p c f run k n r h a b z.ready)

pub window : (p : Profile) (c : Setup) → IsFit p c → (bf bb J J' : ℕ) →
    ((i : ℕ) → 17 ≤ i → (d : ℕ) → d < capacity (J - i) → d < capacity J') → 1 ≤ capacity J' →
    (run : ℕ → State) (k n : ℕ) → Rounds c run n → 180 + k ≤ n → Facts c (run k) →
    IsSteady c (run k) →
    Span bf bb (Due c J) (Due c J) (run k) → Span bf bb (Due c J') (Due c J') (run (180 + k))
window p c f bf bb J J' g o run k n r h a b (inl z) =
    inl (begun_along p c f bf bb run 180 k n r h a b z)
window p c f bf bb J J' g o run k n r h a b (inr z) =
    by_wait (span_waits p c f bf bb (Waiting c J b1 f1) (Waiting c J b2 f2) (waits c J b1 f1)
    (waits c J b2 f2) run k n r (omega (arith, h)) a b
    (record {
      ready = z.ready;
      quiet = z.quiet;
      forth_begun = z.forth_begun;
      back_begun =
          z.back_begun;
      forth =
          waiting_first c J s.forth s.back a.forth z.forth;
      back =
          waiting_first c J s.back s.forth a.back z.back;
    }))
  where
    s : State
    s = run k

    b1 : ℕ
    b1 = begun (wire s.forth)

    b2 : ℕ
    b2 = begun (wire s.back)

    f1 : ℕ
    f1 = flits_to (wire s.forth).first b1

    f2 : ℕ
    f2 = flits_to (wire s.back).first b2

    q : 17 + (163 + k) ≡ 180 + k
    q = omega arith

    fa : Facts c (run (163 + k)) × IsSteady c (run (163 + k))
    fa = facts_along p c f run 163 k n r (omega (arith, h)) a b

    by_last : Span bf bb (View (Returning c J b1 f1 0)) (View (Returning c J b2 f2 0))
        (run (17 + (163 + k))) → Span bf bb (Due c J') (Due c J') (run (17 + (163 + k)))
    by_last (inl y) = inl y
    by_last (inr y) = inr (record {
      ready = y.ready;
      quiet = y.quiet;
      forth_begun = y.forth_begun;
      back_begun = y.back_begun;
      forth =
          returning_last c J J' b1 f1 g o (run (17 + (163 + k))).forth (run (17 + (163 + k))).back
          y.forth;
      back =
          returning_last c J J' b2 f2 g o (run (17 + (163 + k))).back (run (17 + (163 + k))).forth
          y.back;
    })

    by_wait : Begun bf bb (run (163 + k))
        ⊎ (Counted bf bb (View (Waiting c J b1 f1 0)) (View (Waiting c J b2 f2 0)) (run (163 + k))
        × Acknowledged (run k) (run (163 + k))) → Span bf bb (Due c J') (Due c J') (run (180 + k))
    by_wait (inl y) =
        inl (subst (λ j. Begun bf bb (run j)) q
        (begun_along p c f bf bb run 17 (163 + k) n r (omega (arith, h)) fa.0 fa.1 y))
    by_wait (inr y) = subst (λ j. Span bf bb (Due c J') (Due c J') (run j)) q (by_last
        (falls p c (λ i. Span bf bb (View (Returning c J b1 f1 i)) (View (Returning c J b2 f2 i)))
        (span_falls p c f bf bb (Returning c J b1 f1) (Returning c J b2 f2)
        (λ i. returns_all c J b1 f1 i f.retry.0) (λ i. returns_all c J b2 f2 i f.retry.0))
        f run 17 (163 + k) n r (omega (arith, h)) fa.0 fa.1
        (inr (record {
          ready = y.0.ready;
          quiet = y.0.quiet;
          forth_begun = y.0.forth_begun;
          back_begun = y.0.back_begun;
          forth =
              waiting_last c J b1 f1 (run (163 + k)).forth (run (163 + k)).back y.1.forth y.0.forth;
          back =
              waiting_last c J b2 f2 (run (163 + k)).back (run (163 + k)).forth y.1.back y.0.back;
        }))))
