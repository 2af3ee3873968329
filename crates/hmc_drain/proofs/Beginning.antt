-- A ready and quiet link begins a request or a response within some 524 rounds.
use Rattle.std.proofs.Common.{◌≡◌, ℕ, zero, suc, ◌+◌, ◌-◌, ◌*◌, ◌<◌, ◌≤◌, nat_lt, nat_le, ◌&&◌, Bool, true, false, if◌then◌else◌, List, [], ◌∷◌, length, ◌⊎◌, inl, inr, refl, sym, ◌∙◌, ap, subst, arith}
use Rattle.std.specs.Prelude.{Option, Some, None}
use Rattle.std.proofs.lemmas.Grind.{common_steps}
use Rattle.hmc_codes.specs.declared.profile.Profile.{Profile}
use Rattle.hmc_numbers.specs.Weights.{Weight, upto, flits_to}
use Rattle.hmc_numbers.specs.Direction.{begun}
use Rattle.hmc_numbers.specs.Tokens.{cost, cost_begun, cost_accepted, tokens_begun, tokens_accepted, held_tokens, used_tokens, due_tokens}
use Rattle.hmc_numbers.proofs.Effect.{begun_one}
use Rattle.hmc_numbers.proofs.Sums.{upto-append, upto-up}
use Rattle.hmc_link_state.specs.Choice.{Choice, choice, fits}
use Rattle.hmc_link_state.specs.Choice.Choice.{new, tret, pret, null, train}
use Rattle.hmc_link_state.specs.Sees.{new_slot}
use Rattle.hmc_link_state.specs.State.{Setup, Side, State, wire, front_of, room, flits_of, AreFairSizes, inside_cube, crossing, weight, count_of, IsSteady}
use Rattle.hmc_link_state.specs.Round.{sight, sent, sent_by, landed_own, landed_other, costs_next, IsRound, Rounds}
use Rattle.hmc_link_state.specs.Facts.{Facts}
use Rattle.hmc_link_state.specs.EachRound.{IsFit}
use Rattle.hmc_drain.specs.Stages.{IsQuiet, IsLighterBy, Begins}
use Rattle.hmc_drain.proofs.Arriving.{are_ready, progress_along}
use Rattle.hmc_drain.proofs.Backlog.{sent_if_room, zero_or_more}
use Rattle.hmc_link_state.proofs.Chosen.{Chosen, chosen}
use Rattle.hmc_link_state.proofs.Counts.{begun_count, accepted_count, sent_counts, Progress}
use Rattle.hmc_link_state.proofs.Falls.{facts_along, landed_sender, AreReady}
use Rattle.hmc_link_state.proofs.Keeps.{Both, laws_of}
use Rattle.hmc_drain.proofs.Quiet.{Counted, Begun, Span, Until, span_round}
use Rattle.hmc_drain.proofs.ReadyChoice.{Newer, newer_is}
use Rattle.hmc_drain.proofs.Acknowledging.{Acknowledged}
use Rattle.hmc_drain.proofs.ReadyChoice.Newer.{goes, begins_new, returns, points, rests_now}
use Rattle.hmc_link_state.proofs.Turning.{Linking}
use Rattle.hmc_drain.proofs.Views.{View, Views, view_links, due_of, until_kept, counts_first, took_first}
use Rattle.hmc_drain.proofs.Windows.{due_in, Due, left_most, begun_along, span_waits, window}
use Rattle.hmc_drain.proofs.Returns.{capacity}
use Rattle.hmc_drain.proofs.Bursts.{long_choice}

-- Nothing is due

abbrev Done : Setup → (b k : ℕ) → List Weight → ℕ → ℕ → ℕ → Type 0
Done c b k ps l a m = (length ps ≡ b) × (due_in c ps m ≡ 0) × (l ≤ k)

done_views : (c : Setup) (b k : ℕ) → Views c (Done c b (suc k)) (Done c b k)
done_views c b k = record {
  up = λ ps l a d m q h. h;
  up_after = λ ps l a d m q h. h;
  goes = λ ps l a m q h. (h.0, h.1, omega (arith, h.2, q));
  returns =
      λ x y h q t z. let u : 1 ≤ due_in c (wire x).first y.half.moved =
      t.due in absurd (omega (arith, u, z.1));
  still = λ x y h r q t z. (z.0, z.1, omega (arith, q));
}

nothing_views : (c : Setup) → Views c (λ ps l a m. Unit {0}) (λ ps l a m. Unit {0})
nothing_views c = record {
  up = λ ps l a d m q h. tt;
  up_after = λ ps l a d m q h. tt;
  goes = λ ps l a m q h. tt;
  returns = λ x y h q t z. tt;
  still = λ x y h r q t z. tt;
}

-- The front fits

record Fits (c : Setup) (n : ℕ) (x y : Side) : Type 0 where
  left : (wire x).left ≡ 0
  front : front_of x.queue ≡ Some n
  held : n ≤ held_tokens x.half y.half
  room : n ≤ room c x

fits_true : (f : Option ℕ) (n h r : ℕ) → f ≡ Some n → n ≤ h → n ≤ r → fits f h r ≡ true
fits_true None n h r q a b = absurd (cc q)
fits_true (Some m) n h r q a b =
    let e : m ≡ n = cc q in
    let u : nat_le m h ≡ true = grind (arith, common_steps) in
    let v : nat_le m r ≡ true = grind (arith, common_steps) in
    ap (λ z. z && nat_le m r) u ∙ v

no_fit : (c : Setup) (n : ℕ) (x y : Side) → AreReady x y → Fits c n x y →
    (x.is_open && fits (front_of x.queue) (held_tokens x.half y.half) (room c x)) ≡ false → ⊥
no_fit c n x y k h q =
    long_choice x.is_open (fits (front_of x.queue) (held_tokens x.half y.half) (room c x))
    k.settled.0.opened
    (fits_true (front_of x.queue) n (held_tokens x.half y.half) (room c x) h.front h.held h.room) q

fit_sent : (c : Setup) (b n : ℕ) (x y : Side) → Both c x y → AreReady x y →
    suc (length (wire x).line) ≤ c.line → Until b (Fits c n) x y →
    Until b (λ v w. ⊥) (sent c x y) y
fit_sent c b n x y h k l (inl z) =
    inl (let u = (sent_counts c x y h.0.joined.order.accepted).begun in omega (arith, z, u))
fit_sent c b n x y h k l (inr z) =
    subst (λ s. Until b (λ v w. ⊥) s y) (sym (sent_if_room c x y l)) (by_newer (newer_is c x y k))
  where
    ch : Chosen (sight c x y) (choice (sight c x y))
    ch = chosen (sight c x y)

    by_newer : Newer c x y → Until b (λ v w. ⊥) (sent_by c x y (choice (sight c x y))) y
    by_newer (goes q e) = absurd (omega (arith, q, z.1.left))
    by_newer (begins_new m q e) =
        let u = begun_one count_of (wire x).first (new_slot m (due_of c x y)) in
        subst (λ w. Until b (λ v w. ⊥) (sent_by c x y w) y) (sym e) (inl (omega (arith, u, z.0)))
    by_newer (returns q e) =
        let u : Chosen (sight c x y) tret = subst (Chosen (sight c x y)) e ch in
        absurd (no_fit c n x y k z.1 u.front)
    by_newer (points q e) =
        let u : Chosen (sight c x y) pret = subst (Chosen (sight c x y)) e ch in
        absurd (no_fit c n x y k z.1 u.0.front)
    by_newer (rests_now q e) =
        let u : Chosen (sight c x y) null = subst (Chosen (sight c x y)) e ch in
        absurd (no_fit c n x y k z.1 u.0.front)

accepted_tokens : (c : Setup) (y x : Side) (z : Choice) →
    (wire y).accepted ≤ length (wire y).first →
    tokens_accepted (wire (sent_by c y x z)) ≡ tokens_accepted (wire y)
accepted_tokens c y x (new n) h =
    upto-append (λ s. s.returns) (wire y).first (_ ∷ []) (wire y).accepted h
accepted_tokens c y x tret h =
    upto-append (λ s. s.returns) (wire y).first (_ ∷ []) (wire y).accepted h
accepted_tokens c y x train h = refl
accepted_tokens c y x z h = refl

sent_tokens : (c : Setup) (y x : Side) → (wire y).accepted ≤ length (wire y).first →
    tokens_accepted (wire (sent c y x)) ≡ tokens_accepted (wire y)
sent_tokens c y x h = by_full (nat_lt (length (wire y).line) c.line)
  where
    by_full : (b : Bool) →
        tokens_accepted (wire (if b then sent_by c y x (choice (sight c y x)) else y))
        ≡ tokens_accepted (wire y)
    by_full true = accepted_tokens c y x (choice (sight c y x)) h
    by_full false = refl

fit_before : (c : Setup) (n : ℕ) (x y : Side) → Both c x y → Fits c n x y → Fits c n x (sent c y x)
fit_before c n x y b h =
    let z = sent_tokens c y x b.1.joined.order.accepted in
    record { left = h.left; front = h.front; held = omega (arith, h.held, z); room = h.room }

none_kept : (b : ℕ) (x y x' y' : Side) → begun_count (wire x') ≡ begun_count (wire x) →
    Until b (λ v w. ⊥) x y → Until b (λ v w. ⊥) x' y'
none_kept b x y x' y' q z = until_kept b (λ v w. ⊥) (λ v w. ⊥) x y x' y' q (λ e. e) z

fit_links : (c : Setup) (b n : ℕ) →
    Linking c AreReady (Until b (Fits c n)) (Until b (λ v w. ⊥)) (Until b (λ v w. ⊥))
fit_links c b n = record {
  send = fit_sent c b n;
  send_before =
      λ x y h k z. until_kept b (Fits c n) (Fits c n) x y x (sent c y x) refl (fit_before c n x y h)
      z;
  send_after = λ x y h k z. none_kept b x y x (sent c y x) refl z;
  land =
      λ x y look h k l z. none_kept b x y (landed_own x (costs_next x) look) (landed_other x y look)
      (counts_first (wire (landed_own x (costs_next x) look)) (wire x)
      (landed_sender x (costs_next x) look).first) z;
  land_before =
      λ x y look h k l z. none_kept b x y (landed_other y x look) (landed_own y (costs_next y) look)
      (counts_first (wire (landed_other y x look)) (wire x) (took_first y x look)) z;
  land_after =
      λ x y look h k l z. none_kept b x y (landed_other y x look) (landed_own y (costs_next y) look)
      (counts_first (wire (landed_other y x look)) (wire x) (took_first y x look)) z;
}

-- all is accepted, acknowledged and returned
front_some : (ps : List ℕ) → 1 ≤ length ps → AreFairSizes ps → (n : ℕ) × (front_of ps ≡ Some n)
    × (n ≤ 17)
front_some [] l h = absurd (omega (arith, l))
front_some (p ∷ ps) l h = (p, refl, h.1)

no_flits : (ps : List ℕ) → length ps ≡ 0 → flits_of ps ≡ 0
no_flits [] h = refl
no_flits (p ∷ ps) h = absurd (omega (arith, h))

fit_now : (p : Profile) (c : Setup) → IsFit p c → (x y : Side) → Both c x y →
    View (λ ps l a m. (length ps ≤ a) × (due_in c ps m ≡ 0) × (l ≡ 0)) x y →
    View (λ ps l a m. (length ps ≤ a) × (due_in c ps m ≡ 0) × (l ≡ 0)) y x →
    length x.buffer ≡ 0 → 1 ≤ length x.queue → (n : ℕ) × Fits c n x y
fit_now p c f x y b h k e q =
    let z = front_some x.queue q b.0.queue in
    let o = b.0.joined.order in
    let u = b.1.joined.order in
    let ax : (wire x).accepted ≡ begun (wire x) = omega (arith, h.0, o.acked, o.accepted) in
    let ay : (wire y).accepted ≡ begun (wire y) = omega (arith, k.0, u.acked, u.accepted) in
    let tx : cost_accepted (wire x) ≡ cost_begun (wire x) =
    ap (λ i. upto cost (wire x).first i) ax in
    let ty : tokens_accepted (wire y) ≡ tokens_begun (wire y) =
    ap (λ i. upto (λ s. s.returns) (wire y).first i) ay in
    let s = (laws_of p c x y f.retry.1 b).sum in
    let ub : used_tokens x.half ≡ 0 = sym b.0.buffer ∙ no_flits x.buffer e in
    let r = upto-up (λ s. s.flits) (wire x).first (begun (wire x)) (wire x).acked h.0 in (
      z.0,
      record {
        left = h.2;
        front = z.1;
        held =
            by_sum (held_tokens x.half y.half) (cost_begun (wire x)) (cost_accepted (wire x))
            (used_tokens x.half) (due_tokens c.tokens x.half y.half) (tokens_begun (wire y))
            (tokens_accepted (wire y)) c.tokens z.0 s tx ty ub k.1 z.2 f.tokens.0;
        room =
            by_room c.retry (flits_to (wire x).first (begun (wire x)))
            (flits_to (wire x).first (wire x).acked) z.0 r f.retry.0 z.2;
      },
    )
  where
    by_sum : (h cb ca u d tb ta t n : ℕ) → h + (cb - ca) + u + d + (tb - ta) ≡ t → ca ≡ cb →
        ta ≡ tb → u ≡ 0 → d ≡ 0 → n ≤ 17 → 17 ≤ t → n ≤ h
    by_sum h cb ca u d tb ta t n q a b e g i j = omega arith

    by_room : (r b a n : ℕ) → b ≤ a → 17 ≤ r → n ≤ 17 → n ≤ r - (b - a)
    by_room r b a n h i j = omega arith

-- the round that begins
pub record Finished (c : Setup) (x y : Side) : Type 0 where
  pub acked : length (wire x).first ≤ (wire x).acked
  pub due : due_of c x y ≡ 0
  pub left : (wire x).left ≡ 0

begins_now : (p : Profile) (c : Setup) → IsFit p c → (bf bb : ℕ) (s t : State) → Facts c s →
    IsSteady c s → IsRound c s t → AreReady s.forth s.back → IsQuiet s →
    begun_count (wire s.forth) ≡ bf → begun_count (wire s.back) ≡ bb →
    Finished c s.forth s.back → Finished c s.back s.forth → Begun bf bb t
begins_now p c f bf bb s t h n r k q e1 e2 d1 d2 = by_stuck q.2.full
  where
    by_back : 1 ≤ length s.back.queue → Begun bf bb t
    by_back l =
        let z =
        fit_now p c f s.back s.forth (h.back, h.forth) (d2.acked, d2.due, d2.left)
        (d1.acked, d1.due, d1.left) (ap length q.2.taken) l in
        none (span_round p c bf bb (View (λ ps l a m. Unit {0})) (View (λ ps l a m. Unit {0}))
        (View (λ ps l a m. Unit {0})) (Fits c z.0) (λ v w. ⊥) (λ v w. ⊥) f
        (view_links c bf (λ ps l a m. Unit {0}) (λ ps l a m. Unit {0}) (nothing_views c))
        (fit_links c bb z.0) s t h n r
        (inr (record {
          ready = k;
          quiet = q;
          forth_begun = e1;
          back_begun = e2;
          forth = tt;
          back = z.1;
        })))
      where
        none : Span bf bb (View (λ ps l a m. Unit {0})) (λ v w. ⊥) t → Begun bf bb t
        none (inl y) = y
        none (inr y) = absurd y.back

    by_forth : 1 ≤ length s.forth.queue → length s.forth.buffer ≡ 0 → Begun bf bb t
    by_forth l e =
        let z =
        fit_now p c f s.forth s.back (h.forth, h.back) (d1.acked, d1.due, d1.left)
        (d2.acked, d2.due, d2.left) e l in
        none (span_round p c bf bb (Fits c z.0) (λ v w. ⊥) (λ v w. ⊥) (View (λ ps l a m. Unit {0}))
        (View (λ ps l a m. Unit {0})) (View (λ ps l a m. Unit {0})) f (fit_links c bf z.0)
        (view_links c bb (λ ps l a m. Unit {0}) (λ ps l a m. Unit {0}) (nothing_views c)) s t h n r
        (inr (record {
          ready = k;
          quiet = q;
          forth_begun = e1;
          back_begun = e2;
          forth = z.1;
          back = tt;
        })))
      where
        none : Span bf bb (λ v w. ⊥) (View (λ ps l a m. Unit {0})) t → Begun bf bb t
        none (inl y) = y
        none (inr y) = absurd y.forth

    some : (q k d v b a p g e : ℕ) → 1 ≤ q + k + (d + v + b + a) + p + g + e → k ≡ 0 → g ≡ 0 →
        d + v + b + a ≡ 0 → p ≡ 0 → e ≡ 0 → (1 ≤ q) × (d ≡ 0)
    some q k d v b a p g e h i j l m n = (omega arith, omega arith)

    by_queue : inside_cube s ≡ 0 → (length s.back.queue ≡ 0) ⊎ (1 ≤ length s.back.queue) →
        Begun bf bb t
    by_queue i (inr l) = by_back l
    by_queue i (inl l) =
        let z =
        some (length s.forth.queue) (crossing s.forth) (length s.forth.buffer) s.vaults s.banks
        s.answers (length s.back.queue) (crossing s.back) (length s.back.buffer) q.3 q.0 q.1 i l
        (ap length q.2.taken) in
        by_forth z.0 z.1

    by_stuck : (1 ≤ length s.back.queue) ⊎ (inside_cube s ≡ 0) → Begun bf bb t
    by_stuck (inl l) = by_back l
    by_stuck (inr i) = by_queue i (zero_or_more (length s.back.queue))

-- Two windows, and 163 rounds more

small : (k d : ℕ) → k ≤ 5 → d < capacity k → d < 32
small zero d l h = omega (arith, h)
small (suc zero) d l h = omega (arith, h)
small (suc (suc zero)) d l h = omega (arith, h)
small (suc (suc (suc zero))) d l h = omega (arith, h)
small (suc (suc (suc (suc zero)))) d l h = omega (arith, h)
small (suc (suc (suc (suc (suc zero))))) d l h = omega (arith, h)
small (suc (suc (suc (suc (suc (suc j)))))) d l h = absurd (omega (arith, l))

none_left : (k d : ℕ) → k ≡ 0 → d < capacity k → d < 1
none_left zero d l h = omega (arith, h)
none_left (suc k) d l h = absurd (cc l)

first_due : (p : Profile) (c : Setup) → IsFit p c → (x y : Side) → Both c x y → Due c 22 x y
first_due p c f x y b =
    let s = (laws_of p c y x f.retry.1 (b.1, b.0)).sum in omega (arith, s, f.tokens.1)

pub begins_within : (p : Profile) (c : Setup) → IsFit p c → (run : ℕ → State) → Rounds c run 799 →
    Facts c (run 0) → IsSteady c (run 0) → AreReady (run 0).forth (run 0).back → IsQuiet (run 0) →
    Begun (begun_count (wire (run 0).forth)) (begun_count (wire (run 0).back)) (run 799)
begins_within p c f run r a b k q = by_third third
  where
    bf : ℕ
    bf = begun_count (wire (run 0).forth)

    bb : ℕ
    bb = begun_count (wire (run 0).back)

    zero_is : Span bf bb (Due c 22) (Due c 22) (run 0)
    zero_is =
        inr (record {
          ready = k;
          quiet = q;
          forth_begun = refl;
          back_begun = refl;
          forth =
              first_due p c f (run 0).forth (run 0).back (a.forth, a.back);
          back =
              first_due p c f (run 0).back (run 0).forth (a.back, a.forth);
        })

    at : (m : ℕ) → m ≤ 799 → Facts c (run m) × IsSteady c (run m)
    at m h =
        let e : m + 0 ≡ m = omega arith in
        subst (λ j. Facts c (run j) × IsSteady c (run j)) e
        (facts_along p c f run m 0 799 r (omega (arith, h)) a b)

    one : Span bf bb (Due c 5) (Due c 5) (run 180)
    one =
        window p c f bf bb 22 5 (λ i h d l. small (22 - i) d (omega (arith, h)) l) (omega arith) run
        0 799 r (omega arith) a b zero_is

    two : Span bf bb (Due c 0) (Due c 0) (run 360)
    two =
        window p c f bf bb 5 0 (λ i h d l. none_left (5 - i) d (omega (arith, h)) l) (omega arith)
        run 180 799 r (omega arith) (at 180 (omega arith)).0 (at 180 (omega arith)).1 one

    b1 : ℕ
    b1 = begun (wire (run 360).forth)

    b2 : ℕ
    b2 = begun (wire (run 360).back)

    third : Begun bf bb (run 523)
        ⊎ (Counted bf bb (View (Done c b1 0)) (View (Done c b2 0)) (run 523)
        × Acknowledged (run 360) (run 523))
    third = by_two two
      where
        by_two : Span bf bb (Due c 0) (Due c 0) (run 360) → Begun bf bb (run 523)
            ⊎ (Counted bf bb (View (Done c b1 0)) (View (Done c b2 0)) (run 523)
            × Acknowledged (run 360) (run 523))
        by_two (inl y) =
            inl (begun_along p c f bf bb run 163 360 799 r (omega arith) (at 360 (omega arith)).0
            (at 360 (omega arith)).1 y)
        by_two (inr y) =
            let l1 = left_most c (run 360).forth (run 360).back (at 360 (omega arith)).0.forth in
            let l2 = left_most c (run 360).back (run 360).forth (at 360 (omega arith)).0.back in
            span_waits p c f bf bb (Done c b1) (Done c b2) (done_views c b1) (done_views c b2) run
            360 799 r (omega arith) (at 360 (omega arith)).0 (at 360 (omega arith)).1
            (record {
              ready = y.ready;
              quiet = y.quiet;
              forth_begun = y.forth_begun;
              back_begun =
                  y.back_begun;
              forth =
                  (refl, omega (arith, y.forth), omega (arith, l1));
              back =
                  (refl, omega (arith, y.back), omega (arith, l2));
            })

    by_third : Begun bf bb (run 523)
        ⊎ (Counted bf bb (View (Done c b1 0)) (View (Done c b2 0)) (run 523)
        × Acknowledged (run 360) (run 523)) → Begun bf bb (run 799)
    by_third (inl y) =
        begun_along p c f bf bb run 276 523 799 r (omega arith) (at 523 (omega arith)).0
        (at 523 (omega arith)).1 y
    by_third (inr y) =
        let z = y.0 in
        let w : Begun bf bb (run 524) =
        begins_now p c f bf bb (run 523) (run 524) (at 523 (omega arith)).0
        (at 523 (omega arith)).1 (r 523 (omega arith)) z.ready z.quiet z.forth_begun
        z.back_begun
        (record {
          acked = omega (arith, z.forth.0, y.1.forth);
          due = z.forth.1;
          left =
              omega (arith, z.forth.2);
        }) (record {
          acked =
              omega (arith, z.back.0, y.1.back);
          due = z.back.1;
          left = omega (arith, z.back.2);
        }) in
        begun_along p c f bf bb run 275 524 799 r (omega arith) (at 524 (omega arith)).0
        (at 524 (omega arith)).1 w

pub begins : (p : Profile) (c : Setup) → Begins p c
begins p c = λ f run r a h.
    let z = begins_within p c f run r a h.0.0 (are_ready c (run 0) a h.0) h.1 in
    let v : Progress (run 0) (run 799) =
    progress_along p c f run 799 0 799 r (omega arith) a h.0.0 in
    by_begun (run 0) (run 799) v z
  where
    by_sums : (w w' b b' g g' a a' h h' : ℕ) → w' + (800 * (b' + g') + 100 * (a' + h')) ≤ w
        + (800 * (b + g) + 100 * (a + h)) → b ≤ b' → g ≤ g' → a ≤ a' → h ≤ h' →
        b + g + 1 ≤ b' + g' → w' + 800 ≤ w
    by_sums w w' b b' g g' a a' h h' l p q r t u = omega arith

    by_begun : (s t : State) → Progress s t →
        Begun (begun_count (wire s.forth)) (begun_count (wire s.back)) t → IsLighterBy 800 s t
    by_begun s t v (inl y) =
        by_sums (weight s) (weight t) (begun_count (wire s.forth)) (begun_count (wire t.forth))
        (begun_count (wire s.back)) (begun_count (wire t.back)) (accepted_count (wire s.forth))
        (accepted_count (wire t.forth)) (accepted_count (wire s.back))
        (accepted_count (wire t.back))
        v.weight v.begun.0 v.begun.1 v.accepted.0 v.accepted.1 (let u = v.begun.1 in
        omega (arith, y, u))
    by_begun s t v (inr y) =
        by_sums (weight s) (weight t) (begun_count (wire s.forth)) (begun_count (wire t.forth))
        (begun_count (wire s.back)) (begun_count (wire t.back)) (accepted_count (wire s.forth))
        (accepted_count (wire t.forth)) (accepted_count (wire s.back))
        (accepted_count (wire t.back))
        v.weight v.begun.0 v.begun.1 v.accepted.0 v.accepted.1 (let u = v.begun.0 in
        omega (arith, y, u))
