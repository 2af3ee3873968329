-- What is begun is accepted within some 81 rounds of a ready link.
use Rattle.std.proofs.Common.{◌≡◌, ℕ, zero, suc, ◌+◌, ◌-◌, ◌*◌, ◌<◌, ◌≤◌, Bool, true, false, if◌then◌else◌, List, [], ◌∷◌, ◌++◌, length, ◌⊎◌, inl, inr, refl, sym, ◌∙◌, ap, subst, arith, append-nil}
use Rattle.hmc_codes.specs.declared.profile.Profile.{Profile}
use Rattle.hmc_numbers.specs.Weights.{Weight, upto}
use Rattle.hmc_numbers.specs.Direction.{Direction, begun, rest}
use Rattle.hmc_numbers.specs.Events.{Reading}
use Rattle.hmc_numbers.proofs.DirectionLaws.{unfinished}
use Rattle.hmc_numbers.proofs.Effect.{same_first}
use Rattle.hmc_numbers.proofs.Sums.{upto-append, upto-up}
use Rattle.hmc_link_state.specs.Choice.{Choice, choice}
use Rattle.hmc_link_state.specs.Choice.Choice.{train, next, new, tret}
use Rattle.hmc_link_state.specs.State.{Setup, Side, State, wire, count_of, weight, IsSteady}
use Rattle.hmc_link_state.specs.Round.{sight, sent, sent_by, front, landed_own, costs_next, IsRound, Rounds}
use Rattle.hmc_link_state.specs.Facts.{SideFacts, Facts}
use Rattle.hmc_link_state.specs.EachRound.{IsFit, IsReady}
use Rattle.hmc_drain.specs.Stages.{Arrives}
use Rattle.hmc_link_state.proofs.Calm.{landed_wire, sent_settled}
use Rattle.hmc_drain.proofs.Backlog.{sends_next, sent_if_room, zero_or_more}
use Rattle.hmc_link_state.proofs.Chosen.{chosen}
use Rattle.hmc_link_state.proofs.Counts.{begun_count, accepted_count, Progress, progress_same, progress_trans}
use Rattle.hmc_link_state.proofs.Falls.{falls, facts_along, landed_sender, took_keeps, AreReady, ready_stays}
use Rattle.hmc_link_state.proofs.CleanLandings.{some_front}
use Rattle.hmc_link_state.proofs.Keeps.{Both, send_both, round_keeps}
use Rattle.hmc_link_state.proofs.LandedEvents.{SameSender}
use Rattle.hmc_link_state.proofs.Lines.{lands_own}
use Rattle.hmc_drain.proofs.Reach.{reach, raised, reach_snoc, reach_more, reaches, lands_raised, reach_lands}
use Rattle.hmc_link_state.proofs.Ready.{sent_caught}
use Rattle.hmc_link_state.proofs.SentFields.{accepted_same}
use Rattle.hmc_link_state.proofs.SentPointers.{sent_item}
use Rattle.hmc_link_state.proofs.Turning.{Landing, Turning, stays_round, forth_turns, back_turns}

-- the first n packets, m of which are requests or responses, are all begun; all are accepted when i
-- flits have landed, or so many after what is left of the last one
record Nears (n m i k : ℕ) (w : Direction) : Type 0 where
  length : n ≤ length w.first
  count : upto count_of w.first n ≡ m
  phase : ((1 ≤ w.left) × (w.left + 64 ≤ k) × (begun w ≡ n)) ⊎ (n ≤ reach i w.accepted w.line)

-- A send

first_sent : (c : Setup) (x y : Side) (z : Choice) → (ns : List Weight)
    × ((wire (sent_by c x y z)).first ≡ (wire x).first ++ ns)
first_sent c x y (new n) = (_ ∷ [], refl)
first_sent c x y tret = (_ ∷ [], refl)
first_sent c x y train = ([], same_first (wire x).first)
first_sent c x y z = ([], same_first (wire x).first)

longer : (ps ns : List Weight) → length ps ≤ length (ps ++ ns)
longer [] ns = omega arith
longer (p ∷ ps) ns = let h = longer ps ns in omega (arith, h)

record Grown (w v : Direction) : Type 0 where
  length : length w.first ≤ length v.first
  count : (n : ℕ) → n ≤ Rattle.std.proofs.Common.length w.first →
      upto count_of v.first n ≡ upto count_of w.first n
  accepted : v.accepted ≡ w.accepted
  line : (i a : ℕ) →
      reach i a w.line ≤ reach i a v.line

grown_by : (c : Setup) (x y : Side) → Both c x y →
    Grown (wire x) (wire (sent_by c x y (choice (sight c x y))))
grown_by c x y b =
    let z : Choice = choice (sight c x y) in
    let f = first_sent c x y z in
    let t = sent_item c x y z (chosen (sight c x y)) b.0 in
    record {
      length =
          subst (λ ps. length (wire x).first ≤ length ps) (sym f.1) (longer (wire x).first f.0);
      count =
          λ n l. ap (λ ps. upto count_of ps n) f.1 ∙ upto-append count_of (wire x).first f.0 n l;
      accepted = accepted_same c x y z;
      line =
          λ i a. subst (λ xs. reach i a (wire x).line ≤ reach i a xs) (sym t.1.line)
          (reach_snoc i a (wire x).line t.0);
    }

grown : (c : Setup) (x y : Side) → Both c x y → suc (length (wire x).line) ≤ c.line →
    Grown (wire x) (wire (sent c x y))
grown c x y b l =
    subst (λ s. Grown (wire x) (wire s)) (sym (sent_if_room c x y l)) (grown_by c x y b)

grown_reach : (n i : ℕ) (w v : Direction) → Grown w v → n ≤ reach i w.accepted w.line →
    n ≤ reach i v.accepted v.line
grown_reach n i w v g h =
    let z = g.line i w.accepted in
    let y : n ≤ reach i w.accepted v.line =
    omega (arith, z, h) in subst (λ a. n ≤ reach i a v.line) (sym g.accepted) y

next_left : (c : Setup) (x y : Side) → AreReady x y → suc (length (wire x).line) ≤ c.line →
    1 ≤ (wire x).left → ((wire (sent c x y)).left ≡ (wire x).left - 1)
    × (begun (wire (sent c x y)) ≡ begun (wire x))
next_left c x y k l h =
    let e : sent c x y ≡ sent_by c x y next =
    sent_if_room c x y l
    ∙ ap (sent_by c x y) (sends_next c x y k.settled.0 k.settled.1.good h) in
    (ap (λ s. (wire s).left) e, ap (λ s. begun (wire s)) e)

nears_sent : (p : Profile) (c : Setup) → IsFit p c → (n m i : ℕ) (x y : Side) → Both c x y →
    AreReady x y → suc (length (wire x).line) ≤ c.line → Nears n m (suc i) (suc i) (wire x) →
    Nears n m (suc i) i (wire (sent c x y))
nears_sent p c f n m i x y b k l h =
    let g = grown c x y b l in
    record {
      length = omega (arith, h.length, g.length);
      count = g.count n h.length
          ∙ h.count;
      phase = by_phase h.phase;
    }
  where
    v : Direction
    v = wire (sent c x y)

    by_phase : ((1 ≤ (wire x).left) × ((wire x).left + 64 ≤ suc i) × (begun (wire x) ≡ n))
        ⊎ (n ≤ reach (suc i) (wire x).accepted (wire x).line) →
        ((1 ≤ v.left) × (v.left + 64 ≤ i) × (begun v ≡ n)) ⊎ (n ≤ reach (suc i) v.accepted v.line)
    by_phase (inr r) = inr (grown_reach n (suc i) (wire x) v (grown c x y b l) r)
    by_phase (inl r) = by_left (zero_or_more v.left)
      where
        t : (v.left ≡ (wire x).left - 1) × (begun v ≡ begun (wire x))
        t = next_left c x y k l r.0

        by_left : (v.left ≡ 0) ⊎ (1 ≤ v.left) → ((1 ≤ v.left) × (v.left + 64 ≤ i) × (begun v ≡ n))
            ⊎ (n ≤ reach (suc i) v.accepted v.line)
        by_left (inr q) = inl (q, omega (arith, t.0, r.1, r.0), t.1 ∙ r.2)
        by_left (inl q) =
            let bb = send_both p c x y f.retry.1 b in
            let z =
            reaches c.retry v bb.0.joined.order
            (sent_settled c x y k.settled.0 k.settled.1.good).good q in
            let u = sent_caught c x y k.settled.0 k.settled.1.good k.one in
            let s =
            reach_more (length v.line) (suc i) v.accepted v.line
            (omega (arith, bb.0.short, f.line.1, r.1, r.0)) in
            inr (omega (arith, z, s, u.0, t.1, r.2))

-- A landing

nears_landed : (c : Setup) (n m i : ℕ) (x y : Side) (look : Reading) → Both c x y → AreReady x y →
    Landing x look → Nears n m (suc i) i (wire x) →
    Nears n m i i (wire (landed_own x (costs_next x) look))
nears_landed c n m i x y look b k l h = record {
  length = subst (λ ps. n ≤ length ps) (sym s.first) h.length;
  count = ap (λ ps. upto count_of ps n) s.first ∙ h.count;
  phase = by_phase h.phase;
}
  where
    w : Direction
    w = wire x

    v : Direction
    v = wire (landed_own x (costs_next x) look)

    s : SameSender w v
    s = landed_sender x (costs_next x) look

    by_phase : ((1 ≤ w.left) × (w.left + 64 ≤ i) × (begun w ≡ n))
        ⊎ (n ≤ reach (suc i) w.accepted w.line) → ((1 ≤ v.left) × (v.left + 64 ≤ i) × (begun v ≡ n))
        ⊎ (n ≤ reach i v.accepted v.line)
    by_phase (inl r) =
        inl (
          subst (λ a. 1 ≤ a) (sym s.left) r.0,
          subst (λ a. a + 64 ≤ i) (sym s.left) r.1,
          ap length s.first ∙ r.2,
        )
    by_phase (inr r) =
        let q : w.line ≡ front x ∷ rest w.line = some_front w.before w.line l.some in
        let a : v.accepted ≡ raised (front x) w.accepted =
        ap (λ d. d.accepted) (landed_wire x (costs_next x) look k.settled.0.good)
        ∙ lands_raised c.retry w (front x) b.0.joined.order k.settled.0.good q in
        let e : v.line ≡ rest w.line = lands_own x (costs_next x) look in
        let z : reach (suc i) w.accepted w.line ≡ reach i (raised (front x) w.accepted)
        (rest w.line) = reach_lands i w.accepted (front x) w.line q in
        inr (subst (λ d. n ≤ reach i d v.line) (sym a)
        (subst (λ xs. n ≤ reach i (raised (front x) w.accepted) xs) (sym e) (omega (arith, r, z))))

nears_acked : (n m i k : ℕ) (w : Direction) (a : ℕ) → Nears n m i k w →
    Nears n m i k (record w { acked = a })
nears_acked n m i k w a h = record { length = h.length; count = h.count; phase = h.phase }

nears_turns : (p : Profile) (c : Setup) → IsFit p c → (n m i : ℕ) →
    Turning c AreReady (λ x y. Nears n m (suc i) (suc i) (wire x))
    (λ x y. Nears n m (suc i) i (wire x)) (λ x y. Nears n m i i (wire x))
nears_turns p c f n m i = record {
  link = record {
    send = nears_sent p c f n m i;
    send_before = λ x y b k h. h;
    send_after = λ x y b k h. h;
    land = nears_landed c n m i;
    land_before =
        λ x y look b k l h. took_keeps (Nears n m (suc i) i) (nears_acked n m (suc i) i) y x look h;
    land_after = λ x y look b k l h. took_keeps (Nears n m i i) (nears_acked n m i i) y x look h;
  };
  moved = λ x y a e bx by qx qy h. record { length = h.length; count = h.count; phase = h.phase };
}

record AreNear (nf mf nb mb i : ℕ) (s : State) : Type 0 where
  ready : AreReady s.forth s.back
  forth : Nears nf mf i i (wire s.forth)
  back : Nears nb mb i i (wire s.back)

near_falls : (p : Profile) (c : Setup) → IsFit p c → (nf mf nb mb i : ℕ) (s t : State) → Facts c s →
    IsSteady c s → IsRound c s t → AreNear nf mf nb mb (suc i) s → AreNear nf mf nb mb i t
near_falls p c f nf mf nb mb i s t h b r z = record {
  ready = stays_round p c AreReady (ready_stays c) f s t h r z.ready;
  forth =
      forth_turns p c AreReady (λ x y. Nears nf mf (suc i) (suc i) (wire x))
      (λ x y. Nears nf mf (suc i) i (wire x)) (λ x y. Nears nf mf i i (wire x)) (ready_stays c)
      (nears_turns p c f nf mf i) f s t h b r z.ready z.forth;
  back =
      back_turns p c AreReady (λ x y. Nears nb mb (suc i) (suc i) (wire x))
      (λ x y. Nears nb mb (suc i) i (wire x)) (λ x y. Nears nb mb i i (wire x)) (ready_stays c)
      (nears_turns p c f nb mb i) f s t h b r z.ready z.back;
}

pub are_ready : (c : Setup) (s : State) → Facts c s → IsReady c s → AreReady s.forth s.back
are_ready c s a h = record {
  settled = h.1;
  one = (h.2.0, omega (arith, a.forth.joined.order.acked, a.forth.joined.order.accepted));
  two = (h.2.1, omega (arith, a.back.joined.order.acked, a.back.joined.order.accepted));
}

nears_first : (c : Setup) (x y : Side) → c.line ≤ 64 → SideFacts c x y → AreReady x y →
    Nears (begun (wire x)) (begun_count (wire x)) 82 82 (wire x)
nears_first c x y l f k =
    record { length = omega arith; count = refl; phase = by_left (zero_or_more (wire x).left) }
  where
    w : Direction
    w = wire x

    by_left : (w.left ≡ 0) ⊎ (1 ≤ w.left) →
        ((1 ≤ w.left) × (w.left + 64 ≤ 82) × (begun w ≡ begun w))
        ⊎ (begun w ≤ reach 82 w.accepted w.line)
    by_left (inl q) =
        let z = reaches c.retry w f.joined.order k.settled.0.good q in
        let s = reach_more (length w.line) 82 w.accepted w.line (omega (arith, f.short, l)) in
        inr (omega (arith, z, s, k.one.0))
    by_left (inr q) =
        let u =
        unfinished c.retry w w.left f.joined.order.valid_sizes f.joined.order.last
        f.joined.order.unfinished q in inl (q, omega (arith, u.2, u.3), refl)

-- what is accepted at the end
nears_last : (n m : ℕ) (w : Direction) → Nears n m 0 0 w → (n ≤ w.accepted) × (m ≤ accepted_count w)
nears_last n m w h = by_phase h.phase
  where
    by_phase : ((1 ≤ w.left) × (w.left + 64 ≤ 0) × (begun w ≡ n)) ⊎ (n ≤ w.accepted) →
        (n ≤ w.accepted) × (m ≤ accepted_count w)
    by_phase (inl r) = absurd (omega (arith, r.1))
    by_phase (inr r) =
        (r, let z = upto-up count_of w.first n w.accepted r in omega (arith, z, h.count))

-- 82 rounds of a ready link
pub record Arrived (s t : State) : Type 0 where
  pub ready : AreReady t.forth t.back
  pub forth : (begun (wire s.forth) ≤ (wire t.forth).accepted)
      × (begun_count (wire s.forth) ≤ accepted_count (wire t.forth))
  pub back : (begun (wire s.back) ≤ (wire t.back).accepted)
      × (begun_count (wire s.back) ≤ accepted_count (wire t.back))

pub arrive : (p : Profile) (c : Setup) → IsFit p c → (run : ℕ → State) (k n : ℕ) → Rounds c run n →
    82 + k ≤ n → Facts c (run k) → IsSteady c (run k) → AreReady (run k).forth (run k).back →
    Arrived (run k) (run (82 + k))
arrive p c f run k n r h a b y =
    let s : State = run k in
    let z : AreNear (begun (wire s.forth)) (begun_count (wire s.forth)) (begun (wire s.back))
    (begun_count (wire s.back)) 0 (run (82 + k)) =
    falls p c (AreNear (begun (wire s.forth)) (begun_count (wire s.forth)) (begun (wire s.back))
    (begun_count (wire s.back)))
    (near_falls p c f (begun (wire s.forth)) (begun_count (wire s.forth)) (begun (wire s.back))
    (begun_count (wire s.back)))
    f run 82 k n r h a b
    (record {
      ready = y;
      forth = nears_first c s.forth s.back f.line.1 a.forth y;
      back =
          nears_first c s.back s.forth f.line.1 a.back ((ready_stays c).swap s.forth s.back y);
    }) in
    record {
      ready = z.ready;
      forth =
          nears_last (begun (wire s.forth)) (begun_count (wire s.forth))
          (wire (run (82 + k)).forth) z.forth;
      back =
          nears_last (begun (wire s.back)) (begun_count (wire s.back)) (wire (run (82 + k)).back)
          z.back;
    }

pub progress_along : (p : Profile) (c : Setup) → IsFit p c → (run : ℕ → State) (m k n : ℕ) →
    Rounds c run n → m + k ≤ n → Facts c (run k) → IsSteady c (run k) →
    Progress (run k) (run (m + k))
progress_along p c f run zero k n r h a b =
    let q : k ≡ 0 + k = omega arith in
    subst (λ j. Progress (run k) (run j)) q (progress_same (run k))
progress_along p c f run (suc m) k n r h a b =
    let z = facts_along p c f run m k n r (omega (arith, h)) a b in
    let x : Progress (run (m + k)) (run (suc (m + k))) =
    (round_keeps p c (run (m + k)) (run (suc (m + k))) f z.0
    (r (m + k) (omega (arith, h)))).1 in
    let q : suc (m + k) ≡ suc m + k = omega arith in
    subst (λ j. Progress (run k) (run j)) q
    (progress_trans (run k) (run (m + k)) (run (suc (m + k)))
    (progress_along p c f run m k n r (omega (arith, h)) a b) x)

pub arrives : (p : Profile) (c : Setup) → Arrives p c
arrives p c = λ f run r a h.
    let z = arrive p c f run 0 100 r (omega arith) a h.0.0 (are_ready c (run 0) a h.0) in
    let u : Facts c (run 82) × IsSteady c (run 82) =
    facts_along p c f run 82 0 100 r (omega arith) a h.0.0 in
    let x : Progress (run 82) (run 100) =
    progress_along p c f run 18 82 100 r (omega arith) u.0 u.1 in
    let y : Progress (run 0) (run 82) = progress_along p c f run 82 0 100 r (omega arith) a h.0.0 in
    let v : Progress (run 0) (run 100) = progress_trans (run 0) (run 82) (run 100) y x in
    by_sums (weight (run 0)) (weight (run 100)) (begun_count (wire (run 0).forth))
    (begun_count (wire (run 100).forth)) (begun_count (wire (run 0).back))
    (begun_count (wire (run 100).back)) (accepted_count (wire (run 0).forth))
    (accepted_count (wire (run 82).forth)) (accepted_count (wire (run 100).forth))
    (accepted_count (wire (run 0).back)) (accepted_count (wire (run 82).back))
    (accepted_count (wire (run 100).back))
    v.weight v.begun.0 v.begun.1 z.forth.1 z.back.1 x.accepted.0 x.accepted.1 v.accepted.0
    v.accepted.1 h.1
  where
    by_sums : (w w' b b' g g' a m a' h m' h' : ℕ) → w' + (800 * (b' + g') + 100 * (a' + h')) ≤ w
        + (800 * (b + g) + 100 * (a + h)) → b ≤ b' → g ≤ g' → b ≤ m → g ≤ m' → m ≤ a' → m' ≤ h' →
        a ≤ a' → h ≤ h' → 1 ≤ b - a + (g - h) → w' + 100 ≤ w
    by_sums w w' b b' g g' a m a' h m' h' l p q r t u v x y z = omega arith
