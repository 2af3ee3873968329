-- A link that is Good on both sides settles within 191 rounds.
use Rattle.std.proofs.Common.{◌≡◌, ◌≢◌, ℕ, suc, ◌+◌, ◌-◌, ◌%◌, ◌≤◌, ◌==◌, Bool, true, false, if◌then◌else◌, List, [], ◌∷◌, ◌++◌, length, ◌⊎◌, inl, inr, refl, sym, ◌∙◌, ap, subst, arith, append-nil}
use Rattle.std.proofs.lemmas.Grind.{common_steps}
use Rattle.hmc_codes.specs.declared.profile.Profile.{Profile}
use Rattle.hmc_numbers.specs.Direction.{Item, Reached}
use Rattle.hmc_numbers.specs.Direction.Reached.{training, aborting, between, inside, spoilt}
use Rattle.hmc_numbers.specs.Events.{Reading}
use Rattle.hmc_numbers.specs.May.{IsGood, IsShut}
use Rattle.hmc_link_state.specs.Choice.{Choice, choice}
use Rattle.hmc_link_state.specs.Choice.Choice.{train, starved, next, clear, start, again, new, tret, pret, null}
use Rattle.hmc_link_state.specs.State.{Setup, Side, State, wire, IsSteady, IsSettled, IsSettledSide, HaveNoStart}
use Rattle.hmc_link_state.specs.Round.{sight, sent_by, front, is_ran_start_at, landed_own, landed_other, costs_next, Rounds}
use Rattle.hmc_link_state.specs.Facts.{SideFacts, Facts}
use Rattle.hmc_link_state.specs.EachRound.{IsFit}
use Rattle.hmc_drain.specs.Stages.{Settles}
use Rattle.hmc_link_state.proofs.Along.{kept}
use Rattle.hmc_link_state.proofs.Calm.{never_ran, no_start, front_quiet}
use Rattle.hmc_drain.proofs.Backlog.{zero_or_more}
use Rattle.hmc_link_state.proofs.Chosen.{Chosen, chosen}
use Rattle.hmc_link_state.proofs.Falls.{falls, facts_along, landed_sender, took_keeps}
use Rattle.hmc_link_state.proofs.Keeps.{keeps}
use Rattle.hmc_link_state.proofs.Settled.{stays_settled}
use Rattle.hmc_drain.proofs.ReadyChoice.{no_train}
use Rattle.hmc_link_state.proofs.Turning.{Landing, Stays, Turning, stays_round, forth_turns, back_turns}
use Rattle.hmc_drain.proofs.Windows.{left_most}
use Rattle.hmc_drain.proofs.StartsEnd.{BothGood, goods_stay, Starting, no_start_in_good, room_or, starting_turns, Ridding, ridding_turns, IsRid, AreRid, rids_stay}

-- Clears end

abbrev extra : Bool → ℕ
extra true = 64
extra false = 0

data Clearing (m clears left : ℕ) (back : Bool) : Type 0 where
  done : back ≡ false → clears % 32 ≡ 0 → Clearing m clears left back
  due : back ≡ true → clears % 32 ≡ 0 → left + 64 ≤ m → Clearing m clears left back
  burst : clears % 32 ≢ 0 → left ≡ 0 → (32 - clears % 32) + extra back ≤ m →
      Clearing m clears left back

abbrev IsClearing : ℕ → Side → Side → Type 0
IsClearing m x y = Clearing m (wire x).clears (wire x).left x.go_back

pub bool_or : (b : Bool) → (b ≡ true) ⊎ (b ≡ false)
bool_or true = inl refl
bool_or false = inr refl

clears_on : (m n : ℕ) (b : Bool) → n % 32 ≢ 0 → (32 - n % 32) + extra b ≤ suc m →
    Clearing m (n + 1) 0 b
clears_on m n b h l = by_rest (zero_or_more ((n + 1) % 32)) (bool_or b)
  where
    by_rest : ((n + 1) % 32 ≡ 0) ⊎ (1 ≤ (n + 1) % 32) → (b ≡ true) ⊎ (b ≡ false) →
        Clearing m (n + 1) 0 b
    by_rest (inl q) (inl t) =
        let e : extra b ≡ 64 = ap extra t in due t q (omega (arith, q, l, e, h))
    by_rest (inl q) (inr t) = done t q
    by_rest (inr q) t = burst (λ z. absurd (omega (arith, q, z))) refl (omega (arith, q, l, h))

pub eq_zero : (n : ℕ) → n ≡ 0 → (n == 0) ≡ true
eq_zero n h = ap (λ k. k == 0) h

pub eq_not : (n : ℕ) → n ≢ 0 → (n == 0) ≡ false
eq_not n h = grind (arith, common_steps)

after_clear : (m n l : ℕ) (b : Bool) → l ≡ 0 → Clearing (suc m) n l b → (n % 32 ≢ 0)
    ⊎ ((n % 32 ≡ 0) × (b ≡ true)) → Clearing m (n + 1) l (if n % 32 == 0 then false else b)
after_clear m n l b z (done p q) (inl h) = absurd (h q)
after_clear m n l b z (done p q) (inr h) = let y : true ≡ false = sym h.1 ∙ p in absurd (cc y)
after_clear m n l b z (due p q r) w =
    let e : (if n % 32 == 0 then false else b) ≡ false =
    ap (λ t. if t then false else b) (eq_zero (n % 32) q) in
    let u : (n + 1) % 32 ≡ 1 = omega (arith, q) in
    let v : extra (if n % 32 == 0 then false else b) ≡ 0 = ap extra e in
    burst (λ y. absurd (omega (arith, u, y))) z (omega (arith, u, r, z, v))
after_clear m n l b z (burst p q r) w =
    let e : (if n % 32 == 0 then false else b) ≡ b =
    ap (λ t. if t then false else b) (eq_not (n % 32) p) in
    subst (λ t. Clearing m (n + 1) l t) (sym e)
    (subst (λ k. Clearing m (n + 1) k b) (sym z) (clears_on m n b p r))

clearing_by : (c : Setup) (m : ℕ) (x y : Side) (z : Choice) → IsGood (wire y).far →
    x.starts % 32 ≡ 0 → Chosen (sight c x y) z → IsClearing (suc m) x y →
    IsClearing m (sent_by c x y z) y
clearing_by c m x y train g s h k = absurd (no_train (wire y).far g h)
clearing_by c m x y starved g s h k = absurd (cc h)
clearing_by c m x y start g s h k = absurd (no_start_in_good c x y g h s)
clearing_by c m x y clear g s h k =
    after_clear m (wire x).clears (wire x).left x.go_back h.out.left k (by_why h.why)
  where
    by_why : ((wire x).clears % 32 ≢ 0)
        ⊎ (((wire x).clears % 32 ≡ 0) × (x.starts % 32 ≡ 0) × (x.go_back ≡ true)) →
        ((wire x).clears % 32 ≢ 0) ⊎ (((wire x).clears % 32 ≡ 0) × (x.go_back ≡ true))
    by_why (inl n) = inl n
    by_why (inr n) = inr (n.0, n.2)
clearing_by c m x y next g s h (done p q) = done p q
clearing_by c m x y next g s h (due p q r) = due p q (omega (arith, r, h.1))
clearing_by c m x y next g s h (burst p q r) = absurd (omega (arith, q, h.1))
clearing_by c m x y again g s h k = calmed h.0.clears h.0.back
  where
    calmed : (wire x).clears % 32 ≡ 0 → x.go_back ≡ false → IsClearing m (sent_by c x y again) y
    calmed a b = done b a
clearing_by c m x y (new n) g s h k = done h.new.calm.back h.new.calm.clears
clearing_by c m x y tret g s h k = done h.new.calm.back h.new.calm.clears
clearing_by c m x y pret g s h k = done h.0.new.calm.back h.0.new.calm.clears
clearing_by c m x y null g s h k = done h.0.new.calm.back h.0.new.calm.clears

ran_not : (y x : Side) (look : Reading) → IsRid y → 1 ≤ length (wire y).line →
    is_ran_start_at y (wire y).far look ≡ false
ran_not y x look h l =
    never_ran y look (wire y).far h.good
    (no_start (front y) (front_quiet (wire y).before (wire y).line h.line l))

clearing_took : (c : Setup) (m : ℕ) (x y : Side) (look : Reading) → IsRid y → Landing y look →
    IsClearing m x y → IsClearing m (landed_other y x look) (landed_own y (costs_next y) look)
clearing_took c m x y look r l h =
    subst (λ b. Clearing m (wire (landed_other y x look)).clears
    (wire (landed_other y x look)).left (if b then true else x.go_back))
    (sym (ran_not y x look r l.some))
    (took_keeps (λ w. Clearing m w.clears w.left x.go_back) (λ w n z. z) y x look h)

clearing_landed : (m : ℕ) (x y : Side) (look : Reading) → IsClearing m x y →
    IsClearing m (landed_own x (costs_next x) look) (landed_other x y look)
clearing_landed m x y look h =
    let s = landed_sender x (costs_next x) look in
    subst (λ n. Clearing m n (wire (landed_own x (costs_next x) look)).left x.go_back)
    (sym s.clears) (subst (λ n. Clearing m (wire x).clears n x.go_back) (sym s.left) h)

clearing_turns : (c : Setup) (m : ℕ) →
    Turning c AreRid (IsClearing (suc m)) (IsClearing m) (IsClearing m)
clearing_turns c m = record {
  link = record {
    send =
        λ x y b k l h. room_or c (λ s. IsClearing m s y) x y l
        (clearing_by c m x y (choice (sight c x y)) k.1.good k.0.starts (chosen (sight c x y)) h);
    send_before = λ x y b k h. h;
    send_after = λ x y b k h. h;
    land = λ x y look b k l h. clearing_landed m x y look h;
    land_before = λ x y look b k l h. clearing_took c m x y look k.1 l h;
    land_after = λ x y look b k l h. clearing_took c m x y look k.1 l h;
  };
  moved = λ x y m n bx by qx qy h. h;
}

-- The phases

record BothSides (K : Side → Side → Type 0) (P : ℕ → Side → Side → Type 0) (m : ℕ) (s : State) :
    Type 0 where
  context : K s.forth s.back
  forth : P m s.forth s.back
  back : P m s.back s.forth

pub both_fall : (p : Profile) (c : Setup) (K : Side → Side → Type 0) (P Q : ℕ → Side → Side →
    Type 0) → Stays c K → ((m : ℕ) → Turning c K (P (suc m)) (Q m) (P m)) → IsFit p c →
    (run : ℕ → State) (m k n : ℕ) → Rounds c run n → m + k ≤ n → Facts c (run k) →
    IsSteady c (run k) →
    K (run k).forth (run k).back → P m (run k).forth (run k).back → P m (run k).back (run k).forth →
    K (run (m + k)).forth (run (m + k)).back × P 0 (run (m + k)).forth (run (m + k)).back
    × P 0 (run (m + k)).back (run (m + k)).forth
both_fall p c K P Q st tu f run m k n r h a b x y z =
    let w : BothSides K P 0 (run (m + k)) = falls p c (BothSides K P)
    (λ i s t fa sa ro u. record {
      context = stays_round p c K st f s t fa ro u.context;
      forth = forth_turns p c K (P (suc i)) (Q i) (P i) st (tu i) f s t fa sa ro u.context u.forth;
      back = back_turns p c K (P (suc i)) (Q i) (P i) st (tu i) f s t fa sa ro u.context u.back;
    }) f run m k n r h a b (record { context = x; forth = y; back = z }) in
    (w.context, w.forth, w.back)

starting_first : (x y : Side) → Starting 31 x y
starting_first x y = by_rest (zero_or_more (x.starts % 32))
  where
    by_rest : (x.starts % 32 ≡ 0) ⊎ (1 ≤ x.starts % 32) → Starting 31 x y
    by_rest (inl q) = inl q
    by_rest (inr q) = inr (omega (arith, q))

starting_last : (x y : Side) → Starting 0 x y → x.starts % 32 ≡ 0
starting_last x y (inl q) = q
starting_last x y (inr q) = absurd (omega (arith, q))

ridding_first : (c : Setup) (x y : Side) → c.line ≤ 64 → length (wire x).line ≤ c.line →
    x.starts % 32 ≡ 0 → Ridding 64 x y
ridding_first c x y l s z =
    record {
      starts = z;
      xs = (wire x).line;
      ys = [];
      line = sym (append-nil (wire x).line);
      short = omega (arith, l, s);
      quiet = tt;
    }

ridding_last : (x y : Side) → IsGood (wire x).far → Ridding 0 x y → IsRid x
ridding_last x y g h = record { good = g; starts = h.starts; line = by_list h.xs h.line h.short }
  where
    by_list : (xs : List Item) → (wire x).line ≡ xs ++ h.ys → length xs ≤ 0 →
        HaveNoStart (wire x).line
    by_list [] q l = subst HaveNoStart (sym q) h.quiet
    by_list (z ∷ zs) q l = absurd (omega (arith, l))

clearing_first : (c : Setup) (x y : Side) → SideFacts c x y → IsClearing 96 x y
clearing_first c x y f = by_rest (zero_or_more ((wire x).clears % 32)) (bool_or x.go_back)
  where
    if_most : (b : Bool) → extra b ≤ 64
    if_most true = omega arith
    if_most false = omega arith

    none_left : 1 ≤ (wire x).clears % 32 → ((wire x).left ≡ 0) ⊎ (1 ≤ (wire x).left) →
        (wire x).left ≡ 0
    none_left q (inl l) = l
    none_left q (inr l) = absurd (omega (arith, q, (f.whole l).0))

    by_rest : ((wire x).clears % 32 ≡ 0) ⊎ (1 ≤ (wire x).clears % 32) → (x.go_back ≡ true)
        ⊎ (x.go_back ≡ false) → IsClearing 96 x y
    by_rest (inl q) (inl b) = due b q (let z = left_most c x y f in omega (arith, z))
    by_rest (inl q) (inr b) = done b q
    by_rest (inr q) b =
        burst (λ z. absurd (omega (arith, q, z))) (none_left q (zero_or_more (wire x).left))
        (let z = if_most x.go_back in omega (arith, z, q))

good_open : (c : Setup) (x y : Side) → SideFacts c x y → IsGood (wire x).far → x.is_open ≡ true
good_open c x y f g = by_clears (zero_or_more (wire x).clears)
  where
    not_shut : (far : Reached) → IsGood far → IsShut far → ⊥
    not_shut between g s = s
    not_shut (inside n k) g s = s
    not_shut training g s = g
    not_shut aborting g s = g
    not_shut spoilt g s = g

    by_clears : ((wire x).clears ≡ 0) ⊎ (1 ≤ (wire x).clears) → x.is_open ≡ true
    by_clears (inl q) = absurd (not_shut (wire x).far g (f.shut q))
    by_clears (inr q) = f.open_clears q

settled_side : (c : Setup) (x y : Side) → SideFacts c x y → IsRid x → IsClearing 0 x y →
    IsSettledSide x
settled_side c x y f r (done b q) =
    record {
      good = r.good;
      opened = good_open c x y f r.good;
      clears = q;
      starts = r.starts;
      back = b;
      line = r.line;
    }
settled_side c x y f r (due b q l) = absurd (omega (arith, l))
settled_side c x y f r (burst n q l) = absurd (omega (arith, l))

pub settles_good : (p : Profile) (c : Setup) → Settles p c
settles_good p c = λ f run r a h.
    let l : IsSteady c (run 0) = h.0 in
    let z1 =
    both_fall p c BothGood Starting Starting (goods_stay c) (starting_turns c) f run 31 0 500 r
    (omega arith) a l h.1 (starting_first (run 0).forth (run 0).back)
    (starting_first (run 0).back (run 0).forth) in
    let f1 : Facts c (run 31) × IsSteady c (run 31) =
    facts_along p c f run 31 0 500 r (omega arith) a l in
    let z2 =
    both_fall p c BothGood Ridding (λ i. Ridding (suc i)) (goods_stay c) (ridding_turns c) f run
    64 31 500 r (omega arith) f1.0 f1.1 z1.0
    (ridding_first c (run 31).forth (run 31).back f.line.1 f1.0.forth.short
    (starting_last (run 31).forth (run 31).back z1.1))
    (ridding_first c (run 31).back (run 31).forth f.line.1 f1.0.back.short
    (starting_last (run 31).back (run 31).forth z1.2)) in
    let f2 : Facts c (run 95) × IsSteady c (run 95) =
    facts_along p c f run 64 31 500 r (omega arith) f1.0 f1.1 in
    let k : AreRid (run 95).forth (run 95).back = (
      ridding_last (run 95).forth (run 95).back z2.0.0 z2.1,
      ridding_last (run 95).back (run 95).forth z2.0.1 z2.2,
    ) in
    let z3 =
    both_fall p c AreRid IsClearing IsClearing (rids_stay c) (clearing_turns c) f run 96 95 500
    r (omega arith) f2.0 f2.1 k (clearing_first c (run 95).forth (run 95).back f2.0.forth)
    (clearing_first c (run 95).back (run 95).forth f2.0.back) in
    let f3 : Facts c (run 191) × IsSteady c (run 191) =
    facts_along p c f run 96 95 500 r (omega arith) f2.0 f2.1 in
    let s : IsSettled (run 191) = (
      settled_side c (run 191).forth (run 191).back f3.0.forth z3.0.0 z3.1,
      settled_side c (run 191).back (run 191).forth f3.0.back z3.0.1 z3.2,
    ) in
    (kept p c IsSettled (keeps p c) (stays_settled p c) f run 309 191 500 r (omega arith) f3.0 s).1
