-- A landing brings a receiver in Abort nearer to Good.
use Rattle.std.proofs.Common.{◌≡◌, ◌≢◌, ℕ, zero, suc, ◌+◌, ◌-◌, ◌%◌, ◌<◌, ◌≤◌, ◌==◌, Bool, true, false, if◌then◌else◌, List, [], ◌⊎◌, inl, inr, refl, sym, ◌∙◌, ap, subst, arith}
use Rattle.hmc_numbers.specs.Direction.{Item, Reached, rest}
use Rattle.hmc_numbers.specs.Direction.Item.{filler, clear as cleared, part}
use Rattle.hmc_numbers.specs.Direction.Filler.{start as starts, null as nulls, train as trains, pret as prets}
use Rattle.hmc_numbers.specs.Direction.Reached.{training, aborting, between, inside, spoilt}
use Rattle.hmc_numbers.specs.Events.{Reading}
use Rattle.hmc_numbers.specs.May.{IsGood}
use Rattle.hmc_link_state.specs.State.{Setup, Side, wire}
use Rattle.hmc_link_state.specs.Round.{front, is_ran_start_at, landed_own, landed_other, costs_next}
use Rattle.hmc_link_state.specs.Facts.{IsNotStart, SideFacts}
use Rattle.hmc_drain.proofs.Blocks.{Block, Any, Nil, block_lands, block_none_left}
use Rattle.hmc_link_state.proofs.Chosen.{eq_same, not_same}
use Rattle.hmc_drain.proofs.RunEnds.{IsCleanFar, clean_or, AreClean, clean_landed, IsStartItem, IsClearItem, start_lands, ran_is, runs, short_run, clear_lands, LastNot, Calm, start_or, calm_lands, calm_ran}
use Rattle.hmc_link_state.proofs.Falls.{took_keeps, landed_sender}
use Rattle.hmc_link_state.proofs.CleanLandings.{some_front}
use Rattle.hmc_link_state.proofs.Keeps.{Both, land_both}
use Rattle.hmc_link_state.proofs.Lines.{lands_own}
use Rattle.hmc_drain.proofs.StartsEnd.{good_landed, good_took}
use Rattle.hmc_drain.proofs.Training.{landed_before}
use Rattle.hmc_link_state.proofs.Turning.{Landing}
use Rattle.hmc_drain.proofs.Windows.{left_most}
use Rattle.hmc_drain.proofs.Bursts.{owed_of, owed, owed_most, rest_of, rest_most}
use Rattle.hmc_drain.proofs.OpeningSends.{Clears, Starts, IsCalm, Ready, Open, zero_or}
use Rattle.hmc_drain.proofs.TrainSends.{NoMatter}
use Rattle.hmc_drain.proofs.OpeningSends.Open.{good, landing, clearing, due, starting, begins, calm, waits, lefts, others, ending}

-- y's line lands

due_first : (c : Setup) (a b d e : ℕ) (x x' y y' : Side) → SideFacts c x y → x'.go_back ≡ true →
    (wire x').left ≡ (wire x).left → (wire x').clears ≡ (wire x).clears → x'.starts ≡ x.starts →
    171 ≤ b → Open a b d e x' y'
due_first c a b d e x x' y y' f g l n s h =
    let t = left_most c x y f in
    let v = rest_most ((wire x').clears % 32) in
    let w = rest_most (x'.starts % 32) in
    due g (omega (arith, t, v, w, l, h))

start_block_lands : (c : Setup) (n k : ℕ) (Y : List Item → Type 0) (y x : Side) (look : Reading) →
    Both c y x → IsCleanFar (wire y).far → Landing y look → (suc 23 ≤ n)
    ⊎ ((ys : List Item) → Y ys → ys ≡ []) → ((wire y).start_run ≡ 23 → IsStartItem (front y) → ⊥) →
    Starts n Y y (suc k) → Starts n Y (landed_own y (costs_next y) look) k
start_block_lands c n k Y y x look b g l o nr h =
    let y' : Side = landed_own y (costs_next y) look in
    subst (λ s. Block IsStartItem LastNot Y 23 n (wire y').start_run (wire y').before s k)
    (sym (lands_own y (costs_next y) look))
    (subst (λ z. Block IsStartItem LastNot Y 23 n (wire y').start_run z (rest (wire y).line) k)
    (sym (landed_before y (costs_next y) look))
    (block_lands IsStartItem LastNot Y 23 n (wire y).start_run (wire y').start_run
    (wire y).before (wire y).line k (λ w xs z. z) l.some o more h))
  where
    more : IsStartItem (front y) → LastNot (wire y).before [] ⊎ ((wire y).start_run ≤ 23) →
        ((wire (landed_own y (costs_next y) look)).start_run ≡ suc (wire y).start_run)
        × ((wire (landed_own y (costs_next y) look)).start_run ≤ 23)
    more i (inl t) =
        let e = start_lands y (costs_next y) look g l.reads i in
        let s =
        short_run c y b.0.joined.order t in (e, omega (arith, e, s))
    more i (inr t) =
        let e = start_lands y (costs_next y) look g l.reads i in
        (e, by_23 (zero_or (23 - (wire y).start_run)) e)
      where
        by_23 : (23 - (wire y).start_run ≡ 0) ⊎ (23 - (wire y).start_run ≢ 0) →
            (wire (landed_own y (costs_next y) look)).start_run ≡ suc (wire y).start_run →
            (wire (landed_own y (costs_next y) look)).start_run ≤ 23
        by_23 (inl v) e = absurd (nr (omega (arith, v, t)) i)
        by_23 (inr v) e = omega (arith, v, e)

eq_or : (m n : ℕ) → (m ≡ n) ⊎ (m ≢ n)
eq_or m n = by_eq (m == n) refl
  where
    by_eq : (t : Bool) → (m == n) ≡ t → (m ≡ n) ⊎ (m ≢ n)
    by_eq true q = inl (eq_same m n q)
    by_eq false q = inr (not_same m n q)

start_not : (k : Item) → IsStartItem k → IsNotStart k → ⊥
start_not (filler starts) a b = b
start_not (filler nulls) a b = a
start_not (filler trains) a b = a
start_not (filler prets) a b = a
start_not cleared a b = a
start_not (part m k more) a b = a

-- a run of Starts is counted, or not
ran_or : (y : Side) → (((wire y).start_run ≡ 23) × IsStartItem (front y))
    ⊎ ((wire y).start_run ≡ 23 → IsStartItem (front y) → ⊥)
ran_or y = by_run (eq_or (wire y).start_run 23) (start_or (front y))
  where
    by_run : ((wire y).start_run ≡ 23) ⊎ ((wire y).start_run ≢ 23) → IsStartItem (front y)
        ⊎ IsNotStart (front y) → (((wire y).start_run ≡ 23) × IsStartItem (front y))
        ⊎ ((wire y).start_run ≡ 23 → IsStartItem (front y) → ⊥)
    by_run (inl q) (inl i) = inl (q, i)
    by_run (inl q) (inr n) = inr (λ e i. start_not (front y) i n)
    by_run (inr n) i = inr (λ e j. n e)

took_back : (y x : Side) (look : Reading) → is_ran_start_at y (wire y).far look ≡ true →
    (landed_other y x look).go_back ≡ true
took_back y x look h = ap (λ b. if b then true else x.go_back) h

took_back_on : (y x : Side) (look : Reading) → x.go_back ≡ true →
    (landed_other y x look).go_back ≡ true
took_back_on y x look h = by_ran (is_ran_start_at y (wire y).far look)
  where
    by_ran : (b : Bool) → (if b then true else x.go_back) ≡ true
    by_ran true = refl
    by_ran false = h

open_answer : (c : Setup) (a b d e : ℕ) (x y : Side) (look : Reading) → Both c x y →
    IsCleanFar (wire y).far → Landing y look → 171 ≤ b → (wire y).start_run ≡ 23 →
    IsStartItem (front y) → Open a b d e (landed_other y x look) (landed_own y (costs_next y) look)
open_answer c a b d e x y look bo g l h q i =
    due_first c a b d e x (landed_other y x look) y (landed_own y (costs_next y) look) bo.0
    (took_back y x look (runs y look g l.reads i q))
    (took_keeps (λ w. w.left ≡ (wire x).left) (λ w n z. z) y x look refl)
    (took_keeps (λ w. w.clears ≡ (wire x).clears) (λ w n z. z) y x look refl) refl h

open_starting : (c : Setup) (a b m e : ℕ) (x y : Side) (look : Reading) (k : ℕ) → Both c x y →
    IsCleanFar (wire y).far → Landing y look → m ≤ b → Starts 24 Any y k → k + 173 ≤ suc m →
    (((wire y).start_run ≡ 23) × IsStartItem (front y))
    ⊎ ((wire y).start_run ≡ 23 → IsStartItem (front y) → ⊥) →
    Open a b m e (landed_other y x look) (landed_own y (costs_next y) look)
open_starting c a b m e x y look k bo g l mb h s (inl r) =
    open_answer c a b m e x y look bo g l (omega (arith, s, mb)) r.0 r.1
open_starting c a b m e x y look zero bo g l mb h s (inr n) =
    absurd (block_none_left IsStartItem LastNot Any 23 24 (wire y).start_run (wire y).before
    (wire y).line (omega arith) h)
open_starting c a b m e x y look (suc k) bo g l mb h s (inr n) =
    starting k (start_block_lands c 24 k Any y x look (bo.1, bo.0) g l (inl (omega arith)) n h)
    (omega (arith, s))

starts_longer_by : (j : ℕ) (y : Side) → Starts j Nil y 64 → Starts j Nil y 65
starts_longer_by j y r =
    record {
      xs = r.xs;
      zs = r.zs;
      ys = r.ys;
      line_is = r.line_is;
      all = r.all;
      enough = r.enough;
      short = omega (arith, r.short);
      backlog = r.backlog;
    }

clears_longer_by : (j : ℕ) (x : Side) → Clears j Nil x 64 → Clears j Nil x 65
clears_longer_by j x r =
    record {
      xs = r.xs;
      zs = r.zs;
      ys = r.ys;
      line_is = r.line_is;
      all = r.all;
      enough = r.enough;
      short = omega (arith, r.short);
      backlog = r.backlog;
    }

open_begun : (c : Setup) (a b d e : ℕ) (x y : Side) (look : Reading) (j k : ℕ) → Both c x y →
    IsCleanFar (wire y).far → Landing y look → a ≤ b → Starts j Nil y 64 → 24 ≤ j + k →
    k + 239 ≤ a → 1 ≤ y.starts % 32 → y.starts % 32 ≤ j →
    (((wire y).start_run ≡ 23) × IsStartItem (front y))
    ⊎ ((wire y).start_run ≡ 23 → IsStartItem (front y) → ⊥) →
    Open a b d e (landed_other y x look) (landed_own y (costs_next y) look)
open_begun c a b d e x y look j k bo g l ab h s n o p (inl r) =
    open_answer c a b d e x y look bo g l (omega (arith, n, ab)) r.0 r.1
open_begun c a b d e x y look j k bo g l ab h s n o p (inr r) =
    begins j k (start_block_lands c j 64 Nil y x look (bo.1, bo.0) g l (inr (λ ys z. z)) r
    (starts_longer_by j y h)) s n o p

own_owed : (y : Side) (costs : Bool) (look : Reading) → owed (landed_own y costs look) ≡ owed y
own_owed y costs look = ap (λ n. owed_of (n % 32) y.go_back) (landed_sender y costs look).clears

own_left : (y : Side) (costs : Bool) (look : Reading) →
    (wire (landed_own y costs look)).left ≡ (wire y).left
own_left y costs look = (landed_sender y costs look).left

pub open_y_land : (c : Setup) (m e : ℕ) (x y : Side) (look : Reading) → Both c x y → AreClean x y →
    Landing y look → Open m m (suc m) e x y →
    Open m m m e (landed_other y x look) (landed_own y (costs_next y) look)
open_y_land c m e x y look bo k l (good g) = good (good_took y x look g)
open_y_land c m e x y look bo k l (landing t) =
    landing (took_keeps (λ w. Block IsClearItem NoMatter Any 23 24 w.clear_run w.before w.line e)
    (λ w n z. z) y x look t)
open_y_land c m e x y look bo k l (clearing j i t s f o p) =
    clearing j i
    (took_keeps (λ w. Block IsClearItem NoMatter Nil 23 j w.clear_run w.before w.line 64)
    (λ w n z. z) y x look t) s f
    (took_keeps (λ w. 1 ≤ w.clears % 32) (λ w n z. z) y x look o)
    (took_keeps (λ w. w.clears % 32 ≤ j) (λ w n z. z) y x look p)
open_y_land c m e x y look bo k l (due t s) =
    due (took_back_on y x look t)
    (took_keeps (λ w. w.left + rest_of (w.clears % 32) + rest_of (x.starts % 32) + 92 ≤ m)
    (λ w n z. z) y x look s)
open_y_land c m e x y look bo k l (starting i t s) =
    open_starting c m m m e x y look i bo k.1 l (omega arith) t s (ran_or y)
open_y_land c m e x y look bo k l (begins j i t s f o p) =
    open_begun c m m m e x y look j i bo k.1 l (omega arith) t s f o p (ran_or y)
open_y_land c m e x y look bo k l (calm g t r z s i) =
    let w = own_owed y (costs_next y) look in
    calm g (took_keeps (λ w. Calm g x.starts x.others w.start_run w.before w.line) (λ w n z. z) y x
    look t) (record { others = r.others; starts = r.starts }) (own_left y (costs_next y) look
    ∙ z) (omega (arith, w, s)) (omega (arith, w, i))
open_y_land c m e x y look bo k l (waits r z s) =
    let w = own_owed y (costs_next y) look in
    waits (record { others = r.others; starts = r.starts }) (own_left y (costs_next y) look ∙ z)
    (omega (arith, w, s))
open_y_land c m e x y look bo k l (lefts r s) =
    let w = own_left y (costs_next y) look in
    lefts (record { others = r.others; starts = r.starts }) (omega (arith, w, s))
open_y_land c m e x y look bo k l (others z s) = others z s
open_y_land c m e x y look bo k l (ending n s) = ending n s

-- x's line lands

clear_block_lands : (c : Setup) (n k : ℕ) (Y : List Item → Type 0) (x y : Side) (look : Reading) →
    Both c x y → (wire x).far ≡ aborting → Landing x look → (suc 23 ≤ n)
    ⊎ ((ys : List Item) → Y ys → ys ≡ []) →
    (wire (landed_own x (costs_next x) look)).far ≡ aborting → Clears n Y x (suc k) →
    Clears n Y (landed_own x (costs_next x) look) k
clear_block_lands c n k Y x y look b q l o q' h =
    let x' : Side = landed_own x (costs_next x) look in
    subst (λ s. Block IsClearItem NoMatter Y 23 n (wire x').clear_run (wire x').before s k)
    (sym (lands_own x (costs_next x) look))
    (subst (λ z. Block IsClearItem NoMatter Y 23 n (wire x').clear_run z (rest (wire x).line) k)
    (sym (landed_before x (costs_next x) look))
    (block_lands IsClearItem NoMatter Y 23 n (wire x).clear_run (wire x').clear_run
    (wire x).before (wire x).line k (λ w xs z. z) l.some o more h))
  where
    not_good : (far : Reached) → far ≡ aborting → IsGood far → ⊥
    not_good training e g = g
    not_good aborting e g = g
    not_good between e g = cc e
    not_good (inside i j) e g = cc e
    not_good spoilt e g = g

    more : IsClearItem (front x) → Unit {0} ⊎ ((wire x).clear_run ≤ 23) →
        ((wire (landed_own x (costs_next x) look)).clear_run ≡ suc (wire x).clear_run)
        × ((wire (landed_own x (costs_next x) look)).clear_run ≤ 23)
    more i u = (
      by_open (clear_lands x (costs_next x) look q l.reads i),
      (land_both c x y look l.some l.reads b).0.few q',
    )
      where
        by_open : IsGood (wire (landed_own x (costs_next x) look)).far
            ⊎ ((wire (landed_own x (costs_next x) look)).clear_run ≡ suc (wire x).clear_run) →
            (wire (landed_own x (costs_next x) look)).clear_run ≡ suc (wire x).clear_run
        by_open (inl g) = absurd (not_good (wire (landed_own x (costs_next x) look)).far q' g)
        by_open (inr e) = e

start_run_more : (x : Side) (look : Reading) → IsCleanFar (wire x).far → Landing x look →
    IsStartItem (front x) →
    (wire (landed_own x (costs_next x) look)).start_run ≡ suc (wire x).start_run
start_run_more x look g l i = start_lands x (costs_next x) look g l.reads i

calm_after : (c : Setup) (q : ℕ) (x y : Side) (look : Reading) → Both c x y →
    IsCleanFar (wire x).far → Landing x look → q < 64 → IsCalm q x →
    (is_ran_start_at x (wire x).far look ≡ false)
    × IsCalm (suc q) (landed_own x (costs_next x) look)
calm_after c q x y look b g l m h =
    let x' : Side = landed_own x (costs_next x) look in
    let z =
    calm_lands q x.starts x.others (wire x).start_run (wire x').start_run (wire x).before
    (front x) (wire x).line m (some_front (wire x).before (wire x).line l.some)
    (λ i. start_run_more x look g l i) h in (
      no_ran (is_ran_start_at x (wire x).far look) refl z.0,
      subst (λ xs. Calm (suc q) x.starts x.others (wire x').start_run (wire x').before xs)
          (sym (lands_own x (costs_next x) look))
          (subst (λ w. Calm (suc q) x.starts x.others (wire x').start_run w (rest (wire x).line))
          (sym (landed_before x (costs_next x) look)) z.1),
    )
  where
    no_ran : (t : Bool) → is_ran_start_at x (wire x).far look ≡ t →
        (IsStartItem (front x) → 24 ≤ (wire x).start_run) → t ≡ false
    no_ran false e f = refl
    no_ran true e f =
        let v = ran_is c x y look b l e in
        let w : 24 ≤ (wire x).start_run =
        f v.0 in absurd (omega (arith, w, v.1))

calm_first : (c : Setup) (x y : Side) (look : Reading) → Both c x y → IsCleanFar (wire x).far →
    Landing x look → is_ran_start_at x (wire x).far look ≡ true →
    IsCalm 0 (landed_own x (costs_next x) look)
calm_first c x y look b g l r =
    let x' : Side = landed_own x (costs_next x) look in
    let v = ran_is c x y look b l r in
    let e = start_run_more x look g l v.0 in
    let s = b.0.spaced in
    subst (λ xs. Calm 0 x.starts x.others (wire x').start_run (wire x').before xs)
    (sym (lands_own x (costs_next x) look))
    (subst (λ w. Calm 0 x.starts x.others (wire x').start_run w (rest (wire x).line))
    (sym (landed_before x (costs_next x) look))
    (calm_ran x.starts x.others (wire x').start_run (wire x).before (front x) s.0 s.1
    (wire x).line (some_front (wire x).before (wire x).line l.some) v.0 (omega (arith, e, v.1))
    s.2))

took_owed : (x y : Side) (look : Reading) → is_ran_start_at x (wire x).far look ≡ false →
    owed (landed_other x y look) ≡ owed y
took_owed x y look h =
    took_keeps (λ w. owed_of (w.clears % 32) (landed_other x y look).go_back ≡ owed y) (λ w n z. z)
    x y look (ap (λ b. owed_of ((wire y).clears % 32) (if b then true else y.go_back)) h)

took_left : (x y : Side) (look : Reading) → (wire (landed_other x y look)).left ≡ (wire y).left
took_left x y look = took_keeps (λ w. w.left ≡ (wire y).left) (λ w n z. z) x y look refl

open_x_waits : (c : Setup) (a b d e : ℕ) (x y : Side) (look : Reading) → Both c x y →
    IsCleanFar (wire x).far → Landing x look → Ready y → (wire y).left ≡ 0 → owed y + 330 ≤ a →
    e ≤ a → (t : Bool) → is_ran_start_at x (wire x).far look ≡ t →
    Open a b d e (landed_own x (costs_next x) look) (landed_other x y look)
open_x_waits c a b d e x y look bo g l r z s ea true h =
    let w =
    owed_most ((wire (landed_other x y look)).clears % 32) (landed_other x y look).go_back in
    calm 0 (calm_first c x y look bo g l h) (record { others = r.others; starts = r.starts })
    (took_left x y look ∙ z) (omega (arith, w, ea)) (omega (arith, w, s))
open_x_waits c a b d e x y look bo g l r z s ea false h =
    let w = took_owed x y look h in
    waits (record { others = r.others; starts = r.starts }) (took_left x y look ∙ z)
    (omega (arith, w, s))

pub open_x_land : (c : Setup) (m d : ℕ) (x y : Side) (look : Reading) → Both c x y → AreClean x y →
    Landing x look → Open m m d (suc m) x y →
    Open m m d m (landed_own x (costs_next x) look) (landed_other x y look)
open_x_land c m d x y look bo k l h =
    by_far (clean_or (wire x).far k.0)
    (clean_or (wire (landed_own x (costs_next x) look)).far
    (clean_landed x (costs_next x) look k.0)) h
  where
    by_far : IsGood (wire x).far ⊎ ((wire x).far ≡ aborting) →
        IsGood (wire (landed_own x (costs_next x) look)).far
        ⊎ ((wire (landed_own x (costs_next x) look)).far ≡ aborting) → Open m m d (suc m) x y →
        Open m m d m (landed_own x (costs_next x) look) (landed_other x y look)
    by_far p (inl g) t = good g
    by_far (inl g) (inr q) t = good (good_landed x (costs_next x) look g)
    by_far (inr q) (inr w) (good g) = good (good_landed x (costs_next x) look g)
    by_far (inr q) (inr w) (landing t) =
        landing (clear_block_lands c 24 m Any x y look bo q l (inl (omega arith)) w t)
    by_far (inr q) (inr w) (clearing j i t s f o p) =
        clearing j i
        (clear_block_lands c j 64 Nil x y look bo q l (inr (λ ys z. z)) w (clears_longer_by j x t))
        s f
        (subst (λ n. 1 ≤ n % 32) (sym (landed_sender x (costs_next x) look).clears) o)
        (subst (λ n. n % 32 ≤ j) (sym (landed_sender x (costs_next x) look).clears) p)
    by_far (inr q) (inr w) (due t s) =
        let v = landed_sender x (costs_next x) look in
        due t (subst (λ n. n + rest_of ((wire (landed_own x (costs_next x) look)).clears % 32)
        + rest_of (x.starts % 32) + 92 ≤ m) (sym v.left)
        (subst (λ n. (wire x).left + rest_of (n % 32) + rest_of (x.starts % 32) + 92 ≤ m)
        (sym v.clears) s))
    by_far (inr q) (inr w) (starting i t s) =
        starting i
        (took_keeps (λ w. Block IsStartItem LastNot Any 23 24 w.start_run w.before w.line i)
        (λ w n z. z) x y look t) s
    by_far (inr q) (inr w) (begins j i t s f o p) =
        begins j i
        (took_keeps (λ w. Block IsStartItem LastNot Nil 23 j w.start_run w.before w.line 64)
        (λ w n z. z) x y look t) s f o p
    by_far (inr q) (inr w) (calm g t r z s i) =
        let v = calm_after c g x y look bo k.0 l (omega (arith, s)) t in
        let u = took_owed x y look v.0 in
        calm (suc g) v.1 (record { others = r.others; starts = r.starts }) (took_left x y look ∙ z)
        (omega (arith, u, s)) (omega (arith, u, i))
    by_far (inr q) (inr w) (waits r z s) =
        open_x_waits c m m d m x y look bo k.0 l r z s (omega arith)
        (is_ran_start_at x (wire x).far look) refl
    by_far (inr q) (inr w) (lefts r s) =
        let v = took_left x y look in
        lefts (record { others = r.others; starts = r.starts }) (omega (arith, v, s))
    by_far (inr q) (inr w) (others z s) = others z s
    by_far (inr q) (inr w) (ending n s) = ending n s
