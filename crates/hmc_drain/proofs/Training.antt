-- No receiver is in Train after some 220 rounds.
use Rattle.std.proofs.Common.{◌≡◌, ◌≢◌, ℕ, suc, ◌+◌, ◌%◌, ◌≤◌, Bool, true, if◌then◌else◌, List, length, ◌⊎◌, inl, inr, refl, sym, ◌∙◌, ap, subst, arith}
use Rattle.hmc_codes.specs.declared.profile.Profile.{Profile}
use Rattle.hmc_numbers.specs.Direction.{Item, rest}
use Rattle.hmc_numbers.specs.Direction.Item.{filler, clear as cleared, part}
use Rattle.hmc_numbers.specs.Direction.Filler.{train as trains, start as starts, null as nulls, pret as prets}
use Rattle.hmc_numbers.specs.Direction.Reached.{training}
use Rattle.hmc_numbers.specs.Events.{Reading}
use Rattle.hmc_link_state.specs.State.{Setup, Side, wire}
use Rattle.hmc_link_state.specs.Round.{sent, front, Reads, is_steady, event_here, is_counted_at, landed_own, landed_other, costs_next}
use Rattle.hmc_drain.specs.Stages.{LeavesTrain}
use Rattle.hmc_drain.proofs.Blocks.{Block, Any, Nil, block_none, block_length, block_lands, block_none_left}
use Rattle.hmc_link_state.proofs.Calm.{own_wire}
use Rattle.hmc_drain.proofs.Backlog.{zero_or_more}
use Rattle.hmc_link_state.proofs.Falls.{took_keeps}
use Rattle.hmc_drain.proofs.FourSteps.{FourSteps, four_falls}
use Rattle.hmc_link_state.proofs.CleanLandings.{here_pace}
use Rattle.hmc_link_state.proofs.Keeps.{Both, with_moved}
use Rattle.hmc_link_state.proofs.LandedEvents.{was_training}
use Rattle.hmc_link_state.proofs.LandedFacts.{lands_before}
use Rattle.hmc_link_state.proofs.Lines.{far_lands, lands_own}
use Rattle.hmc_link_state.proofs.Turning.{Landing, Stays}
use Rattle.hmc_drain.proofs.TrainSends.{train_or, IsSteadyItem, NoMatter, Steadies, Going, Train, train_x_send, going_far, train_y, sent_far}
use Rattle.hmc_drain.proofs.TrainSends.Going.{by_train, by_others, by_burst}
use Rattle.hmc_drain.proofs.TrainSends.Train.{trained, ready, building, waiting, ending}

-- y's line lands

pub landed_training : (y : Side) (costs : Bool) (look : Reading) →
    (wire (landed_own y costs look)).far ≡ training → (wire y).far ≡ training
landed_training y costs look q =
    was_training (wire y) (event_here y look) (far_lands y look (front y) (wire y).far)
    (subst (λ w. w.far ≡ training)
    (own_wire y.half 0 (is_counted_at y (wire y).far (event_here y look)) (event_here y look)) q)

going_lands : (c : Setup) (j : ℕ) (x y x' y' : Side) → Both c x y → x'.starts ≡ x.starts →
    x'.others ≡ x.others → ((wire y').far ≡ training → (wire y).far ≡ training) → Going j x y →
    Going j x' y'
going_lands c j x y x' y' b p o f (by_train t) = by_far (train_or (wire y').far)
  where
    by_far : ((wire y').far ≡ training) ⊎ ((wire y').far ≢ training) → Going j x' y'
    by_far (inl q) = by_train q
    by_far (inr n) =
        let u = b.0.untrained t in
        let v = b.0.long_ago u.starts in
        by_others n (omega (arith, p, u.starts)) (omega (arith, o, v))
going_lands c j x y x' y' b p o f (by_others n s i) =
    by_others (λ e. n (f e)) (omega (arith, p, s)) (omega (arith, o, i))
going_lands c j x y x' y' b p o f (by_burst n s i) =
    by_burst (λ e. n (f e)) (omega (arith, p, s)) (omega (arith, p, i))

train_took : (c : Setup) (a b d d' e : ℕ) (x y : Side) (look : Reading) → Both c x y →
    Train a b d e x y → Train a b d' e (landed_other y x look) (landed_own y (costs_next y) look)
train_took c a b d d' e x y look bo (trained h) =
    trained (took_keeps (λ w. w.far ≢ training) (λ w n z. z) y x look h)
train_took c a b d d' e x y look bo (ready h) =
    ready (took_keeps (λ w. Block IsSteadyItem NoMatter Any 7 8 x.steady w.before w.line e)
    (λ w n z. z) y x look h)
train_took c a b d d' e x y look bo (building j k h s f g) =
    building j k (took_keeps (λ w. Block IsSteadyItem NoMatter Nil 7 j x.steady w.before w.line 64)
    (λ w n z. z) y x look h) s f
    (going_lands c j x y (landed_other y x look) (landed_own y (costs_next y) look) bo refl refl
    (landed_training y (costs_next y) look) g)
train_took c a b d d' e x y look bo (waiting n s f) =
    waiting (λ t. n (landed_training y (costs_next y) look t)) s f
train_took c a b d d' e x y look bo (ending n s f) =
    ending (λ t. n (landed_training y (costs_next y) look t)) s f

-- x's line lands

pub landed_before : (x : Side) (costs : Bool) (look : Reading) →
    (wire (landed_own x costs look)).before ≡ front x
landed_before x costs look =
    ap (λ w. w.before)
    (own_wire x.half 0 (is_counted_at x (wire x).far (event_here x look)) (event_here x look))
    ∙ lands_before (wire x) (event_here x look) (far_lands x look (front x) (wire x).far)

steady_item : (i : Item) (look : Reading) → Reads i look → IsSteadyItem i → is_steady i look ≡ true
steady_item (filler trains) look r h = refl
steady_item (filler starts) look r h = ap (is_steady (filler starts)) r
steady_item (filler nulls) look r h = absurd h
steady_item (filler prets) look r h = absurd h
steady_item cleared look r h = absurd h
steady_item (part n k more) look r h = absurd h

block_moves : (Y : List Item → Type 0) (n k : ℕ) (x x' : Side) → (wire x').before ≡ front x →
    (wire x').line ≡ rest (wire x).line →
    Block IsSteadyItem NoMatter Y 7 n x'.steady (front x) (rest (wire x).line) k →
    Steadies n Y x' k
block_moves Y n k x x' q r h =
    subst (λ l. Block IsSteadyItem NoMatter Y 7 n x'.steady (wire x').before l k) (sym r)
    (subst (λ z. Block IsSteadyItem NoMatter Y 7 n x'.steady z (rest (wire x).line) k) (sym q) h)

train_x_land : (c : Setup) (a b d m : ℕ) (x y : Side) (look : Reading) → Both c x y →
    Landing x look → Train a b d (suc m) x y →
    Train a b d m (landed_own x (costs_next x) look) (landed_other x y look)
train_x_land c a b d m x y look bo l h =
    by_far (train_or (wire (landed_own x (costs_next x) look)).far) h
  where
    x' : Side
    x' = landed_own x (costs_next x) look

    more : (wire x').far ≡ training → IsSteadyItem (front x) → Unit {0} ⊎ (x.steady ≤ 7) →
        (x'.steady ≡ suc x.steady) × (x'.steady ≤ 7)
    more q g u =
        let e : x'.steady ≡ x.steady + 1 =
        ap (λ t. if t then x.steady + 1 else 0) (steady_item (front x) look l.reads g) in
        let s : x'.steady ≤ 7 =
        here_pace c x y look bo.0
        (subst (λ w. w.far ≡ training)
        (own_wire x.half 0 (is_counted_at x (wire x).far (event_here x look))
        (event_here x look)) q) in
        (omega (arith, e), s)

    same_far : (wire (landed_other x y look)).far ≡ (wire y).far
    same_far = took_keeps (λ w. w.far ≡ (wire y).far) (λ w n z. z) x y look refl

    by_far : ((wire x').far ≡ training) ⊎ ((wire x').far ≢ training) → Train a b d (suc m) x y →
        Train a b d m x' (landed_other x y look)
    by_far (inr n) t = trained n
    by_far (inl q) (trained n) = absurd (n (landed_training x (costs_next x) look q))
    by_far (inl q) (ready t) =
        ready (block_moves Any 8 m x x' (landed_before x (costs_next x) look)
        (lands_own x (costs_next x) look)
        (block_lands IsSteadyItem NoMatter Any 7 8 x.steady x'.steady (wire x).before
        (wire x).line m (λ w xs z. z) l.some (inl (omega arith)) (more q) t))
    by_far (inl q) (building j k t s f g) =
        building j k
        (block_moves Nil j 64 x x' (landed_before x (costs_next x) look)
        (lands_own x (costs_next x) look)
        (block_lands IsSteadyItem NoMatter Nil 7 j x.steady x'.steady (wire x).before
        (wire x).line 64 (λ w xs z. z) l.some (inr (λ ys z. z)) (more q) (longer t))) s f
        (going_far j x' y (landed_other x y look) same_far (same_going g))
      where
        longer : Steadies j Nil x 64 → Steadies j Nil x 65
        longer r =
            record {
              xs = r.xs;
              zs = r.zs;
              ys = r.ys;
              line_is = r.line_is;
              all = r.all;
              enough = r.enough;
              short = omega (arith, r.short);
              backlog = r.backlog;
            }

        same_going : Going j x y → Going j x' y
        same_going (by_train r) = by_train r
        same_going (by_others n r o) = by_others n r o
        same_going (by_burst n r o) = by_burst n r o
    by_far (inl q) (waiting n s f) = waiting (λ t. n (sym same_far ∙ t)) s f
    by_far (inl q) (ending n s f) = ending (λ t. n (sym same_far ∙ t)) s f

abbrev pub NoContext : Side → Side → Type 0
NoContext x y = Unit {0}

pub no_context : (c : Setup) → Stays c NoContext
no_context c =
    record {
      swap = λ x y h. tt;
      send = λ x y b h. tt;
      land = λ x y look b l h. tt;
      moved = λ x y m n bx by qx qy h. tt;
    }

train_moved : (m : ℕ) (x y : Side) (n i : ℕ) (bx by qx qy : List ℕ) → Train m m m m x y →
    Train m m m m (with_moved x n bx qx) (with_moved y i by qy)
train_moved m x y n i bx by qx qy (trained h) = trained h
train_moved m x y n i bx by qx qy (ready h) = ready h
train_moved m x y n i bx by qx qy (building j k h s f (by_train t)) =
    building j k h s f (by_train t)
train_moved m x y n i bx by qx qy (building j k h s f (by_others t r o)) =
    building j k h s f (by_others t r o)
train_moved m x y n i bx by qx qy (building j k h s f (by_burst t r o)) =
    building j k h s f (by_burst t r o)
train_moved m x y n i bx by qx qy (waiting t s f) = waiting t s f
train_moved m x y n i bx by qx qy (ending t s f) = ending t s f

train_four : (c : Setup) → c.line ≤ 64 → FourSteps c NoContext Train
train_four c u = record {
  y_send =
      λ m b x y bo k l h. train_y (suc m) m b (suc m) (suc m) (suc m) x y (sent c y x)
      (sent_far c y x) h;
  x_send = λ m a x y bo k l h. train_x_send c u m a x y bo l h;
  y_land = λ m e x y look bo k l h. train_took c m m (suc m) m e x y look bo h;
  x_land = λ m d x y look bo k l h. train_x_land c m m d m x y look bo l h;
  moved = train_moved;
}

train_first : (c : Setup) (x y : Side) → c.line ≤ 64 → Both c x y → Train 400 400 400 400 x y
train_first c x y u b = by_far (train_or (wire y).far) (zero_or_more (x.starts % 32))
  where
    by_far : ((wire y).far ≡ training) ⊎ ((wire y).far ≢ training) → (x.starts % 32 ≡ 0)
        ⊎ (1 ≤ x.starts % 32) → Train 400 400 400 400 x y
    by_far (inl q) s =
        building 0 8
        (block_length IsSteadyItem NoMatter 7 0 x.steady (wire x).before (wire x).line
        (length (wire x).line) 64 (omega (arith, b.0.short, u))
        (block_none IsSteadyItem NoMatter 7 x.steady (wire x).before (wire x).line tt))
        (omega arith) (omega arith) (by_train q)
    by_far (inr n) (inl s) = waiting n s (omega arith)
    by_far (inr n) (inr s) = ending n (λ z. absurd (omega (arith, s, z))) (omega (arith, s))

train_last : (x y : Side) → Train 0 0 0 0 x y → (wire x).far ≢ training
train_last x y (trained h) = h
train_last x y (ready h) =
    absurd (block_none_left IsSteadyItem NoMatter Any 7 8 x.steady (wire x).before (wire x).line
    (omega arith) h)
train_last x y (building j k h s f g) = absurd (omega (arith, f))
train_last x y (waiting n s f) = absurd (omega (arith, f))
train_last x y (ending n s f) = absurd (omega (arith, f))

pub leaves : (p : Profile) (c : Setup) → LeavesTrain p c
leaves p c = λ f run r a h.
    let z =
    four_falls p c NoContext Train (no_context c) (train_four c f.line.1) f run 400 0 400 r
    (omega arith) a h tt (train_first c (run 0).forth (run 0).back f.line.1 (a.forth, a.back))
    (train_first c (run 0).back (run 0).forth f.line.1 (a.back, a.forth)) in
    (train_last (run 400).forth (run 400).back z.0, train_last (run 400).back (run 400).forth z.1)
