-- Both receivers are Good or in Abort: what they do with a Start and a Clear.
use Rattle.std.proofs.Common.{◌≡◌, ℕ, zero, suc, ◌%◌, ◌<◌, ◌≤◌, ◌==◌, ◌&&◌, Bool, true, false, if◌then◌else◌, List, [], ◌∷◌, ◌⊎◌, inl, inr, refl, sym, ◌∙◌, ap, subst, arith}
use Rattle.hmc_numbers.specs.Direction.{Item, Reached, Direction, rest}
use Rattle.hmc_numbers.specs.Direction.Item.{filler, clear, part}
use Rattle.hmc_numbers.specs.Direction.Filler.{null, train, start, pret}
use Rattle.hmc_numbers.specs.Direction.Reached.{training, aborting, between, inside, spoilt}
use Rattle.hmc_numbers.specs.Events.{Reading, happens}
use Rattle.hmc_numbers.specs.Events.Reading.{plain, as_start, as_clear}
use Rattle.hmc_numbers.specs.Events.Event.{drops, opens}
use Rattle.hmc_numbers.specs.May.{IsGood, CanReadAs}
use Rattle.hmc_numbers.proofs.DirectionLaws.{starts as starts_law}
use Rattle.hmc_numbers.proofs.Order.{Order}
use Rattle.hmc_numbers.proofs.Runs.{StartRun}
use Rattle.hmc_numbers.proofs.Sums.{size-valid}
use Rattle.hmc_link_state.specs.State.{Setup, Side, wire}
use Rattle.hmc_link_state.specs.Round.{Reads, front, event_in_good, event_in_abort, event_at_far, event_here, is_counted_at, is_start_item, is_start_look, is_ran_start_at, landed_own, costs_next}
use Rattle.hmc_link_state.specs.Facts.{IsNotStart, Spaced}
use Rattle.hmc_link_state.proofs.Calm.{own_wire, good_far}
use Rattle.hmc_link_state.proofs.Chosen.{and_true, eq_same}
use Rattle.hmc_link_state.proofs.Falls.{took_keeps}
use Rattle.hmc_link_state.proofs.CleanLandings.{some_front}
use Rattle.hmc_link_state.proofs.Keeps.{Both}
use Rattle.hmc_drain.proofs.TrainSends.{sent_far}
use Rattle.hmc_link_state.proofs.Turning.{Landing, Stays}

abbrev pub IsCleanFar : Reached → Type 0
IsCleanFar training = ⊥
IsCleanFar aborting = Unit {0}
IsCleanFar between = Unit {0}
IsCleanFar (inside n k) = Unit {0}
IsCleanFar spoilt = ⊥

pub clean_or : (far : Reached) → IsCleanFar far → IsGood far ⊎ (far ≡ aborting)
clean_or training h = absurd h
clean_or aborting h = inr refl
clean_or between h = inl tt
clean_or (inside n k) h = inl tt
clean_or spoilt h = absurd h

good_clean : (far : Reached) → IsGood far → IsCleanFar far
good_clean training h = absurd h
good_clean aborting h = absurd h
good_clean between h = tt
good_clean (inside n k) h = tt
good_clean spoilt h = absurd h

-- the wire after a landing
pub lands_wire : (x : Side) (costs : Bool) (look : Reading) →
    wire (landed_own x costs look) ≡ happens (wire x)
    (event_at_far x look (front x) (wire x).far)
lands_wire x costs look =
    own_wire x.half 0 (is_counted_at x (wire x).far (event_here x look)) (event_here x look)

far_clean : (x : Side) (look : Reading) (far : Reached) → (wire x).far ≡ far → IsCleanFar far →
    IsCleanFar (happens (wire x) (event_at_far x look (front x) far)).far
far_clean x look training q h = absurd h
far_clean x look spoilt q h = absurd h
far_clean x plain aborting q h = subst IsCleanFar (sym q) tt
far_clean x as_start aborting q h = subst IsCleanFar (sym q) tt
far_clean x as_clear aborting q h = by_run ((wire x).clear_run == 23)
  where
    by_run : (b : Bool) → IsCleanFar (happens (wire x) (if b then opens else drops as_clear)).far
    by_run true = tt
    by_run false = subst IsCleanFar (sym q) tt
far_clean x look between q h =
    good_clean (happens (wire x) (event_in_good (wire x) (front x))).far
    (good_far (wire x) (front x))
far_clean x look (inside n k) q h =
    good_clean (happens (wire x) (event_in_good (wire x) (front x))).far
    (good_far (wire x) (front x))

pub clean_landed : (x : Side) (costs : Bool) (look : Reading) → IsCleanFar (wire x).far →
    IsCleanFar (wire (landed_own x costs look)).far
clean_landed x costs look h =
    subst (λ w. IsCleanFar w.far) (sym (lands_wire x costs look))
    (far_clean x look (wire x).far refl h)

abbrev pub AreClean : Side → Side → Type 0
AreClean x y = IsCleanFar (wire x).far × IsCleanFar (wire y).far

pub cleans_stay : (c : Setup) → Stays c AreClean
cleans_stay c = record {
  swap = λ x y h. (h.1, h.0);
  send = λ x y b h. (subst IsCleanFar (sym (sent_far c x y)) h.0, h.1);
  land =
      λ x y look b l h. (
        clean_landed x (costs_next x) look h.0,
        took_keeps (λ w. IsCleanFar w.far) (λ w n z. z) x y look h.1,
      );
  moved = λ x y m n bx by qx qy h. h;
}

-- A Start

abbrev pub IsStartItem : Item → Type 0
IsStartItem (filler start) = Unit {0}
IsStartItem x = ⊥

abbrev pub IsClearItem : Item → Type 0
IsClearItem clear = Unit {0}
IsClearItem x = ⊥

start_item : (i : Item) → is_start_item i ≡ true → IsStartItem i
start_item (filler start) h = tt
start_item (filler null) h = absurd (cc h)
start_item (filler train) h = absurd (cc h)
start_item (filler pret) h = absurd (cc h)
start_item clear h = absurd (cc h)
start_item (part n k more) h = absurd (cc h)

item_start : (i : Item) → IsStartItem i → is_start_item i ≡ true
item_start (filler start) h = refl
item_start (filler null) h = absurd h
item_start (filler train) h = absurd h
item_start (filler pret) h = absurd h
item_start clear h = absurd h
item_start (part n k more) h = absurd h

start_reads : (i : Item) (look : Reading) → IsStartItem i → Reads i look → look ≡ as_start
start_reads (filler start) look h r = r
start_reads (filler null) look h r = absurd h
start_reads (filler train) look h r = absurd h
start_reads (filler pret) look h r = absurd h
start_reads clear look h r = absurd h
start_reads (part n k more) look h r = absurd h

start_is : (i : Item) → IsStartItem i → i ≡ filler start
start_is (filler start) h = refl
start_is (filler null) h = absurd h
start_is (filler train) h = absurd h
start_is (filler pret) h = absurd h
start_is clear h = absurd h
start_is (part n k more) h = absurd h

run_far : (x : Side) (look : Reading) (i : Item) (far : Reached) → IsCleanFar far →
    look ≡ as_start → i ≡ filler start →
    (happens (wire x) (event_at_far x look i far)).start_run ≡ suc (wire x).start_run
run_far x look i training h q r = absurd h
run_far x look i spoilt h q r = absurd h
run_far x look i aborting h q r =
    ap (λ l. (happens (wire x) (event_in_abort (wire x).clear_run l)).start_run) q
run_far x look i between h q r =
    ap (λ j. (happens (wire x) (event_in_good (wire x) j)).start_run) r
run_far x look i (inside n k) h q r =
    ap (λ j. (happens (wire x) (event_in_good (wire x) j)).start_run) r

-- it makes the run of Starts longer
pub start_lands : (x : Side) (costs : Bool) (look : Reading) → IsCleanFar (wire x).far →
    Reads (front x) look → IsStartItem (front x) →
    (wire (landed_own x costs look)).start_run ≡ suc (wire x).start_run
start_lands x costs look h r g =
    ap (λ w. w.start_run) (lands_wire x costs look)
    ∙ run_far x look (front x) (wire x).far h (start_reads (front x) look g r)
    (start_is (front x) g)

look_start : (look : Reading) → is_start_look look ≡ true → look ≡ as_start
look_start plain h = absurd (cc h)
look_start as_start h = refl
look_start as_clear h = absurd (cc h)

reads_start : (i : Item) (look : Reading) → Reads i look → look ≡ as_start → CanReadAs i as_start
reads_start (filler start) look r q = tt
reads_start (filler null) look r q = let z : as_start ≡ plain = sym q ∙ r in absurd (cc z)
reads_start (filler train) look r q = let z : as_start ≡ plain = sym q ∙ r in absurd (cc z)
reads_start (filler pret) look r q = let z : as_start ≡ plain = sym q ∙ r in absurd (cc z)
reads_start clear look r q = let z : as_start ≡ as_clear = sym q ∙ r in absurd (cc z)
reads_start (part n zero more) look r q = let z : as_start ≡ plain = sym q ∙ r in absurd (cc z)
reads_start (part n (suc k) more) look r q = omega arith

ran_far : (c : Setup) (x : Side) (look : Reading) (far : Reached) → Order c.retry (wire x) →
    Landing x look → is_ran_start_at x far look ≡ true → IsStartItem (front x)
    × ((wire x).start_run ≡ 23)
ran_far c x look training o l h = absurd (cc h)
ran_far c x look spoilt o l h = absurd (cc h)
ran_far c x look aborting o l h =
    let z = and_true (is_start_look look) ((wire x).start_run == 23) h in
    let e : (wire x).start_run ≡ 23 = eq_same (wire x).start_run 23 z.1 in
    let q : front x ≡ filler start =
    starts_law c.retry (wire x) o (front x) (rest (wire x).line)
    (some_front (wire x).before (wire x).line l.some)
    (reads_start (front x) look l.reads (look_start look z.0)) (omega (arith, e)) in
    (subst IsStartItem (sym q) tt, e)
ran_far c x look between o l h =
    let z = and_true (is_start_item (front x)) ((wire x).start_run == 23) h in
    (start_item (front x) z.0, eq_same (wire x).start_run 23 z.1)
ran_far c x look (inside n k) o l h =
    let z = and_true (is_start_item (front x)) ((wire x).start_run == 23) h in
    (start_item (front x) z.0, eq_same (wire x).start_run 23 z.1)

-- a run is counted at its 24th Start alone
pub ran_is : (c : Setup) (x y : Side) (look : Reading) → Both c x y → Landing x look →
    is_ran_start_at x (wire x).far look ≡ true → IsStartItem (front x) × ((wire x).start_run ≡ 23)
ran_is c x y look b l h = ran_far c x look (wire x).far b.0.joined.order l h

far_ran : (x : Side) (look : Reading) (far : Reached) → IsCleanFar far → Reads (front x) look →
    IsStartItem (front x) → (wire x).start_run ≡ 23 → is_ran_start_at x far look ≡ true
far_ran x look training h r g q = absurd h
far_ran x look spoilt h r g q = absurd h
far_ran x look aborting h r g q =
    ap (λ l. is_start_look l && ((wire x).start_run == 23)) (start_reads (front x) look g r)
    ∙ ap (λ n. n == 23) q
far_ran x look between h r g q =
    ap (λ b. b && ((wire x).start_run == 23)) (item_start (front x) g) ∙ ap (λ n. n == 23) q
far_ran x look (inside n k) h r g q =
    ap (λ b. b && ((wire x).start_run == 23)) (item_start (front x) g) ∙ ap (λ n. n == 23) q

pub runs : (x : Side) (look : Reading) → IsCleanFar (wire x).far → Reads (front x) look →
    IsStartItem (front x) → (wire x).start_run ≡ 23 → is_ran_start_at x (wire x).far look ≡ true
runs x look h r g q = far_ran x look (wire x).far h r g q

-- a run is short where what landed last is no Start
start_run_short : (r : ℕ) (w : Direction) (z : Item) → w.before ≡ z → Order r w → IsNotStart z →
    w.start_run ≤ 16
start_run_short r w (filler start) q o n = absurd n
start_run_short r w (filler null) q o n =
    let s : StartRun (filler null) w.start_run =
    subst (λ i. StartRun i w.start_run) q o.start_run in omega (arith, s)
start_run_short r w (filler train) q o n =
    let s : StartRun (filler train) w.start_run =
    subst (λ i. StartRun i w.start_run) q o.start_run in omega (arith, s)
start_run_short r w (filler pret) q o n =
    let s : StartRun (filler pret) w.start_run =
    subst (λ i. StartRun i w.start_run) q o.start_run in omega (arith, s)
start_run_short r w clear q o n =
    let s : StartRun clear w.start_run = subst (λ i. StartRun i w.start_run) q o.start_run in
    omega (arith, s)
start_run_short r w (part m k more) q o n =
    let s : StartRun (part m k more) w.start_run =
    subst (λ i. StartRun i w.start_run) q o.start_run in
    let t : Rattle.hmc_numbers.proofs.Near.Real w.first (part m k more) =
    subst (Rattle.hmc_numbers.proofs.Near.Real w.first) q o.real in
    let v = (size-valid w.first m o.valid_sizes t.0 t.1).most in
    omega (arith, s, t.2, v)

pub short_run : (c : Setup) (x : Side) → Order c.retry (wire x) → IsNotStart (wire x).before →
    (wire x).start_run ≤ 16
short_run c x o n = start_run_short c.retry (wire x) (wire x).before refl o n

-- A Clear in Abort opens, or makes the run of Clears longer.

clear_reads : (i : Item) (look : Reading) → IsClearItem i → Reads i look → look ≡ as_clear
clear_reads clear look h r = r
clear_reads (filler f) look h r = absurd h
clear_reads (part n k more) look h r = absurd h

pub clear_lands : (x : Side) (costs : Bool) (look : Reading) → (wire x).far ≡ aborting →
    Reads (front x) look → IsClearItem (front x) → IsGood (wire (landed_own x costs look)).far
    ⊎ ((wire (landed_own x costs look)).clear_run ≡ suc (wire x).clear_run)
clear_lands x costs look q r g =
    subst (λ w. IsGood w.far ⊎ (w.clear_run ≡ suc (wire x).clear_run))
    (sym (lands_wire x costs look ∙ e)) (by_run ((wire x).clear_run == 23))
  where
    e : happens (wire x) (event_at_far x look (front x) (wire x).far) ≡ happens (wire x)
        (event_in_abort (wire x).clear_run as_clear)
    e =
        ap (λ far. happens (wire x) (event_at_far x look (front x) far)) q
        ∙ ap (λ l. happens (wire x) (event_in_abort (wire x).clear_run l))
        (clear_reads (front x) look g r)

    by_run : (b : Bool) → IsGood (happens (wire x) (if b then opens else drops as_clear)).far
        ⊎ ((happens (wire x) (if b then opens else drops as_clear)).clear_run ≡ suc
        (wire x).clear_run)
    by_run true = inl tt
    by_run false = inr refl

-- Spans without a ran start

abbrev pub LastNot : Item → List Item → Type 0
LastNot z [] = IsNotStart z
LastNot z (w ∷ ws) = LastNot w ws

pub spaced_end : (s o : ℕ) (z : Item) (g j : ℕ) (xs : List Item) → 1 ≤ o → Spaced s o z g j xs →
    LastNot z xs
spaced_end s o z g j [] l h = h.2 (omega (arith, l, h.1))
spaced_end s o z g zero (filler start ∷ xs) l h = spaced_end s o (filler start) 0 1 xs l h.1
spaced_end s o z g (suc j) (filler start ∷ xs) l h =
    spaced_end s o (filler start) 0 (suc (suc j) % 32) xs l h
spaced_end s o z g zero (filler train ∷ xs) l h = spaced_end s o (filler train) (suc g) 0 xs l h.1
spaced_end s o z g (suc j) (filler train ∷ xs) l h =
    spaced_end s o (filler train) (suc g) 0 xs l h.1
spaced_end s o z g zero (filler null ∷ xs) l h = spaced_end s o (filler null) (suc g) 0 xs l h.1
spaced_end s o z g (suc j) (filler null ∷ xs) l h = spaced_end s o (filler null) (suc g) 0 xs l h.1
spaced_end s o z g zero (filler pret ∷ xs) l h = spaced_end s o (filler pret) (suc g) 0 xs l h.1
spaced_end s o z g (suc j) (filler pret ∷ xs) l h = spaced_end s o (filler pret) (suc g) 0 xs l h.1
spaced_end s o z g zero (clear ∷ xs) l h = spaced_end s o clear (suc g) 0 xs l h.1
spaced_end s o z g (suc j) (clear ∷ xs) l h = spaced_end s o clear (suc g) 0 xs l h.1
spaced_end s o z g zero (part a k more ∷ xs) l h = spaced_end s o (part a k more) (suc g) 0 xs l h.1
spaced_end s o z g (suc j) (part a k more ∷ xs) l h =
    spaced_end s o (part a k more) (suc g) 0 xs l h.1

-- q flits have landed since a ran start, or a few Starts of its burst are still to land
abbrev pub Calm : (q s o run : ℕ) → Item → List Item → Type 0
Calm q s o run z xs =
    (g : ℕ) × (j : ℕ) × Spaced s o z g j xs × (((1 ≤ j) × (24 ≤ run)) ⊎ ((j ≡ 0) × (g ≤ q)))

calm_start : (q s o run run' : ℕ) (z : Item) (g j : ℕ) (xs : List Item) → q < 64 →
    Spaced s o z g j (filler start ∷ xs) → ((1 ≤ j) × (24 ≤ run)) ⊎ ((j ≡ 0) × (g ≤ q)) →
    run' ≡ suc run → (24 ≤ run) × Calm (suc q) s o run' (filler start) xs
calm_start q s o run run' z g zero xs l h (inl c) e = absurd (omega (arith, c.0))
calm_start q s o run run' z g zero xs l h (inr c) e = absurd (omega (arith, c.1, h.0, l))
calm_start q s o run run' z g (suc j) xs l h (inr c) e = absurd (cc c.0)
calm_start q s o run run' z g (suc j) xs l h (inl c) e =
    (c.1, (0, suc (suc j) % 32, h, by_rest (suc (suc j) % 32) refl))
  where
    by_rest : (r : ℕ) → suc (suc j) % 32 ≡ r → ((1 ≤ suc (suc j) % 32) × (24 ≤ run'))
        ⊎ ((suc (suc j) % 32 ≡ 0) × (0 ≤ suc q))
    by_rest zero t = inr (t, omega arith)
    by_rest (suc r) t = inl (omega (arith, t), omega (arith, c.1, e))

calm_other : (q s o run run' : ℕ) (z : Item) (g j : ℕ) (i : Item) (xs : List Item) → IsNotStart i →
    Spaced s o z g j (i ∷ xs) → ((1 ≤ j) × (24 ≤ run)) ⊎ ((j ≡ 0) × (g ≤ q)) →
    Calm (suc q) s o run' i xs
calm_other q s o run run' z g j (filler start) xs n h c = absurd n
calm_other q s o run run' z g zero (filler train) xs n h c = (suc g, 0, h.1, by_c c)
  where
    by_c : ((1 ≤ 0) × (24 ≤ run)) ⊎ ((◌≡◌ {A = ℕ} 0 0) × (g ≤ q)) → ((1 ≤ 0) × (24 ≤ run'))
        ⊎ ((◌≡◌ {A = ℕ} 0 0) × (suc g ≤ suc q))
    by_c (inl d) = absurd (omega (arith, d.0))
    by_c (inr d) = inr (refl, omega (arith, d.1))
calm_other q s o run run' z g (suc j) (filler train) xs n h c = absurd (cc h.0)
calm_other q s o run run' z g zero (filler null) xs n h c = (suc g, 0, h.1, by_c c)
  where
    by_c : ((1 ≤ 0) × (24 ≤ run)) ⊎ ((◌≡◌ {A = ℕ} 0 0) × (g ≤ q)) → ((1 ≤ 0) × (24 ≤ run'))
        ⊎ ((◌≡◌ {A = ℕ} 0 0) × (suc g ≤ suc q))
    by_c (inl d) = absurd (omega (arith, d.0))
    by_c (inr d) = inr (refl, omega (arith, d.1))
calm_other q s o run run' z g (suc j) (filler null) xs n h c = absurd (cc h.0)
calm_other q s o run run' z g zero (filler pret) xs n h c = (suc g, 0, h.1, by_c c)
  where
    by_c : ((1 ≤ 0) × (24 ≤ run)) ⊎ ((◌≡◌ {A = ℕ} 0 0) × (g ≤ q)) → ((1 ≤ 0) × (24 ≤ run'))
        ⊎ ((◌≡◌ {A = ℕ} 0 0) × (suc g ≤ suc q))
    by_c (inl d) = absurd (omega (arith, d.0))
    by_c (inr d) = inr (refl, omega (arith, d.1))
calm_other q s o run run' z g (suc j) (filler pret) xs n h c = absurd (cc h.0)
calm_other q s o run run' z g zero clear xs n h c = (suc g, 0, h.1, by_c c)
  where
    by_c : ((1 ≤ 0) × (24 ≤ run)) ⊎ ((◌≡◌ {A = ℕ} 0 0) × (g ≤ q)) → ((1 ≤ 0) × (24 ≤ run'))
        ⊎ ((◌≡◌ {A = ℕ} 0 0) × (suc g ≤ suc q))
    by_c (inl d) = absurd (omega (arith, d.0))
    by_c (inr d) = inr (refl, omega (arith, d.1))
calm_other q s o run run' z g (suc j) clear xs n h c = absurd (cc h.0)
calm_other q s o run run' z g zero (part a k more) xs n h c = (suc g, 0, h.1, by_c c)
  where
    by_c : ((1 ≤ 0) × (24 ≤ run)) ⊎ ((◌≡◌ {A = ℕ} 0 0) × (g ≤ q)) → ((1 ≤ 0) × (24 ≤ run'))
        ⊎ ((◌≡◌ {A = ℕ} 0 0) × (suc g ≤ suc q))
    by_c (inl d) = absurd (omega (arith, d.0))
    by_c (inr d) = inr (refl, omega (arith, d.1))
calm_other q s o run run' z g (suc j) (part a k more) xs n h c = absurd (cc h.0)

pub start_or : (i : Item) → IsStartItem i ⊎ IsNotStart i
start_or (filler start) = inl tt
start_or (filler null) = inr tt
start_or (filler train) = inr tt
start_or (filler pret) = inr tt
start_or clear = inr tt
start_or (part n k more) = inr tt

-- a landing within such a span: a Start is of a longer run
pub calm_lands : (q s o run run' : ℕ) (z i : Item) (line : List Item) → q < 64 →
    line ≡ i ∷ rest line → (IsStartItem i → run' ≡ suc run) → Calm q s o run z line →
    (IsStartItem i → 24 ≤ run) × Calm (suc q) s o run' i (rest line)
calm_lands q s o run run' z i line l e f h =
    by_item (start_or i) (subst (λ xs. Spaced s o z h.0 h.1 xs) e h.2)
  where
    by_item : IsStartItem i ⊎ IsNotStart i → Spaced s o z h.0 h.1 (i ∷ rest line) →
        (IsStartItem i → 24 ≤ run) × Calm (suc q) s o run' i (rest line)
    by_item (inl g) t =
        let u : i ≡ filler start = start_is i g in
        let v =
        calm_start q s o run run' z h.0 h.1 (rest line) l
        (subst (λ w. Spaced s o z h.0 h.1 (w ∷ rest line)) u t) h.3 (f g) in
        (λ w. v.0, subst (λ w. Calm (suc q) s o run' w (rest line)) (sym u) v.1)
    by_item (inr n) t =
        (λ g. absurd (not_both i g n), calm_other q s o run run' z h.0 h.1 i (rest line) n t h.3)
      where
        not_both : (k : Item) → IsStartItem k → IsNotStart k → ⊥
        not_both (filler start) a b = b
        not_both (filler null) a b = a
        not_both (filler train) a b = a
        not_both (filler pret) a b = a
        not_both clear a b = a
        not_both (part m k more) a b = a

-- and it begins with a ran start
pub calm_ran : (s o run' : ℕ) (z i : Item) (g j : ℕ) (line : List Item) → line ≡ i ∷ rest line →
    IsStartItem i → 24 ≤ run' → Spaced s o z g j line → Calm 0 s o run' i (rest line)
calm_ran s o run' z i g j line e t l h =
    let u : i ≡ filler start = start_is i t in
    subst (λ w. Calm 0 s o run' w (rest line)) (sym u)
    (by_j j (subst (λ w. Spaced s o z g j (w ∷ rest line)) u
    (subst (λ xs. Spaced s o z g j xs) e h)))
  where
    by_j : (j : ℕ) → Spaced s o z g j (filler start ∷ rest line) →
        Calm 0 s o run' (filler start) (rest line)
    by_j zero h = (0, 1, h.1, inl (omega arith, l))
    by_j (suc j) h = (0, suc (suc j) % 32, h, by_rest (suc (suc j) % 32) refl)
      where
        by_rest : (r : ℕ) → suc (suc j) % 32 ≡ r → ((1 ≤ suc (suc j) % 32) × (24 ≤ run'))
            ⊎ ((suc (suc j) % 32 ≡ 0) × (◌≤◌ 0 0))
        by_rest zero t = inr (t, omega arith)
        by_rest (suc r) t = inl (omega (arith, t), l)
