-- While a receiver is in Train, each send brings it nearer to the end of it.
use Rattle.std.proofs.Common.{◌≡◌, ◌≢◌, ℕ, zero, suc, ◌+◌, ◌-◌, ◌%◌, ◌<◌, ◌≤◌, nat_lt, nat_le, ◌&&◌, Bool, true, false, List, [], ◌∷◌, ◌++◌, length, ◌⊎◌, inl, inr, refl, sym, ◌∙◌, ap, subst, arith}
use Rattle.hmc_numbers.specs.Direction.{Item, Reached}
use Rattle.hmc_numbers.specs.Direction.Item.{filler}
use Rattle.hmc_numbers.specs.Direction.Filler.{train as trains, start as starts, null as nulls, pret as prets}
use Rattle.hmc_numbers.specs.Direction.Reached.{training, aborting, between, inside, spoilt}
use Rattle.hmc_numbers.specs.May.{IsShut}
use Rattle.hmc_numbers.proofs.DirectionLaws.{unfinished}
use Rattle.hmc_link_state.specs.Choice.{Choice, choice, is_abort, is_training}
use Rattle.hmc_link_state.specs.Choice.Choice.{train, starved, next, clear, start, again, new, tret, pret, null}
use Rattle.hmc_link_state.specs.Sees.{mode_of}
use Rattle.hmc_link_state.specs.State.{Setup, Side, wire}
use Rattle.hmc_link_state.specs.Round.{sight, sent, sent_by}
use Rattle.hmc_link_state.specs.Facts.{Untrained}
use Rattle.hmc_drain.proofs.Blocks.{Block, Any, Nil, block_after, block_any, block_grows, block_none, block_length, block_less}
use Rattle.hmc_drain.proofs.Backlog.{sent_if_room, zero_or_more}
use Rattle.hmc_link_state.proofs.Lines.{one_more}
use Rattle.hmc_link_state.proofs.Chosen.{Chosen, chosen, most_le, most_not, and_true, less_lt, not_less}
use Rattle.hmc_link_state.proofs.Keeps.{Both}
use Rattle.hmc_drain.proofs.StartsEnd.{by_send}
use Rattle.hmc_link_state.proofs.SentFields.{far_same, train_far, in_train}

pub train_or : (far : Reached) → (far ≡ training) ⊎ (far ≢ training)
train_or training = inl refl
train_or aborting = inr (λ q. cc q)
train_or between = inr (λ q. cc q)
train_or (inside n k) = inr (λ q. cc q)
train_or spoilt = inr (λ q. cc q)

abbrev pub IsSteadyItem : Item → Type 0
IsSteadyItem (filler trains) = Unit {0}
IsSteadyItem (filler starts) = Unit {0}
IsSteadyItem x = ⊥

abbrev pub NoMatter : Item → List Item → Type 0
NoMatter z xs = Unit {0}

abbrev pub Steadies : (n : ℕ) → (List Item → Type 0) → Side → ℕ → Type 0
Steadies n Y x k = Block IsSteadyItem NoMatter Y 7 n x.steady (wire x).before (wire x).line k

-- what a sender sends while the far receiver is in Train

data Shut (c : Setup) (x y : Side) : Type 0 where
  in_train_too : (wire y).far ≡ training → choice (sight c x y) ≡ train → Shut c x y
  begins_start : (wire y).far ≢ training → choice (sight c x y) ≡ start → (x.starts % 32 ≢ 0)
      ⊎ (64 ≤ x.others) → Shut c x y
  sends_pret : (wire y).far ≢ training → choice (sight c x y) ≡ pret → x.starts % 32 ≡ 0 →
      x.others < 64 → Shut c x y
  sends_null : (wire y).far ≢ training → choice (sight c x y) ≡ null → x.starts % 32 ≡ 0 →
      x.others < 64 → Shut c x y

shut_abort : (far : Reached) → IsShut far → far ≢ training → is_abort (mode_of far) ≡ true
shut_abort training h n = absurd (n refl)
shut_abort aborting h n = refl
shut_abort between h n = absurd h
shut_abort (inside m k) h n = absurd h
shut_abort spoilt h n = absurd h

not_training : (far : Reached) → is_training (mode_of far) ≡ false → far ≢ training
not_training far h q = in_train far q h

few_others : (m : Bool) (n : ℕ) → m ≡ true → (m && nat_le 64 n) ≡ false → n < 64
few_others true n q h = most_not 64 n h
few_others false n q h = absurd (cc q)

shut_is : (c : Setup) (x y : Side) → Both c x y → (wire x).far ≡ training → Shut c x y
shut_is c x y b q = by_choice (choice (sight c x y)) refl (chosen (sight c x y))
  where
    u : Untrained y x
    u = b.1.untrained q

    no_left : 1 ≤ (wire x).left → ⊥
    no_left l =
        let v =
        unfinished c.retry (wire x) (wire x).left b.0.joined.order.valid_sizes
        b.0.joined.order.last b.0.joined.order.unfinished l in
        let w : length (wire x).first ≡ 0 = ap length u.others in omega (arith, v.0, v.1, w)

    no_open : x.is_open ≡ true → ⊥
    no_open o = let z : true ≡ false = sym o ∙ u.shut in cc z

    no_back : x.go_back ≡ true → ⊥
    no_back o = let z : true ≡ false = sym o ∙ u.back in cc z

    no_clears : (wire x).clears % 32 ≢ 0 → ⊥
    no_clears n = no_open (b.0.open_clears (omega (arith, n)))

    abort : (wire y).far ≢ training → is_abort (mode_of (wire y).far) ≡ true
    abort n = shut_abort (wire y).far (b.1.joined.trains q).2 n

    by_choice : (z : Choice) → choice (sight c x y) ≡ z → Chosen (sight c x y) z → Shut c x y
    by_choice train e h = in_train_too (train_far (wire y).far h) e
    by_choice starved e h = absurd (cc h)
    by_choice next e h = absurd (no_left h.1)
    by_choice clear e h = absurd (by_why h.why)
      where
        by_why : ((wire x).clears % 32 ≢ 0)
            ⊎ (((wire x).clears % 32 ≡ 0) × (x.starts % 32 ≡ 0) × (x.go_back ≡ true)) → ⊥
        by_why (inl n) = no_clears n
        by_why (inr z) = no_back z.2
    by_choice start e h = begins_start (not_training (wire y).far h.out.trained) e (by_why h.why)
      where
        by_why : (x.starts % 32 ≢ 0)
            ⊎ ((x.starts % 32 ≡ 0) × (x.go_back ≡ false)
            × ((is_abort (mode_of (wire y).far) && nat_le 64 x.others) ≡ true)) →
            (x.starts % 32 ≢ 0) ⊎ (64 ≤ x.others)
        by_why (inl n) = inl n
        by_why (inr z) =
            inr (most_le 64 x.others
            (and_true (is_abort (mode_of (wire y).far)) (nat_le 64 x.others) z.2).1)
    by_choice again e h =
        absurd (let w : length (wire x).first ≡ 0 = ap length u.others in omega (arith, h.1, w))
    by_choice (new n) e h = absurd (no_open h.opened)
    by_choice tret e h = absurd (no_open h.opened)
    by_choice pret e h =
        let n = not_training (wire y).far h.0.new.calm.trained in
        sends_pret n e h.0.new.calm.starts
        (few_others (is_abort (mode_of (wire y).far)) x.others (abort n) h.0.new.calm.abort)
    by_choice null e h =
        let n = not_training (wire y).far h.0.new.calm.trained in
        sends_null n e h.0.new.calm.starts
        (few_others (is_abort (mode_of (wire y).far)) x.others (abort n) h.0.new.calm.abort)

-- The stages

pub data Going (j : ℕ) (x y : Side) : Type 0 where
  by_train : (wire y).far ≡ training → Going j x y
  by_others : (wire y).far ≢ training → x.starts % 32 ≡ 0 → 64 ≤ x.others → Going j x y
  by_burst : (wire y).far ≢ training → 1 ≤ x.starts % 32 → x.starts % 32 ≤ j → Going j x y

pub data Train (a b d e : ℕ) (x y : Side) : Type 0 where
  trained : (wire x).far ≢ training → Train a b d e x y
  ready : Steadies 8 Any x e → Train a b d e x y
  building : (j k : ℕ) → Steadies j Nil x 64 → 8 ≤ j + k → k + 66 ≤ b → Going j x y →
      Train a b d e x y
  waiting : (wire y).far ≢ training → x.starts % 32 ≡ 0 → (64 - x.others) + 75 ≤ b →
      Train a b d e x y
  ending : (wire y).far ≢ training → x.starts % 32 ≢ 0 → (32 - x.starts % 32) + 140 ≤ b →
      Train a b d e x y

-- x sends

abbrev Sent : ℕ → (x y : Side) → Type 0
Sent m x y = Train 0 m 0 0 x y

after_train : (c : Setup) (m n : ℕ) (x y : Side) → Both c x y → c.line ≤ 64 →
    suc (length (wire x).line) ≤ c.line → (a : ℕ) → (wire y).far ≡ training →
    Train a (suc m) n (suc m) x y → Train a m n (suc m) (sent_by c x y train) y
after_train c m n x y b i l a q (trained h) = trained h
after_train c m n x y b i l a q (ready h) =
    ready (block_after IsSteadyItem NoMatter 7 8 x.steady (wire x).before (wire x).line (suc m)
    (filler trains) h)
after_train c m n x y b i l a q (building j zero h s f g) =
    ready (block_after IsSteadyItem NoMatter 7 8 x.steady (wire x).before (wire x).line (suc m)
    (filler trains)
    (block_less IsSteadyItem NoMatter Any 7 j 8 x.steady (wire x).before (wire x).line (suc m)
    (omega (arith, s))
    (block_any IsSteadyItem NoMatter Nil 7 j x.steady (wire x).before (wire x).line (suc m)
    (block_length IsSteadyItem NoMatter 7 j x.steady (wire x).before (wire x).line 64 (suc m)
    (omega (arith, l, i, f)) h))))
after_train c m n x y b i l a q (building j (suc k) h s f g) = building (suc j) k
    (block_length IsSteadyItem NoMatter 7 (suc j) x.steady (wire x).before
    ((wire x).line ++ filler trains ∷ []) 65 64
    (let z = one_more (wire x).line (filler trains) in
    omega (arith, z, l, i))
    (block_grows IsSteadyItem NoMatter 7 j x.steady (wire x).before (wire x).line 64
    (filler trains) tt h))
    (omega (arith, s)) (omega (arith, f)) (by_train q)
after_train c m n x y b i l a q (waiting h s f) = absurd (h q)
after_train c m n x y b i l a q (ending h s f) = absurd (h q)

next_start : (j n m : ℕ) → n % 32 ≤ j → j < 8 → (1 ≤ (n + 1) % 32) × ((n + 1) % 32 ≤ suc j)
next_start j n m h l = (omega (arith, h, l), omega (arith, h, l))

less_or_8 : (j : ℕ) → (j < 8) ⊎ (8 ≤ j)
less_or_8 j = by_less (nat_lt j 8) refl
  where
    by_less : (t : Bool) → nat_lt j 8 ≡ t → (j < 8) ⊎ (8 ≤ j)
    by_less true q = inl (less_lt j 8 q)
    by_less false q = inr (not_less j 8 q)

start_grows : (c : Setup) (x y : Side) (j : ℕ) → c.line ≤ 64 →
    suc (length (wire x).line) ≤ c.line → Steadies j Nil x 64 →
    Steadies (suc j) Nil (sent_by c x y start) 64
start_grows c x y j i l h =
    block_length IsSteadyItem NoMatter 7 (suc j) x.steady (wire x).before
    ((wire x).line ++ filler starts ∷ []) 65 64
    (let z = one_more (wire x).line (filler starts) in
    omega (arith, z, l, i))
    (block_grows IsSteadyItem NoMatter 7 j x.steady (wire x).before (wire x).line 64
    (filler starts) tt h)

after_start : (c : Setup) (m n : ℕ) (x y : Side) → Both c x y → c.line ≤ 64 →
    suc (length (wire x).line) ≤ c.line → (a : ℕ) → (wire y).far ≢ training → (x.starts % 32 ≢ 0)
    ⊎ (64 ≤ x.others) → Train a (suc m) n (suc m) x y → Train a m n (suc m) (sent_by c x y start) y
after_start c m n x y b i l a q w (trained h) = trained h
after_start c m n x y b i l a q w (ready h) =
    ready (block_after IsSteadyItem NoMatter 7 8 x.steady (wire x).before (wire x).line (suc m)
    (filler starts) h)
after_start c m n x y b i l a q w (building j zero h s f g) =
    ready (block_after IsSteadyItem NoMatter 7 8 x.steady (wire x).before (wire x).line (suc m)
    (filler starts)
    (block_less IsSteadyItem NoMatter Any 7 j 8 x.steady (wire x).before (wire x).line (suc m)
    (omega (arith, s))
    (block_any IsSteadyItem NoMatter Nil 7 j x.steady (wire x).before (wire x).line (suc m)
    (block_length IsSteadyItem NoMatter 7 j x.steady (wire x).before (wire x).line 64 (suc m)
    (omega (arith, l, i, f)) h))))
after_start c m n x y b i l a q w (building j (suc k) h s f g) = by_eight (less_or_8 j)
  where
    by_going : j < 8 → Going j x y → Going (suc j) (sent_by c x y start) y
    by_going t (by_train r) = absurd (q r)
    by_going t (by_others r z o) =
        let v = next_start j x.starts 0 (omega (arith, z)) t in by_burst q v.0 v.1
    by_going t (by_burst r z o) = let v = next_start j x.starts 0 o t in by_burst q v.0 v.1

    by_eight : (j < 8) ⊎ (8 ≤ j) → Train a m n (suc m) (sent_by c x y start) y
    by_eight (inl t) =
        building (suc j) k (start_grows c x y j i l h) (omega (arith, s)) (omega (arith, f))
        (by_going t g)
    by_eight (inr t) =
        ready (block_after IsSteadyItem NoMatter 7 8 x.steady (wire x).before (wire x).line
        (suc m) (filler starts)
        (block_less IsSteadyItem NoMatter Any 7 j 8 x.steady (wire x).before (wire x).line (suc m)
        t (block_any IsSteadyItem NoMatter Nil 7 j x.steady (wire x).before (wire x).line (suc m)
        (block_length IsSteadyItem NoMatter 7 j x.steady (wire x).before (wire x).line 64 (suc m)
        (omega (arith, l, i, f)) h))))
after_start c m n x y b i l a q w (waiting h s f) =
    let v = next_start 0 x.starts 0 (omega (arith, s)) (omega arith) in
    building 1 7
    (start_grows c x y 0 i l
    (block_length IsSteadyItem NoMatter 7 0 x.steady (wire x).before (wire x).line
    (length (wire x).line) 64 (omega (arith, l, i))
    (block_none IsSteadyItem NoMatter 7 x.steady (wire x).before (wire x).line tt))) (omega arith)
    (omega (arith, f)) (by_burst q v.0 v.1)
after_start c m n x y b i l a q w (ending h s f) = by_rest (zero_or_more ((x.starts + 1) % 32))
  where
    by_rest : ((x.starts + 1) % 32 ≡ 0) ⊎ (1 ≤ (x.starts + 1) % 32) →
        Train a m n (suc m) (sent_by c x y start) y
    by_rest (inl r) = waiting q r (omega (arith, r, f, s))
    by_rest (inr r) = ending q (λ z. absurd (omega (arith, z, r))) (omega (arith, r, f, s))

-- a PRET or a NULL
record Idles (x x' : Side) (i : Item) : Type 0 where
  far : (wire x').far ≡ (wire x).far
  before : (wire x').before ≡ (wire x).before
  line : (wire x').line ≡ (wire x).line ++ i ∷ []
  steady : x'.steady ≡ x.steady
  starts : x'.starts ≡ x.starts
  others : x'.others ≡ x.others + 1

idles_ready : (x x' : Side) (i : Item) (k : ℕ) → Idles x x' i → Steadies 8 Any x k →
    Steadies 8 Any x' k
idles_ready x x' i k d h =
    subst (λ l. Block IsSteadyItem NoMatter Any 7 8 x'.steady (wire x').before l k) (sym d.line)
    (subst (λ z. Block IsSteadyItem NoMatter Any 7 8 x'.steady z ((wire x).line ++ i ∷ []) k)
    (sym d.before)
    (subst (λ s. Block IsSteadyItem NoMatter Any 7 8 s (wire x).before ((wire x).line ++ i ∷ [])
    k) (sym d.steady)
    (block_after IsSteadyItem NoMatter 7 8 x.steady (wire x).before (wire x).line k i h)))

after_idle : (c : Setup) (m n a : ℕ) (x x' y : Side) (i : Item) → Idles x x' i → c.line ≤ 64 →
    suc (length (wire x).line) ≤ c.line → (wire y).far ≢ training → x.starts % 32 ≡ 0 →
    x.others < 64 → Train a (suc m) n (suc m) x y → Train a m n (suc m) x' y
after_idle c m n a x x' y i d u l q z o (trained h) = trained (λ e. h (sym d.far ∙ e))
after_idle c m n a x x' y i d u l q z o (ready h) = ready (idles_ready x x' i (suc m) d h)
after_idle c m n a x x' y i d u l q z o (building j k h s f g) = by_eight (less_or_8 j) g
  where
    by_eight : (j < 8) ⊎ (8 ≤ j) → Going j x y → Train a m n (suc m) x' y
    by_eight (inr t) r = ready (idles_ready x x' i (suc m) d
        (block_less IsSteadyItem NoMatter Any 7 j 8 x.steady (wire x).before (wire x).line (suc m)
        t (block_any IsSteadyItem NoMatter Nil 7 j x.steady (wire x).before (wire x).line (suc m)
        (block_length IsSteadyItem NoMatter 7 j x.steady (wire x).before (wire x).line 64 (suc m)
        (omega (arith, l, u, f)) h))))
    by_eight (inl t) (by_train r) = absurd (q r)
    by_eight (inl t) (by_others r e w) = absurd (omega (arith, w, o))
    by_eight (inl t) (by_burst r e w) = absurd (omega (arith, e, z))
after_idle c m n a x x' y i d u l q z o (waiting h s f) =
    waiting h (ap (λ k. k % 32) d.starts ∙ s) (let e = d.others in omega (arith, e, f, o))
after_idle c m n a x x' y i d u l q z o (ending h s f) = absurd (s z)

pub train_x_send : (c : Setup) → c.line ≤ 64 → (m a : ℕ) (x y : Side) → Both c x y →
    suc (length (wire x).line) ≤ c.line → Train a (suc m) (suc m) (suc m) x y →
    Train a m (suc m) (suc m) (sent c x y) y
train_x_send c u m a x y b l h = by_far (train_or (wire x).far)
  where
    by_far : ((wire x).far ≡ training) ⊎ ((wire x).far ≢ training) →
        Train a m (suc m) (suc m) (sent c x y) y
    by_far (inr n) =
        trained (by_send (λ s. (wire s).far ≢ training) c x y
        (λ q. n (sym (far_same c x y (choice (sight c x y))) ∙ q)) n)
    by_far (inl q) =
        subst (λ s. Train a m (suc m) (suc m) s y) (sym (sent_if_room c x y l))
        (by_shut (shut_is c x y b q))
      where
        by_shut : Shut c x y → Train a m (suc m) (suc m) (sent_by c x y (choice (sight c x y))) y
        by_shut (in_train_too t e) =
            subst (λ z. Train a m (suc m) (suc m) (sent_by c x y z) y) (sym e)
            (after_train c m (suc m) x y b u l a t h)
        by_shut (begins_start n e w) =
            subst (λ z. Train a m (suc m) (suc m) (sent_by c x y z) y) (sym e)
            (after_start c m (suc m) x y b u l a n w h)
        by_shut (sends_pret n e z o) =
            subst (λ w. Train a m (suc m) (suc m) (sent_by c x y w) y) (sym e)
            (after_idle c m (suc m) a x (sent_by c x y pret) y (filler prets)
            (record {
              far = refl;
              before = refl;
              line = refl;
              steady = refl;
              starts = refl;
              others = refl;
            }) u l n z o h)
        by_shut (sends_null n e z o) =
            subst (λ w. Train a m (suc m) (suc m) (sent_by c x y w) y) (sym e)
            (after_idle c m (suc m) a x (sent_by c x y null) y (filler nulls)
            (record {
              far = refl;
              before = refl;
              line = refl;
              steady = refl;
              starts = refl;
              others = refl;
            }) u l n z o h)

-- y sends

pub going_far : (j : ℕ) (x y y' : Side) → (wire y').far ≡ (wire y).far → Going j x y → Going j x y'
going_far j x y y' q (by_train t) = by_train (q ∙ t)
going_far j x y y' q (by_others n s o) = by_others (λ e. n (sym q ∙ e)) s o
going_far j x y y' q (by_burst n s o) = by_burst (λ e. n (sym q ∙ e)) s o

pub train_y : (a a' b d d' e : ℕ) (x y y' : Side) → (wire y').far ≡ (wire y).far → Train a b d e x y
    → Train a' b d' e x y'
train_y a a' b d d' e x y y' q (trained h) = trained h
train_y a a' b d d' e x y y' q (ready h) = ready h
train_y a a' b d d' e x y y' q (building j k h s f g) = building j k h s f (going_far j x y y' q g)
train_y a a' b d d' e x y y' q (waiting n s f) = waiting (λ t. n (sym q ∙ t)) s f
train_y a a' b d d' e x y y' q (ending n s f) = ending (λ t. n (sym q ∙ t)) s f

pub sent_far : (c : Setup) (y x : Side) → (wire (sent c y x)).far ≡ (wire y).far
sent_far c y x =
    by_send (λ s. (wire s).far ≡ (wire y).far) c y x (far_same c y x (choice (sight c y x))) refl
