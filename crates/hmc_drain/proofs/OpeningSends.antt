-- A send brings a receiver in Abort nearer to Good.
use Rattle.std.proofs.Common.{◌≡◌, ◌≢◌, ℕ, zero, suc, ◌+◌, ◌-◌, ◌%◌, ◌<◌, ◌≤◌, ◌==◌, nat_lt, nat_le, ◌&&◌, Bool, true, false, if◌then◌else◌, List, [], ◌∷◌, ◌++◌, length, ◌⊎◌, inl, inr, refl, sym, ◌∙◌, ap, subst, arith}
use Rattle.hmc_numbers.specs.Direction.{Item}
use Rattle.hmc_numbers.specs.Direction.Item.{filler, clear as cleared}
use Rattle.hmc_numbers.specs.Direction.Filler.{start as starts}
use Rattle.hmc_numbers.specs.Direction.Reached.{aborting}
use Rattle.hmc_numbers.specs.May.{IsGood}
use Rattle.hmc_link_state.specs.Choice.{Choice, choice, is_abort}
use Rattle.hmc_link_state.specs.Choice.Choice.{train, starved, next, clear, start, again, new, tret, pret, null}
use Rattle.hmc_link_state.specs.Sees.{mode_of}
use Rattle.hmc_link_state.specs.State.{Setup, Side, wire}
use Rattle.hmc_link_state.specs.Round.{sight, sent, sent_by}
use Rattle.hmc_link_state.specs.Facts.{SideFacts}
use Rattle.hmc_drain.proofs.Blocks.{Block, Any, Nil, block_after, block_any, block_grows, block_none, block_length, block_less}
use Rattle.hmc_drain.proofs.Backlog.{sent_if_room, zero_or_more}
use Rattle.hmc_link_state.proofs.Chosen.{Chosen, chosen, less_lt, not_less}
use Rattle.hmc_drain.proofs.RunEnds.{IsCleanFar, clean_or, AreClean, IsStartItem, IsClearItem, LastNot, spaced_end, Calm}
use Rattle.hmc_link_state.proofs.Keeps.{Both}
use Rattle.hmc_link_state.proofs.Lines.{one_more}
use Rattle.hmc_drain.proofs.StartsEnd.{good_sent}
use Rattle.hmc_drain.proofs.Settling.{eq_not}
use Rattle.hmc_link_state.proofs.SentPointers.{sent_item}
use Rattle.hmc_link_state.proofs.SentFields.{runs_same}
use Rattle.hmc_link_state.proofs.SentStarts.{before_same, spaced_sent}
use Rattle.hmc_drain.proofs.Windows.{left_most}
use Rattle.hmc_drain.proofs.Bursts.{owed, owed_most, owed_next, rest_of, rest_next, clean_train, forced_start, forced_clear, Long, long_is, no_start_yet, other_sent}
use Rattle.hmc_drain.proofs.Bursts.Long.{long_next, long_clear, long_start}
use Rattle.hmc_drain.proofs.Returns.{less_64}
use Rattle.hmc_drain.proofs.TrainSends.{NoMatter}

-- Stages

abbrev pub Clears : (n : ℕ) → (List Item → Type 0) → Side → ℕ → Type 0
Clears n Y x k =
    Block IsClearItem NoMatter Y 23 n (wire x).clear_run (wire x).before (wire x).line k

abbrev pub Starts : (n : ℕ) → (List Item → Type 0) → Side → ℕ → Type 0
Starts n Y y k =
    Block IsStartItem LastNot Y 23 n (wire y).start_run (wire y).before (wire y).line k

abbrev pub IsCalm : ℕ → Side → Type 0
IsCalm q x = Calm q x.starts x.others (wire x).start_run (wire x).before (wire x).line

-- y's burst of Starts is to begin
pub record Ready (y : Side) : Type 0 where
  pub others : 64 ≤ y.others
  pub starts : y.starts % 32 ≡ 0

pub data Open (a b d e : ℕ) (x y : Side) : Type 0 where
  good : IsGood (wire x).far → Open a b d e x y
  landing : Clears 24 Any x e → Open a b d e x y
  clearing : (j k : ℕ) → Clears j Nil x 64 → 24 ≤ j + k → k + 66 ≤ b → 1 ≤ (wire x).clears % 32 →
      (wire x).clears % 32 ≤ j → Open a b d e x y
  due : x.go_back ≡ true → (wire x).left + rest_of ((wire x).clears % 32)
      + rest_of (x.starts % 32) + 92 ≤ b → Open a b d e x y
  starting : (k : ℕ) → Starts 24 Any y k → k + 173 ≤ d → Open a b d e x y
  begins : (j k : ℕ) → Starts j Nil y 64 → 24 ≤ j + k → k + 239 ≤ a → 1 ≤ y.starts % 32 →
      y.starts % 32 ≤ j → Open a b d e x y
  calm : (q : ℕ) → IsCalm q x → Ready y → (wire y).left ≡ 0 → owed y + q + e ≤ 63 + a →
      owed y + 264 ≤ a → Open a b d e x y
  waits : Ready y → (wire y).left ≡ 0 → owed y + 330 ≤ a → Open a b d e x y
  lefts : Ready y → (wire y).left + 394 ≤ a → Open a b d e x y
  others : y.starts % 32 ≡ 0 → (64 - y.others) + 412 ≤ a → Open a b d e x y
  ending : y.starts % 32 ≢ 0 → (32 - y.starts % 32) + 477 ≤ a → Open a b d e x y

-- y sends

-- any send adds a flit
record Longer (y y' : Side) : Type 0 where
  i : Item
  line : (wire y').line ≡ (wire y).line ++ i ∷ []
  before : (wire y').before ≡ (wire y).before
  start_run : (wire y').start_run ≡ (wire y).start_run
  clear_run : (wire y').clear_run ≡ (wire y).clear_run

longer_sent : (c : Setup) (y x : Side) → SideFacts c y x → suc (length (wire y).line) ≤ c.line →
    Longer y (sent c y x)
longer_sent c y x f l =
    let z : Choice = choice (sight c y x) in
    let t = sent_item c y x z (chosen (sight c y x)) f in
    let r = runs_same c y x z in
    subst (Longer y) (sym (sent_if_room c y x l))
    (record {
      i = t.0;
      line = t.1.line;
      before = before_same c y x z;
      start_run = r.1;
      clear_run = r.0;
    })

starts_longer : (y y' : Side) (k : ℕ) → Longer y y' → Starts 24 Any y k → Starts 24 Any y' k
starts_longer y y' k g h =
    subst (λ l. Block IsStartItem LastNot Any 23 24 (wire y').start_run (wire y').before l k)
    (sym g.line)
    (subst (λ z. Block IsStartItem LastNot Any 23 24 (wire y').start_run z ((wire y).line ++ g.i
    ∷ []) k) (sym g.before)
    (subst (λ s. Block IsStartItem LastNot Any 23 24 s (wire y).before ((wire y).line ++ g.i ∷ [])
    k) (sym g.start_run)
    (block_after IsStartItem LastNot 23 24 (wire y).start_run (wire y).before (wire y).line k
    g.i h)))

clears_longer : (x x' : Side) (k : ℕ) → Longer x x' → Clears 24 Any x k → Clears 24 Any x' k
clears_longer x x' k g h =
    subst (λ l. Block IsClearItem NoMatter Any 23 24 (wire x').clear_run (wire x').before l k)
    (sym g.line)
    (subst (λ z. Block IsClearItem NoMatter Any 23 24 (wire x').clear_run z ((wire x).line ++ g.i
    ∷ []) k) (sym g.before)
    (subst (λ s. Block IsClearItem NoMatter Any 23 24 s (wire x).before ((wire x).line ++ g.i
    ∷ []) k) (sym g.clear_run)
    (block_after IsClearItem NoMatter 23 24 (wire x).clear_run (wire x).before (wire x).line k
    g.i h)))

-- a block that has grown to 24
starts_whole : (c : Setup) (y : Side) (j : ℕ) → c.line ≤ 64 → suc (length (wire y).line) ≤ c.line →
    24 ≤ j → Starts j Nil y 64 → Starts 24 Any y 64
starts_whole c y j u l h s =
    block_less IsStartItem LastNot Any 23 j 24 (wire y).start_run (wire y).before (wire y).line
    64 h (block_any IsStartItem LastNot Nil 23 j (wire y).start_run (wire y).before (wire y).line
    64 s)

clears_whole : (c : Setup) (x : Side) (j m : ℕ) → c.line ≤ 64 →
    suc (length (wire x).line) ≤ c.line → 64 ≤ m → 24 ≤ j → Clears j Nil x 64 → Clears 24 Any x m
clears_whole c x j m u l n h s =
    block_less IsClearItem NoMatter Any 23 j 24 (wire x).clear_run (wire x).before (wire x).line
    m h (block_any IsClearItem NoMatter Nil 23 j (wire x).clear_run (wire x).before (wire x).line
    m
    (block_length IsClearItem NoMatter 23 j (wire x).clear_run (wire x).before (wire x).line 64 m
    (omega (arith, u, l, n)) s))

starts_grow : (c : Setup) (y x : Side) (j : ℕ) → c.line ≤ 64 →
    suc (length (wire y).line) ≤ c.line → Starts j Nil y 64 →
    Starts (suc j) Nil (sent_by c y x start) 64
starts_grow c y x j u l h =
    block_length IsStartItem LastNot 23 (suc j) (wire y).start_run (wire y).before
    ((wire y).line ++ filler starts ∷ []) 65 64 (let z = one_more (wire y).line (filler starts) in
    omega (arith, z, u, l))
    (block_grows IsStartItem LastNot 23 j (wire y).start_run (wire y).before (wire y).line 64
    (filler starts) tt h)

clears_grow : (c : Setup) (x y : Side) (j : ℕ) → c.line ≤ 64 →
    suc (length (wire x).line) ≤ c.line → Clears j Nil x 64 →
    Clears (suc j) Nil (sent_by c x y clear) 64
clears_grow c x y j u l h =
    block_length IsClearItem NoMatter 23 (suc j) (wire x).clear_run (wire x).before
    ((wire x).line ++ cleared ∷ []) 65 64 (let z = one_more (wire x).line cleared in
    omega (arith, z, u, l))
    (block_grows IsClearItem NoMatter 23 j (wire x).clear_run (wire x).before (wire x).line 64
    cleared tt h)

next_in : (n j : ℕ) → n % 32 ≤ j → j < 24 → (1 ≤ (n + 1) % 32) × ((n + 1) % 32 ≤ suc j)
next_in n j h l = (omega (arith, h, l), omega (arith, h, l))

less_or_24 : (j : ℕ) → (j < 24) ⊎ (24 ≤ j)
less_or_24 j = by_less (nat_lt j 24) refl
  where
    by_less : (t : Bool) → nat_lt j 24 ≡ t → (j < 24) ⊎ (24 ≤ j)
    by_less true q = inl (less_lt j 24 q)
    by_less false q = inr (not_less j 24 q)

begin_now : (c : Setup) (a b d e : ℕ) (x y : Side) → c.line ≤ 64 →
    suc (length (wire y).line) ≤ c.line → SideFacts c y x → Ready y → 262 ≤ a →
    Open a b d e x (sent_by c y x start)
begin_now c a b d e x y u l f r n =
    let s = f.spaced in
    let v = next_in y.starts 0 (omega (arith, r.starts)) (omega arith) in
    begins 1 23
    (starts_grow c y x 0 u l
    (block_length IsStartItem LastNot 23 0 (wire y).start_run (wire y).before (wire y).line
    (length (wire y).line) 64 (omega (arith, u, l))
    (block_none IsStartItem LastNot 23 (wire y).start_run (wire y).before (wire y).line
    (spaced_end y.starts y.others (wire y).before s.0 s.1 (wire y).line (omega (arith, r.others))
    s.2))))
    (omega arith) (omega (arith, n)) v.0 v.1

-- the stages that wait for y's Starts
open_lefts : (c : Setup) (m b d e : ℕ) (x y : Side) → c.line ≤ 64 →
    suc (length (wire y).line) ≤ c.line → SideFacts c y x → (wire x).far ≡ aborting → Ready y →
    (wire y).left + 394 ≤ suc m → Open m b d e x (sent c y x)
open_lefts c m b d e x y u l f q r h =
    subst (λ s. Open m b d e x s) (sym (sent_if_room c y x l)) (by_long (long_is c y x q r.others))
  where
    by_long : Long c y x → Open m b d e x (sent_by c y x (choice (sight c y x)))
    by_long (long_next n w) =
        subst (λ z. Open m b d e x (sent_by c y x z)) (sym w)
        (lefts (record { others = omega (arith, r.others); starts = r.starts })
        (omega (arith, h, n)))
    by_long (long_clear w o) =
        let k = owed_next (wire y).clears y.go_back o in
        let z = owed_most ((wire y).clears % 32) y.go_back in
        let left0 : (wire y).left ≡ 0 =
        (subst (Chosen (sight c y x)) w (chosen (sight c y x))).out.left in
        subst (λ z. Open m b d e x (sent_by c y x z)) (sym w)
        (waits (record { others = omega (arith, r.others); starts = r.starts }) left0
        (omega (arith, k, z, h)))
    by_long (long_start w) =
        subst (λ z. Open m b d e x (sent_by c y x z)) (sym w)
        (begin_now c m b d e x y u l f r (omega (arith, h)))

open_waits : (c : Setup) (m b d e : ℕ) (x y : Side) → c.line ≤ 64 →
    suc (length (wire y).line) ≤ c.line → SideFacts c y x → (wire x).far ≡ aborting → Ready y →
    (wire y).left ≡ 0 → owed y + 330 ≤ suc m → Open m b d e x (sent c y x)
open_waits c m b d e x y u l f q r z h =
    subst (λ s. Open m b d e x s) (sym (sent_if_room c y x l)) (by_long (long_is c y x q r.others))
  where
    by_long : Long c y x → Open m b d e x (sent_by c y x (choice (sight c y x)))
    by_long (long_next n w) = absurd (omega (arith, n, z))
    by_long (long_clear w o) = let k = owed_next (wire y).clears y.go_back o in
        subst (λ z. Open m b d e x (sent_by c y x z)) (sym w)
        (waits (record { others = omega (arith, r.others); starts = r.starts }) z
        (omega (arith, k, h)))
    by_long (long_start w) =
        subst (λ z. Open m b d e x (sent_by c y x z)) (sym w)
        (begin_now c m b d e x y u l f r (omega (arith, h)))

open_calm : (c : Setup) (m b d e : ℕ) (x y : Side) (g : ℕ) → c.line ≤ 64 →
    suc (length (wire y).line) ≤ c.line → SideFacts c y x → (wire x).far ≡ aborting → IsCalm g x →
    Ready y → (wire y).left ≡ 0 → owed y + g + e ≤ 63 + suc m → owed y + 264 ≤ suc m →
    Open m b d e x (sent c y x)
open_calm c m b d e x y g u l f q v r z h i =
    subst (λ s. Open m b d e x s) (sym (sent_if_room c y x l)) (by_long (long_is c y x q r.others))
  where
    by_long : Long c y x → Open m b d e x (sent_by c y x (choice (sight c y x)))
    by_long (long_next n w) = absurd (omega (arith, n, z))
    by_long (long_clear w o) = let k = owed_next (wire y).clears y.go_back o in
        subst (λ z. Open m b d e x (sent_by c y x z)) (sym w)
        (calm g v (record { others = omega (arith, r.others); starts = r.starts }) z
        (omega (arith, k, h)) (omega (arith, k, i)))
    by_long (long_start w) =
        subst (λ z. Open m b d e x (sent_by c y x z)) (sym w)
        (begin_now c m b d e x y u l f r (omega (arith, i)))

open_others : (c : Setup) (m b d e : ℕ) (x y : Side) → c.line ≤ 64 →
    suc (length (wire y).line) ≤ c.line → SideFacts c y x → (wire x).far ≡ aborting →
    y.starts % 32 ≡ 0 → (64 - y.others) + 412 ≤ suc m → (y.others < 64) ⊎ (64 ≤ y.others) →
    Open m b d e x (sent c y x)
open_others c m b d e x y u l f q z h (inr o) =
    open_lefts c m b d e x y u l f q (record { others = o; starts = z })
    (let t = left_most c y x f in omega (arith, t, h))
open_others c m b d e x y u l f q z h (inl o) =
    let t =
    other_sent c y x (choice (sight c y x)) (no_start_yet c y x z o) (chosen (sight c y x)) in
    subst (λ s. Open m b d e x s) (sym (sent_if_room c y x l))
    (others (ap (λ n. n % 32) t.0 ∙ z) (omega (arith, t.1, h, o)))

open_ending : (c : Setup) (m b d e : ℕ) (x y : Side) → suc (length (wire y).line) ≤ c.line →
    SideFacts c y x → (wire x).far ≡ aborting → y.starts % 32 ≢ 0 → (32 - y.starts % 32)
    + 477 ≤ suc m → Open m b d e x (sent c y x)
open_ending c m b d e x y l f q n h =
    subst (λ s. Open m b d e x s)
    (sym (sent_if_room c y x l
    ∙ ap (sent_by c y x) (forced_start c y x f (subst IsCleanFar (sym q) tt) n)))
    (by_rest (zero_or_more ((y.starts + 1) % 32)))
  where
    by_rest : ((y.starts + 1) % 32 ≡ 0) ⊎ (1 ≤ (y.starts + 1) % 32) →
        Open m b d e x (sent_by c y x start)
    by_rest (inl r) = others r (omega (arith, r, h, n))
    by_rest (inr r) = ending (λ z. absurd (omega (arith, z, r))) (omega (arith, r, h, n))

open_begins : (c : Setup) (m b d e : ℕ) (x y : Side) (j k : ℕ) → c.line ≤ 64 →
    suc (length (wire y).line) ≤ c.line → SideFacts c y x → IsCleanFar (wire x).far → suc m ≤ d →
    Starts j Nil y 64 → 24 ≤ j + k → k + 239 ≤ suc m → 1 ≤ y.starts % 32 → y.starts % 32 ≤ j →
    Open m b d e x (sent c y x)
open_begins c m b d e x y j k u l f g md h s n o p = by_j (less_or_24 j) k s n
  where
    by_j : (j < 24) ⊎ (24 ≤ j) → (k : ℕ) → 24 ≤ j + k → k + 239 ≤ suc m →
        Open m b d e x (sent c y x)
    by_j (inr t) i a w =
        starting 64
        (starts_longer y (sent c y x) 64 (longer_sent c y x f l) (starts_whole c y j u l t h))
        (omega (arith, w, md))
    by_j (inl t) zero a w = absurd (omega (arith, t, a))
    by_j (inl t) (suc i) a w =
        let v = next_in y.starts j p t in
        subst (λ s. Open m b d e x s)
        (sym (sent_if_room c y x l
        ∙ ap (sent_by c y x) (forced_start c y x f g (λ z. absurd (omega (arith, z, o))))))
        (begins (suc j) i (starts_grow c y x j u l h) (omega (arith, a)) (omega (arith, w)) v.0 v.1)

pub open_y_send : (c : Setup) → c.line ≤ 64 → (m b : ℕ) (x y : Side) → Both c x y → AreClean x y →
    suc (length (wire y).line) ≤ c.line → Open (suc m) b (suc m) (suc m) x y →
    Open m b (suc m) (suc m) x (sent c y x)
open_y_send c u m b x y bo k l h = by_far (clean_or (wire x).far k.0) h
  where
    by_far : IsGood (wire x).far ⊎ ((wire x).far ≡ aborting) →
        Open (suc m) b (suc m) (suc m) x y → Open m b (suc m) (suc m) x (sent c y x)
    by_far (inl g) t = good g
    by_far (inr q) (good g) = good g
    by_far (inr q) (landing t) = landing t
    by_far (inr q) (clearing j i t s f o p) = clearing j i t s f o p
    by_far (inr q) (due t s) = due t s
    by_far (inr q) (starting i t s) =
        starting i (starts_longer y (sent c y x) i (longer_sent c y x bo.1 l) t) s
    by_far (inr q) (begins j i t s f o p) =
        open_begins c m b (suc m) (suc m) x y j i u l bo.1 k.0 (omega arith) t s f o p
    by_far (inr q) (calm g t r z s i) = open_calm c m b (suc m) (suc m) x y g u l bo.1 q t r z s i
    by_far (inr q) (waits r z s) = open_waits c m b (suc m) (suc m) x y u l bo.1 q r z s
    by_far (inr q) (lefts r s) = open_lefts c m b (suc m) (suc m) x y u l bo.1 q r s
    by_far (inr q) (others z s) =
        open_others c m b (suc m) (suc m) x y u l bo.1 q z s (less_64 y.others)
    by_far (inr q) (ending n s) = open_ending c m b (suc m) (suc m) x y l bo.1 q n s

-- x sends

data Due (c : Setup) (x y : Side) : Type 0 where
  due_next : 1 ≤ (wire x).left → choice (sight c x y) ≡ next → Due c x y
  due_clear : (wire x).left ≡ 0 → choice (sight c x y) ≡ clear → ((wire x).clears % 32 ≡ 0)
      ⊎ ((wire x).clears % 32 ≢ 0) → Due c x y
  due_start : (wire x).left ≡ 0 → choice (sight c x y) ≡ start → x.starts % 32 ≢ 0 → Due c x y

pub zero_or : (n : ℕ) → (n ≡ 0) ⊎ (n ≢ 0)
zero_or zero = inl refl
zero_or (suc n) = inr (λ q. cc q)

due_is : (c : Setup) (x y : Side) → IsCleanFar (wire y).far → x.go_back ≡ true → Due c x y
due_is c x y g q = by_choice (choice (sight c x y)) refl (chosen (sight c x y))
  where
    never : x.go_back ≡ false → ⊥
    never z = let y : true ≡ false = sym q ∙ z in cc y

    by_choice : (z : Choice) → choice (sight c x y) ≡ z → Chosen (sight c x y) z → Due c x y
    by_choice train e h = absurd (clean_train (wire y).far g h)
    by_choice starved e h = absurd (cc h)
    by_choice next e h = due_next h.1 e
    by_choice clear e h = due_clear h.out.left e (zero_or ((wire x).clears % 32))
    by_choice start e h = due_start h.out.left e (by_why h.why)
      where
        by_why : (x.starts % 32 ≢ 0)
            ⊎ ((x.starts % 32 ≡ 0) × (x.go_back ≡ false)
            × ((is_abort (mode_of (wire y).far) && nat_le 64 x.others) ≡ true)) → x.starts % 32 ≢ 0
        by_why (inl n) = n
        by_why (inr z) = absurd (never z.1)
    by_choice again e h = absurd (never h.0.back)
    by_choice (new m) e h = absurd (never h.new.calm.back)
    by_choice tret e h = absurd (never h.new.calm.back)
    by_choice pret e h = absurd (never h.0.new.calm.back)
    by_choice null e h = absurd (never h.0.new.calm.back)

open_due : (c : Setup) (a m d e : ℕ) (x y : Side) → c.line ≤ 64 →
    suc (length (wire x).line) ≤ c.line → SideFacts c x y → IsCleanFar (wire y).far →
    x.go_back ≡ true → (wire x).left + rest_of ((wire x).clears % 32) + rest_of (x.starts % 32)
    + 92 ≤ suc m → Open a m d e (sent c x y) y
open_due c a m d e x y u l f g q h =
    subst (λ s. Open a m d e s y) (sym (sent_if_room c x y l)) (by_due (due_is c x y g q))
  where
    by_due : Due c x y → Open a m d e (sent_by c x y (choice (sight c x y))) y
    by_due (due_next n w) =
        subst (λ z. Open a m d e (sent_by c x y z) y) (sym w) (due q (omega (arith, h, n)))
    by_due (due_clear z w (inl n)) =
        let v = next_in (wire x).clears 0 (omega (arith, n)) (omega arith) in
        subst (λ z. Open a m d e (sent_by c x y z) y) (sym w)
        (clearing 1 23
        (clears_grow c x y 0 u l
        (block_length IsClearItem NoMatter 23 0 (wire x).clear_run (wire x).before (wire x).line
        (length (wire x).line) 64 (omega (arith, u, l))
        (block_none IsClearItem NoMatter 23 (wire x).clear_run (wire x).before (wire x).line
        tt)))
        (omega arith) (omega (arith, h)) v.0 v.1)
    by_due (due_clear z w (inr n)) =
        let r = rest_next (wire x).clears n in
        let t : (if (wire x).clears % 32 == 0 then false else x.go_back) ≡ x.go_back =
        ap (λ b. if b then false else x.go_back) (eq_not ((wire x).clears % 32) n) in
        subst (λ z. Open a m d e (sent_by c x y z) y) (sym w) (due (t ∙ q) (omega (arith, r, h)))
    by_due (due_start z w n) =
        let r = rest_next x.starts n in
        subst (λ z. Open a m d e (sent_by c x y z) y) (sym w) (due q (omega (arith, r, h)))

open_clearing : (c : Setup) (a m d e : ℕ) (x y : Side) (j k : ℕ) → c.line ≤ 64 →
    suc (length (wire x).line) ≤ c.line → SideFacts c x y → IsCleanFar (wire y).far → suc m ≤ e →
    Clears j Nil x 64 → 24 ≤ j + k → k + 66 ≤ suc m → 1 ≤ (wire x).clears % 32 →
    (wire x).clears % 32 ≤ j → Open a m d e (sent c x y) y
open_clearing c a m d e x y j k u l f g me h s n o p = by_j (less_or_24 j) k s n
  where
    by_j : (j < 24) ⊎ (24 ≤ j) → (k : ℕ) → 24 ≤ j + k → k + 66 ≤ suc m → Open a m d e (sent c x y) y
    by_j (inr t) i v w =
        landing (clears_longer x (sent c x y) e (longer_sent c x y f l)
        (clears_whole c x j e u l (omega (arith, w, me)) t h))
    by_j (inl t) zero v w = absurd (omega (arith, t, v))
    by_j (inl t) (suc i) v w =
        let z = next_in (wire x).clears j p t in
        subst (λ s. Open a m d e s y)
        (sym (sent_if_room c x y l
        ∙ ap (sent_by c x y) (forced_clear c x y f g (λ r. absurd (omega (arith, r, o))))))
        (clearing (suc j) i (clears_grow c x y j u l h) (omega (arith, v)) (omega (arith, w)) z.0
        z.1)

calm_sent : (c : Setup) (q : ℕ) (x y : Side) → SideFacts c x y →
    suc (length (wire x).line) ≤ c.line → IsCalm q x → IsCalm q (sent c x y)
calm_sent c q x y f l h =
    let z : Choice = choice (sight c x y) in
    let r = runs_same c x y z in
    subst (IsCalm q) (sym (sent_if_room c x y l)) (
      h.0,
      h.1,
      spaced_sent c x y z h.0 h.1 (chosen (sight c x y)) f h.2,
      subst (λ n. ((1 ≤ h.1) × (24 ≤ n)) ⊎ ((h.1 ≡ 0) × (h.0 ≤ q))) (sym r.1) h.3,
    )

pub open_x_send : (c : Setup) → c.line ≤ 64 → (m a : ℕ) (x y : Side) → Both c x y → AreClean x y →
    suc (length (wire x).line) ≤ c.line → Open a (suc m) (suc m) (suc m) x y →
    Open a m (suc m) (suc m) (sent c x y) y
open_x_send c u m a x y bo k l (good g) = good (good_sent c x y g)
open_x_send c u m a x y bo k l (landing t) =
    landing (clears_longer x (sent c x y) (suc m) (longer_sent c x y bo.0 l) t)
open_x_send c u m a x y bo k l (clearing j i t s f o p) =
    open_clearing c a m (suc m) (suc m) x y j i u l bo.0 k.1 (omega arith) t s f o p
open_x_send c u m a x y bo k l (due t s) = open_due c a m (suc m) (suc m) x y u l bo.0 k.1 t s
open_x_send c u m a x y bo k l (starting i t s) = starting i t s
open_x_send c u m a x y bo k l (begins j i t s f o p) = begins j i t s f o p
open_x_send c u m a x y bo k l (calm g t r z s i) = calm g (calm_sent c g x y bo.0 l t) r z s i
open_x_send c u m a x y bo k l (waits r z s) = waits r z s
open_x_send c u m a x y bo k l (lefts r s) = lefts r s
open_x_send c u m a x y bo k l (others z s) = others z s
open_x_send c u m a x y bo k l (ending n s) = ending n s
