-- The invariant of a direction: the sender, the line and the receiver together. docs/retry.md
-- explains it. Step shows that each event keeps it, and DirectionLaws what follows.
use Rattle.std.proofs.Common.{◌≡◌, ◌≢◌, ℕ, zero, suc, ◌+◌, ◌-◌, ◌%◌, ◌<◌, ◌≤◌, max, List, [], ◌∷◌, ◌++◌, length, refl, sym, ap, subst, arith, length-append}
use Rattle.hmc_numbers.specs.Weights.{Weight, flits_to, size, HasValidSize, HaveValidSizes}
use Rattle.hmc_numbers.specs.Direction.{Item, Reached, Direction, opening, begun, position, rest, front_or, number_of, came_of}
use Rattle.hmc_numbers.specs.Events.{Reading, last_after_clear, begun_new, begun_again, next_sent, clear_run_after, start_run_after, landed, far_unlocked}
use Rattle.hmc_numbers.specs.May.{IsFree, HasRoom}
use Rattle.hmc_numbers.specs.Direction.Item.{clear, part}
use Rattle.hmc_numbers.specs.Direction.Reached.{training, aborting, between, inside, spoilt}
use Rattle.hmc_numbers.proofs.Sums.{upto-append, upto-snoc, upto-up, flits-less, valid_sizes-snoc, size-valid, size-snoc}
use Rattle.hmc_numbers.proofs.Fits.{Fits, FitsLater, Keeps, keeps_later, keeps_append, keeps_map}
use Rattle.hmc_numbers.proofs.Chain.{Follows, Chain, AtEnd, chain_map, chain_append, chain_rest, end_begins, end_last, end_next, end_filler, FarIs}
use Rattle.hmc_numbers.proofs.Near.{Real, Near, real_grows, near_grows, near_append, near_rest, real_front}
use Rattle.hmc_numbers.proofs.Runs.{ClearRun, StartRun, clear_run_zero, start_run_zero}

-- where r packets will be accepted at the end of the line, the sender's next packet is at most r + 1
abbrev pub Stands : (acked last left : ℕ) → ℕ → Type 0
Stands acked last zero r = max acked last ≤ r
Stands acked last (suc l) r = last ≤ r + 1

-- a packet is being sent, and so many of its flits are left; when it was begun, it was kept
abbrev pub Unfinished : (retry : ℕ) → List Weight → (last left : ℕ) → Type 0
Unfinished r ps last zero = Unit {0}
Unfinished r ps last (suc l) = (1 ≤ last) × (suc l ≤ size ps last) × (flits_to ps (length ps) < flits_to ps last + r)

-- within a burst of Clears no packet was begun since it began
abbrev pub Burst : (sent_of_burst last : ℕ) → Type 0
Burst zero last = Unit {0}
Burst (suc n) last = last ≡ 0

-- each field is a fact of its own; the laws of a direction follow from these
pub record Order (r : ℕ) (w : Direction) : Type 0 where
  -- the numbers
  pub valid_sizes : HaveValidSizes w.first
  pub acked : w.acked ≤ w.accepted
  pub accepted : w.accepted ≤ begun w
  pub last : w.last ≤ begun w
  pub burst : Burst (w.clears % 32) w.last
  pub unfinished : Unfinished r w.first w.last w.left
  pub room : flits_to w.first (begun w) ≤ flits_to w.first w.acked + r
  -- packets are whole, from what landed last over the line to what is being sent
  pub chain : Chain (AtEnd (size w.first w.last) w.last w.left) w.before w.line
  pub far : FarIs w.far w.before
  -- their flits are of packets that were begun and could be kept
  pub real : Real w.first w.before
  pub near : Near r w.first w.accepted w.line
  -- the line fits
  pub keeps : Keeps w.far (Stands w.acked w.last w.left) w.accepted w.line
  -- a run is no longer than data can make it, where its last flit is data
  pub clear_run : ClearRun w.before w.clear_run
  pub start_run : StartRun w.before w.start_run

pub order_opening : (r : ℕ) → Order r opening
order_opening r = record {
  valid_sizes = tt;
  acked = omega arith;
  accepted = omega arith;
  last = omega arith;
  burst = tt;
  unfinished = tt;
  room = omega arith;
  chain = (refl, λ q. absurd (q refl));
  real = tt;
  near = tt;
  far = tt;
  keeps = tt;
  clear_run = refl;
  start_run = refl;
}

-- The end of the line

pub stands_up : (acked last left r s : ℕ) → r ≤ s → Stands acked last left r → Stands acked last left s
stands_up acked last zero r s l h = omega (arith, h)
stands_up acked last (suc k) r s l h = omega (arith, h)

stands_some : (acked last left r : ℕ) → 1 ≤ left → Stands acked last left r → last ≤ r + 1
stands_some acked last zero r e h = absurd (omega arith)
stands_some acked last (suc l) r e h = h

stands_zero : (acked last left r : ℕ) → left ≡ 0 → Stands acked last left r → max acked last ≤ r
stands_zero acked last zero r e h = h
stands_zero acked last (suc l) r e h = absurd (cc e)

pub stands_going : (acked last left r : ℕ) → last ≤ r + 1 → left ≢ 0 → Stands acked last left r
stands_going acked last zero r l n = absurd (n refl)
stands_going acked last (suc k) r l n = l

stands_cleared : (acked last left r : ℕ) → left ≡ 0 → max acked last ≤ r → Stands acked last left r
stands_cleared acked last zero r e h = h
stands_cleared acked last (suc k) r e h = absurd (cc e)

stands_begins : (acked last last' left' r : ℕ) → 1 ≤ left' → last' ≤ max acked last + 1 → max acked last ≤ r → Stands acked last' left' r
stands_begins acked last last' zero r e l h = absurd (omega arith)
stands_begins acked last last' (suc k) r e l h = omega arith

stands_sent : (acked last left a r : ℕ) → acked ≤ a → a ≤ r → last ≤ r + 1 → Stands acked last left (max r last)
stands_sent acked last zero a r h l i = omega arith
stands_sent acked last (suc k) a r h l i = omega arith

stands_acked : (acked m last left a r : ℕ) → m ≤ a → a ≤ r → Stands acked last left r → Stands m last left r
stands_acked acked m last zero a r h l s = omega (arith, s)
stands_acked acked m last (suc k) a r h l s = s

-- Sends of fillers and Clears

pub order_filler : (r : ℕ) (w : Direction) (x : Item) → came_of x ≡ 0 → ((e : ℕ) (E : ℕ → Type 0) → E e → Fits E w.accepted e (x ∷ [])) → FitsLater (Stands w.acked w.last w.left) w.accepted (x ∷ []) →
    ((z : Item) → came_of z ≡ 0 → Follows z x) → ((d : ℕ) → Near r w.first d (x ∷ [])) → Order r w → w.left ≡ 0 → Order r (record w { line = w.line ++ x ∷ [] })
order_filler r w x c f g h n o e = record {
  valid_sizes = o.valid_sizes;
  acked = o.acked;
  accepted = o.accepted;
  last = o.last;
  burst = o.burst;
  unfinished = o.unfinished;
  room = o.room;
  chain = let E : Item → Type 0 = AtEnd (size w.first w.last) w.last w.left in
      chain_append E E w.before w.line x (λ z i. let t = end_filler (size w.first w.last) w.last w.left z e i in (h z t.0, t.1 x c)) o.chain;
  real = o.real;
  near = near_append r w.first w.accepted w.line (x ∷ []) o.accepted (λ d l. n d) o.near;
  far = o.far;
  keeps = let E : ℕ → Type 0 = Stands w.acked w.last w.left in keeps_append w.far E E w.accepted w.line (x ∷ []) (λ d l i. f d E i) g o.keeps;
  clear_run = o.clear_run;
  start_run = o.start_run;
}

burst_next : (c last : ℕ) → Burst (c % 32) last → Burst ((c + 1) % 32) (last_after_clear (c % 32) last)
burst_next c last b = by_rest (c % 32) b
  where
    any_zero : (n : ℕ) → Burst n 0
    any_zero zero = tt
    any_zero (suc n) = refl

    by_rest : (n : ℕ) → Burst n last → Burst ((c + 1) % 32) (last_after_clear n last)
    by_rest zero b = any_zero ((c + 1) % 32)
    by_rest (suc n) b = subst (λ m. Burst ((c + 1) % 32) m) (sym b) (any_zero ((c + 1) % 32))

pub cleared_zero : (c last : ℕ) → Burst c last → last_after_clear c last ≡ 0
cleared_zero zero last b = refl
cleared_zero (suc c) last b = b

pub order_clear : (r : ℕ) (w : Direction) → Order r w → w.left ≡ 0 → Order r (record w { line = w.line ++ clear ∷ []; clears = w.clears + 1; last = last_after_clear (w.clears % 32) w.last })
order_clear r w o e =
    let n : ℕ = last_after_clear (w.clears % 32) w.last in
    let z : n ≡ 0 = cleared_zero (w.clears % 32) w.last o.burst in
    let s : Stands w.acked n w.left w.accepted = stands_cleared w.acked n w.left w.accepted e (omega (arith, o.acked)) in
    record {
      valid_sizes = o.valid_sizes;
      acked = o.acked;
      accepted = o.accepted;
      last = omega arith;
      burst = burst_next w.clears w.last o.burst;
      unfinished = subst (λ l. Unfinished r w.first n l) (sym e) tt;
      room = o.room;
      chain = chain_append (AtEnd (size w.first w.last) w.last w.left) (AtEnd (size w.first n) n w.left) w.before w.line clear
          (λ y i. ((end_filler (size w.first w.last) w.last w.left y e i).0, end_last (size w.first w.last) w.last (size w.first n) n w.left clear e ((end_filler (size w.first w.last) w.last w.left y e i).1 clear refl))) o.chain;
      real = o.real;
      near = near_append r w.first w.accepted w.line (clear ∷ []) o.accepted (λ d l. tt) o.near;
      far = o.far;
      keeps = keeps_append w.far (Stands w.acked w.last w.left) (Stands w.acked n w.left) w.accepted w.line (clear ∷ []) (λ d l i. s) s o.keeps;
      clear_run = o.clear_run;
      start_run = o.start_run;
    }

-- A packet is begun

pub order_new : (r : ℕ) (w : Direction) (s : Weight) → Order r w → IsFree w → HasValidSize s → HasRoom r w s → Order r (begun_new w s)
order_new r w s o i f h =
    let n : ℕ = begun w + 1 in
    let ps : List Weight = w.first ++ s ∷ [] in
    let len : length ps ≡ n = length-append w.first (s ∷ []) in
    let full : flits_to ps n ≡ flits_to w.first (begun w) + s.flits = upto-snoc (λ p. p.flits) w.first s in
    let all : flits_to ps (length ps) ≡ flits_to ps n = ap (λ m. flits_to ps m) len in
    let low : flits_to ps w.acked ≡ flits_to w.first w.acked = upto-append (λ p. p.flits) w.first (s ∷ []) w.acked (omega (arith, o.acked, o.accepted)) in
    let up = upto-up (λ p. p.flits) w.first w.acked (begun w) (omega (arith, o.acked, o.accepted)) in
    let z : size ps n ≡ s.flits = size-snoc w.first s in
    record {
      valid_sizes = valid_sizes-snoc w.first s o.valid_sizes f;
      acked = o.acked;
      accepted = omega (arith, o.accepted);
      last = omega arith;
      burst = subst (λ c. Burst c n) (sym i.1) tt;
      unfinished = begins_with s.flits refl (omega (arith, z)) (omega (arith, f.0, h));
      room = omega (arith, h);
      chain = chain_map (AtEnd (size w.first w.last) w.last w.left) (AtEnd (size ps n) n s.flits) w.before w.line
          (λ y t. end_begins (size w.first w.last) w.last (size ps n) n s.flits y z (subst (λ l. AtEnd (size w.first w.last) w.last l y) i.0 t)) o.chain;
      real = real_grows w.first s w.before o.real;
      near = near_grows r w.first s w.accepted w.line o.accepted o.near;
      far = o.far;
      keeps = keeps_map w.far (Stands w.acked w.last w.left) (Stands w.acked n s.flits) w.accepted w.line
          (λ d l t. let p : max w.acked w.last ≡ begun w = i.2 in stands_begins w.acked w.last n s.flits d f.0 (omega arith) (stands_zero w.acked w.last w.left d i.0 t)) o.keeps;
      clear_run = o.clear_run;
      start_run = o.start_run;
    }
  where
    begins_with : (l : ℕ) → l ≡ s.flits → l ≤ size (w.first ++ s ∷ []) (begun w + 1) →
        flits_to (w.first ++ s ∷ []) (length (w.first ++ s ∷ [])) < flits_to (w.first ++ s ∷ []) (begun w + 1) + r → Unfinished r (w.first ++ s ∷ []) (begun w + 1) l
    begins_with zero e a b = tt
    begins_with (suc l) e a b = (omega arith, a, b)

pub order_again : (r : ℕ) (w : Direction) → Order r w → w.left ≡ 0 → w.clears % 32 ≡ 0 → position w < begun w → Order r (begun_again w)
order_again r w o i c l =
    let n : ℕ = position w + 1 in
    let p : position w ≡ max w.acked w.last = refl in
    let z = size-valid w.first n o.valid_sizes (omega arith) (omega arith) in
    let less = flits-less w.first w.acked n o.valid_sizes (omega arith) (omega arith) in
    record {
      valid_sizes = o.valid_sizes;
      acked = o.acked;
      accepted = o.accepted;
      last = omega arith;
      burst = subst (λ d. Burst d n) (sym c) tt;
      unfinished = begins_with n (size w.first n) (omega arith) (omega arith) (omega (arith, o.room));
      room = o.room;
      chain = chain_map (AtEnd (size w.first w.last) w.last w.left) (AtEnd (size w.first n) n (size w.first n)) w.before w.line
          (λ y t. end_begins (size w.first w.last) w.last (size w.first n) n (size w.first n) y refl (subst (λ d. AtEnd (size w.first w.last) w.last d y) i t)) o.chain;
      real = o.real;
      near = o.near;
      far = o.far;
      keeps = keeps_map w.far (Stands w.acked w.last w.left) (Stands w.acked n (size w.first n)) w.accepted w.line
          (λ d m t. stands_begins w.acked w.last n (size w.first n) d z.least (omega arith) (stands_zero w.acked w.last w.left d i t)) o.keeps;
      clear_run = o.clear_run;
      start_run = o.start_run;
    }
  where
    begins_with : (n l : ℕ) → 1 ≤ n → l ≤ size w.first n → flits_to w.first (length w.first) < flits_to w.first n + r → Unfinished r w.first n l
    begins_with n zero a b d = tt
    begins_with n (suc l) a b d = (a, b, d)

-- The next flit of a packet

unfinished_some : (r : ℕ) (ps : List Weight) (last left : ℕ) → 1 ≤ left → Unfinished r ps last left → (1 ≤ last) × (left ≤ size ps last) × (flits_to ps (length ps) < flits_to ps last + r)
unfinished_some r ps last zero l u = absurd (omega arith)
unfinished_some r ps last (suc n) l u = u

unfinished_less : (r : ℕ) (ps : List Weight) (last left : ℕ) → (1 ≤ last) × (left + 1 ≤ size ps last) × (flits_to ps (length ps) < flits_to ps last + r) → Unfinished r ps last left
unfinished_less r ps last zero u = tt
unfinished_less r ps last (suc n) u = (u.0, omega (arith, u.1), u.2)

pub order_next : (r : ℕ) (w : Direction) → Order r w → 1 ≤ w.left → Order r (next_sent w)
order_next r w o i =
    let u = unfinished_some r w.first w.last w.left i o.unfinished in
    let s : ℕ = size w.first w.last in
    let x : Item = part w.last (s - w.left) (w.left - 1) in
    record {
      valid_sizes = o.valid_sizes;
      acked = o.acked;
      accepted = o.accepted;
      last = o.last;
      burst = o.burst;
      unfinished = unfinished_less r w.first w.last (w.left - 1) (u.0, omega (arith, u.1), u.2);
      room = o.room;
      chain = chain_append (AtEnd s w.last w.left) (AtEnd s w.last (w.left - 1)) w.before w.line x (λ y t. end_next s w.last w.left y i u.1 t) o.chain;
      real = o.real;
      near = near_append r w.first w.accepted w.line (x ∷ []) o.accepted
          (λ d l. let up = upto-up (λ p. p.flits) w.first d (begun w) l in ((u.0, o.last, omega (arith, u.1)), omega (arith, u.2, up), tt)) o.near;
      far = o.far;
      keeps = keeps_append w.far (Stands w.acked w.last w.left) (Stands w.acked w.last (w.left - 1)) w.accepted w.line (x ∷ [])
          (λ d l t. let g = stands_some w.acked w.last w.left d i t in (g, stands_sent w.acked w.last (w.left - 1) w.accepted d o.acked l g)) tt o.keeps;
      clear_run = o.clear_run;
      start_run = o.start_run;
    }

-- An acknowledgement

pub order_acked : (r : ℕ) (w : Direction) (n : ℕ) → Order r w → w.acked ≤ n → n ≤ w.accepted → Order r (record w { acked = n })
order_acked r w n o l m = record {
  valid_sizes = o.valid_sizes;
  acked = m;
  accepted = o.accepted;
  last = o.last;
  burst = o.burst;
  unfinished = o.unfinished;
  room = let up = upto-up (λ p. p.flits) w.first w.acked n l in omega (arith, o.room);
  chain = o.chain;
  real = o.real;
  near = o.near;
  far = o.far;
  keeps = keeps_map w.far (Stands w.acked w.last w.left) (Stands n w.last w.left) w.accepted w.line (λ d k t. stands_acked w.acked n w.last w.left w.accepted d m k t) o.keeps;
  clear_run = o.clear_run;
  start_run = o.start_run;
}

-- A landing

pub order_landed : (r : ℕ) (w : Direction) (n : ℕ) (far : Reached) (reading : Reading) → Order r w → w.accepted ≤ n → n ≤ max w.accepted (number_of (front_or w.before w.line)) → n ≤ begun w →
    FarIs far (front_or w.before w.line) → Keeps far (Stands w.acked w.last w.left) n (rest w.line) →
    ClearRun (front_or w.before w.line) (clear_run_after reading w.clear_run) → StartRun (front_or w.before w.line) (start_run_after reading w.start_run) → Order r (landed w n far reading)
order_landed r w n far reading o l m b f k c s = record {
  valid_sizes = o.valid_sizes;
  acked = omega (arith, o.acked);
  accepted = b;
  last = o.last;
  burst = o.burst;
  unfinished = o.unfinished;
  room = o.room;
  chain = chain_rest (AtEnd (size w.first w.last) w.last w.left) w.before w.line o.chain;
  real = real_front r w.first w.accepted w.before w.line o.real o.near;
  near = near_rest r w.first n w.accepted w.before w.line m o.near;
  far = f;
  keeps = k;
  clear_run = c;
  start_run = s;
}

-- An unlock

pub order_unlocked : (r : ℕ) (w : Direction) → Order r w → Order r (record w { far = far_unlocked w.far; clear_run = 0; start_run = 0 })
order_unlocked r w o = record {
  valid_sizes = o.valid_sizes;
  acked = o.acked;
  accepted = o.accepted;
  last = o.last;
  burst = o.burst;
  unfinished = o.unfinished;
  room = o.room;
  chain = o.chain;
  real = o.real;
  near = o.near;
  far = any_far w.far;
  keeps = later_unlocked w.far (keeps_later w.far (Stands w.acked w.last w.left) w.accepted w.line o.keeps);
  clear_run = clear_run_zero w.before;
  start_run = start_run_zero w.before;
}
  where
    any_far : (far : Reached) → FarIs (far_unlocked far) w.before
    any_far training = tt
    any_far aborting = tt
    any_far between = tt
    any_far (inside n k) = tt
    any_far spoilt = tt

    later_unlocked : (far : Reached) → FitsLater (Stands w.acked w.last w.left) w.accepted w.line → Keeps (far_unlocked far) (Stands w.acked w.last w.left) w.accepted w.line
    later_unlocked training h = h
    later_unlocked aborting h = h
    later_unlocked between h = h
    later_unlocked (inside n k) h = h
    later_unlocked spoilt h = h
