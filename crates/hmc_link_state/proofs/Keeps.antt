-- A round keeps the facts, and raises neither the number under way nor the weight.
use Rattle.std.proofs.Common.{◌≡◌, ℕ, suc, ◌+◌, ◌-◌, ◌*◌, ◌≤◌, nat_lt, Bool, true, false, if◌then◌else◌, List, [], ◌∷◌, ◌++◌, length, inl, inr, refl, sym, ap, subst, arith}
use Rattle.hmc_codes.specs.declared.profile.Profile.{Profile}
use Rattle.hmc_codes.specs.Profile.{window_of as window}
use Rattle.hmc_numbers.specs.Events.{Reading, Event}
use Rattle.hmc_numbers.specs.Pair.{Half}
use Rattle.hmc_numbers.specs.Pair.Move.{moves}
use Rattle.hmc_numbers.specs.Tokens.{cost_accepted, used_tokens, due_tokens}
use Rattle.hmc_numbers.specs.Turns.{MayHere}
use Rattle.hmc_numbers.specs.PairLaws.{HalfLaws}
use Rattle.hmc_numbers.proofs.Together.{Joined, own_moved, other_moved}
use Rattle.hmc_numbers.proofs.PairLaws.{half_laws}
use Rattle.hmc_link_state.specs.Choice.{Choice, choice}
use Rattle.hmc_link_state.specs.Sees.{Sees, IsFairFront, event_of}
use Rattle.hmc_link_state.specs.State.{Setup, Side, State, wire, front_of, flits_of, AreFairSizes, weight}
use Rattle.hmc_link_state.specs.Round.{Reads, front, sight, sent, sent_by, sent_both, landed_own, landed_other, landed_forth, link_round, event_here, is_counted_at, is_ran_start_at, costs_next, steady_after, Moves, CubeRound, IsRound}
use Rattle.hmc_link_state.specs.Facts.{SideFacts, Facts}
use Rattle.hmc_link_state.specs.EachRound.{IsFit, KeepsFacts}
use Rattle.hmc_link_state.proofs.Choices.{choice_may}
use Rattle.hmc_link_state.proofs.Chosen.{chosen}
use Rattle.hmc_link_state.proofs.Lines.{IsHalfFull, sent_fits, lands_other, lt_true}
use Rattle.hmc_link_state.proofs.SentFacts.{sent_own, sent_other}
use Rattle.hmc_link_state.proofs.LandedFacts.{landed_facts, took_facts}
use Rattle.hmc_link_state.proofs.CleanLandings.{buffer_after, here_lands, here_pace}
use Rattle.hmc_link_state.proofs.Counts.{begun_count, accepted_count, Counts, counts_trans, sent_counts, landed_is, landed_counts, took_counts, Progress, progress_trans, below, link_progress}

-- the facts of both sides
abbrev pub Both : Setup → (own other : Side) → Type 0
Both c own other = SideFacts c own other × SideFacts c other own

front_fair : (ps : List ℕ) → AreFairSizes ps → IsFairFront (front_of ps)
front_fair [] h = tt
front_fair (p ∷ ps) h = (h.0, h.1)

pub sees : (c : Setup) (own other : Side) → SideFacts c own other →
    Sees c.retry c.tokens own.half other.half (sight c own other)
sees c own other f =
    record {
      mode = refl;
      left = refl;
      clears = refl;
      front = front_fair own.queue f.queue;
      held = refl;
      room = refl;
      due = refl;
      position = refl;
      begun = refl;
    }

pub laws_of : (p : Profile) (c : Setup) (own other : Side) → c.retry ≤ window p → Both c own other →
    HalfLaws p c.retry c.tokens own.half other.half
laws_of p c own other w b = half_laws p c.retry c.tokens own.half other.half w b.0.joined b.1.joined

pub may_send : (p : Profile) (c : Setup) (own other : Side) → c.retry ≤ window p →
    Both c own other →
    MayHere c.retry c.tokens own.half other.half
    (event_of (due_tokens c.tokens other.half own.half) (choice (sight c own other)))
may_send p c own other w b =
    choice_may p c.retry c.tokens own.half other.half (sight c own other) (sees c own other b.0)
    (laws_of p c own other w b) (laws_of p c other own w (b.1, b.0))

pub send_both : (p : Profile) (c : Setup) (own other : Side) → c.retry ≤ window p →
    Both c own other → Both c (sent c own other) other
send_both p c own other w b = by_full (nat_lt (length (wire own).line) c.line) refl
  where
    x : Choice
    x = choice (sight c own other)

    by_full : (d : Bool) → nat_lt (length (wire own).line) c.line ≡ d →
        Both c (if d then sent_by c own other x else own) other
    by_full true q = let m = may_send p c own other w b in (
      sent_own c own other x (chosen (sight c own other)) m
          (lt_true (length (wire own).line) c.line q) b.0,
      sent_other c own other x (chosen (sight c own other)) m b.0 b.1,
    )
    by_full false q = b

pub land_both : (c : Setup) (own other : Side) (look : Reading) → 1 ≤ length (wire own).line →
    Reads (front own) look → Both c own other →
    Both c (landed_own own (costs_next own) look) (landed_other own other look)
land_both c own other look l h b =
    let z = here_lands c own other look b.0 l h in
    let e : Event = event_here own look in
    let d : Bool = is_counted_at own (wire own).far e in
    let r : Bool = is_ran_start_at own (wire own).far look in
    let q = sym (landed_is own (costs_next own) look) in
    subst (λ y. Both c y (landed_other own other look)) q (
      landed_facts c own other e d r (steady_after own look) (own.missing - 1)
          (buffer_after own (costs_next own) e) (here_pace c own other look b.0) z b.0,
      took_facts c own other e d r (steady_after own look) (own.missing - 1)
          (buffer_after own (costs_next own) e) z b.0 b.1,
    )

-- The states within a round: a, then d send; a's line lands, then d's.
pub record Within (p : Profile) (c : Setup) (l m : Reading) (s : State) : Type 0 where
  pub sent_one : Both c (sent c s.forth s.back) s.back
  pub sent_two : Both c (sent c s.back (sent c s.forth s.back)) (sent c s.forth s.back)
  pub half_one : IsHalfFull c (wire (sent c s.forth s.back)).line
  pub half_two : IsHalfFull c (wire (sent c s.back (sent c s.forth s.back))).line
  pub landed_one : Both c (landed_forth l (sent_both c s)).forth
      (landed_forth l (sent_both c s)).back
  pub some : 1 ≤ length (wire (landed_forth l (sent_both c s)).back).line
  pub landed_two : Both c (link_round c l m s).back (link_round c l m s).forth

pub within : (p : Profile) (c : Setup) (l m : Reading) (s : State) → IsFit p c → Facts c s →
    Reads (front (sent_both c s).forth) l → Reads (front (landed_forth l (sent_both c s)).back) m →
    Within p c l m s
within p c l m s f h rl rm =
    let a : Side = sent c s.forth s.back in
    let d : Side = sent c s.back a in
    let one : Both c a s.back = send_both p c s.forth s.back f.retry.1 (h.forth, h.back) in
    let two : Both c d a = send_both p c s.back a f.retry.1 (one.1, one.0) in
    let ha : IsHalfFull c (wire a).line = sent_fits c s.forth s.back h.forth.short f.line.0 in
    let hd : IsHalfFull c (wire d).line = sent_fits c s.back a one.1.short f.line.0 in
    let three : Both c (landed_own a (costs_next a) l) (landed_other a d l) =
    land_both c a d l ha.1 rl (two.1, two.0) in
    let n : 1 ≤ length (wire (landed_other a d l)).line =
    subst (λ xs. 1 ≤ length xs) (sym (lands_other a d l)) hd.1 in
    record {
      sent_one = one;
      sent_two = two;
      half_one = ha;
      half_two = hd;
      landed_one = three;
      some = n;
      landed_two =
          land_both c (landed_other a d l) (landed_own a (costs_next a) l) m n rm
          (three.1, three.0);
    }

accepted_below : (c : Setup) (own other : Side) → SideFacts c own other →
    accepted_count (wire own) ≤ begun_count (wire own)
accepted_below c own other f = below (wire own) f.joined.order.accepted

pub link_keeps : (p : Profile) (c : Setup) (l m : Reading) (s : State) → IsFit p c → Facts c s →
    Reads (front (sent_both c s).forth) l → Reads (front (landed_forth l (sent_both c s)).back) m →
    Facts c (link_round c l m s) × Progress s (link_round c l m s)
link_keeps p c l m s f h rl rm =
    let w = within p c l m s f h rl rm in
    let a : Side = sent c s.forth s.back in
    let d : Side = sent c s.back a in
    let e : Side = landed_own a (costs_next a) l in
    let g : Side = landed_other a d l in
    let t : State = link_round c l m s in
    let ca : Counts s.forth a = sent_counts c s.forth s.back h.forth.joined.order.accepted in
    let cd : Counts s.back d = sent_counts c s.back a h.back.joined.order.accepted in
    let ce : Counts a e = landed_counts c a d l w.sent_two.1 w.half_one.1 rl in
    let cg : Counts d g =
    took_counts a d (event_here a l) (is_counted_at a (wire a).far (event_here a l))
    (is_ran_start_at a (wire a).far l) in
    let ct : Counts g t.back = landed_counts c g e m w.landed_one.1 w.some rm in
    let cu : Counts e t.forth =
    took_counts g e (event_here g m) (is_counted_at g (wire g).far (event_here g m))
    (is_ran_start_at g (wire g).far m) in (
      record { forth = w.landed_two.1; back = w.landed_two.0 },
      link_progress s t (counts_trans s.forth a t.forth ca (counts_trans a e t.forth ce cu))
          (counts_trans s.back d t.back cd (counts_trans d g t.back cg ct))
          (accepted_below c s.forth s.back h.forth) (accepted_below c s.back s.forth h.back)
          (accepted_below c t.forth t.back w.landed_two.1)
          (accepted_below c t.back t.forth w.landed_two.0) refl refl refl,
    )

-- The cube

abbrev pub with_moved : Side → ℕ → List ℕ → List ℕ → Side
with_moved x n bf q = record x { half = record x.half { moved = n }; buffer = bf; queue = q }

moved_joined : (r adv : ℕ) (x y : Half) (n : ℕ) → Joined r adv x y → Joined r adv y x →
    x.moved ≤ n → n ≤ cost_accepted x.direction → Joined r adv (record x { moved = n }) y
    × Joined r adv y (record x { moved = n })
moved_joined r adv x y n j k l u =
    let e : x.moved + (n - x.moved) ≡ n = omega arith in
    let m : n - x.moved ≤ used_tokens x = omega arith in (
      subst (λ i. Joined r adv (record x { moved = i }) y) e
          (own_moved r adv x y (moves (n - x.moved)) j m),
      subst (λ i. Joined r adv y (record x { moved = i })) e
          (other_moved r adv x y (moves (n - x.moved)) j k m),
    )

pub fair_append : (ps qs : List ℕ) → AreFairSizes ps → AreFairSizes qs → AreFairSizes (ps ++ qs)
fair_append [] qs h k = k
fair_append (p ∷ ps) qs h k = (h.0, h.1, fair_append ps qs h.2 k)

moved_own : (c : Setup) (x y : Side) (n : ℕ) (bf q : List ℕ) →
    Joined c.retry c.tokens (record x.half { moved = n }) y.half →
    flits_of bf ≡ cost_accepted (wire x) - n → AreFairSizes q → SideFacts c x y →
    SideFacts c (with_moved x n bf q) y
moved_own c x y n bf q j b a f = record {
  joined = j;
  short = f.short;
  queue = a;
  buffer = b;
  missing = f.missing;
  open_back = f.open_back;
  open_clears = f.open_clears;
  shut = f.shut;
  steady = f.steady;
  few = f.few;
  long_ago = f.long_ago;
  spaced = f.spaced;
  untrained =
      λ t. let u =
      f.untrained t in
      record {
        line = u.line;
        starts = u.starts;
        shut = u.shut;
        back = u.back;
        first = u.first;
        others = u.others;
      };
  one = f.one;
  whole = f.whole;
  least = f.least;
  most = f.most;
  pointed = f.pointed;
  later = f.later;
  counted = f.counted;
}

moved_other : (c : Setup) (x y : Side) (n : ℕ) (bf q : List ℕ) →
    Joined c.retry c.tokens y.half (record x.half { moved = n }) → SideFacts c y x →
    SideFacts c y (with_moved x n bf q)
moved_other c x y n bf q j f = record {
  joined = j;
  short = f.short;
  queue = f.queue;
  buffer = f.buffer;
  missing = f.missing;
  open_back = f.open_back;
  open_clears = f.open_clears;
  shut = f.shut;
  steady = f.steady;
  few = f.few;
  long_ago = f.long_ago;
  spaced = f.spaced;
  untrained =
      λ t. let u =
      f.untrained t in
      record {
        line = u.line;
        starts = u.starts;
        shut = u.shut;
        back = u.back;
        first = u.first;
        others = u.others;
      };
  one = f.one;
  whole = f.whole;
  least = f.least;
  most = f.most;
  pointed = f.pointed;
  later = f.later;
  counted = f.counted;
}

-- what leaves the buffer is counted as moved
pub moved_both : (c : Setup) (x y : Side) (n : ℕ) (bf q : List ℕ) → x.half.moved ≤ n →
    n + flits_of bf ≡ x.half.moved + flits_of x.buffer → AreFairSizes q → Both c x y →
    Both c (with_moved x n bf q) y
moved_both c x y n bf q l e a b =
    let u = b.0.joined.used in
    let v = b.0.buffer in
    let j =
    moved_joined c.retry c.tokens x.half y.half n b.0.joined b.1.joined l
    (omega (arith, u, v, e)) in
    (moved_own c x y n bf q j.0 (omega (arith, u, v, e)) a b.0, moved_other c x y n bf q j.1 b.1)

cube_moved : (c : Setup) (s t : State) → Moves s t → Facts c s → Facts c t
cube_moved c s t m h =
    let b1 : Both c (with_moved s.forth t.forth.half.moved t.forth.buffer s.forth.queue) s.back =
    moved_both c s.forth s.back t.forth.half.moved t.forth.buffer s.forth.queue m.rises.0
    m.shifted h.forth.queue (h.forth, h.back) in
    let q : AreFairSizes t.back.queue =
    subst AreFairSizes (sym m.lifted.2)
    (fair_append s.back.queue m.lifted.0 h.back.queue m.lifted.1) in
    let b2 : Both c (with_moved s.back t.back.half.moved t.back.buffer t.back.queue)
    (with_moved s.forth t.forth.half.moved t.forth.buffer s.forth.queue) =
    moved_both c s.back (with_moved s.forth t.forth.half.moved t.forth.buffer s.forth.queue)
    t.back.half.moved t.back.buffer t.back.queue m.rises.1 m.taken q (b1.1, b1.0) in
    let e : Both c t.back t.forth =
    subst (λ x. Both c x t.forth) (sym m.back)
    (subst (λ x. Both c (with_moved s.back t.back.half.moved t.back.buffer t.back.queue) x)
    (sym m.forth) b2) in
    record { forth = e.1; back = e.0 }

same_first : (s t : State) → Moves s t → ((wire t.forth) ≡ (wire s.forth))
    × ((wire t.back) ≡ (wire s.back))
same_first s t m = (ap wire m.forth, ap wire m.back)

cube_progress : (s t : State) → Moves s t → Progress s t
cube_progress s t m =
    let z = same_first s t m in
    let a : begun_count (wire t.forth) ≡ begun_count (wire s.forth) = ap begun_count z.0 in
    let b : begun_count (wire t.back) ≡ begun_count (wire s.back) = ap begun_count z.1 in
    let d : accepted_count (wire t.forth) ≡ accepted_count (wire s.forth) =
    ap accepted_count z.0 in
    let e : accepted_count (wire t.back) ≡ accepted_count (wire s.back) = ap accepted_count z.1 in
    record {
      weight =
          by_sums (weight s) (weight t) (begun_count (wire s.forth)) (begun_count (wire t.forth))
          (begun_count (wire s.back)) (begun_count (wire t.back)) (accepted_count (wire s.forth))
          (accepted_count (wire t.forth)) (accepted_count (wire s.back))
          (accepted_count (wire t.back)) m.lighter a b d e;
      fewer = m.fewer;
      begun = (omega (arith, a), omega (arith, b));
      accepted = (omega (arith, d), omega (arith, e));
    }
  where
    by_sums : (w w' b b' g g' a a' h h' : ℕ) → suc w' ≤ w → b' ≡ b → g' ≡ g → a' ≡ a → h' ≡ h →
        w' + (800 * (b' + g') + 100 * (a' + h')) ≤ w + (800 * (b + g) + 100 * (a + h))
    by_sums w w' b b' g g' a a' h h' l p q r t = omega arith

pub cube_keeps : (c : Setup) (s t : State) → CubeRound s t → Facts c s → Facts c t × Progress s t
cube_keeps c s t (inl m) h = (cube_moved c s t m h, cube_progress s t m)
cube_keeps c s t (inr i) h = subst (λ x. Facts c x × Progress s x) (sym i.0) (
  record { forth = h.forth; back = h.back },
  record {
    weight = omega arith;
    fewer = omega arith;
    begun = (omega arith, omega arith);
    accepted = (omega arith, omega arith);
  },
)

pub round_keeps : (p : Profile) (c : Setup) (s t : State) → IsFit p c → Facts c s → IsRound c s t →
    Facts c t × Progress s t
round_keeps p c s t f h r =
    let a = link_keeps p c r.0 r.1 s f h r.2 r.3 in
    let b = cube_keeps c (link_round c r.0 r.1 s) t r.4 a.0 in
    (b.0, progress_trans s (link_round c r.0 r.1 s) t a.1 b.1)

pub lighter_by : (s t : State) → Progress s t → weight t ≤ weight s
lighter_by s t p =
    by_sums (weight s) (weight t) (begun_count (wire s.forth)) (begun_count (wire t.forth))
    (begun_count (wire s.back)) (begun_count (wire t.back)) (accepted_count (wire s.forth))
    (accepted_count (wire t.forth)) (accepted_count (wire s.back)) (accepted_count (wire t.back))
    p.weight p.begun.0 p.begun.1 p.accepted.0 p.accepted.1
  where
    by_sums : (w w' b b' g g' a a' h h' : ℕ) → w' + (800 * (b' + g') + 100 * (a' + h')) ≤ w
        + (800 * (b + g) + 100 * (a + h)) → b ≤ b' → g ≤ g' → a ≤ a' → h ≤ h' → w' ≤ w
    by_sums w w' b b' g g' a a' h h' l p q r t = omega arith

pub keeps : (p : Profile) (c : Setup) → KeepsFacts p c
keeps p c =
    λ f run r a u. let z =
    round_keeps p c (run 0) (run 1) f a (r 0 (omega arith)) in
    (z.0, z.1.fewer, lighter_by (run 0) (run 1) z.1)
