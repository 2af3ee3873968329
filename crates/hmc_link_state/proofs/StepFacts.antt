-- The facts hold after every list of steps that may come.
use Rattle.std.proofs.Common.{◌≡◌, ℕ, ◌≤◌, List, [], ◌∷◌, inl, refl, arith}
use Rattle.hmc_codes.specs.declared.profile.Profile.{Profile}
use Rattle.hmc_codes.specs.Profile.{window_of as window}
use Rattle.hmc_numbers.specs.Pointers.{pointer}
use Rattle.hmc_numbers.specs.Direction.{Reached}
use Rattle.hmc_numbers.specs.Direction.Reached.{training, aborting, between, inside, spoilt}
use Rattle.hmc_numbers.specs.Events.{Event, far_unlocked}
use Rattle.hmc_numbers.specs.May.{IsGood, IsShut}
use Rattle.hmc_numbers.specs.Pair.Move.{does}
use Rattle.hmc_numbers.proofs.DirectionLaws.{apart}
use Rattle.hmc_numbers.proofs.Together.{joined_opening, own_moved, other_moved}
use Rattle.hmc_numbers.proofs.Effect.{was_training}
use Rattle.hmc_link_state.specs.State.{Setup, Side, wire}
use Rattle.hmc_link_state.specs.Facts.{SideFacts}
use Rattle.hmc_link_state.specs.Steps.{Step, Doing, own_step, other_step, MayStep, side_opening, link_after, MayAll}
use Rattle.hmc_link_state.proofs.Keeps.{Both, send_both, moved_both, fair_append}
use Rattle.hmc_link_state.proofs.LandedFacts.{landed_facts, took_facts}

opening_facts : (c : Setup) → SideFacts c side_opening side_opening
opening_facts c = record {
  joined = joined_opening c.retry c.tokens;
  short = omega arith;
  queue = tt;
  buffer = refl;
  missing = λ q. absurd (cc q);
  open_back = λ q. absurd (cc q);
  open_clears = λ l. absurd (omega (arith, l));
  shut = λ q. tt;
  steady = λ q. omega arith;
  few = λ q. absurd (cc q);
  long_ago = λ q. omega arith;
  spaced = (64, 0, (refl, omega arith, λ l. tt), λ l. tt);
  untrained =
      λ q. record {
        line = tt;
        starts = refl;
        shut = refl;
        back = refl;
        first = refl;
        others = refl;
      };
  one = inl refl;
  whole = λ l. absurd (omega (arith, l));
  least = omega arith;
  most = omega arith;
  pointed = tt;
  later = tt;
  counted = λ g. absurd g;
}

-- An unlock

unlocked_shut : (far : Reached) → IsShut (far_unlocked far)
unlocked_shut training = tt
unlocked_shut far = tt

unlocked_spoilt : (far : Reached) → far_unlocked far ≡ spoilt → ⊥
unlocked_spoilt training q = cc q
unlocked_spoilt aborting q = cc q
unlocked_spoilt between q = cc q
unlocked_spoilt (inside n k) q = cc q
unlocked_spoilt spoilt q = cc q

unlocked_good : (far : Reached) → IsGood (far_unlocked far) → ⊥
unlocked_good training g = g
unlocked_good aborting g = g
unlocked_good between g = g
unlocked_good (inside n k) g = g
unlocked_good spoilt g = g

unlocked_own : (c : Setup) (x y : Side) → SideFacts c x y →
    SideFacts c (own_step c x y Step.unlocks) y
unlocked_own c x y f = record {
  joined = own_moved c.retry c.tokens x.half y.half (does Event.unlocks) f.joined tt;
  short = f.short;
  queue = f.queue;
  buffer = f.buffer;
  missing = λ q. absurd (unlocked_spoilt (wire x).far q);
  open_back = f.open_back;
  open_clears = f.open_clears;
  shut = λ q. unlocked_shut (wire x).far;
  steady = λ q. omega arith;
  few = λ q. omega arith;
  long_ago = f.long_ago;
  spaced = f.spaced;
  untrained =
      λ q. let u =
      f.untrained q in
      record {
        line = u.line;
        starts = u.starts;
        shut = u.shut;
        back = u.back;
        first = u.first;
        others = u.others;
      };
  one = f.one;
  whole = f.whole;
  least = f.least;
  most = f.most;
  pointed = f.pointed;
  later = f.later;
  counted = λ g. absurd (unlocked_good (wire x).far g);
}

unlocked_other : (c : Setup) (x y : Side) → SideFacts c x y → SideFacts c y x →
    SideFacts c y (own_step c x y Step.unlocks)
unlocked_other c x y f g = record {
  joined = other_moved c.retry c.tokens x.half y.half (does Event.unlocks) f.joined g.joined tt;
  short = g.short;
  queue = g.queue;
  buffer = g.buffer;
  missing = g.missing;
  open_back = g.open_back;
  open_clears = g.open_clears;
  shut = g.shut;
  steady = g.steady;
  few = g.few;
  long_ago = g.long_ago;
  spaced = g.spaced;
  untrained =
      λ q. let u =
      g.untrained (was_training (wire x).far q) in
      record {
        line = u.line;
        starts = u.starts;
        shut = u.shut;
        back = u.back;
        first = u.first;
        others = u.others;
      };
  one = g.one;
  whole = g.whole;
  least = g.least;
  most = g.most;
  pointed = g.pointed;
  later = g.later;
  counted = g.counted;
}

-- A front enters the output queue.

queued_own : (c : Setup) (x y : Side) (n : ℕ) → 1 ≤ n → n ≤ 17 → SideFacts c x y →
    SideFacts c (own_step c x y (Step.queues n)) y
queued_own c x y n l m f = record {
  joined = f.joined;
  short = f.short;
  queue = fair_append x.queue (n ∷ []) f.queue (l, m, tt);
  buffer = f.buffer;
  missing = f.missing;
  open_back = f.open_back;
  open_clears = f.open_clears;
  shut = f.shut;
  steady = f.steady;
  few = f.few;
  long_ago = f.long_ago;
  spaced = f.spaced;
  untrained =
      λ q. let u =
      f.untrained q in
      record {
        line = u.line;
        starts = u.starts;
        shut = u.shut;
        back = u.back;
        first = u.first;
        others = u.others;
      };
  one = f.one;
  whole = f.whole;
  least = f.least;
  most = f.most;
  pointed = f.pointed;
  later = f.later;
  counted = f.counted;
}

queued_other : (c : Setup) (x y : Side) (n : ℕ) → SideFacts c y x →
    SideFacts c y (own_step c x y (Step.queues n))
queued_other c x y n g = record {
  joined = g.joined;
  short = g.short;
  queue = g.queue;
  buffer = g.buffer;
  missing = g.missing;
  open_back = g.open_back;
  open_clears = g.open_clears;
  shut = g.shut;
  steady = g.steady;
  few = g.few;
  long_ago = g.long_ago;
  spaced = g.spaced;
  untrained =
      λ q. let u =
      g.untrained q in
      record {
        line = u.line;
        starts = u.starts;
        shut = u.shut;
        back = u.back;
        first = u.first;
        others = u.others;
      };
  one = g.one;
  whole = g.whole;
  least = g.least;
  most = g.most;
  pointed = g.pointed;
  later = g.later;
  counted = g.counted;
}

pub step_both : (p : Profile) (c : Setup) → c.retry ≤ window p → (x y : Side) (s : Step) →
    MayStep c x y s → Both c x y → Both c (own_step c x y s) (other_step x y s)
step_both p c w x y Step.sends m b = send_both p c x y w b
step_both p c w x y (Step.lands e d ran st ms bf) m b =
    (landed_facts c x y e d ran st ms bf m.1 m.0 b.0, took_facts c x y e d ran st ms bf m.0 b.0 b.1)
step_both p c w x y Step.unlocks m b = (unlocked_own c x y b.0, unlocked_other c x y b.0 b.1)
step_both p c w x y (Step.leaves n bf) m b = moved_both c x y n bf x.queue m.0 m.1 b.0.queue b
step_both p c w x y (Step.queues n) m b = (queued_own c x y n m.0 m.1 b.0, queued_other c x y n b.1)

pub facts_after : (p : Profile) (c : Setup) → c.retry ≤ window p → (past : List Doing) →
    MayAll c past → Both c (link_after c past).forth (link_after c past).back
facts_after p c w [] m = (opening_facts c, opening_facts c)
facts_after p c w (Doing.forth s ∷ past) m =
    step_both p c w (link_after c past).forth (link_after c past).back s m.0
    (facts_after p c w past m.1)
facts_after p c w (Doing.back s ∷ past) m =
    let z =
    step_both p c w (link_after c past).back (link_after c past).forth s m.0
    (let y = facts_after p c w past m.1 in (y.1, y.0)) in (z.1, z.0)

-- a return pointer that is the one sent last stands for the same packets
pub same_ack : (p : Profile) (c : Setup) → c.retry ≤ window p → (x y : Side) → Both c x y →
    pointer p (wire y).first x.ack_sent ≡ pointer p (wire y).first (wire y).accepted →
    x.ack_sent ≡ (wire y).accepted
same_ack p c w x y b q =
    let o = b.1.joined.order in
    apart p c.retry (wire y) w o x.ack_sent (wire y).accepted b.0.least
    (omega (arith, b.0.most, o.accepted)) o.acked o.accepted q
