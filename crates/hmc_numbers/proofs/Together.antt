-- What holds of the two directions together, after each turn. PairLaws has what follows.
use Rattle.std.proofs.Common.{◌≡◌, ℕ, ◌+◌, ◌≤◌, List, [], ◌∷◌, ◌++◌, length, refl, sym, ap, subst, arith, length-append}
use Rattle.hmc_numbers.specs.Weights.{upto}
use Rattle.hmc_numbers.specs.Direction.{Item, Direction, rest}
use Rattle.hmc_numbers.specs.Events.{Event, happens}
use Rattle.hmc_numbers.specs.May.{May}
use Rattle.hmc_numbers.specs.Direction.Item.{filler, clear}
use Rattle.hmc_numbers.specs.Direction.Reached.{training}
use Rattle.hmc_numbers.specs.Events.Event.{rests, sends_filler, sends_clear, begins, begins_through, begins_again, goes_on, acknowledges, drops, opens, passes, accepts, repeats, unlocks}
use Rattle.hmc_numbers.specs.Pair.{Half, Pair, half_opening, Move, Turn, way, rest_of_stamps, stamps_after, front_stamp, event_at, own_after, other_after, turned, pair_after}
use Rattle.hmc_numbers.specs.Tokens.{cost, cost_begun, cost_accepted, tokens_begun, tokens_accepted}
use Rattle.hmc_numbers.specs.Turns.{MayHere, MayCount, MayMove, MayTurn, MayTurns}
use Rattle.hmc_numbers.specs.PairLaws.{Rising}
use Rattle.hmc_numbers.specs.Pair.Move.{does, counts, moves}
use Rattle.hmc_numbers.specs.Pair.Turn.{forth, back}
use Rattle.hmc_numbers.specs.Pair.Way.{lands}
use Rattle.hmc_numbers.proofs.Order.{Order, order_opening, order_acked}
use Rattle.hmc_numbers.specs.Direction.{Filler}
use Rattle.hmc_numbers.specs.Direction.Filler.{null, train, pret, start}
use Rattle.hmc_numbers.specs.May.{CanFill}
use Rattle.hmc_numbers.specs.Turns.{MayFill}
use Rattle.hmc_numbers.specs.May.{IsShut}
use Rattle.hmc_numbers.proofs.Trained.{stays_shut, Trained, trained_opening, trained_step}
use Rattle.hmc_numbers.proofs.Step.{order_step}
use Rattle.hmc_numbers.proofs.Effect.{new_weights, effect, after_event, begun_one, begun_none, begun_event}
use Rattle.hmc_numbers.proofs.Rising.{rising_higher, rising_counted, rising_front, rising_after}

-- what holds of direction own beside the other one
pub record Joined (r adv : ℕ) (own other : Half) : Type 0 where
  pub order : Order r own.direction
  pub stamped : length own.stamps ≡ length own.direction.line
  pub stamps : Rising other.direction.acked own.stamps other.direction.accepted
  pub trained : Trained own.direction
  pub trains : other.direction.far ≡ training → (own.direction.left ≡ 0) × (own.direction.clears ≡ 0) × IsShut own.direction.far
  pub held : cost_begun own.direction ≤ tokens_accepted other.direction
  pub used : own.moved ≤ cost_accepted own.direction
  pub due : tokens_begun other.direction ≤ adv + own.moved

pub joined_opening : (r adv : ℕ) → Joined r adv half_opening half_opening
joined_opening r adv = record {
  order = order_opening r;
  stamped = refl;
  stamps = omega arith;
  trained = trained_opening;
  trains = λ q. (refl, refl, tt);
  held = omega arith;
  used = omega arith;
  due = omega arith;
}

-- An event

fill_of : (own other : Half) (f : Filler) → (other.direction.far ≡ training → (own.direction.left ≡ 0) × (own.direction.clears ≡ 0) × IsShut own.direction.far) → MayFill own other f → (own.direction.left ≡ 0) × CanFill own.direction f
fill_of own other train t m = let z = t m in (z.0, (z.1, z.2))
fill_of own other null t m = (m.1, tt)
fill_of own other pret t m = (m.1, tt)
fill_of own other start t m = (m.1, tt)

may_of : (r adv : ℕ) (own other : Half) (e : Event) → (other.direction.far ≡ training → (own.direction.left ≡ 0) × (own.direction.clears ≡ 0) × IsShut own.direction.far) → MayHere r adv own other e → May r own.direction e
may_of r adv own other (sends_filler f) t m = fill_of own other f t m
may_of r adv own other sends_clear t m = m.1
may_of r adv own other (begins s) t m = m.1
may_of r adv own other (begins_through s) t m = m.1
may_of r adv own other begins_again t m = m.1
may_of r adv own other (acknowledges n) t m = absurd m
may_of r adv own other e t m = m

longer : (xs : List Item) (x : Item) (ss : List ℕ) (n : ℕ) → length ss ≡ length xs → length (ss ++ n ∷ []) ≡ length (xs ++ x ∷ [])
longer xs x ss n h = omega (arith, length-append xs (x ∷ []), length-append ss (n ∷ []))

shorter : (xs : List Item) (ss : List ℕ) → length ss ≡ length xs → length (rest_of_stamps ss) ≡ length (rest xs)
shorter [] [] h = refl
shorter [] (s ∷ ss) h = absurd (omega arith)
shorter (x ∷ xs) [] h = absurd (omega arith)
shorter (x ∷ xs) (s ∷ ss) h = omega arith

stamped_after : (w : Direction) (e : Event) (n : ℕ) (ss : List ℕ) → length ss ≡ length w.line → length (stamps_after (way e) n ss) ≡ length (happens w e).line
stamped_after w rests n ss h = h
stamped_after w (sends_filler f) n ss h = longer w.line (filler f) ss n h
stamped_after w sends_clear n ss h = longer w.line clear ss n h
stamped_after w (begins s) n ss h = longer w.line _ ss n h
stamped_after w (begins_through s) n ss h = h
stamped_after w begins_again n ss h = longer w.line _ ss n h
stamped_after w goes_on n ss h = longer w.line _ ss n h
stamped_after w (acknowledges m) n ss h = h
stamped_after w unlocks n ss h = h
stamped_after w e n ss h = shorter w.line ss h

trains_after : (r adv : ℕ) (own other : Half) (e : Event) → Joined r adv own other → MayHere r adv own other e → other.direction.far ≡ training → ((happens own.direction e).left ≡ 0) × ((happens own.direction e).clears ≡ 0) × IsShut (happens own.direction e).far
trains_after r adv own other e j m q =
    let z = j.trains q in
    let n = no_new r adv own other e m q (z.0, z.1) in
    (n.0, n.1, stays_shut r own.direction e j.order j.trained (may_of r adv own other e j.trains m) z.1 z.2)
  where
    no_new : (r adv : ℕ) (own other : Half) (e : Event) → MayHere r adv own other e → other.direction.far ≡ training → (own.direction.left ≡ 0) × (own.direction.clears ≡ 0) → ((happens own.direction e).left ≡ 0) × ((happens own.direction e).clears ≡ 0)
    no_new r adv own other sends_clear m q t = absurd (m.0 q)
    no_new r adv own other (begins s) m q t = absurd (m.0 q)
    no_new r adv own other (begins_through s) m q t = absurd (m.0 q)
    no_new r adv own other begins_again m q t = absurd (m.0 q)
    no_new r adv own other goes_on m q t = absurd (omega (arith, t))
    no_new r adv own other e m q t = t

held_after : (r adv : ℕ) (own other : Half) (e : Event) (w : Direction) → w ≡ own.direction → MayHere r adv own other e → cost_begun w ≤ tokens_accepted other.direction → upto cost (own.direction.first ++ new_weights e) (length (own.direction.first ++ new_weights e)) ≤ tokens_accepted other.direction
held_after r adv own other (begins s) w q m h = let z = begun_one cost own.direction.first s in let a = m.2.0 in omega arith
held_after r adv own other (begins_through s) w q m h = let z = begun_one cost own.direction.first s in let a = m.2.0 in omega arith
held_after r adv own other e w q m h = let z = begun_none cost own.direction.first in let a : cost_begun w ≡ cost_begun own.direction = ap (λ v. cost_begun v) q in omega arith

due_after : (r adv : ℕ) (own other : Half) (e : Event) → MayHere r adv own other e → tokens_begun own.direction ≤ adv + other.moved → upto (λ s. s.returns) (own.direction.first ++ new_weights e) (length (own.direction.first ++ new_weights e)) ≤ adv + other.moved
due_after r adv own other (begins s) m h = let z = begun_one (λ t. t.returns) own.direction.first s in let a = m.2.1 in omega arith
due_after r adv own other (begins_through s) m h = let z = begun_one (λ t. t.returns) own.direction.first s in let a = m.2.1 in omega arith
due_after r adv own other e m h = let z = begun_none (λ t. t.returns) own.direction.first in omega arith

-- what it does to its own direction
own_event : (r adv : ℕ) (own other : Half) (e : Event) → Joined r adv own other → MayHere r adv own other e → Joined r adv (event_at own other.direction.accepted e) other
own_event r adv own other e j m =
    let f = effect r adv own other e m in
    record {
      order = order_step r own.direction e j.order (may_of r adv own other e j.trains m);
      stamped = stamped_after own.direction e other.direction.accepted own.stamps j.stamped;
      stamps = rising_after (way e) other.direction.acked other.direction.accepted own.stamps j.stamps;
      trained = trained_step r own.direction e j.order j.trained (may_of r adv own other e j.trains m);
      trains = trains_after r adv own other e j m;
      held = begun_event cost own.direction (happens own.direction e) (new_weights e) (tokens_accepted other.direction) f (held_after r adv own other e own.direction refl m j.held);
      used = let z = after_event cost own.direction (happens own.direction e) (new_weights e) f j.order.accepted in omega (arith, j.used);
      due = j.due;
    }

-- and to the other one
other_event : (r adv : ℕ) (own other : Half) (e : Event) → Joined r adv own other → Joined r adv other own → MayHere r adv own other e → Joined r adv other (event_at own other.direction.accepted e)
other_event r adv own other e j k m =
    let f = effect r adv own other e m in
    record {
      order = k.order;
      stamped = k.stamped;
      stamps = subst (λ n. Rising n other.stamps (happens own.direction e).accepted) (sym f.acked) (rising_higher own.direction.acked own.direction.accepted (happens own.direction e).accepted other.stamps f.accepted k.stamps);
      trained = k.trained;
      trains = λ q. k.trains (f.far q);
      held = let z = after_event (λ s. s.returns) own.direction (happens own.direction e) (new_weights e) f j.order.accepted in omega (arith, k.held);
      used = k.used;
      due = begun_event (λ s. s.returns) own.direction (happens own.direction e) (new_weights e) (adv + other.moved) f (due_after r adv own other e m k.due);
    }

-- A landing whose return pointer is taken

counted_lands : (w : Direction) (e : Event) → MayCount w e → way e ≡ lands
counted_lands w (drops reading) c = refl
counted_lands w opens c = refl
counted_lands w (passes reading) c = refl
counted_lands w accepts c = refl
counted_lands w repeats c = refl
counted_lands w e c = absurd c

own_counted : (r adv : ℕ) (own other : Half) (e : Event) → Joined r adv own other → MayHere r adv own other e → MayCount own.direction e → Joined r adv (own_after own other.direction.accepted (counts e)) (other_after own other (counts e))
own_counted r adv own other e j m c =
    let k = own_event r adv own other e j m in
    record {
      order = k.order;
      stamped = k.stamped;
      stamps = subst (λ w. Rising (front_stamp other.direction.acked own.stamps) (stamps_after w other.direction.accepted own.stamps) other.direction.accepted) (sym (counted_lands own.direction e c)) (rising_counted other.direction.acked other.direction.accepted own.stamps j.stamps);
      trained = k.trained;
      trains = k.trains;
      held = k.held;
      used = k.used;
      due = k.due;
    }

other_counted : (r adv : ℕ) (own other : Half) (e : Event) → Joined r adv own other → Joined r adv other own → MayHere r adv own other e → Joined r adv (other_after own other (counts e)) (own_after own other.direction.accepted (counts e))
other_counted r adv own other e j i m =
    let k = other_event r adv own other e j i m in
    let f = rising_front other.direction.acked other.direction.accepted own.stamps j.stamps in
    record {
      order = order_acked r other.direction (front_stamp other.direction.acked own.stamps) i.order f.0 f.1;
      stamped = k.stamped;
      stamps = k.stamps;
      trained = record { trains = i.trained.trains; uncleared = i.trained.uncleared };
      trains = k.trains;
      held = k.held;
      used = k.used;
      due = k.due;
    }

-- A move

pub own_moved : (r adv : ℕ) (own other : Half) (m : Move) → Joined r adv own other → MayMove r adv own other m → Joined r adv (own_after own other.direction.accepted m) (other_after own other m)
own_moved r adv own other (does e) j m = own_event r adv own other e j m
own_moved r adv own other (counts e) j m = own_counted r adv own other e j m.0 m.1
own_moved r adv own other (moves k) j m = record { order = j.order; stamped = j.stamped; stamps = j.stamps; trained = j.trained; trains = j.trains; held = j.held; used = omega (arith, j.used); due = omega (arith, j.due) }

pub other_moved : (r adv : ℕ) (own other : Half) (m : Move) → Joined r adv own other → Joined r adv other own → MayMove r adv own other m → Joined r adv (other_after own other m) (own_after own other.direction.accepted m)
other_moved r adv own other (does e) j i m = other_event r adv own other e j i m
other_moved r adv own other (counts e) j i m = other_counted r adv own other e j i m.0
other_moved r adv own other (moves k) j i m = record { order = i.order; stamped = i.stamped; stamps = i.stamps; trained = i.trained; trains = i.trains; held = i.held; used = i.used; due = i.due }

pub record Both (r adv : ℕ) (p : Pair) : Type 0 where
  pub forth : Joined r adv p.forth p.back
  pub back : Joined r adv p.back p.forth

pub both_step : (r adv : ℕ) (p : Pair) (t : Turn) → Both r adv p → MayTurn r adv p t → Both r adv (turned p t)
both_step r adv p (forth m) b t = record { forth = own_moved r adv p.forth p.back m b.forth t; back = other_moved r adv p.forth p.back m b.forth b.back t }
both_step r adv p (back m) b t = record { forth = other_moved r adv p.back p.forth m b.back b.forth t; back = own_moved r adv p.back p.forth m b.back t }

pub both_after : (r adv : ℕ) (past : List Turn) → MayTurns r adv past → Both r adv (pair_after past)
both_after r adv [] m = record { forth = joined_opening r adv; back = joined_opening r adv }
both_after r adv (t ∷ past) m = both_step r adv (pair_after past) t (both_after r adv past m.1) m.0
