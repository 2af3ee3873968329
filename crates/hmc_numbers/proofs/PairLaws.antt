-- The laws of both directions follow from what holds of the two together (Together). The clauses
-- of src/laws.rt that speak of two directions cite it.
use Rattle.std.proofs.Common.{◌≡◌, ℕ, zero, suc, ◌+◌, ◌≤◌, List, ◌∷◌, inl, inr, sym, subst, arith}
use Rattle.hmc_codes.specs.declared.profile.Profile.{Profile}
use Rattle.hmc_codes.specs.Profile.{window_of}
use Rattle.hmc_numbers.specs.Direction.{Item, Direction, begun, front_or}
use Rattle.hmc_numbers.specs.Events.{Reading, Event}
use Rattle.hmc_numbers.specs.May.{IsEnd, CanReadAs}
use Rattle.hmc_numbers.specs.Direction.Filler.{null, train, pret, start}
use Rattle.hmc_numbers.specs.Direction.Item.{filler, clear, part}
use Rattle.hmc_numbers.specs.Events.Reading.{plain, as_start, as_clear}
use Rattle.hmc_numbers.specs.Events.Event.{drops, opens, passes, accepts, repeats}
use Rattle.hmc_numbers.specs.Pair.{Half, Turn, pair_after}
use Rattle.hmc_numbers.specs.Tokens.{cost, cost_begun, cost_accepted, tokens_begun, tokens_accepted, held_tokens, transit_tokens, used_tokens, due_tokens, returning_tokens}
use Rattle.hmc_numbers.specs.Turns.{MayHere, MayCount, IsLong, IsPret, MayTurns}
use Rattle.hmc_numbers.specs.PairLaws.{Points, HalfLaws, PairLaws}
use Rattle.hmc_numbers.proofs.Sums.{upto-up}
use Rattle.hmc_numbers.proofs.Order.{Order}
use Rattle.hmc_numbers.proofs.DirectionLaws.{order_laws, clears, starts}
use Rattle.hmc_numbers.proofs.Together.{Joined, both_after}

-- The laws

end_points : (x : Item) (xs ys : List Item) → ys ≡ x ∷ xs → IsEnd ys → Points x
end_points (filler f) xs ys q e = absurd (subst IsEnd q e)
end_points clear xs ys q e = tt
end_points (part n k zero) xs ys q e = tt
end_points (part n k (suc more)) xs ys q e = absurd (subst IsEnd q e)

pret_points : (x : Item) → IsPret x → Points x
pret_points (filler pret) p = tt
pret_points (filler null) p = absurd p
pret_points (filler train) p = absurd p
pret_points (filler start) p = absurd p
pret_points clear p = absurd p
pret_points (part n k more) p = absurd p

can_read : (w : Direction) (reading : Reading) (x : Item) (xs : List Item) → w.line ≡ x ∷ xs → CanReadAs (front_or w.before w.line) reading → CanReadAs x reading
can_read w reading x xs q c = subst (λ ys. CanReadAs (front_or w.before ys) reading) q c

long_points : (r : ℕ) (w : Direction) (reading : Reading) → Order r w → IsLong w reading → (x : Item) (xs : List Item) → w.line ≡ x ∷ xs → CanReadAs (front_or w.before w.line) reading → Points x
long_points r w plain o l x xs q c = absurd l
long_points r w as_start o l x xs q c = subst Points (sym (starts r w o x xs q (can_read w as_start x xs q c) (omega arith))) tt
long_points r w as_clear o l x xs q c = subst Points (sym (clears r w o x xs q (can_read w as_clear x xs q c) (omega arith))) tt

-- a return pointer that is taken was sent as one
pub points : (r adv : ℕ) (own other : Half) → Order r own.direction → (e : Event) → MayHere r adv own other e → MayCount own.direction e → (x : Item) (xs : List Item) → own.direction.line ≡ x ∷ xs → Points x
points r adv own other o (drops reading) m c x xs q = long_points r own.direction reading o c.1 x xs q m.2
points r adv own other o opens m c x xs q = subst Points (sym (clears r own.direction o x xs q (can_read own.direction as_clear x xs q m.2) (omega (arith, m.3)))) tt
points r adv own other o (passes reading) m (inl c) x xs q = long_points r own.direction reading o c x xs q m.2
points r adv own other o (passes reading) m (inr c) x xs q = pret_points x (subst (λ ys. IsPret (front_or own.direction.before ys)) q c)
points r adv own other o accepts m c x xs q = end_points x xs own.direction.line q m.1
points r adv own other o repeats m c x xs q = end_points x xs own.direction.line q m.1
points r adv own other o e m c x xs q = absurd c

-- the tokens of direction own
pub record TokenLaws (adv : ℕ) (own other : Half) : Type 0 where
  pub held : cost_begun own.direction ≤ tokens_accepted other.direction
  pub transit : cost_accepted own.direction ≤ cost_begun own.direction
  pub used : own.moved ≤ cost_accepted own.direction
  pub due : tokens_begun other.direction ≤ adv + own.moved
  pub returning : tokens_accepted other.direction ≤ tokens_begun other.direction
  pub fits : used_tokens own ≤ adv
  pub sum : held_tokens own other + transit_tokens own + used_tokens own + due_tokens adv own other + returning_tokens other ≡ adv

token_laws : (r adv : ℕ) (own other : Half) → Joined r adv own other → Joined r adv other own → TokenLaws adv own other
token_laws r adv own other j i =
    let t = upto-up cost own.direction.first own.direction.accepted (begun own.direction) j.order.accepted in
    let b = upto-up (λ s. s.returns) other.direction.first other.direction.accepted (begun other.direction) i.order.accepted in
    let h = j.held in
    let u = j.used in
    let d = j.due in
    record { held = h; transit = t; used = u; due = d; returning = b; fits = omega arith; sum = omega arith }

pub half_laws : (p : Profile) (r adv : ℕ) (own other : Half) → r ≤ window_of p → Joined r adv own other → Joined r adv other own → HalfLaws p r adv own other
half_laws p r adv own other l j i =
    let t = token_laws r adv own other j i in
    record {
      laws = order_laws p r own.direction l j.order j.trained;
      stamped = j.stamped;
      stamps = j.stamps;
      points = points r adv own other j.order;
      trains = j.trains;
      held = t.held;
      transit = t.transit;
      used = t.used;
      due = t.due;
      returning = t.returning;
      fits = t.fits;
      sum = t.sum;
    }

-- Pairs after a list of turns

pub pair_laws : (p : Profile) (r adv : ℕ) (past : List Turn) → r ≤ window_of p → MayTurns r adv past → PairLaws p r adv (pair_after past)
pair_laws p r adv past l m =
    let b = both_after r adv past m in
    let w = pair_after past in
    record { forth = half_laws p r adv w.forth w.back l b.forth b.back; back = half_laws p r adv w.back w.forth l b.back b.forth }

pub tokens_after : (r adv : ℕ) (past : List Turn) → MayTurns r adv past → TokenLaws adv (pair_after past).forth (pair_after past).back × TokenLaws adv (pair_after past).back (pair_after past).forth
tokens_after r adv past m =
    let b = both_after r adv past m in
    let w = pair_after past in
    (token_laws r adv w.forth w.back b.forth b.back, token_laws r adv w.back w.forth b.back b.forth)
