-- What an event changes of that which the conditions and laws of the other direction read. Used
-- where two directions are joined (Together).
use Rattle.std.proofs.Common.{◌≡◌, ℕ, ◌+◌, ◌≤◌, List, [], ◌∷◌, ◌++◌, length, refl, sym, ◌∙◌, ap, subst, arith, length-append, append-nil}
use Rattle.hmc_numbers.specs.Weights.{Weight, upto}
use Rattle.hmc_numbers.specs.Direction.{Reached, Direction, begun}
use Rattle.hmc_numbers.specs.Events.{Event, happens, far_unlocked}
use Rattle.hmc_numbers.specs.Direction.Reached.{training, aborting, between, inside, spoilt}
use Rattle.hmc_numbers.specs.Events.Event.{rests, sends_filler, sends_clear, begins, begins_through, begins_again, goes_on, acknowledges, drops, unlocks}
use Rattle.hmc_numbers.specs.Pair.{Half}
use Rattle.hmc_numbers.specs.Turns.{MayHere}
use Rattle.hmc_numbers.proofs.Sums.{upto-append, upto-snoc, upto-up}

-- w before an event, v after it; s are the packets that it begins for the first time
pub record Effect (w : Direction) (s : List Weight) (v : Direction) : Type 0 where
  pub first : v.first ≡ w.first ++ s
  pub acked : v.acked ≡ w.acked
  pub accepted : w.accepted ≤ v.accepted
  pub far : v.far ≡ training → w.far ≡ training

abbrev pub new_weights : Event → List Weight
new_weights (begins s) = s ∷ []
new_weights (begins_through s) = s ∷ []
new_weights e = []

pub same_first : (xs : List Weight) → xs ≡ xs ++ []
same_first xs = sym (append-nil xs)

pub was_training : (far : Reached) → far_unlocked far ≡ training → far ≡ training
was_training training q = refl
was_training aborting q = absurd (cc q)
was_training between q = absurd (cc q)
was_training (inside n k) q = absurd (cc q)
was_training spoilt q = absurd (cc q)

pub effect : (r adv : ℕ) (own other : Half) (e : Event) → MayHere r adv own other e → Effect own.direction (new_weights e) (happens own.direction e)
effect r adv own other (begins s) m = record { first = refl; acked = refl; accepted = omega arith; far = λ q. q }
effect r adv own other (begins_through s) m = record { first = refl; acked = refl; accepted = omega arith; far = λ q. q }
effect r adv own other (acknowledges n) m = absurd m
effect r adv own other unlocks m = record { first = same_first own.direction.first; acked = refl; accepted = omega arith; far = was_training own.direction.far }
effect r adv own other rests m = record { first = same_first own.direction.first; acked = refl; accepted = omega arith; far = λ q. q }
effect r adv own other (sends_filler f) m = record { first = same_first own.direction.first; acked = refl; accepted = omega arith; far = λ q. q }
effect r adv own other sends_clear m = record { first = same_first own.direction.first; acked = refl; accepted = omega arith; far = λ q. q }
effect r adv own other begins_again m = record { first = same_first own.direction.first; acked = refl; accepted = omega arith; far = λ q. q }
effect r adv own other goes_on m = record { first = same_first own.direction.first; acked = refl; accepted = omega arith; far = λ q. q }
effect r adv own other (drops reading) m = record { first = same_first own.direction.first; acked = refl; accepted = omega arith; far = λ q. q }
effect r adv own other e m = record { first = same_first own.direction.first; acked = refl; accepted = omega arith; far = λ q. absurd (cc q) }

-- Sums of an event

pub after_event : (g : Weight → ℕ) (w v : Direction) (s : List Weight) → Effect w s v → w.accepted ≤ begun w → upto g w.first w.accepted ≤ upto g v.first v.accepted
after_event g w v s e l =
    let a : upto g (w.first ++ s) w.accepted ≡ upto g w.first w.accepted = upto-append g w.first s w.accepted l in
    let b : upto g (w.first ++ s) w.accepted ≤ upto g (w.first ++ s) v.accepted = upto-up g (w.first ++ s) w.accepted v.accepted e.accepted in
    subst (λ ps. upto g w.first w.accepted ≤ upto g ps v.accepted) (sym e.first) (omega arith)

pub begun_one : (g : Weight → ℕ) (ps : List Weight) (s : Weight) → upto g (ps ++ s ∷ []) (length (ps ++ s ∷ [])) ≡ upto g ps (length ps) + g s
begun_one g ps s = ap (λ n. upto g (ps ++ s ∷ []) n) (length-append ps (s ∷ [])) ∙ upto-snoc g ps s

pub begun_none : (g : Weight → ℕ) (ps : List Weight) → upto g (ps ++ []) (length (ps ++ [])) ≡ upto g ps (length ps)
begun_none g ps = ap (λ xs. upto g xs (length xs)) (append-nil ps)

pub begun_event : (g : Weight → ℕ) (w v : Direction) (s : List Weight) (k : ℕ) → Effect w s v → upto g (w.first ++ s) (length (w.first ++ s)) ≤ k → upto g v.first (begun v) ≤ k
begun_event g w v s k e l = subst (λ ps. upto g ps (length ps) ≤ k) (sym e.first) l
