-- On a line training flits are before all Clears, so none lands in Good. Used by DirectionLaws and
-- Together.
use Rattle.std.proofs.Common.{◌≡◌, ℕ, zero, suc, ◌+◌, List, [], ◌∷◌, ◌++◌, Bool, subst, arith}
use Rattle.hmc_numbers.specs.Direction.{Filler, Item, Reached, Direction, opening, rest, front_or}
use Rattle.hmc_numbers.specs.Direction.Filler.{train}
use Rattle.hmc_numbers.specs.Direction.Item.{filler, clear, part}
use Rattle.hmc_numbers.specs.Direction.Reached.{training, aborting, between, inside, spoilt}
use Rattle.hmc_numbers.specs.Events.{Event, happens, after, far_unlocked}
use Rattle.hmc_numbers.specs.Events.Event.{rests, sends_filler, sends_clear, begins, begins_through, begins_again, goes_on, acknowledges, drops, trains, opens, passes, gathers, accepts, repeats, spoils, breaks, unlocks}
use Rattle.hmc_numbers.specs.May.{IsShut, IsGood, IsTouched, IsSome, CanFill, May, MayAll}
use Rattle.hmc_numbers.proofs.Order.{Order}
use Rattle.hmc_numbers.proofs.Step.{clear_front, order_after}

abbrev pub IsTrain : Item → Type 0
IsTrain (filler train) = Unit {0}
IsTrain x = ⊥

abbrev pub NoTrain : List Item → Type 0
NoTrain [] = Unit {0}
NoTrain (x ∷ xs) = (IsTrain x → ⊥) × NoTrain xs

-- no training flit is after a Clear
abbrev pub Early : List Item → Type 0
Early [] = Unit {0}
Early (clear ∷ xs) = NoTrain xs
Early (x ∷ xs) = Early xs

abbrev pub NoClear : List Item → Type 0
NoClear [] = Unit {0}
NoClear (clear ∷ xs) = ⊥
NoClear (x ∷ xs) = NoClear xs

abbrev pub Trains : Reached → List Item → Type 0
Trains training xs = Early xs
Trains aborting xs = Early xs
Trains far xs = NoTrain xs

abbrev pub Uncleared : (clears : ℕ) → List Item → Type 0
Uncleared zero xs = NoClear xs
Uncleared (suc n) xs = Unit {0}

pub record Trained (w : Direction) : Type 0 where
  pub trains : Trains w.far w.line
  pub uncleared : Uncleared w.clears w.line

-- Lines

early : (xs : List Item) → NoTrain xs → Early xs
early [] h = tt
early (clear ∷ xs) h = h.1
early (filler f ∷ xs) h = early xs h.1
early (part n k more ∷ xs) h = early xs h.1

early_rest : (xs : List Item) → Early xs → Early (rest xs)
early_rest [] h = tt
early_rest (clear ∷ xs) h = early xs h
early_rest (filler f ∷ xs) h = h
early_rest (part n k more ∷ xs) h = h

no_train_rest : (xs : List Item) → NoTrain xs → NoTrain (rest xs)
no_train_rest [] h = tt
no_train_rest (x ∷ xs) h = h.1

no_clear_rest : (xs : List Item) → NoClear xs → NoClear (rest xs)
no_clear_rest [] h = tt
no_clear_rest (clear ∷ xs) h = absurd h
no_clear_rest (filler f ∷ xs) h = h
no_clear_rest (part n k more ∷ xs) h = h

no_train_snoc : (xs : List Item) (x : Item) → (IsTrain x → ⊥) → NoTrain xs → NoTrain (xs ++ x ∷ [])
no_train_snoc [] x n h = (n, tt)
no_train_snoc (y ∷ ys) x n h = (h.0, no_train_snoc ys x n h.1)

early_snoc : (xs : List Item) (x : Item) → (IsTrain x → ⊥) → Early xs → Early (xs ++ x ∷ [])
early_snoc [] clear n h = tt
early_snoc [] (filler f) n h = tt
early_snoc [] (part m k more) n h = tt
early_snoc (clear ∷ ys) x n h = no_train_snoc ys x n h
early_snoc (filler f ∷ ys) x n h = early_snoc ys x n h
early_snoc (part m k more ∷ ys) x n h = early_snoc ys x n h

early_train : (xs : List Item) (f : Filler) → NoClear xs → Early (xs ++ filler f ∷ [])
early_train [] f h = tt
early_train (clear ∷ ys) f h = absurd h
early_train (filler g ∷ ys) f h = early_train ys f h
early_train (part m k more ∷ ys) f h = early_train ys f h

no_clear_snoc : (xs : List Item) (x : Item) → NoClear (x ∷ []) → NoClear xs → NoClear (xs ++ x ∷ [])
no_clear_snoc [] x n h = n
no_clear_snoc (clear ∷ ys) x n h = absurd h
no_clear_snoc (filler g ∷ ys) x n h = no_clear_snoc ys x n h
no_clear_snoc (part m k more ∷ ys) x n h = no_clear_snoc ys x n h

trains_early : (far : Reached) (xs : List Item) → Trains far xs → Early xs
trains_early training xs h = h
trains_early aborting xs h = h
trains_early far xs h = early xs h

trains_snoc : (far : Reached) (xs : List Item) (x : Item) → (IsTrain x → ⊥) → Trains far xs → Trains far (xs ++ x ∷ [])
trains_snoc training xs x n h = early_snoc xs x n h
trains_snoc aborting xs x n h = early_snoc xs x n h
trains_snoc far xs x n h = no_train_snoc xs x n h

trains_rest : (far : Reached) (xs : List Item) → Trains far xs → Trains far (rest xs)
trains_rest training xs h = early_rest xs h
trains_rest aborting xs h = early_rest xs h
trains_rest far xs h = no_train_rest xs h

trains_good : (far : Reached) (xs : List Item) → IsGood far → Trains far xs → NoTrain xs
trains_good between xs g h = h
trains_good (inside n k) xs g h = h
trains_good far xs g h = absurd g

trains_touched : (far : Reached) (c : Bool) (xs : List Item) → IsTouched far c → Trains far xs → NoTrain xs
trains_touched between c xs g h = h
trains_touched (inside n k) c xs g h = h
trains_touched spoilt c xs g h = h
trains_touched far c xs g h = absurd g

trains_train : (far : Reached) (xs : List Item) → IsShut far → NoClear xs → Trains far (xs ++ filler train ∷ [])
trains_train training xs s h = early_train xs train h
trains_train aborting xs s h = early_train xs train h
trains_train far xs s h = absurd s

trains_unlocked : (far : Reached) (xs : List Item) → Trains far xs → Trains (far_unlocked far) xs
trains_unlocked training xs h = h
trains_unlocked aborting xs h = h
trains_unlocked far xs h = early xs h

shut_unlocked : (far : Reached) → IsShut (far_unlocked far)
shut_unlocked training = tt
shut_unlocked far = tt

opens_front : (x : Item) (xs : List Item) → IsSome xs → front_or x xs ≡ clear → Early xs → NoTrain (rest xs)
opens_front x [] i e h = absurd i
opens_front x (clear ∷ xs) i e h = h
opens_front x (y ∷ xs) i e h = absurd (cc e)

no_clear_front : (x : Item) (xs : List Item) → IsSome xs → front_or x xs ≡ clear → NoClear xs → ⊥
no_clear_front x [] i e h = i
no_clear_front x (clear ∷ xs) i e h = h
no_clear_front x (y ∷ xs) i e h = cc e

-- Clears that were sent

uncleared_snoc : (c : ℕ) (xs : List Item) (x : Item) → NoClear (x ∷ []) → Uncleared c xs → Uncleared c (xs ++ x ∷ [])
uncleared_snoc zero xs x n h = no_clear_snoc xs x n h
uncleared_snoc (suc c) xs x n h = tt

uncleared_rest : (c : ℕ) (xs : List Item) → Uncleared c xs → Uncleared c (rest xs)
uncleared_rest zero xs h = no_clear_rest xs h
uncleared_rest (suc c) xs h = tt

uncleared_more : (c : ℕ) (xs : List Item) → Uncleared (c + 1) xs
uncleared_more c xs = let e : suc c ≡ c + 1 = omega arith in subst (λ n. Uncleared n xs) e tt

-- Events

fills : (w : Direction) (f : Filler) → CanFill w f → Trained w → Trained (happens w (sends_filler f))
fills w train c t =
    let u : NoClear w.line = subst (λ n. Uncleared n w.line) c.0 t.uncleared in
    record { trains = trains_train w.far w.line c.1 u; uncleared = uncleared_snoc w.clears w.line (filler train) tt t.uncleared }
fills w f c t = record { trains = trains_snoc w.far w.line (filler f) (λ i. i) t.trains; uncleared = uncleared_snoc w.clears w.line (filler f) tt t.uncleared }

sends_part : (w : Direction) (n k more : ℕ) → Trained w → Trained (record w { line = w.line ++ part n k more ∷ [] })
sends_part w n k more t = record { trains = trains_snoc w.far w.line (part n k more) (λ i. i) t.trains; uncleared = uncleared_snoc w.clears w.line (part n k more) tt t.uncleared }

good_rest : (w : Direction) → IsGood w.far → Trained w → NoTrain (rest w.line)
good_rest w g t = no_train_rest w.line (trains_good w.far w.line g t.trains)

landed_rest : (w : Direction) → Trained w → Early (rest w.line)
landed_rest w t = early_rest w.line (trains_early w.far w.line t.trains)

pub trained_step : (r : ℕ) (w : Direction) (e : Event) → Order r w → Trained w → May r w e → Trained (happens w e)
trained_step r w rests o t m = t
trained_step r w (sends_filler f) o t m = fills w f m.1 t
trained_step r w sends_clear o t m = record { trains = trains_snoc w.far w.line clear (λ i. i) t.trains; uncleared = uncleared_more w.clears (w.line ++ clear ∷ []) }
trained_step r w (begins s) o t m = let z = sends_part w _ _ _ t in record { trains = z.trains; uncleared = z.uncleared }
trained_step r w (begins_through s) o t m = record { trains = t.trains; uncleared = t.uncleared }
trained_step r w begins_again o t m = let z = sends_part w _ _ _ t in record { trains = z.trains; uncleared = z.uncleared }
trained_step r w goes_on o t m = let z = sends_part w _ _ _ t in record { trains = z.trains; uncleared = z.uncleared }
trained_step r w (acknowledges n) o t m = record { trains = t.trains; uncleared = t.uncleared }
trained_step r w (drops reading) o t m = record { trains = trains_rest w.far w.line t.trains; uncleared = uncleared_rest w.clears w.line t.uncleared }
trained_step r w trains o t m = record { trains = landed_rest w t; uncleared = uncleared_rest w.clears w.line t.uncleared }
trained_step r w opens o t m =
    let e = clear_front r w o m.1 m.2 (omega (arith, m.3)) in
    record { trains = opens_front w.before w.line m.1 e (trains_early w.far w.line t.trains); uncleared = uncleared_rest w.clears w.line t.uncleared }
trained_step r w (passes reading) o t m = record { trains = good_rest w m.0 t; uncleared = uncleared_rest w.clears w.line t.uncleared }
trained_step r w gathers o t m = record { trains = good_rest w m.0 t; uncleared = uncleared_rest w.clears w.line t.uncleared }
trained_step r w accepts o t m = record { trains = good_rest w m.0 t; uncleared = uncleared_rest w.clears w.line t.uncleared }
trained_step r w repeats o t m = record { trains = good_rest w m.0 t; uncleared = uncleared_rest w.clears w.line t.uncleared }
trained_step r w (spoils c) o t m = record { trains = no_train_rest w.line (trains_touched w.far c w.line m.0 t.trains); uncleared = uncleared_rest w.clears w.line t.uncleared }
trained_step r w (breaks c) o t m = record { trains = landed_rest w t; uncleared = uncleared_rest w.clears w.line t.uncleared }
trained_step r w unlocks o t m = record { trains = trains_unlocked w.far w.line t.trains; uncleared = t.uncleared }

pub trained_opening : Trained opening
trained_opening = record { trains = tt; uncleared = tt }

pub trained_after : (r : ℕ) (past : List Event) → MayAll r past → Trained (after past)
trained_after r [] m = trained_opening
trained_after r (e ∷ past) m = trained_step r (after past) e (order_after r past m.1) (trained_after r past m.1) m.0

-- none lands in Good
pub no_train_in_good : (w : Direction) (xs : List Item) → Trained w → IsGood w.far → w.line ≡ filler train ∷ xs → ⊥
no_train_in_good w xs t g q = let z : NoTrain (filler train ∷ xs) = subst NoTrain q (trains_good w.far w.line g t.trains) in z.0 tt

-- while no Clear was sent, a receiver that is in Train or Abort stays so

good_shut : (far far' : Reached) → IsGood far → IsShut far → IsShut far'
good_shut between far' g s = absurd s
good_shut (inside n k) far' g s = absurd s
good_shut far far' g s = absurd g

touched_shut : (far far' : Reached) (c : Bool) → IsTouched far c → IsShut far → IsShut far'
touched_shut training far' c g s = absurd g
touched_shut aborting far' c g s = absurd g
touched_shut far far' c g s = absurd s

pub stays_shut : (r : ℕ) (w : Direction) (e : Event) → Order r w → Trained w → May r w e → w.clears ≡ 0 → IsShut w.far → IsShut (happens w e).far
stays_shut r w trains o t m c s = tt
stays_shut r w opens o t m c s =
    let u : NoClear w.line = subst (λ n. Uncleared n w.line) c t.uncleared in
    absurd (no_clear_front w.before w.line m.1 (clear_front r w o m.1 m.2 (omega (arith, m.3))) u)
stays_shut r w (passes reading) o t m c s = good_shut w.far between m.0 s
stays_shut r w gathers o t m c s = good_shut w.far (inside 0 0) m.0 s
stays_shut r w accepts o t m c s = good_shut w.far between m.0 s
stays_shut r w repeats o t m c s = good_shut w.far between m.0 s
stays_shut r w (spoils d) o t m c s = touched_shut w.far spoilt d m.0 s
stays_shut r w (breaks d) o t m c s = tt
stays_shut r w unlocks o t m c s = shut_unlocked w.far
stays_shut r w e o t m c s = s
