-- Each event that may come keeps the invariant (Order). The clauses on one direction cite it.
use Rattle.std.proofs.Common.{◌≡◌, ℕ, zero, suc, ◌+◌, ◌≤◌, List, [], ◌∷◌, length, refl, ap, arith}
use Rattle.hmc_numbers.specs.Weights.{Weight, size}
use Rattle.hmc_numbers.specs.Direction.{Item, Reached, Direction, position, rest, front_or, number_of, came_of}
use Rattle.hmc_numbers.specs.Events.{Reading, Event, happens, after, begun_new, begun_again, landed}
use Rattle.hmc_numbers.specs.May.{IsSome, IsNoPart, IsMiddle, IsEnd, IsShut, IsGood, CanReadAs, May, MayAll}
use Rattle.hmc_numbers.specs.Direction.Item.{filler, clear, part}
use Rattle.hmc_numbers.specs.Direction.Reached.{training, aborting, between, inside, spoilt}
use Rattle.hmc_numbers.specs.Events.Reading.{plain, as_clear}
use Rattle.hmc_numbers.specs.Events.Event.{rests, sends_filler, sends_clear, begins, begins_through, begins_again, goes_on, acknowledges, drops, trains, opens, passes, gathers, accepts, repeats, spoils, breaks, unlocks}
use Rattle.hmc_numbers.proofs.Sums.{size-valid}
use Rattle.hmc_numbers.proofs.Fits.{Fits, FitsLater, Keeps, keeps_later, keeps_later_rest, keeps_good, opens_rest, passes_rest, ends_rest}
use Rattle.hmc_numbers.proofs.Chain.{AtEnd, chain_front, FarIs, gathers_rest}
use Rattle.hmc_numbers.proofs.Near.{Real, real_front}
use Rattle.hmc_numbers.proofs.Runs.{clear_run_lands, start_run_lands, clear_run_sent}
use Rattle.hmc_numbers.proofs.Order.{Order, Stands, stands_up, stands_going, order_opening, order_filler, order_clear, order_new, order_again, order_next, order_acked, order_landed, order_unlocked}

some_no_part : (xs : List Item) → IsNoPart xs → IsSome xs
some_no_part [] c = absurd c
some_no_part (x ∷ xs) c = tt

some_middle : (xs : List Item) → IsMiddle xs → IsSome xs
some_middle [] c = absurd c
some_middle (x ∷ xs) c = tt

some_end : (xs : List Item) → IsEnd xs → IsSome xs
some_end [] c = absurd c
some_end (x ∷ xs) c = tt

front_is : (x y : Item) (xs : List Item) → IsSome xs → front_or x xs ≡ y → xs ≡ y ∷ rest xs
front_is x y [] i e = absurd i
front_is x y (z ∷ zs) i e = ap (λ u. u ∷ zs) e

came_no_part : (x : Item) (xs : List Item) → IsNoPart xs → came_of (front_or x xs) ≡ 0
came_no_part x [] c = absurd c
came_no_part x (filler f ∷ xs) c = refl
came_no_part x (clear ∷ xs) c = refl
came_no_part x (part n k more ∷ xs) c = absurd c

came_middle : (x : Item) (xs : List Item) → IsMiddle xs → 1 ≤ came_of (front_or x xs)
came_middle x [] c = absurd c
came_middle x (filler f ∷ xs) c = absurd c
came_middle x (clear ∷ xs) c = absurd c
came_middle x (part n k zero ∷ xs) c = absurd c
came_middle x (part n k (suc more) ∷ xs) c = omega arith

came_end : (x : Item) (xs : List Item) → IsEnd xs → came_of (front_or x xs) ≡ 0
came_end x [] c = absurd c
came_end x (filler f ∷ xs) c = absurd c
came_end x (clear ∷ xs) c = absurd c
came_end x (part n k zero ∷ xs) c = refl
came_end x (part n k (suc more) ∷ xs) c = absurd c

pub number_real : (ps : List Weight) (x : Item) → Real ps x → number_of x ≤ length ps
number_real ps (filler f) r = omega arith
number_real ps clear r = omega arith
number_real ps (part n k more) r = r.1

shut_keeps : (far : Reached) (E : ℕ → Type 0) (a : ℕ) (xs : List Item) → IsShut far → FitsLater E a xs → Keeps far E a xs
shut_keeps training E a xs s h = h
shut_keeps aborting E a xs s h = h
shut_keeps between E a xs s h = absurd s
shut_keeps (inside n k) E a xs s h = absurd s
shut_keeps spoilt E a xs s h = absurd s

shut_is : (far : Reached) (x : Item) → IsShut far → FarIs far x
shut_is training x s = tt
shut_is aborting x s = tt
shut_is between x s = absurd s
shut_is (inside n k) x s = absurd s
shut_is spoilt x s = absurd s

-- a landing that accepts nothing
lands : (r : ℕ) (w : Direction) (far : Reached) (reading : Reading) → Order r w → IsSome w.line → CanReadAs (front_or w.before w.line) reading →
    FarIs far (front_or w.before w.line) → Keeps far (Stands w.acked w.last w.left) w.accepted (rest w.line) → Order r (landed w w.accepted far reading)
lands r w far reading o i c f k =
    let g = chain_front (AtEnd (size w.first w.last) w.last w.left) w.before w.line i o.chain in
    order_landed r w w.accepted far reading o (omega arith) (omega arith) o.accepted f k
    (clear_run_lands w.before (front_or w.before w.line) reading w.clear_run g c o.clear_run) (start_run_lands w.before (front_or w.before w.line) reading w.start_run g c o.start_run)

pub later_rest : (r : ℕ) (w : Direction) → Order r w → FitsLater (Stands w.acked w.last w.left) w.accepted (rest w.line)
later_rest r w o = keeps_later_rest w.far (Stands w.acked w.last w.left) w.accepted w.line o.keeps

pub fits_good : (r : ℕ) (w : Direction) → Order r w → IsGood w.far → Fits (Stands w.acked w.last w.left) w.accepted w.accepted w.line
fits_good r w o g = keeps_good w.far (Stands w.acked w.last w.left) w.accepted w.line g o.keeps

-- the 17th and each later flit of a run was sent as a Clear
pub clear_front : (r : ℕ) (w : Direction) → Order r w → IsSome w.line → CanReadAs (front_or w.before w.line) as_clear → 16 ≤ w.clear_run → front_or w.before w.line ≡ clear
clear_front r w o i c l =
    let g = chain_front (AtEnd (size w.first w.last) w.last w.left) w.before w.line i o.chain in
    clear_run_sent w.first (front_or w.before w.line) (suc w.clear_run) o.valid_sizes (real_front r w.first w.accepted w.before w.line o.real o.near)
    (clear_run_lands w.before (front_or w.before w.line) as_clear w.clear_run g c o.clear_run) (omega arith)

pub order_step : (r : ℕ) (w : Direction) (e : Event) → Order r w → May r w e → Order r (happens w e)
order_step r w rests o m = o
order_step r w (sends_filler f) o m = order_filler r w (filler f) refl (λ e E h. h) tt (λ z h. h) (λ d. tt) o m.0
order_step r w sends_clear o m = order_clear r w o m
order_step r w (begins s) o m = order_next r (begun_new w s) (order_new r w s o m.0 m.1 m.2) m.1.0
order_step r w (begins_through s) o m = order_new r w s o m.0 m.1 m.2
order_step r w begins_again o m =
    let b = order_again r w o m.0 m.1 m.2 in
    order_next r (begun_again w) b (size-valid w.first (position w + 1) o.valid_sizes (omega arith) (omega (arith, m.2))).least
order_step r w goes_on o m = order_next r w o m
order_step r w (acknowledges n) o m = order_acked r w n o m.0 m.1
order_step r w (drops reading) o m = lands r w w.far reading o m.1 m.2 (shut_is w.far (front_or w.before w.line) m.0) (shut_keeps w.far (Stands w.acked w.last w.left) w.accepted (rest w.line) m.0 (later_rest r w o))
order_step r w trains o m = lands r w aborting plain o m.1 tt tt (later_rest r w o)
order_step r w opens o m =
    let e = clear_front r w o m.1 m.2 (omega (arith, m.3)) in
    lands r w between as_clear o m.1 m.2 (ap came_of e) (opens_rest (Stands w.acked w.last w.left) w.accepted w.line (rest w.line) (front_is w.before clear w.line m.1 e) (keeps_later w.far (Stands w.acked w.last w.left) w.accepted w.line o.keeps))
order_step r w (passes reading) o m =
    lands r w between reading o (some_no_part w.line m.1) m.2 (came_no_part w.before w.line m.1) (passes_rest (Stands w.acked w.last w.left) w.accepted w.line m.1 (fits_good r w o m.0))
order_step r w gathers o m =
    lands r w (inside (number_of (front_or w.before w.line)) (came_of (front_or w.before w.line))) plain o (some_middle w.line m.1) tt (refl, refl, came_middle w.before w.line m.1)
    (gathers_rest (Stands w.acked w.last w.left) (size w.first w.last) w.last w.left w.accepted w.before w.line (λ l n. stands_going w.acked w.last w.left w.accepted l n) m.1 o.chain (fits_good r w o m.0))
order_step r w accepts o m =
    let i = some_end w.line m.1 in
    let g = chain_front (AtEnd (size w.first w.last) w.last w.left) w.before w.line i o.chain in
    let t = real_front r w.first w.accepted w.before w.line o.real o.near in
    let x : Item = front_or w.before w.line in
    let b = number_real w.first x t in
    let e : number_of x ≡ w.accepted + 1 = m.2 in
    order_landed r w (w.accepted + 1) between plain o (omega arith) (omega arith) (omega arith) (came_end w.before w.line m.1)
    (ends_rest (Stands w.acked w.last w.left) w.accepted (w.accepted + 1) w.before w.line (stands_up w.acked w.last w.left) m.1 (omega arith) (omega arith) (fits_good r w o m.0))
    (clear_run_lands w.before x plain w.clear_run g tt o.clear_run) (start_run_lands w.before x plain w.start_run g tt o.start_run)
order_step r w repeats o m =
    lands r w between plain o (some_end w.line m.1) tt (came_end w.before w.line m.1)
    (ends_rest (Stands w.acked w.last w.left) w.accepted w.accepted w.before w.line (stands_up w.acked w.last w.left) m.1 (omega arith) m.2 (fits_good r w o m.0))
order_step r w (spoils c) o m = lands r w spoilt plain o m.1 tt tt (later_rest r w o)
order_step r w (breaks c) o m = lands r w aborting plain o m.1 tt tt (later_rest r w o)
order_step r w unlocks o m = order_unlocked r w o

pub order_after : (r : ℕ) (past : List Event) → MayAll r past → Order r (after past)
order_after r [] m = order_opening r
order_after r (e ∷ past) m = order_step r (after past) e (order_after r past m.1) m.0
