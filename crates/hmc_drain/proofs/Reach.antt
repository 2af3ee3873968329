-- How many packets are accepted once the first flits of a line have landed in Good.
use Rattle.std.proofs.Common.{◌≡◌, ◌≢◌, ℕ, zero, suc, ◌+◌, ◌≤◌, ◌==◌, max, Bool, true, false, if◌then◌else◌, List, [], ◌∷◌, ◌++◌, length, ◌⊎◌, inl, inr, refl, sym, ◌∙◌, ap, subst, arith}
use Rattle.hmc_numbers.specs.Weights.{size}
use Rattle.hmc_numbers.specs.Direction.{Item, Direction, position, rest, front_or, number_of, came_of}
use Rattle.hmc_numbers.specs.Direction.Item.{filler, clear, part}
use Rattle.hmc_numbers.specs.Direction.Filler.{null, train, start, pret}
use Rattle.hmc_numbers.specs.Events.{happens}
use Rattle.hmc_numbers.specs.Events.Event.{accepts, repeats}
use Rattle.hmc_numbers.specs.May.{IsGood}
use Rattle.hmc_numbers.proofs.Chain.{Chain, AtEnd}
use Rattle.hmc_numbers.proofs.Fits.{Fits}
use Rattle.hmc_numbers.proofs.Order.{Order, Stands, stands_up}
use Rattle.hmc_numbers.proofs.Step.{fits_good}
use Rattle.hmc_numbers.proofs.DirectionLaws.{at_most_next}
use Rattle.hmc_link_state.specs.Round.{event_in_good}
use Rattle.hmc_link_state.proofs.Chosen.{eq_same, not_same}

abbrev pub raised : Item → ℕ → ℕ
raised (part n k zero) a = max a n
raised x a = a

abbrev pub reach : (i : ℕ) → ℕ → List Item → ℕ
reach zero a xs = a
reach (suc i) a [] = a
reach (suc i) a (x ∷ xs) = reach i (raised x a) xs

raised_least : (x : Item) (a : ℕ) → a ≤ raised x a
raised_least (part n k zero) a = omega arith
raised_least (part n k (suc more)) a = omega arith
raised_least clear a = omega arith
raised_least (filler f) a = omega arith

reach_least : (i a : ℕ) (xs : List Item) → a ≤ reach i a xs
reach_least zero a xs = omega arith
reach_least (suc i) a [] = omega arith
reach_least (suc i) a (x ∷ xs) =
    let h = reach_least i (raised x a) xs in let z = raised_least x a in omega (arith, h, z)

pub reach_snoc : (i a : ℕ) (xs : List Item) (y : Item) → reach i a xs ≤ reach i a (xs ++ y ∷ [])
reach_snoc zero a xs y = omega arith
reach_snoc (suc i) a [] y =
    let h = reach_least i (raised y a) [] in let z = raised_least y a in omega (arith, h, z)
reach_snoc (suc i) a (x ∷ xs) y = reach_snoc i (raised x a) xs y

pub reach_more : (i j a : ℕ) (xs : List Item) → i ≤ j → reach i a xs ≤ reach j a xs
reach_more zero j a xs l = reach_least j a xs
reach_more (suc i) zero a xs l = absurd (omega (arith, l))
reach_more (suc i) (suc j) a [] l = omega arith
reach_more (suc i) (suc j) a (x ∷ xs) l = reach_more i j (raised x a) xs (omega (arith, l))

-- what Fits says at the end of the line, where no packet is begun there
ends : (E : ℕ → Type 0) (s last a e b : ℕ) (z : Item) (xs : List Item) →
    ((r t : ℕ) → r ≤ t → E r → E t) → a ≤ b → (came_of z ≡ 0 → e ≤ b) →
    (came_of z ≢ 0 → e ≤ max b (number_of z)) →
    Chain (AtEnd s last 0) z xs → Fits E a e xs → E (reach (length xs) b xs)
ends E s last a e b z [] m l f g c h = m e b (f c.0) h
ends E s last a e b z (filler y ∷ xs) m l f g c h =
    ends E s last a e b (filler y) xs m l (λ q. f c.0) (λ q. absurd (q refl)) c.1 h
ends E s last a e b z (clear ∷ xs) m l f g c h =
    ends E s last a a b clear xs m l (λ q. l) (λ q. absurd (q refl)) c.1 h
ends E s last a e b z (part n k zero ∷ xs) m l f g c h =
    ends E s last a (max e n) (max b n) (part n k zero) xs m (omega (arith, l))
    (λ q. by_came (zero_or (came_of z))) (λ q. absurd (q refl)) c.1 h.1
  where
    zero_or : (j : ℕ) → (j ≡ 0) ⊎ (j ≢ 0)
    zero_or zero = inl refl
    zero_or (suc j) = inr (λ q. cc q)

    by_came : (came_of z ≡ 0) ⊎ (came_of z ≢ 0) → max e n ≤ max b n
    by_came (inl q) = let y = f q in omega (arith, y)
    by_came (inr q) =
        let y = g q in
        let u : number_of z ≡ n = c.0.1 (λ t. q (sym c.0.0 ∙ t)) in omega (arith, y, u)
ends E s last a e b z (part n k (suc more) ∷ xs) m l f g c h =
    ends E s last a (max e n) b (part n k (suc more)) xs m l (λ q. absurd (cc q))
    (λ q. by_came (zero_or (came_of z))) c.1 h.1
  where
    zero_or : (j : ℕ) → (j ≡ 0) ⊎ (j ≢ 0)
    zero_or zero = inl refl
    zero_or (suc j) = inr (λ q. cc q)

    by_came : (came_of z ≡ 0) ⊎ (came_of z ≢ 0) → max e n ≤ max b n
    by_came (inl q) = let y = f q in omega (arith, y)
    by_came (inr q) =
        let y = g q in
        let u : number_of z ≡ n = c.0.1 (λ t. q (sym c.0.0 ∙ t)) in omega (arith, y, u)

stands_zero : (acked last left r : ℕ) → left ≡ 0 → Stands acked last left r → max acked last ≤ r
stands_zero acked last zero r q h = h
stands_zero acked last (suc l) r q h = absurd (cc q)

-- all that was sent is accepted once the line has landed, where no packet is begun
pub reaches : (r : ℕ) (w : Direction) → Order r w → IsGood w.far → w.left ≡ 0 →
    position w ≤ reach (length w.line) w.accepted w.line
reaches r w o g q =
    let c : Chain (AtEnd (size w.first w.last) w.last 0) w.before w.line =
    subst (λ l. Chain (AtEnd (size w.first w.last) w.last l) w.before w.line) q o.chain in
    stands_zero w.acked w.last w.left (reach (length w.line) w.accepted w.line) q
    (ends (Stands w.acked w.last w.left) (size w.first w.last) w.last w.accepted w.accepted
    w.accepted w.before w.line (stands_up w.acked w.last w.left) (omega arith) (λ z. omega arith)
    (λ z. omega arith) c (fits_good r w o g))

-- a landing in Good
pub lands_raised : (r : ℕ) (w : Direction) (i : Item) → Order r w → IsGood w.far →
    w.line ≡ i ∷ rest w.line → (happens w (event_in_good w i)).accepted ≡ raised i w.accepted
lands_raised r w (filler null) o g q = refl
lands_raised r w (filler train) o g q = refl
lands_raised r w (filler pret) o g q = refl
lands_raised r w (filler start) o g q = refl
lands_raised r w clear o g q = refl
lands_raised r w (part n k (suc more)) o g q = refl
lands_raised r w (part n k zero) o g q = by_next (n == w.accepted + 1) refl
  where
    by_next : (b : Bool) → (n == w.accepted + 1) ≡ b →
        (happens w (if b then accepts else repeats)).accepted ≡ max w.accepted n
    by_next true e = let z = eq_same n (w.accepted + 1) e in omega (arith, z)
    by_next false e =
        let z = not_same n (w.accepted + 1) e in
        let l : n ≤ w.accepted + 1 = at_most_next r w o n k 0 (rest w.line) g q in
        omega (arith, z, l)

pub reach_lands : (m a : ℕ) (i : Item) (xs : List Item) → xs ≡ i ∷ rest xs →
    reach (suc m) a xs ≡ reach m (raised i a) (rest xs)
reach_lands m a i [] q = absurd (cc q)
reach_lands m a i (x ∷ xs) q =
    let z : x ≡ i = ap (front_or x) q in ap (λ y. reach m (raised y a) xs) z
