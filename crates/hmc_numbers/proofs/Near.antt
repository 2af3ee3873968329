-- Flits on a line are of packets that were begun, and none is so many flits behind that its packet
-- could not be kept. Part of the invariant (Order).
use Rattle.std.proofs.Common.{◌≡◌, ℕ, suc, ◌+◌, ◌<◌, ◌≤◌, max, List, [], ◌∷◌, ◌++◌, length, sym, ◌∙◌, arith, length-append}
use Rattle.hmc_numbers.specs.Weights.{Weight, flits_to, size}
use Rattle.hmc_numbers.specs.Direction.{Item, rest, front_or, number_of}
use Rattle.hmc_numbers.specs.Direction.Item.{filler, clear, part}
use Rattle.hmc_numbers.proofs.Sums.{upto-append, upto-up, size-append}

-- the flit is one of a packet that was begun, at its place
abbrev pub Real : List Weight → Item → Type 0
Real ps (filler f) = Unit {0}
Real ps clear = Unit {0}
Real ps (part n k more) = (1 ≤ n) × (n ≤ length ps) × (k + suc more ≡ size ps n)

-- e is the greatest of what is accepted and of the packets before this place; each flit's packet n has less than retry
-- flits after it, up to packet e
abbrev pub Near : (retry : ℕ) → List Weight → ℕ → List Item → Type 0
Near r ps e [] = Unit {0}
Near r ps e (filler f ∷ xs) = Near r ps e xs
Near r ps e (clear ∷ xs) = Near r ps e xs
Near r ps e (part n k more ∷ xs) = Real ps (part n k more) × (flits_to ps e < flits_to ps n + r) × Near r ps (max e n) xs

pub real_grows : (ps : List Weight) (q : Weight) (x : Item) → Real ps x → Real (ps ++ q ∷ []) x
real_grows ps q (filler f) h = tt
real_grows ps q clear h = tt
real_grows ps q (part n k more) h = (h.0, omega (arith, h.1, length-append ps (q ∷ [])), h.2 ∙ sym (size-append ps (q ∷ []) n h.1))

pub near_grows : (r : ℕ) (ps : List Weight) (q : Weight) (e : ℕ) (xs : List Item) → e ≤ length ps → Near r ps e xs → Near r (ps ++ q ∷ []) e xs
near_grows r ps q e [] l h = tt
near_grows r ps q e (filler f ∷ xs) l h = near_grows r ps q e xs l h
near_grows r ps q e (clear ∷ xs) l h = near_grows r ps q e xs l h
near_grows r ps q e (part n k more ∷ xs) l h =
    let a = upto-append (λ p. p.flits) ps (q ∷ []) e l in
    let b = upto-append (λ p. p.flits) ps (q ∷ []) n h.0.1 in
    (real_grows ps q (part n k more) h.0, omega (arith, h.1, a, b), near_grows r ps q (max e n) xs (omega (arith, h.0.1)) h.2)

pub near_down : (r : ℕ) (ps : List Weight) (d e : ℕ) (xs : List Item) → d ≤ e → Near r ps e xs → Near r ps d xs
near_down r ps d e [] l h = tt
near_down r ps d e (filler f ∷ xs) l h = near_down r ps d e xs l h
near_down r ps d e (clear ∷ xs) l h = near_down r ps d e xs l h
near_down r ps d e (part n k more ∷ xs) l h =
    let u = upto-up (λ p. p.flits) ps d e l in
    (h.0, omega (arith, h.1, u), near_down r ps (max d n) (max e n) xs (omega arith) h.2)

pub near_append : (r : ℕ) (ps : List Weight) (e : ℕ) (xs ys : List Item) → e ≤ length ps → ((d : ℕ) → d ≤ length ps → Near r ps d ys) → Near r ps e xs → Near r ps e (xs ++ ys)
near_append r ps e [] ys l g h = g e l
near_append r ps e (filler f ∷ xs) ys l g h = near_append r ps e xs ys l g h
near_append r ps e (clear ∷ xs) ys l g h = near_append r ps e xs ys l g h
near_append r ps e (part n k more ∷ xs) ys l g h = (h.0, h.1, near_append r ps (max e n) xs ys (omega (arith, h.0.1)) g h.2)

-- after a landing d packets are accepted
pub near_rest : (r : ℕ) (ps : List Weight) (d e : ℕ) (x : Item) (xs : List Item) → d ≤ max e (number_of (front_or x xs)) → Near r ps e xs → Near r ps d (rest xs)
near_rest r ps d e x [] l h = tt
near_rest r ps d e x (filler f ∷ xs) l h = near_down r ps d e xs (omega arith) h
near_rest r ps d e x (clear ∷ xs) l h = near_down r ps d e xs (omega arith) h
near_rest r ps d e x (part n k more ∷ xs) l h = near_down r ps d (max e n) xs l h.2

pub real_front : (r : ℕ) (ps : List Weight) (e : ℕ) (x : Item) (xs : List Item) → Real ps x → Near r ps e xs → Real ps (front_or x xs)
real_front r ps e x [] i h = i
real_front r ps e x (filler f ∷ xs) i h = tt
real_front r ps e x (clear ∷ xs) i h = tt
real_front r ps e x (part n k more ∷ xs) i h = h.0
