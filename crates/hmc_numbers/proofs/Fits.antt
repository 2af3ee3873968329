-- How the packets on a line fit: a receiver that gets the line skips none. Part of the invariant
-- (Order).
use Rattle.std.proofs.Common.{◌≡◌, ℕ, zero, suc, ◌+◌, ◌≤◌, max, List, [], ◌∷◌, ◌++◌, arith}
use Rattle.hmc_numbers.specs.Direction.{Item, Reached, rest, front_or, number_of}
use Rattle.hmc_numbers.specs.May.{IsNoPart, IsGood, IsEnd}
use Rattle.hmc_numbers.specs.Direction.Item.{filler, clear, part}
use Rattle.hmc_numbers.specs.Direction.Reached.{training, aborting, between, inside, spoilt}

-- Read from the receiver to the sender. e is how many packets will be accepted at this place at least, and a flit is of the
-- next packet after these at most. A Clear sets e to a, the packets accepted now, since what is before it may be dropped.
-- At the end of the line E holds of e; for a sender this is that its next packet is at most e + 1.
abbrev pub Fits : (ℕ → Type 0) → ℕ → ℕ → List Item → Type 0
Fits E a e [] = E e
Fits E a e (filler f ∷ xs) = Fits E a e xs
Fits E a e (clear ∷ xs) = Fits E a a xs
Fits E a e (part n k more ∷ xs) = (n ≤ e + 1) × Fits E a (max e n) xs

-- the line fits from its first Clear on; where it has none, nothing is asked
abbrev pub FitsLater : (ℕ → Type 0) → ℕ → List Item → Type 0
FitsLater E a [] = Unit {0}
FitsLater E a (filler f ∷ xs) = FitsLater E a xs
FitsLater E a (clear ∷ xs) = Fits E a a xs
FitsLater E a (part n k more ∷ xs) = FitsLater E a xs

-- which of the two holds: the first in Good, with nothing changed among what is gathered
abbrev pub Keeps : Reached → (ℕ → Type 0) → ℕ → List Item → Type 0
Keeps training E a xs = FitsLater E a xs
Keeps aborting E a xs = FitsLater E a xs
Keeps between E a xs = Fits E a a xs
Keeps (inside n k) E a xs = Fits E a a xs
Keeps spoilt E a xs = FitsLater E a xs

fits_append : (E : ℕ → Type 0) (a e : ℕ) (xs ys : List Item) → Fits (λ r. Fits E a r ys) a e xs → Fits E a e (xs ++ ys)
fits_append E a e [] ys h = h
fits_append E a e (filler f ∷ xs) ys h = fits_append E a e xs ys h
fits_append E a e (clear ∷ xs) ys h = fits_append E a a xs ys h
fits_append E a e (part n k more ∷ xs) ys h = (h.0, fits_append E a (max e n) xs ys h.1)

fits_map : (E G : ℕ → Type 0) (a e : ℕ) (xs : List Item) → a ≤ e → ((r : ℕ) → a ≤ r → E r → G r) → Fits E a e xs → Fits G a e xs
fits_map E G a e [] l g h = g e l h
fits_map E G a e (filler f ∷ xs) l g h = fits_map E G a e xs l g h
fits_map E G a e (clear ∷ xs) l g h = fits_map E G a a xs (omega arith) g h
fits_map E G a e (part n k more ∷ xs) l g h = (h.0, fits_map E G a (max e n) xs (omega arith) g h.1)

pub fits_up : (E : ℕ → Type 0) (a b e f : ℕ) (xs : List Item) → a ≤ b → e ≤ f → ((r s : ℕ) → r ≤ s → E r → E s) → Fits E a e xs → Fits E b f xs
fits_up E a b e f [] l m g h = g e f m h
fits_up E a b e f (filler x ∷ xs) l m g h = fits_up E a b e f xs l m g h
fits_up E a b e f (clear ∷ xs) l m g h = fits_up E a b a b xs l l g h
fits_up E a b e f (part n k more ∷ xs) l m g h = (omega (arith, h.0), fits_up E a b (max e n) (max f n) xs l (omega arith) g h.1)

later_append : (E G : ℕ → Type 0) (a : ℕ) (xs ys : List Item) → ((r : ℕ) → a ≤ r → E r → Fits G a r ys) → FitsLater G a ys → FitsLater E a xs → FitsLater G a (xs ++ ys)
later_append E G a [] ys g y h = y
later_append E G a (filler f ∷ xs) ys g y h = later_append E G a xs ys g y h
later_append E G a (clear ∷ xs) ys g y h = fits_append G a a xs ys (fits_map E (λ r. Fits G a r ys) a a xs (omega arith) g h)
later_append E G a (part n k more ∷ xs) ys g y h = later_append E G a xs ys g y h

later_map : (E G : ℕ → Type 0) (a : ℕ) (xs : List Item) → ((r : ℕ) → a ≤ r → E r → G r) → FitsLater E a xs → FitsLater G a xs
later_map E G a [] g h = tt
later_map E G a (filler f ∷ xs) g h = later_map E G a xs g h
later_map E G a (clear ∷ xs) g h = fits_map E G a a xs (omega arith) g h
later_map E G a (part n k more ∷ xs) g h = later_map E G a xs g h

later : (E : ℕ → Type 0) (a e : ℕ) (xs : List Item) → Fits E a e xs → FitsLater E a xs
later E a e [] h = tt
later E a e (filler f ∷ xs) h = later E a e xs h
later E a e (clear ∷ xs) h = h
later E a e (part n k more ∷ xs) h = later E a (max e n) xs h.1

later_rest : (E : ℕ → Type 0) (a : ℕ) (xs : List Item) → FitsLater E a xs → FitsLater E a (rest xs)
later_rest E a [] h = h
later_rest E a (filler f ∷ xs) h = h
later_rest E a (clear ∷ xs) h = later E a a xs h
later_rest E a (part n k more ∷ xs) h = h

pub keeps_later : (far : Reached) (E : ℕ → Type 0) (a : ℕ) (xs : List Item) → Keeps far E a xs → FitsLater E a xs
keeps_later training E a xs h = h
keeps_later aborting E a xs h = h
keeps_later between E a xs h = later E a a xs h
keeps_later (inside n k) E a xs h = later E a a xs h
keeps_later spoilt E a xs h = h

pub keeps_later_rest : (far : Reached) (E : ℕ → Type 0) (a : ℕ) (xs : List Item) → Keeps far E a xs → FitsLater E a (rest xs)
keeps_later_rest far E a xs h = later_rest E a xs (keeps_later far E a xs h)

pub keeps_append : (far : Reached) (E G : ℕ → Type 0) (a : ℕ) (xs ys : List Item) → ((r : ℕ) → a ≤ r → E r → Fits G a r ys) → FitsLater G a ys → Keeps far E a xs → Keeps far G a (xs ++ ys)
keeps_append training E G a xs ys g y h = later_append E G a xs ys g y h
keeps_append aborting E G a xs ys g y h = later_append E G a xs ys g y h
keeps_append between E G a xs ys g y h = fits_append G a a xs ys (fits_map E (λ r. Fits G a r ys) a a xs (omega arith) g h)
keeps_append (inside n k) E G a xs ys g y h = fits_append G a a xs ys (fits_map E (λ r. Fits G a r ys) a a xs (omega arith) g h)
keeps_append spoilt E G a xs ys g y h = later_append E G a xs ys g y h

pub keeps_map : (far : Reached) (E G : ℕ → Type 0) (a : ℕ) (xs : List Item) → ((r : ℕ) → a ≤ r → E r → G r) → Keeps far E a xs → Keeps far G a xs
keeps_map training E G a xs g h = later_map E G a xs g h
keeps_map aborting E G a xs g h = later_map E G a xs g h
keeps_map between E G a xs g h = fits_map E G a a xs (omega arith) g h
keeps_map (inside n k) E G a xs g h = fits_map E G a a xs (omega arith) g h
keeps_map spoilt E G a xs g h = later_map E G a xs g h

pub keeps_good : (far : Reached) (E : ℕ → Type 0) (a : ℕ) (xs : List Item) → IsGood far → Keeps far E a xs → Fits E a a xs
keeps_good training E a xs g h = absurd g
keeps_good aborting E a xs g h = absurd g
keeps_good between E a xs g h = h
keeps_good (inside n k) E a xs g h = h
keeps_good spoilt E a xs g h = absurd g

-- what a receiver in Good takes next is at most the next packet
pub fits_front : (E : ℕ → Type 0) (a n k more : ℕ) (xs : List Item) → Fits E a a (part n k more ∷ xs) → n ≤ a + 1
fits_front E a n k more xs h = h.0

-- Landings

pub opens_rest : (E : ℕ → Type 0) (a : ℕ) (xs ys : List Item) → xs ≡ clear ∷ ys → FitsLater E a xs → Fits E a a (rest xs)
opens_rest E a [] ys e h = absurd (cc e)
opens_rest E a (filler f ∷ xs) ys e h = absurd (cc e)
opens_rest E a (clear ∷ xs) ys e h = h
opens_rest E a (part n k more ∷ xs) ys e h = absurd (cc e)

pub passes_rest : (E : ℕ → Type 0) (a : ℕ) (xs : List Item) → IsNoPart xs → Fits E a a xs → Fits E a a (rest xs)
passes_rest E a [] c h = absurd c
passes_rest E a (filler f ∷ xs) c h = h
passes_rest E a (clear ∷ xs) c h = h
passes_rest E a (part n k more ∷ xs) c h = absurd c

pub ends_rest : (E : ℕ → Type 0) (a b : ℕ) (x : Item) (xs : List Item) → ((r s : ℕ) → r ≤ s → E r → E s) → IsEnd xs → a ≤ b → number_of (front_or x xs) ≤ b → Fits E a a xs → Fits E b b (rest xs)
ends_rest E a b x [] m c l i h = absurd c
ends_rest E a b x (filler f ∷ xs) m c l i h = absurd c
ends_rest E a b x (clear ∷ xs) m c l i h = absurd c
ends_rest E a b x (part n k zero ∷ xs) m c l i h = fits_up E a b (max a n) b xs l (omega arith) m h.1
ends_rest E a b x (part n k (suc more) ∷ xs) m c l i h = absurd c
