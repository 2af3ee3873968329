-- On a line each flit continues the packet of the flit before it, or begins something new, so
-- packets are whole and not mixed. Part of the invariant (Order).
use Rattle.std.proofs.Common.{◌≡◌, ◌≢◌, ℕ, zero, suc, ◌+◌, ◌-◌, ◌≤◌, max, List, [], ◌∷◌, ◌++◌, refl, sym, ◌∙◌, subst, arith}
use Rattle.hmc_numbers.specs.Direction.{Item, Reached, rest, front_or, number_of, came_of}
use Rattle.hmc_numbers.specs.May.{IsSome, IsMiddle}
use Rattle.hmc_numbers.specs.Direction.Item.{filler, clear, part}
use Rattle.hmc_numbers.specs.Direction.Reached.{training, aborting, between, inside, spoilt}
use Rattle.hmc_numbers.proofs.Fits.{Fits}

-- flit y may come directly after flit x
abbrev pub Follows : Item → Item → Type 0
Follows x (filler f) = came_of x ≡ 0
Follows x clear = came_of x ≡ 0
Follows x (part n k more) = (k ≡ came_of x) × (k ≢ 0 → number_of x ≡ n)

-- from x on, each flit of the line follows the one before it, and E holds of the last one
abbrev pub Chain : (Item → Type 0) → Item → List Item → Type 0
Chain E x [] = E x
Chain E x (y ∷ ys) = Follows x y × Chain E y ys

pub chain_map : (E G : Item → Type 0) (x : Item) (xs : List Item) → ((z : Item) → E z → G z) → Chain E x xs → Chain G x xs
chain_map E G x [] g c = g x c
chain_map E G x (y ∷ ys) g c = (c.0, chain_map E G y ys g c.1)

pub chain_append : (E G : Item → Type 0) (x : Item) (xs : List Item) (y : Item) → ((z : Item) → E z → Follows z y × G y) → Chain E x xs → Chain G x (xs ++ y ∷ [])
chain_append E G x [] y g c = g x c
chain_append E G x (z ∷ zs) y g c = (c.0, chain_append E G z zs y g c.1)

pub chain_rest : (E : Item → Type 0) (x : Item) (xs : List Item) → Chain E x xs → Chain E (front_or x xs) (rest xs)
chain_rest E x [] c = c
chain_rest E x (y ∷ ys) c = c.1

pub chain_front : (E : Item → Type 0) (x : Item) (xs : List Item) → IsSome xs → Chain E x xs → Follows x (front_or x xs)
chain_front E x [] i c = absurd i
chain_front E x (y ∷ ys) i c = c.0

-- of a packet of s flits, the flits that are sent where some are left, else 0
abbrev pub sent_of : (flits left : ℕ) → ℕ
sent_of s zero = 0
sent_of s (suc l) = s - suc l

-- The last flit sent is of the packet that is being sent, where some of it was sent. Else it is whole, or ends a packet.
abbrev pub AtEnd : (flits last left : ℕ) → Item → Type 0
AtEnd s last left z = (came_of z ≡ sent_of s left) × (came_of z ≢ 0 → number_of z ≡ last)

-- a packet is begun: nothing of it was sent
pub end_begins : (s last s' last' left' : ℕ) (z : Item) → s' ≡ left' → AtEnd s last 0 z → AtEnd s' last' left' z
end_begins s last s' last' zero z e h = (h.0, λ q. absurd (q h.0))
end_begins s last s' last' (suc l) z e h = (omega (arith, h.0), λ q. absurd (q h.0))

-- a Clear changes the sender's position, not what was sent
pub end_last : (s last s' last' left : ℕ) (z : Item) → left ≡ 0 → AtEnd s last left z → AtEnd s' last' left z
end_last s last s' last' zero z e h = (h.0, λ q. absurd (q h.0))
end_last s last s' last' (suc l) z e h = absurd (cc e)

-- the next flit of a packet
pub end_next : (s last left : ℕ) (z : Item) → 1 ≤ left → left ≤ s → AtEnd s last left z →
    Follows z (part last (s - left) (left - 1)) × AtEnd s last (left - 1) (part last (s - left) (left - 1))
end_next s last zero z a b h = absurd (omega arith)
end_next s last (suc l) z a b h = subst (λ m. Follows z (part last (s - suc l) m) × AtEnd s last m (part last (s - suc l) m)) (omega arith) ((sym h.0, λ q. h.1 (λ e. q (sym h.0 ∙ e))), by_left l refl)
  where
    by_left : (m : ℕ) → m ≡ l → AtEnd s last m (part last (s - suc l) m)
    by_left zero e = (refl, λ q. absurd (q refl))
    by_left (suc m) e = (omega arith, λ q. refl)

-- a filler or a Clear, where no packet is being sent
pub end_filler : (s last left : ℕ) (z : Item) → left ≡ 0 → AtEnd s last left z → (came_of z ≡ 0) × ((x : Item) → came_of x ≡ 0 → AtEnd s last left x)
end_filler s last zero z e h = (h.0, λ x c. (c, λ q. absurd (q c)))
end_filler s last (suc l) z e h = absurd (cc e)

-- what a receiver in Good has gathered ends with the flit that landed last
abbrev pub FarIs : Reached → Item → Type 0
FarIs training x = Unit {0}
FarIs aborting x = Unit {0}
FarIs between x = came_of x ≡ 0
FarIs (inside n k) x = (number_of x ≡ n) × (came_of x ≡ k) × (1 ≤ k)
FarIs spoilt x = Unit {0}

-- After a flit is gathered the line goes on with its packet, so that the rest fits as before. Where the line is empty, the
-- sender goes on with it.
pub gathers_rest : (E : ℕ → Type 0) (s last left a : ℕ) (x : Item) (xs : List Item) → (last ≤ a + 1 → left ≢ 0 → E a) → IsMiddle xs →
    Chain (AtEnd s last left) x xs → Fits E a a xs → Fits E a a (rest xs)
gathers_rest E s last left a x [] g c h f = absurd c
gathers_rest E s last left a x (filler y ∷ xs) g c h f = absurd c
gathers_rest E s last left a x (clear ∷ xs) g c h f = absurd c
gathers_rest E s last left a x (part n k zero ∷ xs) g c h f = absurd c
gathers_rest E s last left a x (part n k (suc more) ∷ xs) g c h f = by_rest xs h.1 f.1
  where
    by_rest : (ys : List Item) → Chain (AtEnd s last left) (part n k (suc more)) ys → Fits E a (max a n) ys → Fits E a a ys
    by_rest [] d e = g (rw (← d.1 (λ q. cc)) f.0) (λ z. not_done left z d.0)
      where
        not_done : (l : ℕ) → l ≡ 0 → suc k ≡ sent_of s l → ⊥
        not_done zero z q = cc
        not_done (suc l) z q = cc
    by_rest (filler y ∷ ys) d e = absurd (cc d.0)
    by_rest (clear ∷ ys) d e = absurd (cc d.0)
    by_rest (part m j l ∷ ys) d e =
        let q : n ≡ m = d.0.1 (λ z. absurd (omega (arith, d.0.0))) in
        let t : max (max a n) m ≡ max a m = omega arith in
        (rw (← q) f.0, subst (λ (r : ℕ). Fits E a r ys) t e.1)
