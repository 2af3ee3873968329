-- What holds of each element of a list.
use Rattle.std.proofs.Common.{◌≡◌, ◌≤◌, ◌<◌, ◌+◌, ◌⊎◌, inl, inr, ℕ, zero, suc, List, [], ◌∷◌, ◌++◌, map, sym, subst, arith}
use Rattle.std.specs.List.{flat_map, range_with_len}

abbrev pub Every : {X : Type 0} → (X → Type 0) → List X → Type 0
Every P [] = Unit {0}
Every P (x ∷ xs) = P x × Every P xs

pub every_left : {X : Type 0} (P : X → Type 0) (xs ys : List X) → Every P (xs ++ ys) → Every P xs
every_left P [] ys all = tt
every_left P (x ∷ xs) ys all = (all.0, every_left P xs ys all.1)

pub every_right : {X : Type 0} (P : X → Type 0) (xs ys : List X) → Every P (xs ++ ys) → Every P ys
every_right P [] ys all = all
every_right P (x ∷ xs) ys all = every_right P xs ys all.1

pub every_append : {X : Type 0} (P : X → Type 0) (xs ys : List X) → Every P xs → Every P ys →
    Every P (xs ++ ys)
every_append P [] ys a b = b
every_append P (x ∷ xs) ys a b = (a.0, every_append P xs ys a.1 b)

pub every_weaker : {X : Type 0} (P Q : X → Type 0) → ((x : X) → P x → Q x) → (xs : List X) →
    Every P xs → Every Q xs
every_weaker P Q f [] all = tt
every_weaker P Q f (x ∷ xs) all = (f x all.0, every_weaker P Q f xs all.1)

pub every_both : {X : Type 0} (P Q R : X → Type 0) → ((x : X) → P x → Q x → R x) → (xs : List X) →
    Every P xs → Every Q xs → Every R xs
every_both P Q R f [] a b = tt
every_both P Q R f (x ∷ xs) a b = (f x a.0 b.0, every_both P Q R f xs a.1 b.1)

here_or_later : (s i : ℕ) → s ≤ i → (i ≡ s) ⊎ (s + 1 ≤ i)
here_or_later zero zero h = inl (omega arith)
here_or_later zero (suc i) h = inr (omega arith)
here_or_later (suc s) zero h = absurd (omega (arith, h))
here_or_later (suc s) (suc i) h = by_less (here_or_later s i (omega (arith, h)))
  where
    by_less : (i ≡ s) ⊎ (s + 1 ≤ i) → (suc i ≡ suc s) ⊎ (suc s + 1 ≤ suc i)
    by_less (inl e) = inl (omega (arith, e))
    by_less (inr l) = inr (omega (arith, l))

-- over a range
pub every_at : {X : Type 0} (P : X → Type 0) (f : ℕ → X) (s n i : ℕ) →
    Every P (map f (range_with_len s n)) → s ≤ i → i < s + n → P (f i)
every_at P f s zero i all least most = absurd (omega (arith, least, most))
every_at P f s (suc n) i all least most =
    by_place (here_or_later s i least)
    (λ more. every_at P f (s + 1) n i all.1 more (omega (arith, most)))
  where
    by_place : (i ≡ s) ⊎ (s + 1 ≤ i) → (s + 1 ≤ i → P (f i)) → P (f i)
    by_place (inl e) later = subst (λ k. P (f k)) (sym e) all.0
    by_place (inr l) later = later l

pub every_flat_at : {X : Type 0} (P : X → Type 0) (f : ℕ → List X) (s n i : ℕ) →
    Every P (flat_map f (range_with_len s n)) → s ≤ i → i < s + n → Every P (f i)
every_flat_at P f s zero i all least most = absurd (omega (arith, least, most))
every_flat_at P f s (suc n) i all least most =
    by_place (here_or_later s i least)
    (λ more. every_flat_at P f (s + 1) n i
    (every_right P (f s) (flat_map f (range_with_len (s + 1) n)) all) more (omega (arith, most)))
  where
    by_place : (i ≡ s) ⊎ (s + 1 ≤ i) → (s + 1 ≤ i → Every P (f i)) → Every P (f i)
    by_place (inl e) later =
        subst (λ k. Every P (f k)) (sym e)
        (every_left P (f s) (flat_map f (range_with_len (s + 1) n)) all)
    by_place (inr l) later = later l

pub every_of : {X : Type 0} (P : X → Type 0) (f : ℕ → X) (s n : ℕ) →
    ((i : ℕ) → i < s + n → P (f i)) → Every P (map f (range_with_len s n))
every_of P f s zero holds = tt
every_of P f s (suc n) holds =
    (holds s (omega arith), every_of P f (s + 1) n (λ i less. holds i (omega (arith, less))))

pub every_flat_of : {X : Type 0} (P : X → Type 0) (f : ℕ → List X) (s n : ℕ) →
    ((i : ℕ) → i < s + n → Every P (f i)) → Every P (flat_map f (range_with_len s n))
every_flat_of P f s zero holds = tt
every_flat_of P f s (suc n) holds =
    every_append P (f s) (flat_map f (range_with_len (s + 1) n)) (holds s (omega arith))
    (every_flat_of P f (s + 1) n (λ i less. holds i (omega (arith, less))))
