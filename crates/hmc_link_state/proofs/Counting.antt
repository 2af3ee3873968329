-- What the line will acknowledge, after a send and a landing.
use Rattle.std.proofs.Common.{◌≡◌, ℕ, suc, ◌+◌, ◌%◌, ◌≤◌, nat_le, true, if◌then◌else◌, List, [], ◌∷◌, ◌++◌, length, refl, ap, arith}
use Rattle.std.proofs.lemmas.Grind.{common_steps}
use Rattle.hmc_numbers.specs.Direction.{Item}
use Rattle.hmc_numbers.specs.Direction.Item.{filler, clear, part}
use Rattle.hmc_numbers.specs.Direction.Filler.{start}
use Rattle.hmc_link_state.specs.State.{Side, wire}
use Rattle.hmc_link_state.specs.Facts.{acked_by, clears_by, starts_by, Counted, CountedLater, IsAcked}

-- what must hold of what is acknowledged at the end of the line of a side
abbrev pub IsAckedOf : Side → ℕ → ℕ → ℕ → Type 0
IsAckedOf x = IsAcked (wire x).clears x.starts x.ack_sent

pub counted_snoc : (E G : ℕ → ℕ → ℕ → Type 0) (a c s : ℕ) (ns : List ℕ) (xs : List Item) (n : ℕ)
    (x : Item) → length ns ≡ length xs →
    ((b d t : ℕ) → E b d t → G (acked_by x d t n b) (clears_by x d) (starts_by x t)) →
    Counted E a c s ns xs → Counted G a c s (ns ++ n ∷ []) (xs ++ x ∷ [])
counted_snoc E G a c s [] [] n x l g h = g a c s h
counted_snoc E G a c s [] (y ∷ ys) n x l g h = absurd (omega (arith, l))
counted_snoc E G a c s (m ∷ ms) [] n x l g h = absurd (omega (arith, l))
counted_snoc E G a c s (m ∷ ms) (y ∷ ys) n x l g h =
    counted_snoc E G (acked_by y c s m a) (clears_by y c) (starts_by y s) ms ys n x
    (omega (arith, l)) g h

abbrev pub NewLater : (ℕ → ℕ → ℕ → Type 0) → ℕ → Item → Type 0
NewLater G n clear = G n 24 0
NewLater G n (filler f) = Unit {0}
NewLater G n (part m k more) = Unit {0}

later_one : (G : ℕ → ℕ → ℕ → Type 0) (n : ℕ) (x : Item) → NewLater G n x →
    CountedLater G (n ∷ []) (x ∷ [])
later_one G n clear h = (h, tt)
later_one G n (filler f) h = tt
later_one G n (part m k more) h = tt

pub later_snoc : (E G : ℕ → ℕ → ℕ → Type 0) (ns : List ℕ) (xs : List Item) (n : ℕ) (x : Item) →
    length ns ≡ length xs →
    ((b d t : ℕ) → E b d t → G (acked_by x d t n b) (clears_by x d) (starts_by x t)) →
    NewLater G n x → CountedLater E ns xs → CountedLater G (ns ++ n ∷ []) (xs ++ x ∷ [])
later_snoc E G [] [] n x l g w h = later_one G n x w
later_snoc E G [] (y ∷ ys) n x l g w h = absurd (omega (arith, l))
later_snoc E G (m ∷ ms) [] n x l g w h = absurd (omega (arith, l))
later_snoc E G (m ∷ ms) (clear ∷ ys) n x l g w h = (
  counted_snoc E G m 24 0 ms ys n x (omega (arith, l)) g h.0,
  later_snoc E G ms ys n x (omega (arith, l)) g w h.1,
)
later_snoc E G (m ∷ ms) (filler f ∷ ys) n x l g w h =
    later_snoc E G ms ys n x (omega (arith, l)) g w h
later_snoc E G (m ∷ ms) (part i k more ∷ ys) n x l g w h =
    later_snoc E G ms ys n x (omega (arith, l)) g w h

-- What a send keeps

one_more_of : (c : ℕ) → (c + 1) % 32 ≤ suc (c % 32)
one_more_of c = omega arith

last_of : (c : ℕ) → (c + 1) % 32 ≡ 0 → c % 32 ≡ 31
last_of c h = omega arith

pub long_if : (c n a : ℕ) → 23 ≤ c → (if nat_le 23 c then n else a) ≡ n
long_if c n a h =
    let e : nat_le 23 c ≡ true = grind (arith, common_steps) in ap (λ b. if b then n else a) e

pub ack_clear : (clears starts ack n : ℕ) → starts % 32 ≡ 0 → (a c s : ℕ) →
    IsAcked clears starts ack a c s → IsAcked (clears + 1) starts n (acked_by clear c s n a) (suc c)
    0
ack_clear clears starts ack n q a c s h =
    let z = one_more_of clears in (
      omega (arith, h.0, z),
      omega (arith, q),
      λ u v. long_if c n a (let y = last_of clears u in omega (arith, h.0, y)),
    )

pub ack_new_clear : (clears starts n : ℕ) → starts % 32 ≡ 0 → IsAcked (clears + 1) starts n n 24 0
ack_new_clear clears starts n q = (omega arith, omega (arith, q), λ u v. refl)

pub ack_start : (clears starts ack n : ℕ) → clears % 32 ≡ 0 → (a c s : ℕ) →
    IsAcked clears starts ack a c s →
    IsAcked clears (starts + 1) n (acked_by (filler start) c s n a) 0 (suc s)
ack_start clears starts ack n q a c s h =
    let z = one_more_of starts in (
      omega (arith, q),
      omega (arith, h.1, z),
      λ u v. long_if s n a (let y = last_of starts v in omega (arith, h.1, y)),
    )

pub ack_same : (clears starts ack : ℕ) → clears % 32 ≡ 0 → starts % 32 ≡ 0 → (a c s : ℕ) →
    IsAcked clears starts ack a c s → IsAcked clears starts ack a 0 0
ack_same clears starts ack q r a c s h = (omega (arith, q), omega (arith, r), h.2)

pub ack_pret : (clears starts n : ℕ) → clears % 32 ≡ 0 → starts % 32 ≡ 0 →
    IsAcked clears starts n n 0 0
ack_pret clears starts n q r = (omega (arith, q), omega (arith, r), λ u v. refl)
