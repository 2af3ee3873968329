-- How many TRETs return all due tokens.
use Rattle.std.proofs.Common.{◌≡◌, ℕ, zero, suc, ◌+◌, ◌-◌, ◌*◌, ◌<◌, ◌≤◌, ◌==◌, nat_lt, Bool, true, false, if◌then◌else◌, ◌⊎◌, inl, inr, refl, subst, arith}
use Rattle.hmc_link_state.specs.Choice.{tokens_for}
use Rattle.hmc_link_state.proofs.Chosen.{less_lt, not_less, not_same, eq_same}

-- Tokens that so many TRETs return at least, and one more

abbrev pub capacity : ℕ → ℕ
capacity zero = 1
capacity (suc zero) = 2
capacity (suc (suc zero)) = 4
capacity (suc (suc (suc zero))) = 8
capacity (suc (suc (suc (suc zero)))) = 16
capacity (suc (suc (suc (suc (suc zero))))) = 32
capacity (suc (suc (suc (suc (suc (suc j)))))) = 64 + 64 * j

pub record Returned (d t : ℕ) : Type 0 where
  most : t ≤ d
  half : 1 ≤ d → d < 64 → d < t + t
  whole : 64 ≤ d → t ≡ 64

returned_by : (d : ℕ) (a b c e f g h : Bool) → (d == 0) ≡ a → nat_lt d 2 ≡ b → nat_lt d 4 ≡ c →
    nat_lt d 8 ≡ e → nat_lt d 16 ≡ f → nat_lt d 32 ≡ g → nat_lt d 64 ≡ h →
    Returned d
    (if a then 0
    else (if b then 1
    else (if c then 2
    else (if e then 4 else (if f then 8 else (if g then 16 else (if h then 32 else 64)))))))
returned_by d true b c e f g h i j k l m n o =
    let z = eq_same d 0 i in
    record {
      most = omega arith;
      half = λ p q. absurd (omega (arith, z, p));
      whole = λ p. absurd (omega (arith, z, p));
    }
returned_by d false true c e f g h i j k l m n o =
    let z = not_same d 0 i in
    let y =
    less_lt d 2 j in
    record {
      most = omega (arith, z);
      half = λ p q. omega (arith, y);
      whole = λ p. absurd (omega (arith, y, p));
    }
returned_by d false false true e f g h i j k l m n o =
    let z = not_less d 2 j in
    let y =
    less_lt d 4 k in
    record {
      most = omega (arith, z);
      half = λ p q. omega (arith, y);
      whole = λ p. absurd (omega (arith, y, p));
    }
returned_by d false false false true f g h i j k l m n o =
    let z = not_less d 4 k in
    let y =
    less_lt d 8 l in
    record {
      most = omega (arith, z);
      half = λ p q. omega (arith, y);
      whole = λ p. absurd (omega (arith, y, p));
    }
returned_by d false false false false true g h i j k l m n o =
    let z = not_less d 8 l in
    let y =
    less_lt d 16 m in
    record {
      most = omega (arith, z);
      half = λ p q. omega (arith, y);
      whole = λ p. absurd (omega (arith, y, p));
    }
returned_by d false false false false false true h i j k l m n o =
    let z = not_less d 16 m in
    let y =
    less_lt d 32 n in
    record {
      most = omega (arith, z);
      half = λ p q. omega (arith, y);
      whole = λ p. absurd (omega (arith, y, p));
    }
returned_by d false false false false false false true i j k l m n o =
    let z = not_less d 32 n in
    let y =
    less_lt d 64 o in
    record {
      most = omega (arith, z);
      half = λ p q. omega (arith, y);
      whole = λ p. absurd (omega (arith, y, p));
    }
returned_by d false false false false false false false i j k l m n o =
    let z = not_less d 64 o in
    record {
      most = omega (arith, z);
      half = λ p q. absurd (omega (arith, z, q));
      whole = λ p. refl;
    }

pub returned : (d : ℕ) → Returned d (tokens_for d)
returned d =
    returned_by d (d == 0) (nat_lt d 2) (nat_lt d 4) (nat_lt d 8) (nat_lt d 16) (nat_lt d 32)
    (nat_lt d 64) refl refl refl refl refl refl refl

low : (d t k : ℕ) → Returned d t → 1 ≤ d → d < 64 → d < k + k → d - t < k
low d t k r p q l = let z = r.half p q in omega (arith, z, l, r.most)

pub less_64 : (d : ℕ) → (d < 64) ⊎ (64 ≤ d)
less_64 d = by_less (nat_lt d 64) refl
  where
    by_less : (b : Bool) → nat_lt d 64 ≡ b → (d < 64) ⊎ (64 ≤ d)
    by_less true q = inl (less_lt d 64 q)
    by_less false q = inr (not_less d 64 q)

high : (d t j : ℕ) → Returned d t → 1 ≤ d → (d < 64) ⊎ (64 ≤ d) → d < 64 + 64 * suc j →
    d - t < 64 + 64 * j
high d t j r p (inl q) l = let z = r.half p q in omega (arith, z, q, r.most)
high d t j r p (inr q) l = let z = r.whole q in omega (arith, z, l)

falls_one : (j d t : ℕ) → Returned d t → 1 ≤ d → d < capacity (suc j) → d - t < capacity j
falls_one zero d t r p l = low d t 1 r p (omega (arith, l)) (omega (arith, l))
falls_one (suc zero) d t r p l = low d t 2 r p (omega (arith, l)) (omega (arith, l))
falls_one (suc (suc zero)) d t r p l = low d t 4 r p (omega (arith, l)) (omega (arith, l))
falls_one (suc (suc (suc zero))) d t r p l = low d t 8 r p (omega (arith, l)) (omega (arith, l))
falls_one (suc (suc (suc (suc zero)))) d t r p l =
    low d t 16 r p (omega (arith, l)) (omega (arith, l))
falls_one (suc (suc (suc (suc (suc zero))))) d t r p l =
    low d t 32 r p (omega (arith, l)) (omega (arith, l))
falls_one (suc (suc (suc (suc (suc (suc j)))))) d t r p l = high d t j r p (less_64 d) l

pub falls_at : (J i d t : ℕ) → Returned d t → 1 ≤ d → d < capacity (J - i) →
    d - t < capacity (J - (i + 1))
falls_at J i d t r p l = by_left (J - i) refl l
  where
    by_left : (k : ℕ) → J - i ≡ k → d < capacity k → d - t < capacity (J - (i + 1))
    by_left zero q m = absurd (omega (arith, m, p))
    by_left (suc j) q m =
        let e : j ≡ J - (i + 1) = omega (arith, q) in
        subst (λ n. d - t < capacity n) e (falls_one j d t r p m)
