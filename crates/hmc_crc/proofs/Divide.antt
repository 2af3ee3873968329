-- Long division: what its steps leave alone, and how they come one after another.
use Rattle.std.proofs.Common.{◌≡◌, ℕ, zero, suc, ◌+◌, ◌<◌, ◌≤◌, Bool, true, false, List, [], ◌∷◌, ◌++◌, length, refl, sym, ap, ◌∙◌, arith, append_assoc, length-append}
use Rattle.std.proofs.lemmas.List.{append-nil}
use mathlib.Core.Bool.{xor}
use Rattle.hmc_crc.specs.Remainder.{plus, zeros, divide}
use Rattle.hmc_crc.proofs.Plus.{plus_comm, plus_assoc, plus-twice, length-plus, plus-append, plus-append_zeros, plus-zeros_append}

pub divide-add : (by : List Bool) (m n : ℕ) (bits : List Bool) → divide by (m + n) bits ≡ divide by n (divide by m bits)
unfolding divide
divide-add by zero n bits = let e : zero + n ≡ n = omega arith in rw e
divide-add by (suc m) n [] = let e : suc m + n ≡ suc (m + n) = omega arith in rw e (sym (divide-nil n))
  where
    divide-nil : (n : ℕ) → divide by n [] ≡ []
    divide-nil zero = refl
    divide-nil (suc n) = refl
divide-add by (suc m) n (false ∷ rest) = let e : suc m + n ≡ suc (m + n) = omega arith in rw e (divide-add by m n rest)
divide-add by (suc m) n (true ∷ rest) = let e : suc m + n ≡ suc (m + n) = omega arith in rw e (divide-add by m n (plus by rest))

-- what lies beyond the reach of n steps stays as it is
pub divide-append : (by : List Bool) (n : ℕ) (xs ys : List Bool) → n + length by ≤ length xs → divide by n (xs ++ ys) ≡ divide by n xs ++ ys
unfolding divide
divide-append by zero xs ys h = refl
divide-append by (suc n) [] ys h = absurd (omega arith)
divide-append by (suc n) (false ∷ rest) ys h = divide-append by n rest ys (omega arith)
divide-append by (suc n) (true ∷ rest) ys h =
    let short : length by ≤ length rest = omega arith in
    rw (plus-append by rest ys short) (divide-append by n (plus by rest) ys (omega (arith, length-plus by rest short)))

pub length-divide : (by : List Bool) (n : ℕ) (xs : List Bool) → n + length by ≤ length xs → length (divide by n xs) + n ≡ length xs
unfolding divide
length-divide by zero xs h = omega arith
length-divide by (suc n) [] h = absurd (omega arith)
length-divide by (suc n) (false ∷ rest) h = omega (arith, length-divide by n rest (omega arith))
length-divide by (suc n) (true ∷ rest) h =
    let short : length by ≤ length rest = omega arith in
    let same : length (plus by rest) ≡ length rest = length-plus by rest short in
    omega (arith, same, length-divide by n (plus by rest) (omega arith))

zeros_from_push : (xs : List Bool) (n : ℕ) → xs ++ zeros (suc n) ≡ (xs ++ false ∷ []) ++ zeros n
unfolding zeros
zeros_from_push xs n = sym (append_assoc xs (false ∷ []) (zeros n))

plus-push_false : (xs zs : List Bool) → length xs < length zs → plus (xs ++ false ∷ []) zs ≡ plus xs zs
unfolding zeros
plus-push_false xs zs h = plus-append_zeros xs zs 1 (omega arith)

-- what is added behind the first n coefficients may as well be added after n steps
pub divide-plus : (by : List Bool) (n : ℕ) (xs ys : List Bool) → length xs ≡ length by → length by ≤ length ys →
    divide by n (plus xs (zeros n ++ ys)) ≡ plus (divide by n (xs ++ zeros n)) ys
unfolding divide plus zeros xor
divide-plus by zero xs ys same long = rw (append-nil xs)
divide-plus by (suc n) [] ys same long = divide-plus by n [] ys same long
divide-plus by (suc n) (false ∷ xs) ys same long =
    let reach : length xs < length (zeros n ++ ys) = omega (arith, same, length-append (zeros n) ys) in
    let next : length (xs ++ false ∷ []) ≡ length by = omega (arith, same, length-append xs (false ∷ [])) in
    rw (← plus-push_false xs (zeros n ++ ys) reach, zeros_from_push xs n)
    (divide-plus by n (xs ++ false ∷ []) ys next long)
divide-plus by (suc n) (true ∷ xs) ys same long =
    let reach : length xs < length (zeros n ++ ys) = omega (arith, same, length-append (zeros n) ys) in
    let next : length (xs ++ false ∷ []) ≡ length by = omega (arith, same, length-append xs (false ∷ [])) in
    let added : length (plus by (xs ++ false ∷ [])) ≡ length by = length-plus by (xs ++ false ∷ []) (omega arith) ∙ next in
    rw (
      ← plus-push_false xs (zeros n ++ ys) reach,
      zeros_from_push xs n,
      plus-append by (xs ++ false ∷ []) (zeros n) (omega arith),
      ← plus_assoc by (xs ++ false ∷ []) (zeros n ++ ys),
    )
    (divide-plus by n (plus by (xs ++ false ∷ [])) ys added long)

-- what sums leave is the sum of what is left
pub divide-sum : (by : List Bool) (n : ℕ) (xs ys : List Bool) → length xs ≡ length ys → n + length by ≤ length xs →
    divide by n (plus xs ys) ≡ plus (divide by n xs) (divide by n ys)
unfolding divide plus xor
divide-sum by zero xs ys same long = refl
divide-sum by (suc n) [] ys same long = absurd (omega arith)
divide-sum by (suc n) (x ∷ xs) [] same long = absurd (omega arith)
divide-sum by (suc n) (false ∷ xs) (false ∷ ys) same long = divide-sum by n xs ys (omega arith) (omega arith)
divide-sum by (suc n) (false ∷ xs) (true ∷ ys) same long =
    let added : length (plus by ys) ≡ length ys = length-plus by ys (omega arith) in
    ap (divide by n) (sym (plus_assoc by xs ys) ∙ ap (λ (bits : List Bool). plus bits ys) (plus_comm by xs) ∙ plus_assoc xs by ys)
    ∙ divide-sum by n xs (plus by ys) (omega (arith, added)) (omega arith)
divide-sum by (suc n) (true ∷ xs) (false ∷ ys) same long =
    let added : length (plus by xs) ≡ length xs = length-plus by xs (omega arith) in
    ap (divide by n) (sym (plus_assoc by xs ys))
    ∙ divide-sum by n (plus by xs) ys (omega (arith, added)) (omega (arith, added))
divide-sum by (suc n) (true ∷ xs) (true ∷ ys) same long =
    let added : length (plus by xs) ≡ length xs = length-plus by xs (omega arith) in
    let also : length (plus by ys) ≡ length ys = length-plus by ys (omega arith) in
    let cancelled : plus (plus by xs) (plus by ys) ≡ plus xs ys =
    ap (λ (bits : List Bool). plus bits (plus by ys)) (plus_comm by xs)
    ∙ plus_assoc xs by (plus by ys)
    ∙ ap (plus xs) (plus-twice by ys (omega arith)) in
    ap (divide by n) (sym cancelled)
    ∙ divide-sum by n (plus by xs) (plus by ys) (omega (arith, added, also)) (omega (arith, added))

-- A register as long as the divisor takes the next coefficients in front, and is divided by so many steps.
pub divide-front : (by xs front ys : List Bool) (n : ℕ) →
    length xs ≡ length by → length front ≤ length by → length by ≤ length ys →
    divide by (length front + n) (plus xs (front ++ ys))
    ≡ divide by n (plus (divide by (length front) (plus front xs ++ zeros (length front))) ys)
divide-front by xs front ys n same short long =
    let fits : length front ≤ length xs = omega arith in
    let sized : length (plus front xs) ≡ length by = length-plus front xs fits ∙ same in
    rw (
      ← plus-zeros_append front ys,
      ← plus_assoc xs front (zeros (length front) ++ ys),
      plus_comm xs front,
      divide-add by (length front) n (plus (plus front xs) (zeros (length front) ++ ys)),
      divide-plus by (length front) (plus front xs) ys sized long,
    ) refl
