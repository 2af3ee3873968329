-- Sums over two elements.
use Rattle.std.proofs.Common.{◌≡◌, ℕ, zero, suc, ◌+◌, ◌≤◌, Bool, true, false, List, [], ◌∷◌, ◌++◌, length, refl, sym, ap, arith}
use mathlib.Core.Bool.{xor}
use Rattle.hmc_crc.specs.Remainder.{plus, zeros}

pub xor_comm : (a b : Bool) → xor a b ≡ xor b a
unfolding xor
xor_comm false false = refl
xor_comm false true = refl
xor_comm true false = refl
xor_comm true true = refl

pub xor_assoc : (a b c : Bool) → xor (xor a b) c ≡ xor a (xor b c)
unfolding xor
xor_assoc false false false = refl
xor_assoc false false true = refl
xor_assoc false true false = refl
xor_assoc false true true = refl
xor_assoc true false false = refl
xor_assoc true false true = refl
xor_assoc true true false = refl
xor_assoc true true true = refl

pub xor-false : (a : Bool) → xor a false ≡ a
unfolding xor
xor-false false = refl
xor-false true = refl

xor-twice : (a b : Bool) → xor a (xor a b) ≡ b
unfolding xor
xor-twice false false = refl
xor-twice false true = refl
xor-twice true false = refl
xor-twice true true = refl

pub plus-nil : (xs : List Bool) → plus xs [] ≡ xs
unfolding plus
plus-nil [] = refl
plus-nil (x ∷ xs) = refl

pub plus_comm : (xs ys : List Bool) → plus xs ys ≡ plus ys xs
unfolding plus
plus_comm [] ys = sym (plus-nil ys)
plus_comm (x ∷ xs) [] = refl
plus_comm (x ∷ xs) (y ∷ ys) = rw (xor_comm x y, plus_comm xs ys)

pub plus_assoc : (xs ys zs : List Bool) → plus (plus xs ys) zs ≡ plus xs (plus ys zs)
unfolding plus
plus_assoc [] ys zs = refl
plus_assoc (x ∷ xs) [] zs = refl
plus_assoc (x ∷ xs) (y ∷ ys) [] = refl
plus_assoc (x ∷ xs) (y ∷ ys) (z ∷ zs) = rw (xor_assoc x y z, plus_assoc xs ys zs)

pub length-zeros : (n : ℕ) → length (zeros n) ≡ n
unfolding zeros
length-zeros zero = refl
length-zeros (suc n) = ap suc (length-zeros n)

pub length-plus : (xs ys : List Bool) → length xs ≤ length ys → length (plus xs ys) ≡ length ys
unfolding plus
length-plus [] ys h = refl
length-plus (x ∷ xs) [] h = absurd (omega arith)
length-plus (x ∷ xs) (y ∷ ys) h = ap suc (length-plus xs ys (omega arith))

-- a sum onto the front leaves what follows the front
pub plus-append : (xs ys zs : List Bool) → length xs ≤ length ys → plus xs (ys ++ zs) ≡ plus xs ys ++ zs
unfolding plus
plus-append [] ys zs h = refl
plus-append (x ∷ xs) [] zs h = absurd (omega arith)
plus-append (x ∷ xs) (y ∷ ys) zs h = rw (plus-append xs ys zs (omega arith))

-- zeros at the end of the shorter list add nothing
pub plus-append_zeros : (xs ys : List Bool) (n : ℕ) → length xs + n ≤ length ys → plus (xs ++ zeros n) ys ≡ plus xs ys
unfolding plus zeros
plus-append_zeros [] ys zero h = refl
plus-append_zeros [] [] (suc n) h = absurd (omega arith)
plus-append_zeros [] (y ∷ ys) (suc n) h = rw (xor_comm false y, xor-false y, plus-append_zeros [] ys n (omega arith))
plus-append_zeros (x ∷ xs) [] n h = absurd (omega arith)
plus-append_zeros (x ∷ xs) (y ∷ ys) n h = rw (plus-append_zeros xs ys n (omega arith))

pub zeros-plus : (n : ℕ) (ys : List Bool) → n ≤ length ys → plus (zeros n) ys ≡ ys
unfolding plus
zeros-plus n ys h = plus-append_zeros [] ys n (omega arith)

-- a list onto zeros is itself, before what follows them
pub plus-zeros_append : (xs ys : List Bool) → plus xs (zeros (length xs) ++ ys) ≡ xs ++ ys
unfolding plus zeros
plus-zeros_append [] ys = refl
plus-zeros_append (x ∷ xs) ys = rw (xor-false x, plus-zeros_append xs ys)

-- what is added twice is gone
pub plus-twice : (xs ys : List Bool) → length xs ≤ length ys → plus xs (plus xs ys) ≡ ys
unfolding plus
plus-twice [] ys h = refl
plus-twice (x ∷ xs) [] h = absurd (omega arith)
plus-twice (x ∷ xs) (y ∷ ys) h = rw (xor-twice x y, plus-twice xs ys (omega arith)) refl
