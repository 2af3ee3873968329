-- Lists of bytes stay so when they are joined and cut.
use Rattle.std.proofs.Common.{◌≡◌, ◌<◌, ◌-◌, ◌∙◌, ℕ, zero, suc, List, [], ◌∷◌, ◌++◌, length, take, drop, ap, refl, lit<, arith}
use Rattle.std.specs.Prelude.{replicate}
use Rattle.std.specs.Int.{byte_at, bytes_low_first}
use Rattle.std.proofs.lemmas.List.{drop-replicate}
use Rattle.hmc_codes.specs.Bytes.{IsBytes, padded_bytes}
use Rattle.hmc_codes.specs.Flit.{IsFlit, zero_flit}

pub IsBytes-[] : IsBytes []
IsBytes-[] k = lit< tt

pub IsBytes-append : (xs ys : List ℕ) → IsBytes xs → IsBytes ys → IsBytes (xs ++ ys)
IsBytes-append [] ys p q k = q k
IsBytes-append (x ∷ xs) ys p q zero = p 0
IsBytes-append (x ∷ xs) ys p q (suc k) = IsBytes-append xs ys (λ j. p (suc j)) q k

pub IsBytes-take : (n : ℕ) (xs : List ℕ) → IsBytes xs → IsBytes (take n xs)
IsBytes-take zero xs p k = lit< tt
IsBytes-take (suc n) [] p k = lit< tt
IsBytes-take (suc n) (x ∷ xs) p zero = p 0
IsBytes-take (suc n) (x ∷ xs) p (suc k) = IsBytes-take n xs (λ j. p (suc j)) k

pub IsBytes-drop : (n : ℕ) (xs : List ℕ) → IsBytes xs → IsBytes (drop n xs)
IsBytes-drop zero xs p k = p k
IsBytes-drop (suc n) [] p k = lit< tt
IsBytes-drop (suc n) (x ∷ xs) p k = IsBytes-drop n xs (λ j. p (suc j)) k

pub IsBytes-zeros : (n : ℕ) → IsBytes (replicate n 0)
IsBytes-zeros zero k = lit< tt
IsBytes-zeros (suc n) zero = lit< tt
IsBytes-zeros (suc n) (suc k) = IsBytes-zeros n k

pub zero_is_flit : IsFlit zero_flit
unfolding zero_flit
zero_is_flit = record { bytes = IsBytes-zeros 16; long = refl }

-- the bytes of a number

pub byte_at-small : (i n : ℕ) → byte_at i n < 256
byte_at-small zero n = omega arith
byte_at-small (suc i) n = omega arith

pub IsBytes-low : (i k n : ℕ) → IsBytes (bytes_low_first i k n)
IsBytes-low i zero n at = IsBytes-[] at
IsBytes-low i (suc k) n zero = byte_at-small i n
IsBytes-low i (suc k) n (suc at) = IsBytes-low (suc i) k n at

pub IsBytes-padded : (size : ℕ) (xs : List ℕ) → IsBytes xs → IsBytes (padded_bytes size xs)
unfolding padded_bytes
IsBytes-padded size xs p = IsBytes-append xs _ p (IsBytes-zeros (size - length xs))

-- zeros whose front is written over
pub padded_by_copy : (size : ℕ) (xs front : List ℕ) → front ≡ xs → front ++ drop (length xs) (replicate size 0) ≡ padded_bytes size xs
unfolding padded_bytes
padded_by_copy size xs front is =
    ap (λ l. l ++ drop (length xs) (replicate size 0)) is ∙ ap (λ l. xs ++ l) (drop-replicate (length xs) size 0)
