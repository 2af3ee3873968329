-- Digits of bytes that are written sixteen bytes after sixteen.
use Rattle.std.proofs.Common.{◌≡◌, ◌∙◌, ◌+◌, ◌*◌, ◌/◌, ◌%◌, ◌-◌, ◌≤◌, ◌<◌, ℕ, List, [], ◌∷◌, ◌++◌, length, take, drop, refl, sym, ap, arith, append_assoc, length-append}
use Rattle.std.specs.Prelude.{slice_index, ◌==◌, true}
use Rattle.std.proofs.lemmas.List.{append-nil, take-append-drop, take_all, length-take, length-take-le, length-drop}
use Rattle.std.proofs.Math.Seq.{take-add}
use Rattle.std.proofs.lemmas.Bool.{eqb-true}
use Rattle.hex.specs.Hex.{encode_lower, encode_with, lower_digits}
use Rattle.hex.proofs.HexLemmas.{length-encode_with}

-- the digits of two lists of bytes
pub encode_append : (xs ys : List ℕ) → encode_lower (xs ++ ys) ≡ encode_lower xs ++ encode_lower ys
unfolding encode_with
encode_append [] ys = refl
encode_append (x ∷ xs) ys = ap (λ (l : List ℕ). slice_index lower_digits (x / 16) ∷ slice_index lower_digits (x % 16) ∷ l) (encode_append xs ys)

-- before the first sixteen nothing is written
pub none_written : (old bytes : List ℕ) → old ≡ old ++ encode_lower (take (16 * 0) bytes)
unfolding encode_with
none_written old bytes = sym (append-nil old)

-- sixteen bytes more
pub sixteen_more : (old so_far new bytes : List ℕ) (n : ℕ) →
    so_far ≡ old ++ encode_lower (take (16 * n) bytes) →
    new ≡ so_far ++ encode_lower (take 16 (drop (16 * n) bytes)) →
    new ≡ old ++ encode_lower (take (16 * (n + 1)) bytes)
sixteen_more old so_far new bytes n before is =
    let next : 16 * n + 16 ≡ 16 * (n + 1) = omega arith in
    is ∙ ap (λ (l : List ℕ). l ++ encode_lower (take 16 (drop (16 * n) bytes))) before
    ∙ append_assoc old (encode_lower (take (16 * n) bytes)) (encode_lower (take 16 (drop (16 * n) bytes)))
    ∙ ap (λ (l : List ℕ). old ++ l) (sym (encode_append (take (16 * n) bytes) (take 16 (drop (16 * n) bytes))))
    ∙ ap (λ (l : List ℕ). old ++ encode_lower l) (sym (take-add (16 * n) 16 bytes))
    ∙ ap (λ (k : ℕ). old ++ encode_lower (take k bytes)) next

-- and then the rest
pub rest_written : (old so_far new bytes : List ℕ) (n : ℕ) →
    so_far ≡ old ++ encode_lower (take (16 * n) bytes) →
    new ≡ so_far ++ encode_lower (drop (n * 16) bytes) →
    new ≡ old ++ encode_lower bytes
rest_written old so_far new bytes n before is =
    let same : n * 16 ≡ 16 * n = omega arith in
    is ∙ (λ i. before i ++ encode_lower (drop (same i) bytes))
    ∙ append_assoc old (encode_lower (take (16 * n) bytes)) (encode_lower (drop (16 * n) bytes))
    ∙ ap (λ (l : List ℕ). old ++ l) (sym (encode_append (take (16 * n) bytes) (drop (16 * n) bytes)))
    ∙ ap (λ (l : List ℕ). old ++ encode_lower l) (take-append-drop (16 * n) bytes)

-- the digits of bytes are twice as many
pub twice_as_long : (old new bytes : List ℕ) → new ≡ old ++ encode_lower bytes → length new ≡ length old + 2 * length bytes
twice_as_long old new bytes is = omega (arith, ap length is, length-append old (encode_lower bytes), length-encode_with lower_digits bytes)

-- what is left of a list from a place on
pub left_from : (bytes : List ℕ) (at : ℕ) → take (length bytes - at) (drop at bytes) ≡ drop at bytes
left_from bytes at = take_all (length bytes - at) (drop at bytes) (omega (arith, length-drop at bytes))

-- sixteen bytes from a place on
abbrev pub block_at : List ℕ → ℕ → List ℕ
block_at bytes n = take 16 (take (length bytes - 16 * n) (drop (16 * n) bytes))

pub block_is : (bytes : List ℕ) (n : ℕ) → block_at bytes n ≡ take 16 (drop (16 * n) bytes)
block_is bytes n = ap (take 16) (left_from bytes (16 * n))

pub block_long : (bytes : List ℕ) (n : ℕ) → n < length bytes / 16 → length (block_at bytes n) ≡ 16
block_long bytes n left =
    ap length (block_is bytes n) ∙ length-take-le 16 (drop (16 * n) bytes) (omega (arith, length-drop (16 * n) bytes, left))

-- they have room where all have
pub block_fits : (old so_far bytes : List ℕ) (n room : ℕ) →
    so_far ≡ old ++ encode_lower (take (16 * n) bytes) → n < length bytes / 16 → length old + 2 * length bytes ≤ room → length so_far + 32 ≤ room
block_fits old so_far bytes n room is left fits =
    omega (arith, twice_as_long old so_far (take (16 * n) bytes) is, length-take (16 * n) bytes, left, fits)

-- and so has the rest
abbrev pub rest_of : List ℕ → ℕ → List ℕ
rest_of bytes n = take (length bytes - n * 16) (drop (n * 16) bytes)

pub rest_short : (bytes : List ℕ) → length (rest_of bytes (length bytes / 16)) < 16
rest_short bytes =
    let at = length bytes / 16 * 16 in
    omega (arith, ap length (left_from bytes at), length-drop at bytes)

pub rest_fits : (old so_far bytes : List ℕ) (n room : ℕ) →
    so_far ≡ old ++ encode_lower (take (16 * n) bytes) → n ≡ length bytes / 16 → length old + 2 * length bytes ≤ room →
    length so_far + 2 * length (rest_of bytes (length bytes / 16)) ≤ room
rest_fits old so_far bytes n room is all fits =
    let at = length bytes / 16 * 16 in
    omega (arith, twice_as_long old so_far (take (16 * n) bytes) is, length-take (16 * n) bytes, ap length (left_from bytes at), length-drop at bytes, all, fits)

pub all_written : (old so_far new bytes : List ℕ) (n : ℕ) →
    so_far ≡ old ++ encode_lower (take (16 * n) bytes) → n ≡ length bytes / 16 →
    new ≡ so_far ++ encode_lower (rest_of bytes (length bytes / 16)) → new ≡ old ++ encode_lower bytes
all_written old so_far new bytes n before all is =
    rest_written old so_far new bytes n before
    (is ∙ ap (λ (l : List ℕ). so_far ++ encode_lower l) (left_from bytes (length bytes / 16 * 16) ∙ ap (λ (k : ℕ). drop (k * 16) bytes) (sym all)))

-- no bytes have no digits
pub none_more : (old bytes : List ℕ) → bytes ≡ [] → old ≡ old ++ encode_lower bytes
unfolding encode_with
none_more old bytes none = sym (append-nil old) ∙ ap (λ (l : List ℕ). old ++ encode_lower l) (sym none)

pub empty_of : (bytes : List ℕ) → (length bytes == 0) ≡ true → bytes ≡ []
empty_of [] is = refl
empty_of (b ∷ bytes) is = absurd (let none : length (b ∷ bytes) ≡ 0 = eqb-true (length (b ∷ bytes)) 0 is in omega arith)
