-- Bytes written over others.
use Rattle.std.proofs.Common.{sym, [], ◌≡◌, ◌≤◌, ◌<◌, ◌∙◌, ◌+◌, ◌-◌, ℕ, List, ◌++◌, length, take, drop, ap, arith}
use Rattle.std.specs.Prelude.{slice_index}
use Rattle.std.proofs.lemmas.List.{append_assoc, append-nil, take_at, drop_at, drop-drop, take-append-drop, length-append, length-take, length-drop, get_or_append_left, get_or-append_right, get_or-take, get_or-drop}
use Rattle.hmc_codes.specs.Bytes.{IsBytes}
use Rattle.hmc_codes.proofs.BytesLemmas.{IsBytes-append, IsBytes-take, IsBytes-drop}
use Rattle.hmc_memory.specs.Banks.{written_bytes}

pub length-written : (xs : List ℕ) (at : ℕ) (new : List ℕ) → at + length new ≤ length xs → length (written_bytes xs at new) ≡ length xs
length-written xs at new fits =
    omega (arith, length-append (take at xs ++ new) (drop (at + length new) xs), length-append (take at xs) new, length-take at xs, length-drop (at + length new) xs)

-- a byte below those written
pub get_or-written_below : (xs : List ℕ) (at : ℕ) (new : List ℕ) (k : ℕ) → at + length new ≤ length xs → k < at → slice_index (written_bytes xs at new) k ≡ slice_index xs k
get_or-written_below xs at new k fits below =
    let in_front : k < length (take at xs) = omega (arith, length-take at xs) in
    let in_both : k < length (take at xs ++ new) = omega (arith, length-take at xs, length-append (take at xs) new) in
    get_or_append_left (take at xs ++ new) _ 0 k in_both ∙ get_or_append_left (take at xs) new 0 k in_front ∙ get_or-take at xs k 0 below

-- a byte of those written
pub get_or-written_inside : (xs : List ℕ) (at : ℕ) (new : List ℕ) (j k : ℕ) → at + length new ≤ length xs → j < length new → at + j ≡ k → slice_index (written_bytes xs at new) k ≡ slice_index new j
get_or-written_inside xs at new j k fits inside is =
    let front : length (take at xs) ≡ at = omega (arith, length-take at xs) in
    let in_both : k < length (take at xs ++ new) = omega (arith, length-append (take at xs) new) in
    get_or_append_left (take at xs ++ new) _ 0 k in_both ∙ get_or-append_right (take at xs) new at k 0 front (omega arith) ∙ ap (slice_index new) (omega arith)

-- a byte above them
pub get_or-written_above : (xs : List ℕ) (at : ℕ) (new : List ℕ) (k : ℕ) → at + length new ≤ length xs → at + length new ≤ k → slice_index (written_bytes xs at new) k ≡ slice_index xs k
get_or-written_above xs at new k fits above =
    let front : length (take at xs ++ new) ≡ at + length new = omega (arith, length-take at xs, length-append (take at xs) new) in
    get_or-append_right (take at xs ++ new) (drop (at + length new) xs) (at + length new) k 0 front above ∙ get_or-drop (at + length new) xs (k - (at + length new)) 0 ∙ ap (slice_index xs) (omega arith)

pub IsBytes-written : (xs : List ℕ) (at : ℕ) (new : List ℕ) → IsBytes xs → IsBytes new → IsBytes (written_bytes xs at new)
IsBytes-written xs at new old_bytes new_bytes =
    IsBytes-append (take at xs ++ new) (drop (at + length new) xs) (IsBytes-append (take at xs) new (IsBytes-take at xs old_bytes) new_bytes) (IsBytes-drop (at + length new) xs old_bytes)

-- bytes written after others are written with them
pub written-written : (xs : List ℕ) (at : ℕ) (front back : List ℕ) (next : ℕ) → at + length front ≡ next → next ≤ length xs → written_bytes (written_bytes xs at front) next back ≡ written_bytes xs at (front ++ back)
written-written xs at front back next is fits =
    let before : length (take at xs ++ front) ≡ next = omega (arith, length-append (take at xs) front, length-take at xs) in
    let head : take next (written_bytes xs at front) ≡ take at xs ++ front = take_at (take at xs ++ front) (drop (at + length front) xs) next before in
    let tail : drop (next + length back) (written_bytes xs at front) ≡ drop (at + length (front ++ back)) xs =
    sym (drop-drop (length back) next (written_bytes xs at front)) ∙ ap (drop (length back)) (drop_at (take at xs ++ front) (drop (at + length front) xs) next before)
    ∙ drop-drop (length back) (at + length front) xs ∙ ap (λ n. drop n xs) (omega (arith, length-append front back)) in
    ap (λ h. h ++ back ++ drop (next + length back) (written_bytes xs at front)) head ∙ ap (λ t. take at xs ++ front ++ back ++ t) tail
    ∙ ap (λ m. m ++ drop (at + length (front ++ back)) xs) (append_assoc (take at xs) front back)

-- nothing written changes nothing
pub written_nothing : (xs : List ℕ) (at : ℕ) → written_bytes xs at [] ≡ xs
written_nothing xs at = ap (λ l. l ++ drop (at + 0) xs) (append-nil (take at xs)) ∙ ap (λ n. take at xs ++ drop n xs) (omega arith) ∙ take-append-drop at xs
