-- The parts of a packet's bytes, and the numbers that they spell.
use Rattle.std.proofs.Common.{◌≡◌, ◌∙◌, ◌<◌, ◌≤◌, ◌+◌, ◌-◌, ◌^◌, ℕ, zero, suc, List, ◌++◌, length, take, drop, refl, sym, ap, arith, append_assoc, length-append}
use Rattle.std.proofs.lemmas.List.{take-append-drop, length-take, length-drop, take_at, drop_at, drop-drop}
use Rattle.std.proofs.lemmas.Nat.{le_bytes_4, le_bytes_8, from_le_bytes-to_le_bytes_4, from_le_bytes-to_le_bytes_8}
use Rattle.hmc_codes.specs.Bytes.{IsBytes}
use Rattle.hmc_packet.specs.Spelling.{word_bytes, half_bytes}
use Rattle.hmc_packet.specs.Parts.{word_of, half_of}

pub length-word_bytes : (n : ℕ) → length (word_bytes n) ≡ 8
unfolding word_bytes
length-word_bytes n = refl

pub length-half_bytes : (n : ℕ) → length (half_bytes n) ≡ 4
unfolding half_bytes
length-half_bytes n = refl

pub word_of-word_bytes : (n : ℕ) → n < 2 ^ 64 → word_of (word_bytes n) ≡ n
unfolding word_of word_bytes
word_of-word_bytes n lt = from_le_bytes-to_le_bytes_8 n lt

pub half_of-half_bytes : (n : ℕ) → n < 2 ^ 32 → half_of (half_bytes n) ≡ n
unfolding half_of half_bytes
half_of-half_bytes n lt = from_le_bytes-to_le_bytes_4 n lt

pub word_bytes-word_of : (bytes : List ℕ) → length bytes ≡ 8 → IsBytes bytes → word_bytes (word_of bytes) ≡ bytes
unfolding word_of word_bytes
word_bytes-word_of bytes len fits = le_bytes_8 bytes _ len fits refl

pub half_bytes-half_of : (bytes : List ℕ) → length bytes ≡ 4 → IsBytes bytes → half_bytes (half_of bytes) ≡ bytes
unfolding half_of half_bytes
half_bytes-half_of bytes len fits = le_bytes_4 bytes _ len fits refl

pub word_of-lt : (bytes : List ℕ) → IsBytes bytes → word_of bytes < 2 ^ 64
unfolding word_of
word_of-lt bytes fits = omega (arith, fits 0, fits 1, fits 2, fits 3, fits 4, fits 5, fits 6, fits 7)

pub half_of-lt : (bytes : List ℕ) → IsBytes bytes → half_of bytes < 2 ^ 32
unfolding half_of
half_of-lt bytes fits = omega (arith, fits 0, fits 1, fits 2, fits 3)

-- ---- the pieces

pub record HasParts (bytes header payload tail check : List ℕ) : Type 0 where
  pub len : length bytes ≡ 16 + length payload
  pub front : take 8 bytes ≡ header
  pub middle : take (length bytes - 16) (drop 8 bytes) ≡ payload
  pub end : take 4 (drop (length bytes - 8) bytes) ≡ tail
  pub last : drop (length bytes - 4) bytes ≡ check
  pub covered : take (length bytes - 4) bytes ≡ header ++ (payload ++ tail)

-- bytes that are joined of pieces have these parts
pub joined-HasParts : (a p b c : List ℕ) → length a ≡ 8 → length b ≡ 4 → length c ≡ 4 → HasParts ((a ++ (p ++ b)) ++ c) a p b c
joined-HasParts a p b c la lb lc =
    let bytes = (a ++ (p ++ b)) ++ c in
    let lcov : length (a ++ (p ++ b)) ≡ 12 + length p = omega (arith, length-append a (p ++ b), length-append p b) in
    let n : length bytes ≡ 16 + length p = omega (arith, length-append (a ++ (p ++ b)) c) in
    let e1 : bytes ≡ a ++ ((p ++ b) ++ c) = append_assoc a (p ++ b) c in
    let e2 : (p ++ b) ++ c ≡ p ++ (b ++ c) = append_assoc p b c in
    let e3 : bytes ≡ (a ++ p) ++ (b ++ c) = e1 ∙ ap (λ (l : List ℕ). a ++ l) e2 ∙ sym (append_assoc a p (b ++ c)) in
    let lap : length (a ++ p) ≡ length bytes - 8 = omega (arith, length-append a p) in
    record {
      len = n;
      front = ap (take 8) e1 ∙ take_at a ((p ++ b) ++ c) 8 la;
      middle = ap (λ (l : List ℕ). take (length bytes - 16) l) (ap (drop 8) e1 ∙ drop_at a ((p ++ b) ++ c) 8 la ∙ e2) ∙ take_at p (b ++ c) (length bytes - 16) (omega arith);
      end = ap (take 4) (ap (drop (length bytes - 8)) e3 ∙ drop_at (a ++ p) (b ++ c) (length bytes - 8) lap) ∙ take_at b c 4 lb;
      last = drop_at (a ++ (p ++ b)) c (length bytes - 4) (omega arith);
      covered = take_at (a ++ (p ++ b)) c (length bytes - 4) (omega arith);
    }

-- and bytes are their parts, joined
pub parts-join : (bytes : List ℕ) → 16 ≤ length bytes →
    (take 8 bytes ++ (take (length bytes - 16) (drop 8 bytes) ++ take 4 (drop (length bytes - 8) bytes))) ++ drop (length bytes - 4) bytes ≡ bytes
parts-join bytes long =
    let n = length bytes in
    let a = take 8 bytes in
    let m = drop 8 bytes in
    let p = take (n - 16) m in
    let t = drop (n - 8) bytes in
    let b = take 4 t in
    let c = drop (n - 4) bytes in
    let d1 : drop (n - 16) m ≡ t = drop-drop (n - 16) 8 bytes ∙ ap (λ (k : ℕ). drop k bytes) (omega arith) in
    let d2 : drop 4 t ≡ c = drop-drop 4 (n - 8) bytes ∙ ap (λ (k : ℕ). drop k bytes) (omega arith) in
    let s1 : p ++ t ≡ m = ap (λ (l : List ℕ). p ++ l) (sym d1) ∙ take-append-drop (n - 16) m in
    let s2 : b ++ c ≡ t = ap (λ (l : List ℕ). b ++ l) (sym d2) ∙ take-append-drop 4 t in
    append_assoc a (p ++ b) c ∙ ap (λ (l : List ℕ). a ++ l) (append_assoc p b c ∙ ap (λ (l : List ℕ). p ++ l) s2 ∙ s1) ∙ take-append-drop 8 bytes

pub covered-join : (bytes : List ℕ) → 16 ≤ length bytes →
    take (length bytes - 4) bytes ≡ take 8 bytes ++ (take (length bytes - 16) (drop 8 bytes) ++ take 4 (drop (length bytes - 8) bytes))
covered-join bytes long =
    let n = length bytes in
    let a = take 8 bytes in
    let p = take (n - 16) (drop 8 bytes) in
    let b = take 4 (drop (n - 8) bytes) in
    let len : length (a ++ (p ++ b)) ≡ n - 4 = omega (arith, length-append a (p ++ b), length-append p b, length-take 8 bytes, length-take (n - 16) (drop 8 bytes), length-drop 8 bytes, length-take 4 (drop (n - 8) bytes), length-drop (n - 8) bytes) in
    ap (λ (l : List ℕ). take (n - 4) l) (sym (parts-join bytes long)) ∙ take_at (a ++ (p ++ b)) (drop (n - 4) bytes) (n - 4) len

-- the bytes of a number are bytes
pub IsBytes-half_bytes : (n : ℕ) → IsBytes (half_bytes n)
unfolding half_bytes
IsBytes-half_bytes n zero = omega arith
IsBytes-half_bytes n (suc zero) = omega arith
IsBytes-half_bytes n (suc (suc zero)) = omega arith
IsBytes-half_bytes n (suc (suc (suc zero))) = omega arith
IsBytes-half_bytes n (suc (suc (suc (suc k)))) = omega arith
