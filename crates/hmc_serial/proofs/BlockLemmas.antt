-- Memory that is read and written in blocks of 16 bytes.
use Rattle.std.proofs.Common.{◌≡◌, ◌≤◌, ◌∙◌, ◌+◌, ◌-◌, ◌*◌, ℕ, List, ◌++◌, length, take, drop, sym, ap, arith}
use Rattle.std.specs.Prelude.{slice_range}
use Rattle.std.proofs.Math.Seq.{take-add}
use Rattle.std.proofs.lemmas.List.{length-take, drop-drop}
use Rattle.std.proofs.lemmas.Slice.{take-put_mid}
use borrow.Rule.Slice.PartMut.{put_mid}
use Rattle.hmc_memory.specs.Banks.{written_bytes}
use Rattle.hmc_memory.proofs.WrittenLemmas.{written-written}

-- a range, and the next one
slice_range-more : (xs : List ℕ) (a m n : ℕ) → slice_range xs a (a + m) ++ slice_range xs (a + m) (a + m + n) ≡ slice_range xs a (a + (m + n))
slice_range-more xs a m n =
    let first : slice_range xs a (a + m) ≡ take m (drop a xs) = ap (λ k. take k (drop a xs)) (omega arith) in
    let next : slice_range xs (a + m) (a + m + n) ≡ take n (drop m (drop a xs)) =
    ap (λ k. take k (drop (a + m) xs)) (omega arith) ∙ ap (take n) (sym (drop-drop m a xs)) in
    let both : slice_range xs a (a + (m + n)) ≡ take (m + n) (drop a xs) = ap (λ k. take k (drop a xs)) (omega arith) in
    ap (λ l. l ++ slice_range xs (a + m) (a + m + n)) first ∙ ap (λ l. take m (drop a xs) ++ l) next ∙ sym (take-add m n (drop a xs)) ∙ sym both

-- one more block is read
pub read_more : (bytes memory : List ℕ) (a i : ℕ) (block : List ℕ) → length bytes ≡ 256 → length block ≡ 16 → block ≡ slice_range memory (a + 16 * i) (a + 16 * i + 16) → 16 * i + 16 ≤ 256 → take (16 * i) bytes ≡ slice_range memory a (a + 16 * i) →
    take (16 * (i + 1)) (put_mid (16 * i) (16 * i + 16 - 16 * i) bytes block) ≡ slice_range memory a (a + 16 * (i + 1))
read_more bytes memory a i block long sixteen is fits so_far =
    take-put_mid (16 * i) (16 * i + 16 - 16 * i) bytes block (16 * (i + 1)) (omega arith) (omega arith)
    ∙ ap (λ l. l ++ block) so_far ∙ ap (λ l. slice_range memory a (a + 16 * i) ++ l) is
    ∙ slice_range-more memory a (16 * i) 16 ∙ ap (λ n. slice_range memory a (a + n)) (omega arith)

-- one more block is written
pub write_more : (first before after bytes block : List ℕ) (a i : ℕ) → a + length bytes ≤ length first → 16 * i + 16 ≤ length bytes → block ≡ slice_range bytes (16 * i) (16 * i + 16) → before ≡ written_bytes first a (take (16 * i) bytes) → after ≡ written_bytes before (a + 16 * i) block →
    after ≡ written_bytes first a (take (16 * (i + 1)) bytes)
write_more first before after bytes block a i fits inside is so_far then =
    let front : length (take (16 * i) bytes) ≡ 16 * i = omega (arith, length-take (16 * i) bytes) in
    let part : 16 * i + 16 - 16 * i ≡ 16 = omega arith in
    let next : 16 * i + 16 ≡ 16 * (i + 1) = omega arith in
    let joined : take (16 * i) bytes ++ block ≡ take (16 * (i + 1)) bytes =
    ap (λ l. take (16 * i) bytes ++ l) (is ∙ ap (λ n. take n (drop (16 * i) bytes)) part) ∙ sym (take-add (16 * i) 16 bytes) ∙ ap (λ n. take n bytes) next in
    then ∙ ap (λ l. written_bytes l (a + 16 * i) block) so_far
    ∙ written-written first a (take (16 * i) bytes) block (a + 16 * i) (omega arith) (omega arith)
    ∙ ap (written_bytes first a) joined
