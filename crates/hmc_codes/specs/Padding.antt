-- A payload's array is its bytes and zeros after them.
use Rattle.std.proofs.Common.{◌≡◌, ◌≤◌, ◌∙◌, ℕ, ◌+◌, ◌-◌, List, length, take, ap, arith, length-append}
use Rattle.std.proofs.lemmas.List.{length-replicate, length-take, length-take-le, take-append-le, take_all}
use Rattle.std.specs.Prelude.{replicate}
use Rattle.hmc_codes.specs.Bytes.{padded_bytes}

-- a padded list has the size that it is padded to
pub length-padded : (size : ℕ) (bytes : List ℕ) → length bytes ≤ size →
    length (padded_bytes size bytes) ≡ size
unfolding padded_bytes
length-padded size bytes fits =
    length-append bytes (replicate (size - length bytes) 0)
    ∙ ap (λ n. length bytes + n) (length-replicate (size - length bytes) 0) ∙ omega arith

-- an array that is its front, padded, has the padded length
pub length-front : (size len : ℕ) (bytes : List ℕ) → len ≤ size →
    bytes ≡ padded_bytes size (take len bytes) → length (take len bytes) ≡ len
length-front size len bytes fits is =
    let short : length (take len bytes) ≤ size = omega (arith, length-take len bytes) in
    let whole : length bytes ≡ size =
    ap length is ∙ length-padded size (take len bytes) short in
    length-take-le len bytes (omega arith)

-- the bytes of a padded list
pub take-padded : (size : ℕ) (bytes : List ℕ) →
    take (length bytes) (padded_bytes size bytes) ≡ bytes
unfolding padded_bytes
take-padded size bytes =
    take-append-le (length bytes) bytes (replicate (size - length bytes) 0) (omega arith)
    ∙ take_all (length bytes) bytes (omega arith)
