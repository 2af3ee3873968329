-- The mask that is read off a landing is the one under which the flit landed.
use Rattle.std.proofs.Common.{◌≡◌, ◌≤◌, ◌∙◌, ℕ, Bool, true, false, if◌then◌else◌, List, [], ◌∷◌, length, Some, refl, sym, ap, arith}
use Rattle.std.specs.Prelude.{replicate, slice_get, bit_xor}
use Rattle.std.specs.Str.{bytes_eq}
use Rattle.std.proofs.lemmas.Slice.Eq.{bytes_eq-Decides}
use Rattle.std.proofs.lemmas.Nat.Bits.{bit_at_xor, bit_at-lt, bit_at-zero, same_from_bits}
use Rattle.hmc_codes.specs.Flit.{zero_flit}
use Rattle.hmc_codes.specs.Link.{LinkFields}
use Rattle.hmc_send.specs.declared.toward.Toward.{Toward}
use Rattle.hmc_send.specs.LinkEntries.{LinkEntry}
use Rattle.hmc_packet.specs.Masks.{under_mask}
use Rattle.hmc_send.specs.LinkLines.{StampedFlit, line}
use Rattle.hmc_journal.specs.Links.{mask_between, landing_mask}

xor_twice : (a b : ℕ) → bit_xor a (bit_xor b a) ≡ b
xor_twice a b = same_from_bits (bit_xor a (bit_xor b a)) b (λ i.
    let first = bit_at_xor a (bit_xor b a) i in
    let second = bit_at_xor b a i in
    let low = bit_at-lt a i in
    let few = bit_at-lt b i in
    omega arith)

-- turned over twice by what the flit was, a mask is itself
pub mask_twice : (mask front : List ℕ) → length mask ≤ length front → under_mask front (under_mask mask front) ≡ mask
mask_twice [] [] within = refl
mask_twice [] (f ∷ front) within = refl
mask_twice (m ∷ mask) [] within = absurd (omega arith)
mask_twice (m ∷ mask) (f ∷ front) within = λ i. xor_twice f m i ∷ mask_twice mask front (omega arith) i

xor_self : (a : ℕ) → bit_xor a a ≡ 0
xor_self a = same_from_bits (bit_xor a a) 0 (λ i.
    let first = bit_at_xor a a i in
    let low = bit_at-lt a i in
    let none = bit_at-zero i in
    omega arith)

-- where it changes nothing, a mask has no bit
mask_self : (front : List ℕ) → under_mask front front ≡ replicate (length front) 0
mask_self [] = refl
mask_self (f ∷ front) = λ i. xor_self f i ∷ mask_self front i

no_mask : replicate 16 0 ≡ zero_flit
unfolding zero_flit
no_mask = refl

mask_by : (mask front : List ℕ) (same : Bool) → bytes_eq front (under_mask mask front) ≡ same → length mask ≡ 16 → length front ≡ 16
    → (if same then zero_flit else under_mask front (under_mask mask front)) ≡ mask
mask_by mask front false is long size = mask_twice mask front (omega arith)
mask_by mask front true is long size =
    let equal : front ≡ under_mask mask front = (bytes_eq-Decides front (under_mask mask front)).0 is in
    sym no_mask ∙ ap (λ n. replicate n 0) (sym size) ∙ sym (mask_self front) ∙ ap (under_mask front) equal ∙ mask_twice mask front (omega arith)

pub mask_found : (link : LinkFields) (d : Toward) (past : List LinkEntry) (front : StampedFlit) (mask : List ℕ) → slice_get (line link.profile d past) 0 ≡ Some front → length mask ≡ 16 → length front.flit ≡ 16
    → landing_mask link d past (under_mask mask front.flit) ≡ mask
mask_found link d past front mask is long size =
    ap (λ f. mask_between f (under_mask mask front.flit)) is ∙ mask_by mask front.flit (bytes_eq front.flit (under_mask mask front.flit)) refl long size
