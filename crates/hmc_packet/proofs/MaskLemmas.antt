-- A flit under a mask, byte by byte.
use Rattle.std.proofs.Common.{◌≡◌, ◌∙◌, ◌<◌, ◌+◌, ℕ, zero, suc, List, [], ◌∷◌, ◌++◌, length, take, drop, refl, ap, arith, append-nil}
use Rattle.std.specs.Prelude.{slice_set, slice_index, bit_xor, replicate}
use Rattle.std.proofs.lemmas.List.{take_all, drop_all}
use Rattle.hmc_codes.specs.Flit.{zero_flit}
use Rattle.hmc_packet.specs.Masks.{under_mask}

next-byte : (m f : List ℕ) (i : ℕ) → i < length m → i < length f → slice_set (under_mask (take i m) (take i f) ++ drop i f) i (bit_xor (slice_index m i) (slice_index f i)) ≡ under_mask (take (suc i) m) (take (suc i) f) ++ drop (suc i) f
next-byte [] f i lt lt' = absurd (omega arith)
next-byte (x ∷ m) [] i lt lt' = absurd (omega arith)
next-byte (x ∷ m) (y ∷ f) zero lt lt' = refl
next-byte (x ∷ m) (y ∷ f) (suc i) lt lt' = ap (λ (l : List ℕ). bit_xor x y ∷ l) (next-byte m f i (omega arith) (omega arith))

pub byte-more : (m f : List ℕ) (i : ℕ) → i < length m → i < length f → slice_set (under_mask (take i m) (take i f) ++ drop i f) i (bit_xor (slice_index m i) (slice_index f i)) ≡ under_mask (take (i + 1) m) (take (i + 1) f) ++ drop (i + 1) f
byte-more m f i lt lt' = next-byte m f i lt lt' ∙ ap (λ (n : ℕ). under_mask (take n m) (take n f) ++ drop n f) (let e : suc i ≡ i + 1 = omega arith in e)

pub all-bytes : (m f : List ℕ) → length m ≡ 16 → length f ≡ 16 → under_mask (take 16 m) (take 16 f) ++ drop 16 f ≡ under_mask m f
all-bytes m f a b =
    (λ i. under_mask (take_all 16 m (omega arith) i) (take_all 16 f (omega arith) i) ++ drop_all 16 f (omega arith) i) ∙ append-nil (under_mask m f)

zeros-change-nothing : (n : ℕ) (f : List ℕ) → length f ≡ n → under_mask (replicate n 0) f ≡ f
zeros-change-nothing zero [] long = refl
zeros-change-nothing zero (y ∷ f) long = absurd (omega arith)
zeros-change-nothing (suc n) [] long = absurd (omega arith)
zeros-change-nothing (suc n) (y ∷ f) long = ap (λ (l : List ℕ). y ∷ l) (zeros-change-nothing n f (omega arith))

-- a zero mask changes nothing
pub zero-mask : (m f : List ℕ) → m ≡ zero_flit → length f ≡ 16 → under_mask m f ≡ f
unfolding zero_flit
zero-mask m f is long = ap (λ (l : List ℕ). under_mask l f) is ∙ zeros-change-nothing 16 f long
