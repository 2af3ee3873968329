-- The line of a NULL: its digits, and what is sent or the outcome, are known.
use Rattle.std.proofs.Common.{◌≡◌, ◌∙◌, ℕ, List, [], ◌∷◌, ◌++◌, codes, refl, ap, sym}
use Rattle.std.specs.Fmt.{decimal}
use Rattle.hex.specs.Hex.{encode_lower, encode_with}
use Rattle.hmc_codes.specs.Flit.{zero_flit}

pub zero_digits : encode_lower zero_flit ≡ codes "00000000000000000000000000000000"
unfolding encode_with zero_flit
zero_digits = refl

-- after `sent` and the direction
pub sent_null : (n : ℕ) (what digits : List ℕ) → what ≡ codes "null" →
    digits ≡ codes "00000000000000000000000000000000" →
    (codes "sent" ++ (32 ∷ decimal n)) ++ codes " null 00000000000000000000000000000000\n"
    ≡ codes "sent " ++ (decimal n ++ (32 ∷ (what ++ (32 ∷ (digits ++ (10 ∷ []))))))
sent_null n what digits null zero = sym (
    ap (λ (l : List ℕ). codes "sent " ++ (decimal n ++ (32 ∷ (l ++ (32 ∷ (digits ++ (10 ∷ []))))))) null
    ∙ ap (λ (l : List ℕ). codes "sent " ++ (decimal n ++ (codes " null " ++ (l ++ (10 ∷ []))))) zero)

-- after `landed` and the direction
pub landed_null : (n : ℕ) (digits outcome : List ℕ) →
    digits ≡ codes "00000000000000000000000000000000" → outcome ≡ codes "quiet" →
    (codes "landed" ++ (32 ∷ decimal n)) ++ codes " 00000000000000000000000000000000 quiet\n"
    ≡ codes "landed " ++ (decimal n ++ (32 ∷ (digits ++ (32 ∷ (outcome ++ (10 ∷ []))))))
landed_null n digits outcome zero quiet = sym (
    ap (λ (l : List ℕ). codes "landed " ++ (decimal n ++ (32 ∷ (l ++ (32 ∷ (outcome ++ (10 ∷ []))))))) zero
    ∙ ap (λ (l : List ℕ). codes "landed " ++ (decimal n ++ (codes " 00000000000000000000000000000000 " ++ (l ++ (10 ∷ []))))) quiet)
