-- A number of one digit is written in one piece with the space before it.
use Rattle.std.proofs.Common.{◌≡◌, ◌∙◌, ℕ, List, [], ◌∷◌, ◌++◌, ap, ap₂, sym, append_assoc}

-- after a word
pub after_digit : (old word first second new piece digits rest : List ℕ) (g : ℕ) →
    first ≡ old ++ word → second ≡ first ++ piece → piece ≡ 32 ∷ g ∷ [] → digits ≡ g ∷ [] → new ≡ second ++ rest →
    new ≡ old ++ (word ++ (32 ∷ (digits ++ rest)))
after_digit old word first second new piece digits rest g first_is second_is piece_is digits_is new_is =
    new_is ∙ ap (λ (l : List ℕ). l ++ rest) (second_is ∙ ap₂ (λ (a b : List ℕ). a ++ b) first_is piece_is)
    ∙ append_assoc (old ++ word) (32 ∷ g ∷ []) rest ∙ append_assoc old word (32 ∷ g ∷ rest)
    ∙ ap (λ (l : List ℕ). old ++ (word ++ (32 ∷ (l ++ rest)))) (sym digits_is)

-- and two of them
pub after_digits : (old word first second third new piece next digits more rest : List ℕ) (g h : ℕ) →
    first ≡ old ++ word → second ≡ first ++ piece → piece ≡ 32 ∷ g ∷ [] → digits ≡ g ∷ [] →
    third ≡ second ++ next → next ≡ 32 ∷ h ∷ [] → more ≡ h ∷ [] → new ≡ third ++ rest →
    new ≡ old ++ (word ++ (32 ∷ (digits ++ (32 ∷ (more ++ rest)))))
after_digits old word first second third new piece next digits more rest g h first_is second_is piece_is digits_is third_is next_is more_is new_is =
    after_digit old word first second new piece digits (next ++ rest) g first_is second_is piece_is digits_is
    (new_is ∙ ap (λ (l : List ℕ). l ++ rest) third_is ∙ append_assoc second next rest)
    ∙ ap (λ (l : List ℕ). old ++ (word ++ (32 ∷ (digits ++ l)))) (ap (λ (l : List ℕ). l ++ rest) next_is ∙ ap (λ (l : List ℕ). 32 ∷ (l ++ rest)) (sym more_is))

-- words of a step are words of its line
pub pair_flat : (first second rest : List ℕ) → first ++ (32 ∷ (second ++ rest)) ≡ (first ++ (32 ∷ second)) ++ rest
pair_flat first second rest = sym (append_assoc first (32 ∷ second) rest)

pub three_flat : (first second third rest : List ℕ) → first ++ (32 ∷ (second ++ (32 ∷ (third ++ rest)))) ≡ (first ++ (32 ∷ (second ++ (32 ∷ third)))) ++ rest
three_flat first second third rest =
    ap (λ (l : List ℕ). first ++ (32 ∷ l)) (pair_flat second third rest) ∙ pair_flat first (second ++ (32 ∷ third)) rest
