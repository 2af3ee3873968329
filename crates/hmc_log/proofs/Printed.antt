-- A list of lines, one after another.
use Rattle.std.proofs.Common.{◌≡◌, ◌∙◌, ◌<◌, ◌≤◌, ◌+◌, ℕ, List, [], ◌∷◌, ◌++◌, length, take, get_or, sym, ap, append-nil, append_assoc}
use Rattle.std.specs.List.{flat_map}
use Rattle.std.proofs.lemmas.List.{take_more, take_all}
use Rattle.std.proofs.lemmas.Grind.{flat_map-append}

-- one line more
pub line_more : {A : Type 0} (f : A → List ℕ) (xs : List A) (i : ℕ) (x : A) (start text after : List ℕ) →
    i < length xs → x ≡ get_or xs i x → text ≡ start ++ flat_map f (take i xs) →
    after ≡ text ++ f x → after ≡ start ++ flat_map f (take (i + 1) xs)
line_more f xs i x start text after inside is so_far added =
    let more : flat_map f (take (i + 1) xs) ≡ flat_map f (take i xs) ++ f x =
    ap (flat_map f) (take_more xs i x inside)
    ∙ flat_map-append f (take i xs) (get_or xs i x ∷ [])
    ∙ rw (← is) (ap (λ (l : List ℕ). flat_map f (take i xs) ++ l) (append-nil (f x))) in
    added ∙ ap (λ l. l ++ f x) so_far ∙ append_assoc start (flat_map f (take i xs)) (f x)
    ∙ ap (λ l. start ++ l) (sym more)

-- all lines
pub lines_all : {A : Type 0} (f : A → List ℕ) (xs : List A) (i : ℕ) (start text : List ℕ) →
    length xs ≤ i → text ≡ start ++ flat_map f (take i xs) → text ≡ start ++ flat_map f xs
lines_all f xs i start text over so_far =
    so_far ∙ ap (λ l. start ++ flat_map f l) (take_all i xs over)
