-- Bytes cut into flits, and flits joined.
use Rattle.std.proofs.Common.{◌≡◌, ◌∙◌, ◌<◌, ◌*◌, ℕ, zero, suc, List, [], ◌∷◌, ◌++◌, length, get_or, take, drop, refl, sym, ap, arith, append_assoc, length-append}
use Rattle.std.proofs.lemmas.List.{append-nil, take-append-drop, length-take, length-drop, take_at, drop_at, nil_from_length}
use Rattle.std.specs.List.{concat}
use Rattle.hmc_packet.specs.Spelling.{cut}

-- one more flit
pub concat-take : (flits : List (List ℕ)) (i : ℕ) → i < length flits → concat (take (suc i) flits) ≡ concat (take i flits) ++ get_or flits i []
concat-take [] i lt = absurd (omega arith)
concat-take (x ∷ xs) zero lt = append-nil x
concat-take (x ∷ xs) (suc i) lt = ap (λ (l : List ℕ). x ++ l) (concat-take xs i (omega arith)) ∙ sym (append_assoc x (concat (take i xs)) (get_or xs i []))

-- each flit has 16 bytes
abbrev pub AreFlits : List (List ℕ) → Type 0
AreFlits flits = (k : ℕ) → k < length flits → length (get_or flits k []) ≡ 16

AreFlits-rest : (x : List ℕ) (xs : List (List ℕ)) → AreFlits (x ∷ xs) → AreFlits xs
AreFlits-rest x xs are k lt = are (suc k) (omega arith)

pub first-length : (x : List ℕ) (xs : List (List ℕ)) → AreFlits (x ∷ xs) → length x ≡ 16
first-length x xs are = are 0 (omega arith)

pub length-concat : (flits : List (List ℕ)) → AreFlits flits → length (concat flits) ≡ 16 * length flits
length-concat [] are = refl
length-concat (x ∷ xs) are =
    let first : length x ≡ 16 = are 0 (omega arith) in
    omega (arith, length-append x (concat xs), length-concat xs (AreFlits-rest x xs are))

pub length-cut : (n : ℕ) (bytes : List ℕ) → length (cut n bytes) ≡ n
unfolding cut
length-cut zero bytes = refl
length-cut (suc n) bytes = ap suc (length-cut n (drop 16 bytes))

-- what was joined is cut again
pub cut-concat : (flits : List (List ℕ)) → AreFlits flits → cut (length flits) (concat flits) ≡ flits
unfolding cut
cut-concat [] are = refl
cut-concat (x ∷ xs) are =
    let first : length x ≡ 16 = are 0 (omega arith) in
    λ i. take_at x (concat xs) 16 first i ∷ (ap (cut (length xs)) (drop_at x (concat xs) 16 first) ∙ cut-concat xs (AreFlits-rest x xs are)) i

-- what was cut is joined again
pub concat-cut : (n : ℕ) (bytes : List ℕ) → length bytes ≡ 16 * n → concat (cut n bytes) ≡ bytes
unfolding cut
concat-cut zero bytes is = sym (nil_from_length bytes (omega arith))
concat-cut (suc n) bytes is =
    ap (λ (l : List ℕ). take 16 bytes ++ l) (concat-cut n (drop 16 bytes) (omega (arith, length-drop 16 bytes))) ∙ take-append-drop 16 bytes

pub AreFlits-cut : (n : ℕ) (bytes : List ℕ) → length bytes ≡ 16 * n → AreFlits (cut n bytes)
unfolding cut
AreFlits-cut zero bytes is k lt = absurd (omega arith)
AreFlits-cut (suc n) bytes is zero lt = omega (arith, length-take 16 bytes)
AreFlits-cut (suc n) bytes is (suc k) lt = AreFlits-cut n (drop 16 bytes) (omega (arith, length-drop 16 bytes)) k (omega arith)
