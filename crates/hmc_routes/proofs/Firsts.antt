-- The first number that passes a test, or the limit where none below it does.
use Rattle.std.proofs.Common.{◌≡◌, ◌≤◌, ◌<◌, ◌∙◌, ◌+◌, ◌⊎◌, inl, inr, ℕ, zero, suc, Bool, true, false, not, cond, eqb, List, [], ◌∷◌, ◌++◌, length, get_or, refl, sym, ap, subst, arith}
use Rattle.std.proofs.lemmas.Bool.{not-true, not-false, eqb-true, eqb-false, cases_lt, cond_both}
use Rattle.std.proofs.lemmas.List.Folds.{position_or_len_push}
use Rattle.std.proofs.lemmas.List.FromFn.{length-range_with_len, get_or-range_with_len}
use Rattle.std.proofs.lemmas.List.Sums.{prefix_len-le-length, prefix_len_passes, prefix_len_stops}
use Rattle.std.specs.List.{position_or_len, range_with_len}
use Rattle.hmc_codes.specs.Numbers.{upto}

abbrev pub first : (ℕ → Bool) → ℕ → ℕ
first test n = position_or_len test (upto n)

-- what passes at a number passes at the next
abbrev pub IsGrowing : (ℕ → Bool) → Type 0
IsGrowing test = (n : ℕ) → test n ≡ true → test (suc n) ≡ true

pub grown : (test : ℕ → Bool) (n more : ℕ) → IsGrowing test → test n ≡ true → test (n + more) ≡ true
grown test n zero grows is = let same : n ≡ n + 0 = omega arith in subst (λ (k : ℕ). test k ≡ true) same is
grown test n (suc more) grows is =
    let same : suc (n + more) ≡ n + suc more = omega arith in
    subst (λ (k : ℕ). test k ≡ true) same (grows (n + more) (grown test n more grows is))

pub grown_to : (test : ℕ → Bool) (n m : ℕ) → IsGrowing test → n ≤ m → test n ≡ true → test m ≡ true
grown_to test n m grows le is =
    let more : (k : ℕ) × (n + k ≡ m) = by n m le in
    subst (λ (k : ℕ). test k ≡ true) more.1 (grown test n more.0 grows is)
  where
    by : (n m : ℕ) → n ≤ m → (k : ℕ) × (n + k ≡ m)
    by zero m le = (m, omega arith)
    by (suc n) zero le = absurd (omega arith)
    by (suc n) (suc m) le = let rest = by n m (omega arith) in (rest.0, omega (arith, rest.1))

pub first-le : (test : ℕ → Bool) (n : ℕ) → first test n ≤ n
first-le test n = omega (arith, prefix_len-le-length (λ x. not (test x)) (upto n), length-range_with_len 0 n)

pub first-below : (test : ℕ → Bool) (n k : ℕ) → k < first test n → test k ≡ false
first-below test n k below =
    let passes : not (test (get_or (upto n) k 0)) ≡ true = prefix_len_passes (λ x. not (test x)) (upto n) k 0 below in
    let le : first test n ≤ n = first-le test n in
    let at : get_or (upto n) k 0 ≡ 0 + k = get_or-range_with_len 0 n k 0 (omega arith) in
    let is : get_or (upto n) k 0 ≡ k = omega arith in
    not-true (test k) (subst (λ (x : ℕ). not (test x) ≡ true) is passes)

pub first-passes : (test : ℕ → Bool) (n : ℕ) → first test n < n → test (first test n) ≡ true
first-passes test n below =
    let long : length (upto n) ≡ n = length-range_with_len 0 n in
    let stops : not (test (get_or (upto n) (first test n) 0)) ≡ false = prefix_len_stops (λ x. not (test x)) (upto n) 0 (omega arith) in
    let at : get_or (upto n) (first test n) 0 ≡ 0 + first test n = get_or-range_with_len 0 n (first test n) 0 below in
    let is : get_or (upto n) (first test n) 0 ≡ first test n = omega arith in
    not-false (test (first test n)) (subst (λ (x : ℕ). not (test x) ≡ false) is stops)

-- a number that passes is no less than the first
pub first-least : (test : ℕ → Bool) (n m : ℕ) → test m ≡ true → first test n ≤ m
first-least test n m is = by (cases_lt m (first test n))
  where
    by : (m < first test n) ⊎ (first test n ≤ m) → first test n ≤ m
    by (inl less) = let off : test m ≡ false = first-below test n m less in let clash : true ≡ false = sym is ∙ off in absurd (cc)
    by (inr le) = le

-- a number below the limit that fails is less than the first
pub first-later : (test : ℕ → Bool) (n m : ℕ) → IsGrowing test → test m ≡ false → m < n → m < first test n
first-later test n m grows off below = by (cases_lt m (first test n))
  where
    by : (m < first test n) ⊎ (first test n ≤ m) → m < first test n
    by (inl less) = less
    by (inr le) =
        let on : test (first test n) ≡ true = first-passes test n (omega arith) in
        let on_there : test m ≡ true = grown_to test (first test n) m grows le on in
        let clash : true ≡ false = sym on_there ∙ off in absurd (cc)

-- where the limit passes the first does
pub first-at : (test : ℕ → Bool) (n : ℕ) → test n ≡ true → test (first test n) ≡ true
first-at test n is = by (cases_lt (first test n) n)
  where
    by : (first test n < n) ⊎ (n ≤ first test n) → test (first test n) ≡ true
    by (inl less) = first-passes test n less
    by (inr le) =
        let low : first test n ≤ n = first-le test n in
        let same : n ≡ first test n = omega arith in subst (λ (k : ℕ). test k ≡ true) same is

-- one number more
pub upto-suc : (a n : ℕ) → range_with_len a (suc n) ≡ range_with_len a n ++ (a + n) ∷ []
upto-suc a zero = let same : a ≡ a + 0 = omega arith in ap (λ (x : ℕ). x ∷ []) same
upto-suc a (suc n) =
    let same : a + 1 + n ≡ a + suc n = omega arith in
    ap (λ (xs : List ℕ). a ∷ xs) (upto-suc (a + 1) n ∙ ap (λ (x : ℕ). range_with_len (a + 1) n ++ x ∷ []) same)

pushed : (passes : Bool) (at long n : ℕ) → long ≡ n → at ≤ n → (passes ≡ false → at ≡ n) → cond (eqb at long) (long + cond passes 0 1) at ≡ at + cond passes 0 1
pushed true at long n is le all = cond_both (eqb at long) (long + 0) at (λ x. x ≡ at + 0) (λ e. omega (arith, eqb-true at long e)) (λ e. omega arith)
pushed false at long n is le all =
    let here : at ≡ n = all refl in
    cond_both (eqb at long) (long + 1) at (λ x. x ≡ at + 1) (λ e. omega (arith, eqb-true at long e)) (λ e. absurd (eqb-false at long e (omega arith)))

pub first-suc : (test : ℕ → Bool) (n : ℕ) → IsGrowing test → first test (suc n) ≡ first test n + cond (test n) 0 1
first-suc test n grows =
    let zero_on : 0 + n ≡ n = omega arith in
    let more : upto (suc n) ≡ upto n ++ n ∷ [] = upto-suc 0 n ∙ ap (λ (x : ℕ). upto n ++ x ∷ []) zero_on in
    ap (λ (xs : List ℕ). position_or_len test xs) more ∙ position_or_len_push test (upto n) n
    ∙ pushed (test n) (first test n) (length (upto n)) n (length-range_with_len 0 n) (first-le test n) (all (cases_lt (first test n) n))
  where
    all : (first test n < n) ⊎ (n ≤ first test n) → test n ≡ false → first test n ≡ n
    all (inl less) off =
        let on : test n ≡ true = grown_to test (first test n) n grows (omega arith) (first-passes test n less) in
        let clash : true ≡ false = sym on ∙ off in absurd (cc)
    all (inr le) off = let low : first test n ≤ n = first-le test n in omega arith
