-- What is found among numbers.
use Rattle.std.proofs.Common.{◌≡◌, ◌≤◌, ◌<◌, ◌∙◌, ◌+◌, ℕ, zero, suc, Bool, true, false, ◌||◌, cond, ◌⊎◌, inl, inr, List, [], ◌∷◌, Option, Some, None, refl, sym, ap, subst, arith}
use Rattle.std.proofs.lemmas.Bool.{cases_lt, and_parts, and_from}
use Rattle.std.specs.List.{find, list_any, list_all, range_with_len}

-- what is found passes
pub find_passes : (test : ℕ → Bool) (xs : List ℕ) (y : ℕ) → find test xs ≡ Some y → test y ≡ true
find_passes test [] y is = cc
find_passes test (x ∷ xs) y is = by (test x) refl is (find_passes test xs y)
  where
    by : (b : Bool) → test x ≡ b → cond b (Some x) (find test xs) ≡ Some y → (find test xs ≡ Some y → test y ≡ true) → test y ≡ true
    by true on is later = let same : x ≡ y = cc in subst (λ (k : ℕ). test k ≡ true) same on
    by false off is later = later is

-- and is one of the numbers
pub find_within : (test : ℕ → Bool) (a n y : ℕ) → find test (range_with_len a n) ≡ Some y → y < a + n
find_within test a zero y is = absurd (cc)
find_within test a (suc n) y is = by (test a) is (find_within test (a + 1) n y)
  where
    by : (b : Bool) → cond b (Some a) (find test (range_with_len (a + 1) n)) ≡ Some y → (find test (range_with_len (a + 1) n) ≡ Some y → y < a + 1 + n) → y < a + suc n
    by true is later = let same : a ≡ y = cc in omega arith
    by false is later = let below : y < a + 1 + n = later is in omega arith

-- where none is found none passes
pub find_nothing : (test : ℕ → Bool) (xs : List ℕ) → find test xs ≡ None → list_any test xs ≡ false
find_nothing test [] is = refl
find_nothing test (x ∷ xs) is = by (test x) is (find_nothing test xs)
  where
    by : (b : Bool) → cond b (Some x) (find test xs) ≡ None → (find test xs ≡ None → list_any test xs ≡ false) → (b || list_any test xs) ≡ false
    by true is later = cc
    by false is later = later is

-- where none passes none is found
pub find_none : (test : ℕ → Bool) (a n : ℕ) → ((k : ℕ) → a ≤ k → k < a + n → test k ≡ false) → find test (range_with_len a n) ≡ None
find_none test a zero fails = refl
find_none test a (suc n) fails =
    let off : test a ≡ false = fails a (omega arith) (omega arith) in
    ap (λ (b : Bool). cond b (Some a) (find test (range_with_len (a + 1) n))) off
    ∙ find_none test (a + 1) n (λ k low below. fails k (omega arith) (omega arith))

-- the first that passes is found
pub find_first : (test : ℕ → Bool) (a n y : ℕ) → a ≤ y → y < a + n → test y ≡ true → ((k : ℕ) → a ≤ k → k < y → test k ≡ false) → find test (range_with_len a n) ≡ Some y
find_first test a zero y low below on fails = absurd (omega arith)
find_first test a (suc n) y low below on fails =
    by (cases_lt a y) (λ less. find_first test (a + 1) n y less (omega arith) on (λ k more before. fails k (omega arith) before))
  where
    by : (a < y) ⊎ (y ≤ a) → (a + 1 ≤ y → find test (range_with_len (a + 1) n) ≡ Some y) → cond (test a) (Some a) (find test (range_with_len (a + 1) n)) ≡ Some y
    by (inl less) later =
        let off : test a ≡ false = fails a (omega arith) less in
        ap (λ (b : Bool). cond b (Some a) (find test (range_with_len (a + 1) n))) off ∙ later (omega arith)
    by (inr le) later =
        let same : y ≡ a = omega arith in
        let here : test a ≡ true = subst (λ (k : ℕ). test k ≡ true) same on in
        ap (λ (b : Bool). cond b (Some a) (find test (range_with_len (a + 1) n))) here ∙ ap (λ (k : ℕ). Some k) (sym same)

-- tests that agree find the same
pub find_same : (test other : ℕ → Bool) (xs : List ℕ) → ((k : ℕ) → test k ≡ other k) → find test xs ≡ find other xs
find_same test other [] same = refl
find_same test other (x ∷ xs) same =
    ap (λ (b : Bool). cond b (Some x) (find test xs)) (same x) ∙ ap (λ (o : Option ℕ). cond (other x) (Some x) o) (find_same test other xs same)

pub any_same : (test other : ℕ → Bool) (xs : List ℕ) → ((k : ℕ) → test k ≡ other k) → list_any test xs ≡ list_any other xs
any_same test other [] same = refl
any_same test other (x ∷ xs) same =
    ap (λ (b : Bool). b || list_any test xs) (same x) ∙ ap (λ (b : Bool). other x || b) (any_same test other xs same)

-- where none is found each fails
pub find_none-each : (test : ℕ → Bool) (a n k : ℕ) → find test (range_with_len a n) ≡ None → a ≤ k → k < a + n → test k ≡ false
find_none-each test a zero k none low below = absurd (omega arith)
find_none-each test a (suc n) k none low below = by (test a) refl none (λ rest less. find_none-each test (a + 1) n k rest less (omega arith)) (cases_lt a k)
  where
    by : (b : Bool) → test a ≡ b → cond b (Some a) (find test (range_with_len (a + 1) n)) ≡ None → (find test (range_with_len (a + 1) n) ≡ None → a + 1 ≤ k → test k ≡ false) → (a < k) ⊎ (k ≤ a) → test k ≡ false
    by true on none later where_k = cc
    by false off none later (inl less) = later none (omega arith)
    by false off none later (inr le) = let same : a ≡ k = omega arith in subst (λ (j : ℕ). test j ≡ false) same off

-- what all pass each passes
pub all_at : (test : ℕ → Bool) (a n k : ℕ) → list_all test (range_with_len a n) ≡ true → a ≤ k → k < a + n → test k ≡ true
all_at test a zero k all low below = absurd (omega arith)
all_at test a (suc n) k all low below =
    let both = and_parts (test a) (list_all test (range_with_len (a + 1) n)) all in
    by (cases_lt a k) both.0 (λ less. all_at test (a + 1) n k both.1 less (omega arith))
  where
    by : (a < k) ⊎ (k ≤ a) → test a ≡ true → (a + 1 ≤ k → test k ≡ true) → test k ≡ true
    by (inl less) here later = later (omega arith)
    by (inr le) here later = let same : a ≡ k = omega arith in subst (λ (j : ℕ). test j ≡ true) same here

pub all_shown : (test : ℕ → Bool) (a n : ℕ) → ((k : ℕ) → a ≤ k → k < a + n → test k ≡ true) → list_all test (range_with_len a n) ≡ true
all_shown test a zero each = refl
all_shown test a (suc n) each =
    and_from (test a) (list_all test (range_with_len (a + 1) n)) (each a (omega arith) (omega arith))
    (all_shown test (a + 1) n (λ k low below. each k (omega arith) (omega arith)))
