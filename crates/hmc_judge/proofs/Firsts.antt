-- The first of a list that passes a test, by its place and by its neighbours.
use Rattle.std.proofs.Common.{◌≡◌, ◌∙◌, ◌<◌, ◌≤◌, ℕ, zero, suc, Bool, true, false, Option, Some, None, List, [], ◌∷◌, ◌++◌, length, get_or, cond, nat_lt, refl, sym, ap, arith}
use Rattle.std.specs.List.{remove, position, position_or_len}
use Rattle.std.proofs.lemmas.Grind.{common_steps}
use Rattle.std.proofs.lemmas.List.Quantifiers.{position-Some}
use Rattle.std.proofs.lemmas.List.Sums.{fails_before_first}
use Rattle.hmc_search.specs.Point.{NonePasses}
use Rattle.hmc_judge.specs.Picked.{Picked, after_one, first_out, this_or}

none_before : (m n : ℕ) → cond (nat_lt m n) (Some m) None ≡ None → n ≤ m
none_before m n is = grind (arith, common_steps)

module _ {X : Type 0} (test : X → Bool) where
  out_at : (xs : List X) (n : ℕ) (none : X) → n < length xs → test (get_or xs n none) ≡ true →
      ((k : ℕ) → k < n → test (get_or xs k none) ≡ false) →
      first_out test xs ≡ Some (record { first = get_or xs n none; rest = remove xs n })
  unfolding first_out
  out_at [] n none less passes fails = absurd (omega (arith, less))
  out_at (x ∷ xs) zero none less passes fails =
      ap (λ b. this_or b (Some (record { first = x; rest = xs })) (after_one x (first_out test xs)))
      passes
  out_at (x ∷ xs) (suc n) none less passes fails =
      ap (λ b. this_or b (Some (record { first = x; rest = xs })) (after_one x (first_out test xs)))
      (fails 0 (omega arith))
      ∙ ap (λ h. after_one x h) (out_at xs n none (omega (arith, less)) passes
      (λ k h. fails (suc k) (omega (arith, h))))

  out_none : (xs : List X) (none : X) →
      ((k : ℕ) → k < length xs → test (get_or xs k none) ≡ false) → first_out test xs ≡ None
  unfolding first_out
  out_none [] none fails = refl
  out_none (x ∷ xs) none fails =
      ap (λ b. this_or b (Some (record { first = x; rest = xs })) (after_one x (first_out test xs)))
      (fails 0 (omega arith))
      ∙ ap (λ h. after_one x h) (out_none xs none (λ k h. fails (suc k) (omega (arith, h))))

  -- the element at the place that passes first
  pub at_first : (xs : List X) (n : ℕ) (none : X) → position test xs ≡ Some n →
      first_out test xs ≡ Some (record { first = get_or xs n none; rest = remove xs n })
  at_first xs n none is = let p = position-Some test xs n none is in
      out_at xs n none p.0 p.1 p.2

  pub first_inside : (xs : List X) (n : ℕ) (none : X) → position test xs ≡ Some n → n < length xs
  first_inside xs n none is = (position-Some test xs n none is).0

  -- none passes
  pub at_none : (xs : List X) (none : X) → position test xs ≡ None → first_out test xs ≡ None
  at_none xs none is = out_none xs none (λ k less. fails_before_first test xs k none
      (let most = none_before (position_or_len test xs) (length xs) is in omega arith))

  -- the first that passes is between those before and those after it
  pub record Between (xs : List X) (picked : Picked X) : Type 0 where
    pub before : List X
    pub after : List X
    pub parts : xs ≡ before ++ picked.first ∷ after
    pub left : picked.rest ≡ before ++ after
    pub passes : test picked.first ≡ true
    pub none : NonePasses test before

  pub between : (xs : List X) (p : Picked X) → first_out test xs ≡ Some p → Between xs p
  unfolding first_out
  between [] p e = absurd (cc)
  between (x ∷ xs) p e = by (test x) refl e (λ q is. between xs q is)
    where
      later : (o : Option (Picked X)) → first_out test xs ≡ o → test x ≡ false →
          ((q : Picked X) → first_out test xs ≡ Some q → Between xs q) → after_one x o ≡ Some p →
          Between (x ∷ xs) p
      later None is fails f e = absurd (cc)
      later (Some q) is fails f e =
          let g = f q is in
          let same : record { first = q.first; rest = x ∷ q.rest } ≡ p = cc in
          let firsts : q.first ≡ p.first = ap (λ (v : Picked X). v.first) same in
          record {
            before = x ∷ g.before;
            after = g.after;
            parts = ap (λ l. x ∷ l) g.parts ∙ ap (λ y. x ∷ (g.before ++ y ∷ g.after)) firsts;
            left = ap (λ (v : Picked X). v.rest) (sym same) ∙ ap (λ l. x ∷ l) g.left;
            passes = ap test (sym firsts) ∙ g.passes;
            none = (fails, g.none);
          }

      by : (b : Bool) → test x ≡ b →
          this_or b (Some (record { first = x; rest = xs })) (after_one x (first_out test xs)) ≡ Some p →
          ((q : Picked X) → first_out test xs ≡ Some q → Between xs q) → Between (x ∷ xs) p
      by true passes e f =
          let same : record { first = x; rest = xs } ≡ p = cc in
          let firsts : x ≡ p.first = ap (λ (v : Picked X). v.first) same in
          record {
            before = [];
            after = xs;
            parts = ap (λ y. y ∷ xs) firsts;
            left = ap (λ (v : Picked X). v.rest) (sym same);
            passes = ap test (sym firsts) ∙ passes;
            none = tt;
          }
      by false fails e f = later (first_out test xs) refl fails f e

  -- and one with none before it that passes is the first
  pub the_first : (before : List X) (x : X) (after : List X) → NonePasses test before →
      test x ≡ true →
      first_out test (before ++ x ∷ after) ≡ Some (record { first = x; rest = before ++ after })
  unfolding first_out
  the_first [] x after none passes =
      ap (λ b. this_or b (Some (record { first = x; rest = after })) (after_one x (first_out test after)))
      passes
  the_first (y ∷ before) x after none passes =
      ap (λ b. this_or b (Some (record { first = y; rest = before ++ x ∷ after }))
      (after_one y (first_out test (before ++ x ∷ after)))) none.0
      ∙ ap (λ h. after_one y h) (the_first before x after none.1 passes)
