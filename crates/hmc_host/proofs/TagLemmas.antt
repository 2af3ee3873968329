-- The tags of a host.
use Rattle.std.proofs.Common.{◌≡◌, ◌≢◌, ◌≤◌, ◌<◌, ◌+◌, ◌-◌, ◌==◌, ◌∙◌, ℕ, zero, suc, Bool, true, false, cond, List, [], ◌∷◌, length, take, drop, Option, None, get_or, inl, inr, refl, sym, subst, ap, arith, length-set}
use Rattle.std.specs.Prelude.{slice_get, slice_set, Some}
use Rattle.std.proofs.lemmas.List.Sums.{sum_by-cons, sum_by-set, count_by-le-length}
use Rattle.std.proofs.lemmas.Option.{slice_get_within, get_or_from_slice_get}
use Rattle.std.specs.List.{position_or_len}
use Rattle.std.specs.Prelude.{option_map, not, min, nat_lt, nat_eq, is_some, ◌⊎◌}
use Rattle.std.proofs.lemmas.Option.{slice_get-get_or}
use Rattle.std.proofs.lemmas.Bool.{cases_lt, cases_eq}
use Rattle.std.proofs.lemmas.List.{length-drop, take_all}
use Rattle.std.proofs.Math.Seq.{get_or-set_same, get_or-set_other}
use Rattle.std.proofs.lemmas.Bool.Decides.{nat_tests}
use Rattle.hmc_host.specs.Tags.{past, lowest_free, number_out, AreTags, AreKept}

-- what a tag counts
abbrev one_if_out : Bool → ℕ
one_if_out out = cond out 1 0

-- a tag that wasn't out goes out
pub taken : (tags : List Bool) (tag number : ℕ) → AreTags tags number → slice_get tags tag ≡ Some false → AreTags (slice_set tags tag true) (number + 1)
taken tags tag number are free =
    let within = slice_get_within tags tag false free in
    let was : one_if_out (get_or tags tag false) ≡ 0 = ap one_if_out (get_or_from_slice_get tags tag false false free) in
    record {
      all = length-set tags tag true ∙ are.all;
      count = omega (arith, sum_by-set one_if_out tags tag true false within, was, are.count);
    }

-- a tag that was out is freed
pub freed : (tags : List Bool) (tag number : ℕ) → AreTags tags number → slice_get tags tag ≡ Some true → AreTags (slice_set tags tag false) (number - 1)
freed tags tag number are out =
    let within = slice_get_within tags tag true out in
    let was : one_if_out (get_or tags tag false) ≡ 1 = ap one_if_out (get_or_from_slice_get tags tag true false out) in
    record {
      all = length-set tags tag false ∙ are.all;
      count = omega (arith, sum_by-set one_if_out tags tag false false within, was, are.count);
    }

-- a tag is out, so one at least is
pub some_number : (tags : List Bool) (tag number : ℕ) → AreTags tags number → slice_get tags tag ≡ Some true → 1 ≤ number
some_number tags tag number are out =
    let within = slice_get_within tags tag true out in
    let was : one_if_out (get_or tags tag false) ≡ 1 = ap one_if_out (get_or_from_slice_get tags tag true false out) in
    omega (arith, sum_by-set one_if_out tags tag false false within, was, are.count)

-- no more are out than there are
pub few_out : (tags : List Bool) (number : ℕ) → AreTags tags number → number ≤ 2048
few_out tags number are = omega (arith, count_by-le-length (λ (out : Bool). out) tags, are.count, are.all)

-- ---- all tags below one are out

-- the flags that are set at the front, after some that are
set_front : (tags : List Bool) (from : ℕ) → ((k : ℕ) → k < from → slice_get tags k ≡ Some true) → position_or_len not tags ≡ from + position_or_len not (drop from tags)
set_front tags zero below = omega arith
set_front [] (suc from) below = absurd (cc (below 0 (omega arith)))
set_front (out ∷ tags) (suc from) below =
    let later = set_front tags from (λ k small. below (suc k) (omega (arith, small))) in
    let set : out ≡ true = cc (below 0 (omega arith)) in
    rw set (omega (arith, later))

set_length : (tags : List Bool) (from : ℕ) → ((k : ℕ) → k < from → slice_get tags k ≡ Some true) → length tags ≡ from + length (drop from tags)
set_length tags zero below = omega arith
set_length [] (suc from) below = absurd (cc (below 0 (omega arith)))
set_length (out ∷ tags) (suc from) below =
    let later = set_length tags from (λ k small. below (suc k) (omega (arith, small))) in omega (arith, later)

found_after : (from a b : ℕ) → option_map (λ tag. from + tag) (cond (nat_lt a b) (Some a) None) ≡ cond (nat_lt (from + a) (from + b)) (Some (from + a)) None
found_after from a b =
    let same : nat_lt (from + a) (from + b) ≡ nat_lt a b = by_cases (cases_lt a b) in rw same (by_test (nat_lt a b)) where
      by_test : (test : Bool) → option_map (λ tag. from + tag) (cond test (Some a) None) ≡ cond test (Some (from + a)) None
      by_test true = refl
      by_test false = refl

      by_cases : (a < b) ⊎ (b ≤ a) → nat_lt (from + a) (from + b) ≡ nat_lt a b
      by_cases (inl under) = grind (arith, nat_tests, under)
      by_cases (inr over) = grind (arith, nat_tests, over)

-- the first flag that isn't set, after some that are
pub after_set : (tags : List Bool) (from : ℕ) → ((k : ℕ) → k < from → slice_get tags k ≡ Some true) → option_map (λ tag. from + tag) (lowest_free (drop from tags)) ≡ lowest_free tags
after_set tags from below =
    rw (set_front tags from below, set_length tags from below) (found_after from (position_or_len not (drop from tags)) (length (drop from tags)))

-- a flag that is set stays so, where another one changes, and is so where it is set
still_set : (tags : List Bool) (tag k : ℕ) (flag : Bool) → k ≢ tag → slice_get tags k ≡ Some true → slice_get (slice_set tags tag flag) k ≡ Some true
still_set tags tag k flag apart is =
    let within = slice_get_within tags k true is in
    let inside : k < length (slice_set tags tag flag) = omega (arith, within, length-set tags tag flag) in
    slice_get-get_or (slice_set tags tag flag) k true inside ∙ ap Some (get_or-set_other tags tag k flag true apart ∙ get_or_from_slice_get tags k true true is)

now_set : (tags : List Bool) (tag : ℕ) → tag < length tags → slice_get (slice_set tags tag true) tag ≡ Some true
now_set tags tag within =
    slice_get-get_or (slice_set tags tag true) tag true (omega (arith, within, length-set tags tag true)) ∙ ap Some (get_or-set_same tags tag true true within)

-- a tag that wasn't out goes out
pub kept_taken : (tags : List Bool) (tag number from : ℕ) → AreKept tags number from → slice_get tags tag ≡ Some false → AreKept (slice_set tags tag true) (number + 1) (past from tag)
kept_taken tags tag number from kept free = record {
  are = taken tags tag number kept.are free;
  within = by_past (from == tag) (λ same. grind (arith, nat_tests, same));
  below = λ k small. elim (cases_eq k tag) [
    | inl same ↦ subst (λ j. slice_get (slice_set tags tag true) j ≡ Some true) (sym same) (now_set tags tag (slice_get_within tags tag false free))
    | inr apart ↦ still_set tags tag k true apart (kept.below k (grind (arith, nat_tests, small, apart, past_or (from == tag) refl)))
  ];
} where
  past_or : (test : Bool) → (from == tag) ≡ test → (past from tag ≡ from) ⊎ ((past from tag ≡ from + 1) × (from ≡ tag))
  past_or true is = inr (ap (λ b. cond b (from + 1) from) is, grind (arith, nat_tests, is))
  past_or false is = inl (ap (λ b. cond b (from + 1) from) is)

  by_past : (test : Bool) → (test ≡ true → from ≡ tag) → cond test (from + 1) from ≤ 2048
  by_past true same = let at = same refl in let within = slice_get_within tags tag false free in omega (arith, at, within, kept.are.all)
  by_past false same = kept.within

-- a tag that was out is freed
pub kept_freed : (tags : List Bool) (tag number from : ℕ) → AreKept tags number from → slice_get tags tag ≡ Some true → AreKept (slice_set tags tag false) (number - 1) (min from tag)
kept_freed tags tag number from kept out = record {
  are = freed tags tag number kept.are out;
  within = omega (arith, kept.within);
  below = λ k small.
      still_set tags tag k false (λ same. omega (arith, small, same)) (kept.below k (omega (arith, small)));
}

-- the search begins at a tag below which all are out
pub lowest_at : (tags seen now : List Bool) (from start : ℕ) (found : Option ℕ) → ((k : ℕ) → k < from → slice_get tags k ≡ Some true) → start ≡ from → seen ≡ tags → tags ≡ now → found ≡ lowest_free (take (length seen - start) (drop start seen)) → option_map (λ tag. start + tag) found ≡ lowest_free now
lowest_at tags seen now from start found below at same view is =
    let all : take (length seen - start) (drop start seen) ≡ drop start seen =
    take_all (length seen - start) (drop start seen) (omega (arith, length-drop start seen)) in
    rw (is, all, at, same) (after_set tags from below ∙ ap lowest_free view)

-- ---- whether all are out

front_le : (tags : List Bool) → position_or_len not tags ≤ length tags
front_le [] = omega arith
front_le (true ∷ tags) = let later = front_le tags in omega (arith, later)
front_le (false ∷ tags) = omega arith

count_set : (tags : List Bool) → number_out (true ∷ tags) ≡ suc (number_out tags)
count_set tags = omega (arith, sum_by-cons one_if_out true tags)

count_unset : (tags : List Bool) → number_out (false ∷ tags) ≡ number_out tags
count_unset tags = omega (arith, sum_by-cons one_if_out false tags)

-- as many flags are set as there are flags, or a first one isn't
all_or_some : (tags : List Bool) → ((number_out tags ≡ length tags) × (position_or_len not tags ≡ length tags)) ⊎ ((number_out tags < length tags) × (position_or_len not tags < length tags))
all_or_some [] = inl (refl, refl)
all_or_some (true ∷ tags) = elim (all_or_some tags) [
  | inl all ↦ inl (omega (arith, all.0, count_set tags), omega (arith, all.1))
  | inr some ↦ inr (omega (arith, some.0, count_set tags), omega (arith, some.1))
]
all_or_some (false ∷ tags) = inr (omega (arith, count_unset tags, count_by-le-length (λ (out : Bool). out) tags), omega arith)

-- all are out exactly where no tag is free
pub all_out : (tags : List Bool) (number : ℕ) → AreTags tags number → nat_eq number 2048 ≡ not (is_some (lowest_free tags))
all_out tags number are = elim (all_or_some tags) [
  | inl all ↦
      let counted : nat_eq number 2048 ≡ true = grind (arith, nat_tests, all.0, are.count, are.all) in
      let none : nat_lt (position_or_len not tags) (length tags) ≡ false = grind (arith, nat_tests, all.1) in
      counted ∙ ap (λ b. not (is_some (cond b (Some (position_or_len not tags)) None))) (sym none)
  | inr some ↦
      let counted : nat_eq number 2048 ≡ false = grind (arith, nat_tests, some.0, are.count, are.all) in
      let found : nat_lt (position_or_len not tags) (length tags) ≡ true = grind (arith, nat_tests, some.1) in
      counted ∙ ap (λ b. not (is_some (cond b (Some (position_or_len not tags)) None))) (sym found)
]
