-- Units by numbers, and lines by number.
use Rattle.std.proofs.Common.{◌≡◌, ◌∙◌, ◌+◌, ◌≤◌, ℕ, zero, suc, true, List, [], ◌∷◌, drop, Option, Some, None, refl, sym, ap, arith}
use Rattle.std.specs.Prelude.{IfNone, IfSome, is_some, map, option_map, slice_get}
use Rattle.std.specs.List.{list_all}
use Rattle.std.specs.Cmp.Derive.{both_true}
use Rattle.hmc_units.specs.Kinds.{unit_of}
use Rattle.hmc_units.specs.Unit.{UnitFields}
use Rattle.hmc_units.specs.declared.shipped.Shipped.{Shipped}
use Rattle.hmc_c.specs.Units.{is_named, slots_of, unit_named}
use Rattle.hmc_c.specs.declared.units.UnitIn.{UnitIn}

-- a unit in a slot
abbrev pub in_slot : Shipped → Option UnitFields
in_slot unit = Some (unit_of unit)

one_further : (k : ℕ) → suc k + 1 ≡ suc (k + 1)
one_further k = omega arith

pub all_named : (made : List Shipped) (units : List UnitIn) → map in_slot made ≡ slots_of units →
    list_all is_named units ≡ true
all_named [] [] e = refl
all_named [] (unit ∷ units) e = absurd cc
all_named (one ∷ made) [] e = absurd cc
all_named (one ∷ made) (unit ∷ units) e =
    let first : in_slot one ≡ unit_named unit = cc in
    let rest : map in_slot made ≡ slots_of units = cc in
    both_true (ap is_some (sym first)) (all_named made units rest)

-- ---- a list after some of it

pub got_first : {X : Type 0} (xs : List X) (n : ℕ) (y : X) (ys : List X) → drop n xs ≡ y ∷ ys →
    slice_get xs n ≡ Some y
got_first [] zero y ys e = absurd cc
got_first [] (suc n) y ys e = absurd cc
got_first (x ∷ xs) zero y ys e = cc
got_first (x ∷ xs) (suc n) y ys e = got_first xs n y ys e

pub rest_first : {X : Type 0} (xs : List X) (n : ℕ) (y : X) (ys : List X) → drop n xs ≡ y ∷ ys →
    ys ≡ drop (n + 1) xs
rest_first [] zero y ys e = absurd cc
rest_first [] (suc n) y ys e = absurd cc
rest_first (x ∷ xs) zero y ys e = cc
rest_first (x ∷ xs) (suc n) y ys e =
    rest_first xs n y ys e ∙ ap (λ (k : ℕ). drop k (x ∷ xs)) (sym (one_further n))

pub none_past : {X : Type 0} (xs : List X) (n k : ℕ) → drop n xs ≡ [] → n ≤ k → slice_get xs k ≡ None
none_past [] n k e less = refl
none_past (x ∷ xs) zero k e less = absurd cc
none_past (x ∷ xs) (suc n) zero e less = absurd (omega (arith, less))
none_past (x ∷ xs) (suc n) (suc k) e less = none_past xs n k e (omega (arith, less))

-- the next of what is left after so many, and what is left after it
pub rest_after : {X : Type 0} (xs : List X) (n : ℕ) (y : X) (old new : List X) →
    old ≡ drop n xs → old ≡ y ∷ new → new ≡ drop (n + 1) xs
rest_after xs n y old new is next = rest_first xs n y new (sym is ∙ next)

pub none_after : {X : Type 0} (xs : List X) (n k : ℕ) (old : List X) → old ≡ drop n xs → old ≡ [] →
    n ≤ k → None ≡ slice_get xs k
none_after xs n k old is none less = sym (none_past xs n k (sym is ∙ none) less)

pub item_after : {X Y : Type 0} (result : Option X) (view : X → Y) (xs : List Y) (n : ℕ)
    (old new : List Y) → old ≡ drop n xs → IfSome result (λ x. old ≡ view x ∷ new) →
    IfNone result (old ≡ []) → option_map view result ≡ slice_get xs n
item_after (Some x) view xs n old new is some none =
    sym (got_first xs n (view x) new (sym is ∙ some))
item_after None view xs n old new is some none = none_after xs n n old is none (omega arith)
