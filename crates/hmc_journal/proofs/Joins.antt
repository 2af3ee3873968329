-- Where the directions of joins start and end.
use Rattle.std.proofs.Common.{◌≡◌, ◌∙◌, ◌<◌, ◌+◌, ◌-◌, ◌*◌, ◌/◌, ◌%◌, ◌==◌, ◌||◌, ◌⊎◌, inl, inr, ℕ, zero, suc, Bool, true, false, if◌then◌else◌, Option, Some, None, List, [], ◌∷◌, length, slice_index_or, refl, sym, ap, ap₂, arith, eq-eqb, ne_eqb}
use Rattle.std.specs.Prelude.{not, option_map}
use Rattle.std.specs.List.{find, list_any}
use Rattle.std.proofs.lemmas.Bool.{and_parts, not-true, or_parts}
use mathlib.Core.Bool.{cond}
use Rattle.hmc_codes.specs.Places.{same_place}
use Rattle.hmc_codes.specs.declared.place.Join.{Join}
use Rattle.hmc_codes.specs.declared.place.Place.{Place}
use Rattle.hmc_routes.specs.Directions.{no_join, other, join_of, start_of, end_of, direction_among, direction_from}
use Rattle.hmc_routes.specs.Neighbours.{ends_at, far_end, joined_to}
use Rattle.hmc_routes.specs.WellFormed.{ends_of, are_distinct}
use Rattle.hmc_routes.proofs.Joined.{same_place-true, same_place-refl}

-- ---- places

-- ---- the numbers of directions

parity : (d : ℕ) → (d % 2 ≡ 0) ⊎ (d % 2 ≡ 1)
parity d = low (d % 2) (omega arith)
  where
    low : (n : ℕ) → n < 2 → (n ≡ 0) ⊎ (n ≡ 1)
    low zero less = inl refl
    low (suc zero) less = inr refl
    low (suc (suc n)) less = absurd (omega arith)

even : (d : ℕ) → d % 2 ≡ 0 → (d % 2 == 0) ≡ true
even d is = eq-eqb (d % 2) 0 is

odd : (d : ℕ) → d % 2 ≡ 1 → (d % 2 == 0) ≡ false
odd d is = ne_eqb (d % 2) 0 (λ e. omega arith)

other_even : (d : ℕ) → d % 2 ≡ 0 → other d ≡ d + 1
other_even d is = ap (λ (b : Bool). if b then d + 1 else d - 1) (even d is)

other_odd : (d : ℕ) → d % 2 ≡ 1 → other d ≡ d - 1
other_odd d is = ap (λ (b : Bool). if b then d + 1 else d - 1) (odd d is)

pub other_other : (d : ℕ) → other (other d) ≡ d
other_other d = by_parity (parity d)
  where
    by_parity : (d % 2 ≡ 0) ⊎ (d % 2 ≡ 1) → other (other d) ≡ d
    by_parity (inl is) = ap other (other_even d is) ∙ other_odd (d + 1) (omega arith) ∙ omega arith
    by_parity (inr is) = ap other (other_odd d is) ∙ other_even (d - 1) (omega arith) ∙ omega arith

-- it is of the same join
pub other_half : (d : ℕ) → other d / 2 ≡ d / 2
other_half d = by_parity (parity d)
  where
    by_parity : (d % 2 ≡ 0) ⊎ (d % 2 ≡ 1) → other d / 2 ≡ d / 2
    by_parity (inl is) = ap (λ (n : ℕ). n / 2) (other_even d is) ∙ omega arith
    by_parity (inr is) = ap (λ (n : ℕ). n / 2) (other_odd d is) ∙ omega arith

pub other_inside : (d joins : ℕ) → d < 2 * joins → other d < 2 * joins
other_inside d joins less = by_parity (parity d)
  where
    by_parity : (d % 2 ≡ 0) ⊎ (d % 2 ≡ 1) → other d < 2 * joins
    by_parity (inl is) = let o = other_even d is in omega arith
    by_parity (inr is) = let o = other_odd d is in omega arith

-- ---- their ends

start_even : (joins : List Join) (d : ℕ) → d % 2 ≡ 0 → start_of joins d ≡ (join_of joins d).a
start_even joins d is = ap (λ (b : Bool). if b then (join_of joins d).a else (join_of joins d).b) (even d is)

start_odd : (joins : List Join) (d : ℕ) → d % 2 ≡ 1 → start_of joins d ≡ (join_of joins d).b
start_odd joins d is = ap (λ (b : Bool). if b then (join_of joins d).a else (join_of joins d).b) (odd d is)

end_even : (joins : List Join) (d : ℕ) → d % 2 ≡ 0 → end_of joins d ≡ (join_of joins d).b
end_even joins d is = ap (λ (b : Bool). if b then (join_of joins d).b else (join_of joins d).a) (even d is)

end_odd : (joins : List Join) (d : ℕ) → d % 2 ≡ 1 → end_of joins d ≡ (join_of joins d).a
end_odd joins d is = ap (λ (b : Bool). if b then (join_of joins d).b else (join_of joins d).a) (odd d is)

-- one direction ends where the other starts
pub end_is_start : (joins : List Join) (d : ℕ) → end_of joins d ≡ start_of joins (other d)
end_is_start joins d = by_parity (parity d)
  where
    by_parity : (d % 2 ≡ 0) ⊎ (d % 2 ≡ 1) → end_of joins d ≡ start_of joins (other d)
    by_parity (inl is) =
        let o = other_even d is in
        end_even joins d is ∙ ap (λ (n : ℕ). (slice_index_or joins n no_join).b) (sym (other_half d)) ∙ sym (start_odd joins (other d) (omega arith))
    by_parity (inr is) =
        let o = other_odd d is in
        end_odd joins d is ∙ ap (λ (n : ℕ). (slice_index_or joins n no_join).a) (sym (other_half d)) ∙ sym (start_even joins (other d) (omega arith))

pub start_is_end : (joins : List Join) (d : ℕ) → start_of joins d ≡ end_of joins (other d)
start_is_end joins d = ap (start_of joins) (sym (other_other d)) ∙ sym (end_is_start joins (other d))

-- one join further
pub start_next : (join : Join) (joins : List Join) (k : ℕ) → start_of (join ∷ joins) (suc (suc k)) ≡ start_of joins k
start_next join joins k =
    let same : suc (suc k) % 2 ≡ k % 2 = omega arith in
    let half : suc (suc k) / 2 ≡ suc (k / 2) = omega arith in
    ap (λ (n : ℕ). if suc (suc k) % 2 == 0 then (slice_index_or (join ∷ joins) n no_join).a else (slice_index_or (join ∷ joins) n no_join).b) half
    ∙ ap (λ (n : ℕ). if n == 0 then (slice_index_or joins (k / 2) no_join).a else (slice_index_or joins (k / 2) no_join).b) same

end_next : (join : Join) (joins : List Join) (k : ℕ) → end_of (join ∷ joins) (suc (suc k)) ≡ end_of joins k
end_next join joins k =
    let same : suc (suc k) % 2 ≡ k % 2 = omega arith in
    let half : suc (suc k) / 2 ≡ suc (k / 2) = omega arith in
    ap (λ (n : ℕ). if suc (suc k) % 2 == 0 then (slice_index_or (join ∷ joins) n no_join).b else (slice_index_or (join ∷ joins) n no_join).a) half
    ∙ ap (λ (n : ℕ). if n == 0 then (slice_index_or joins (k / 2) no_join).b else (slice_index_or joins (k / 2) no_join).a) same

-- ---- the direction from a place

-- it is there, it starts at the place, and it ends where the place is joined to
pub record IsFrom (joins : List Join) (place : Place) (first d : ℕ) : Type 0 where
  pub k : ℕ
  pub is : d ≡ first + k
  pub inside : k < 2 * length joins
  pub starts : start_of joins k ≡ place
  pub joined : joined_to joins place ≡ Some (end_of joins k)

from_step : (join : Join) (joins : List Join) (first : ℕ) (place : Place) (d : ℕ) (a b : Bool) → same_place join.a place ≡ a → same_place join.b place ≡ b
    → (if a then Some first else if b then Some (first + 1) else direction_among (first + 2) joins place) ≡ Some d
    → (direction_among (first + 2) joins place ≡ Some d → IsFrom joins place (first + 2) d) → IsFrom (join ∷ joins) place first d
unfolding joined_to
from_step join joins first place d true b at_a at_b found later =
    let same : first ≡ d = cc in record {
      k = 0;
      is = omega arith;
      inside = omega arith;
      starts = same_place-true join.a place at_a;
      joined = ap (λ (x : Bool). option_map (far_end place) (cond (x || same_place join.b place) (Some join) (find (ends_at place) joins))) at_a
          ∙ ap (λ (x : Bool). Some (if x then join.b else join.a)) at_a;
    }
from_step join joins first place d false true at_a at_b found later =
    let same : first + 1 ≡ d = cc in record {
      k = 1;
      is = omega arith;
      inside = omega arith;
      starts = same_place-true join.b place at_b;
      joined = ap₂ (λ (x y : Bool). option_map (far_end place) (cond (x || y) (Some join) (find (ends_at place) joins))) at_a at_b
          ∙ ap (λ (x : Bool). Some (if x then join.b else join.a)) at_a;
    }
from_step join joins first place d false false at_a at_b found later =
    let rest = later found in
    let same = rest.is in
    let less = rest.inside in record {
      k = suc (suc rest.k);
      is = omega arith;
      inside = omega arith;
      starts = start_next join joins rest.k ∙ rest.starts;
      joined = ap₂ (λ (x y : Bool). option_map (far_end place) (cond (x || y) (Some join) (find (ends_at place) joins))) at_a at_b
          ∙ rest.joined ∙ ap Some (sym (end_next join joins rest.k));
    }

among_from : (joins : List Join) (first : ℕ) (place : Place) (d : ℕ) → direction_among first joins place ≡ Some d → IsFrom joins place first d
unfolding direction_among
among_from [] first place d found = absurd cc
among_from (join ∷ joins) first place d found =
    from_step join joins first place d (same_place join.a place) (same_place join.b place) refl refl found (among_from joins (first + 2) place d)

pub record StartsAt (joins : List Join) (place : Place) (d : ℕ) : Type 0 where
  pub inside : d < 2 * length joins
  pub starts : start_of joins d ≡ place
  pub joined : joined_to joins place ≡ Some (end_of joins d)

pub from_place : (joins : List Join) (place : Place) (d : ℕ) → direction_from joins place ≡ Some d → StartsAt joins place d
from_place joins place d found =
    let from = among_from joins 0 place d found in
    let is : d ≡ from.k = (let i = from.is in omega arith) in
    let less = from.inside in record {
      inside = omega arith;
      starts = ap (start_of joins) is ∙ from.starts;
      joined = from.joined ∙ ap (λ (n : ℕ). Some (end_of joins n)) (sym is);
    }

none_step : (join : Join) (joins : List Join) (first : ℕ) (place : Place) (a b : Bool) → same_place join.a place ≡ a → same_place join.b place ≡ b
    → (if a then Some first else if b then Some (first + 1) else direction_among (first + 2) joins place) ≡ None
    → (direction_among (first + 2) joins place ≡ None → joined_to joins place ≡ None) → joined_to (join ∷ joins) place ≡ None
unfolding joined_to
none_step join joins first place true b at_a at_b none later = absurd cc
none_step join joins first place false true at_a at_b none later = absurd cc
none_step join joins first place false false at_a at_b none later =
    ap₂ (λ (x y : Bool). option_map (far_end place) (cond (x || y) (Some join) (find (ends_at place) joins))) at_a at_b ∙ later none

none_from : (joins : List Join) (first : ℕ) (place : Place) → direction_among first joins place ≡ None → joined_to joins place ≡ None
unfolding direction_among joined_to
none_from [] first place none = refl
none_from (join ∷ joins) first place none =
    none_step join joins first place (same_place join.a place) (same_place join.b place) refl refl none (none_from joins (first + 2) place)

-- what is joined to something has a direction
pub joined_from : (joins : List Join) (place there : Place) → joined_to joins place ≡ Some there → (d : ℕ) × (direction_from joins place ≡ Some d)
joined_from joins place there is = by_found (direction_from joins place) refl
  where
    by_found : (found : Option ℕ) → direction_from joins place ≡ found → (d : ℕ) × (direction_from joins place ≡ Some d)
    by_found (Some d) at = (d, at)
    by_found None at = let none : joined_to joins place ≡ None = none_from joins 0 place at in absurd cc

-- ---- each place is joined once

-- no two of the ends are one
record Distinct (a b : Place) (rest : List Place) : Type 0 where
  two : same_place a b ≡ false
  a_off : list_any (same_place a) rest ≡ false
  b_off : list_any (same_place b) rest ≡ false
  rest_is : are_distinct rest ≡ true

distinct_parts : (a b : Place) (rest : List Place) → are_distinct (a ∷ b ∷ rest) ≡ true → Distinct a b rest
distinct_parts a b rest is =
    let first = and_parts (not (list_any (same_place a) (b ∷ rest))) (are_distinct (b ∷ rest)) is in
    let second = and_parts (not (list_any (same_place b) rest)) (are_distinct rest) first.1 in
    let a_is = or_parts (same_place a b) (list_any (same_place a) rest) (not-true (list_any (same_place a) (b ∷ rest)) first.0) in
    record { two = a_is.0; a_off = a_is.1; b_off = not-true (list_any (same_place b) rest) second.0; rest_is = second.1 }

-- a place that is none of the ends is no start
off_start : (place : Place) (joins : List Join) (k : ℕ) → list_any (same_place place) (ends_of joins) ≡ false → k < 2 * length joins → same_place place (start_of joins k) ≡ false
off_start place [] k off less = absurd (omega arith)
off_start place (join ∷ joins) zero off less = (or_parts (same_place place join.a) (same_place place join.b || list_any (same_place place) (ends_of joins)) off).0
off_start place (join ∷ joins) (suc zero) off less =
    let later = or_parts (same_place place join.a) (same_place place join.b || list_any (same_place place) (ends_of joins)) off in
    (or_parts (same_place place join.b) (list_any (same_place place) (ends_of joins)) later.1).0
off_start place (join ∷ joins) (suc (suc k)) off less =
    let later = or_parts (same_place place join.a) (same_place place join.b || list_any (same_place place) (ends_of joins)) off in
    let rest = or_parts (same_place place join.b) (list_any (same_place place) (ends_of joins)) later.1 in
    ap (same_place place) (start_next join joins k) ∙ off_start place joins k rest.1 (omega arith)

among_found : (joins : List Join) (first k : ℕ) → k < 2 * length joins → are_distinct (ends_of joins) ≡ true → direction_among first joins (start_of joins k) ≡ Some (first + k)
unfolding direction_among
among_found [] first k less once = absurd (omega arith)
among_found (join ∷ joins) first zero less once =
    let same : first ≡ first + 0 = omega arith in
    ap (λ (x : Bool). if x then Some first else if same_place join.b join.a then Some (first + 1) else direction_among (first + 2) joins join.a) (same_place-refl join.a)
    ∙ ap Some same
among_found (join ∷ joins) first (suc zero) less once =
    let parts = distinct_parts join.a join.b (ends_of joins) once in
    ap₂ (λ (x y : Bool). if x then Some first else if y then Some (first + 1) else direction_among (first + 2) joins join.b) parts.two (same_place-refl join.b)
among_found (join ∷ joins) first (suc (suc k)) less once =
    let parts = distinct_parts join.a join.b (ends_of joins) once in
    let inside : k < 2 * length joins = omega arith in
    let at = start_next join joins k in
    let a = off_start join.a joins k parts.a_off inside in
    let b = off_start join.b joins k parts.b_off inside in
    let same : first + 2 + k ≡ first + suc (suc k) = omega arith in
    ap (direction_among first (join ∷ joins)) at
    ∙ ap₂ (λ (x y : Bool). if x then Some first else if y then Some (first + 1) else direction_among (first + 2) joins (start_of joins k)) a b
    ∙ among_found joins (first + 2) k inside parts.rest_is ∙ ap Some same

-- where every place is joined once, a direction is that from its start
pub from_start : (joins : List Join) (d : ℕ) → are_distinct (ends_of joins) ≡ true → d < 2 * length joins → direction_from joins (start_of joins d) ≡ Some d
from_start joins d once less = among_found joins 0 d less once ∙ (let same : 0 + d ≡ d = omega arith in ap Some same)
