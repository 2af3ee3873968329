-- The first direction that starts at a place, join by join.
use Rattle.std.proofs.Common.{◌≡◌, ◌≤◌, ◌<◌, ◌+◌, ◌*◌, ◌∙◌, ℕ, suc, Bool, true, false, if◌then◌else◌, Option, Some, None, List, length, drop, ap, ap₂, arith}
use Rattle.std.specs.Prelude.{slice_index_or}
use Rattle.std.proofs.Math.ListN.{drop_of_length-le}
use Rattle.std.proofs.Math.Seq.{drop-cons}
use Rattle.hmc_codes.specs.Places.{same_place}
use Rattle.hmc_codes.specs.declared.place.Join.{Join}
use Rattle.hmc_codes.specs.declared.place.Place.{Place}
use Rattle.hmc_routes.specs.Directions.{direction_among}

-- by the ends of the next join
abbrev by_ends : (a b : Bool) → (first : ℕ) → Option ℕ → Option ℕ
by_ends a b first later = if a then Some first else if b then Some (first + 1) else later

among_next : (joins : List Join) (place : Place) (i first : ℕ) (d : Join) → i < length joins
    → direction_among first (drop i joins) place ≡ by_ends (same_place (slice_index_or joins i d).a place) (same_place (slice_index_or joins i d).b place) first (direction_among (first + 2) (drop (suc i) joins) place)
unfolding direction_among
among_next joins place i first d less = ap (λ (l : List Join). direction_among first l place) (drop-cons joins i d less)

-- the next join starts at the place with its first end, with its second, or with none
pub starts_a : (joins : List Join) (place : Place) (i : ℕ) (d : Join) → i < length joins → same_place (slice_index_or joins i d).a place ≡ true → direction_among (2 * i) (drop i joins) place ≡ Some (2 * i)
starts_a joins place i d less a =
    among_next joins place i (2 * i) d less ∙ ap (λ (t : Bool). by_ends t (same_place (slice_index_or joins i d).b place) (2 * i) (direction_among (2 * i + 2) (drop (suc i) joins) place)) a

pub starts_b : (joins : List Join) (place : Place) (i : ℕ) (d : Join) → i < length joins → same_place (slice_index_or joins i d).a place ≡ false → same_place (slice_index_or joins i d).b place ≡ true
    → direction_among (2 * i) (drop i joins) place ≡ Some (2 * i + 1)
starts_b joins place i d less a b =
    among_next joins place i (2 * i) d less ∙ ap₂ (λ (s t : Bool). by_ends s t (2 * i) (direction_among (2 * i + 2) (drop (suc i) joins) place)) a b

pub starts_on : (joins : List Join) (place : Place) (i : ℕ) (d : Join) → i < length joins → same_place (slice_index_or joins i d).a place ≡ false → same_place (slice_index_or joins i d).b place ≡ false
    → direction_among (2 * i) (drop i joins) place ≡ direction_among (2 * (i + 1)) (drop (i + 1) joins) place
starts_on joins place i d less a b =
    let two : 2 * i + 2 ≡ 2 * (i + 1) = omega arith in
    let one : suc i ≡ i + 1 = omega arith in
    among_next joins place i (2 * i) d less ∙ ap₂ (λ (s t : Bool). by_ends s t (2 * i) (direction_among (2 * i + 2) (drop (suc i) joins) place)) a b
    ∙ ap₂ (λ (n m : ℕ). direction_among n (drop m joins) place) two one

-- no join is left
pub starts_none : (joins : List Join) (place : Place) (i : ℕ) → length joins ≤ i → direction_among (2 * i) (drop i joins) place ≡ None
unfolding direction_among
starts_none joins place i all = ap (λ (l : List Join). direction_among (2 * i) l place) (drop_of_length-le joins all)
