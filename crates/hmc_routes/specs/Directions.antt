-- The directions of joins, by their numbers: join i has direction 2i from its end a to its end b,
-- and direction 2i + 1 from b to a.
use Rattle.std.specs.Prelude.{ℕ, ◌+◌, ◌-◌, ◌/◌, ◌%◌, ◌==◌, if◌then◌else◌, List, [], ◌∷◌, slice_index_or, Option, Some, None}
use Rattle.hmc_codes.specs.Limits.{most_cubes}
use Rattle.hmc_codes.specs.Places.{same_place}
use Rattle.hmc_codes.specs.declared.place.Join.{Join}
use Rattle.hmc_codes.specs.declared.place.Place.{Place}
use Rattle.hmc_codes.specs.declared.place.Place.TheVariants.{Port}

-- in place of a join that isn't there: one of two ports of a cube that no graph has
abbrev pub no_join : Join
no_join = record { a = Port most_cubes 0; b = Port most_cubes 1 }

-- the other direction of the same join
abbrev pub other : ℕ → ℕ
other direction = if direction % 2 == 0 then direction + 1 else direction - 1

-- the join of a direction
abbrev pub join_of : List Join → (direction : ℕ) → Join
join_of joins direction = slice_index_or joins (direction / 2) no_join

-- where a direction starts
abbrev pub start_of : List Join → (direction : ℕ) → Place
start_of joins direction =
    if direction % 2 == 0 then (join_of joins direction).a else (join_of joins direction).b

-- where a direction ends
abbrev pub end_of : List Join → (direction : ℕ) → Place
end_of joins direction =
    if direction % 2 == 0 then (join_of joins direction).b else (join_of joins direction).a

-- the first direction from this number on that starts at a place, if one does
unfoldable pub direction_among : (first : ℕ) → List Join → Place → Option ℕ
direction_among first [] place = None
direction_among first (join ∷ joins) place =
    if same_place join.a place then Some first else
    if same_place join.b place then Some (first + 1)
    else direction_among (first + 2) joins place

-- the direction that starts at a place, if it is joined to something
abbrev pub direction_from : List Join → Place → Option ℕ
direction_from joins place = direction_among 0 joins place
