-- What is joined to what.
use Rattle.std.specs.Prelude.{ℕ, Bool, true, false, ◌||◌, if◌then◌else◌, List, Option, Some, None, option_map, option_and_then}
use Rattle.std.specs.Option.{option_map_or}
use Rattle.std.specs.List.{find, list_any, list_all}
use Rattle.hmc_codes.specs.Graph.{GraphFields}
use Rattle.hmc_codes.specs.Limits.{ports}
use Rattle.hmc_codes.specs.Numbers.{upto}
use Rattle.hmc_codes.specs.Places.{same_place}
use Rattle.hmc_codes.specs.declared.place.Join.{Join}
use Rattle.hmc_codes.specs.declared.place.Place.{Place}
use Rattle.hmc_codes.specs.declared.place.Place.TheVariants.{Host, Port}

-- the join ends at the place
abbrev pub ends_at : Place → Join → Bool
ends_at place join = same_place join.a place || same_place join.b place

-- the other end of a join that ends at the place
abbrev pub far_end : Place → Join → Place
far_end place join = if same_place join.a place then join.b else join.a

-- the place at the other end of the join that ends at this one, if one does
unfoldable pub joined_to : List Join → Place → Option Place
joined_to joins place = option_map (far_end place) (find (ends_at place) joins)

-- the cube whose port a place is, if it is one
abbrev pub cube_number : Place → Option ℕ
cube_number (Host host) = None
cube_number (Port cube port) = Some cube

-- the cube at the other end of what a port is joined to, if that is a cube
abbrev pub neighbour : GraphFields → (cube port : ℕ) → Option ℕ
neighbour graph cube port = option_and_then cube_number (joined_to graph.joins (Port cube port))

-- some neighbour of the cube passes the test
abbrev pub some_neighbour : GraphFields → (ℕ → Bool) → (cube : ℕ) → Bool
some_neighbour graph test cube =
    list_any (λ port. option_map_or test (neighbour graph cube port) false) (upto ports)

-- each neighbour of the cube passes the test
abbrev pub each_neighbour : GraphFields → (ℕ → Bool) → (cube : ℕ) → Bool
each_neighbour graph test cube =
    list_all (λ port. option_map_or test (neighbour graph cube port) true) (upto ports)
