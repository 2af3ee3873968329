-- How far cubes are apart. A hop leads from a cube to a neighbour; a walk is some hops in a row.
-- Each definition names the goal first and then the cube from which the walk starts.
use Rattle.std.specs.Prelude.{ℕ, ◌+◌, zero, suc, Bool, ◌==◌, ◌&&◌, ◌||◌, nat_le}
use Rattle.std.specs.List.{position_or_len, list_all}
use Rattle.hmc_codes.specs.Graph.{GraphFields}
use Rattle.hmc_codes.specs.Numbers.{upto}
use Rattle.hmc_routes.specs.Neighbours.{some_neighbour, each_neighbour}

-- a walk of at most so many hops leads from the cube to the goal
unfoldable pub within : GraphFields → (goal hops cube : ℕ) → Bool
within graph goal zero cube = goal == cube
within graph goal (suc hops) cube =
    within graph goal hops cube || some_neighbour graph (within graph goal hops) cube

-- A walk leads from the cube to the goal. One that passes no cube twice has fewer hops than there
-- are cubes.
abbrev pub has_walk : GraphFields → (goal cube : ℕ) → Bool
has_walk graph goal cube = within graph goal graph.cubes cube

-- the hops of a shortest walk from the cube to the goal: the first number of hops that is enough;
-- where none is, the number of cubes
unfoldable pub distance : GraphFields → (goal cube : ℕ) → ℕ
distance graph goal cube =
    position_or_len (λ hops. within graph goal hops cube) (upto graph.cubes)

-- the number of a cube is one more than the least of its neighbours' numbers: one more than that of
-- one of them, and no more than that with any
abbrev pub is_one_more : GraphFields → (hops : ℕ → ℕ) → (cube : ℕ) → Bool
is_one_more graph hops cube =
    some_neighbour graph (λ next. hops next + 1 == hops cube) cube
    && each_neighbour graph (λ next. nat_le (hops cube) (hops next + 1)) cube

-- The certificate of distances to a goal: they are 0 at the goal, and elsewhere one more than the
-- least over the neighbours.
abbrev pub certifies : GraphFields → (goal : ℕ) → (hops : ℕ → ℕ) → Bool
certifies graph goal hops =
    hops goal == 0
    && list_all (λ cube. goal == cube || is_one_more graph hops cube) (upto graph.cubes)
