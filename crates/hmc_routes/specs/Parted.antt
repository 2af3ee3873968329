-- Graphs in which some cube isn't reached from another.
use Rattle.std.specs.Prelude.{◌≡◌, ◌<◌, ℕ, true, not, List, [], ◌∷◌, Option, None, option_map}
use Rattle.std.specs.Option.{option_or}
use Rattle.std.specs.List.{find}
use Rattle.hmc_codes.specs.Graph.{GraphFields}
use Rattle.hmc_codes.specs.Numbers.{upto}
use Rattle.hmc_routes.specs.Distance.{has_walk}

-- the first cube to which no walk leads from this one
abbrev pub unreached_from : GraphFields → (from : ℕ) → Option ℕ
unreached_from graph from = find (λ to. not (has_walk graph to from)) (upto graph.cubes)

-- the first of these cubes from which some cube isn't reached, and the first that isn't
abbrev pub parted_among : GraphFields → (cubes : List ℕ) → Option (ℕ × ℕ)
parted_among graph [] = None
parted_among graph (from ∷ cubes) =
    option_or (option_map (λ to. (from, to)) (unreached_from graph from))
    (parted_among graph cubes)

-- the first pair of cubes, in order of the first and then of the second, such that no walk leads
-- from the first to the second
unfoldable pub parted : GraphFields → Option (ℕ × ℕ)
parted graph = parted_among graph (upto graph.cubes)

-- a walk leads from each cube to each cube
abbrev pub InOnePart : GraphFields → Type 0
InOnePart graph =
    (goal cube : ℕ) → goal < graph.cubes → cube < graph.cubes → has_walk graph goal cube ≡ true
