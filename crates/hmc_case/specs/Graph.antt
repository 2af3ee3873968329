-- The graph of the cubes and links of a case.
use Rattle.std.specs.Prelude.{◌≡◌, ℕ, true, not, is_some, List, map, Result}
use Rattle.std.specs.List.{All, list_all}
use Rattle.hmc_codes.specs.Graph.{GraphFields}
use Rattle.hmc_codes.specs.Link.{IsLinkSetup}
use Rattle.hmc_codes.specs.declared.place.Join.{Join}
use Rattle.hmc_routes.specs.Parted.{parted}
use Rattle.hmc_routes.specs.WellFormed.{ends_of, is_there, are_distinct, may_be_joined}
use Rattle.hmc_case.specs.Reading.{or_refuse}
use Rattle.hmc_case.specs.declared.fault.CaseKind.{CaseKind}
use Rattle.hmc_case.specs.declared.fault.CaseKind.TheVariants.{Parted}
use Rattle.hmc_case.specs.declared.setup.LinkRow.{LinkRow}

-- what the links join, in the order of their numbers
abbrev pub joins_of : List LinkRow → List Join
joins_of links = map (λ link. link.join) links

-- the graph of this many cubes and these links
abbrev pub graph_of : (cubes : ℕ) → List LinkRow → GraphFields
graph_of cubes links = record { cubes = cubes; joins = joins_of links }

-- a walk leads from each cube to each cube: no pair of cubes is parted
abbrev pub in_one_part : GraphFields → Result (Unit {0}) CaseKind
in_one_part graph = or_refuse Parted (not (is_some (parted graph)))

-- What the links of a case keep: each end exists and ends one link alone, no link joins two hosts
-- or two ports of one cube, and the sizes keep their limits.
pub record AreLinks (cubes : ℕ) (links : List LinkRow) : Type 0 where
  pub ends_exist : list_all (is_there cubes) (ends_of (joins_of links)) ≡ true
  pub joined_once : are_distinct (ends_of (joins_of links)) ≡ true
  pub ends_apart : list_all (λ join. may_be_joined join.a join.b) (joins_of links) ≡ true
  pub sizes : All (λ link. IsLinkSetup link.setup) links
