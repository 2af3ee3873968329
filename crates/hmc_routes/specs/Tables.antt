-- What is kept of the routes.
use Rattle.std.specs.Prelude.{◌≡◌, ◌<◌, ◌+◌, ◌==◌, ℕ, Bool, false, List, length, slice_index_or, Option, Some, None, option_and_then}
use Rattle.std.specs.Option.{option_map_or}
use Rattle.hmc_codes.specs.Graph.{GraphFields}
use Rattle.hmc_codes.specs.Limits.{most_hosts}
use Rattle.hmc_codes.specs.declared.place.Place.{Place}
use Rattle.hmc_codes.specs.declared.place.Place.TheVariants.{Host, Port}
use Rattle.hmc_routes.specs.Distance.{distance}
use Rattle.hmc_routes.specs.Neighbours.{joined_to, neighbour}
use Rattle.hmc_routes.specs.Parted.{InOnePart}
use Rattle.hmc_routes.specs.Ports.{port_to_cube}
use Rattle.hmc_routes.specs.WellFormed.{IsGraph}
use Rattle.hmc_routes.specs.declared.table.Home.{Home}
use Rattle.hmc_routes.specs.declared.table.Table.{Table}

-- the neighbour at this port is one hop nearer by these distances
abbrev pub nearer_by : GraphFields → (distances : ℕ → ℕ) → (cube port : ℕ) → Bool
nearer_by graph distances cube port =
    option_map_or (λ next. distances next + 1 == distances cube) (neighbour graph cube port) false

-- the table has the distance and the port towards this goal, for each cube
pub record IsTableOf (graph : GraphFields) (goal : ℕ) (table : Table) : Type 0 where
  pub distances : (cube : ℕ) → cube < graph.cubes →
      slice_index_or table.distances cube 0 ≡ distance graph goal cube
  pub ports : (cube : ℕ) → cube < graph.cubes →
      slice_index_or table.ports cube None ≡ port_to_cube graph goal cube

-- one table for each cube
pub record AreTables (graph : GraphFields) (tables : List Table) : Type 0 where
  pub all : length tables ≡ graph.cubes
  pub each : (goal : ℕ) (d : Table) → goal < graph.cubes →
      IsTableOf graph goal (slice_index_or tables goal d)

-- the port that a place is, if it is one
abbrev pub as_home : Place → Option Home
as_home (Host host) = None
as_home (Port cube port) = Some (record { cube = cube; port = port })

-- the port that the host is joined to
abbrev pub home_at : GraphFields → (host : ℕ) → Option Home
home_at graph host = option_and_then as_home (joined_to graph.joins (Host host))

-- each host's port, by the hosts' numbers
abbrev pub AreHomes : GraphFields → List (Option Home) → Type 0
AreHomes graph homes =
    (host : ℕ) → host < most_hosts → slice_index_or homes host None ≡ home_at graph host

-- what routes keep: all cubes of the graph are reached, and the tables are right
pub record IsKept (graph : GraphFields) (tables : List Table) (homes : List (Option Home))
    : Type 0 where
  pub is_graph : IsGraph graph
  pub one_part : InOnePart graph
  pub are_tables : AreTables graph tables
  pub are_homes : AreHomes graph homes
