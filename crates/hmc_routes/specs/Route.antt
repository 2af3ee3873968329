-- Routes, as lists of hops. A hop is named by the place that it leaves: a host, or a cube's port.
use Rattle.std.specs.Prelude.{ℕ, zero, suc, List, [], ◌∷◌, Option, option_and_then}
use Rattle.std.specs.Option.{option_map_or}
use Rattle.hmc_codes.specs.Graph.{GraphFields}
use Rattle.hmc_codes.specs.declared.place.Place.{Place}
use Rattle.hmc_codes.specs.declared.place.Place.TheVariants.{Host, Port}
use Rattle.hmc_routes.specs.Neighbours.{joined_to, cube_number, neighbour}
use Rattle.hmc_routes.specs.Ports.{port_to_cube, port_to_host}

-- where a packet is to go
pub data Goal : Type 0 where
  ToCube : (cube : ℕ) → Goal
  ToHost : (host : ℕ) → Goal

-- the port of a cube towards the goal
abbrev pub port_towards : GraphFields → Goal → (cube : ℕ) → Option ℕ
port_towards graph (ToCube goal) cube = port_to_cube graph goal cube
port_towards graph (ToHost host) cube = port_to_host graph host cube

-- the first hops of the route from a cube to the goal, at most so many
unfoldable pub hops_from : GraphFields → Goal → (most cube : ℕ) → List Place
hops_from graph goal zero cube = []
hops_from graph goal (suc most) cube =
    option_map_or (λ port.
    Port cube port
    ∷ option_map_or (λ next. hops_from graph goal most next) (neighbour graph cube port) [])
    (port_towards graph goal cube) []

-- the route from a cube to the goal: it has no more hops than there are cubes, that to a host
-- included
abbrev pub route_from_cube : GraphFields → Goal → (cube : ℕ) → List Place
route_from_cube graph goal cube = hops_from graph goal graph.cubes cube

-- the cube that a host is joined to
abbrev pub home_of : GraphFields → (host : ℕ) → Option ℕ
home_of graph host = option_and_then cube_number (joined_to graph.joins (Host host))

-- the route from a host to the goal: first to its cube, and then on from there
abbrev pub route_from_host : GraphFields → Goal → (host : ℕ) → List Place
route_from_host graph goal host =
    Host host ∷ option_map_or (route_from_cube graph goal) (home_of graph host) []
