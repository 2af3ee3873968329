-- The routes of a graph as a map.
use Rattle.std.specs.Prelude.{ℕ, Bool, nat_lt, if◌then◌else◌, Option, option_and_then}
use Rattle.std.specs.Option.{option_map_or}
use Rattle.hmc_codes.specs.Graph.{GraphFields}
use Rattle.hmc_codes.specs.Limits.{most_hosts}
use Rattle.hmc_codes.specs.declared.place.Place.{Place}
use Rattle.hmc_codes.specs.declared.place.Place.TheVariants as places
use Rattle.hmc_routes.specs.Directions.{start_of, end_of, direction_from}
use Rattle.hmc_routes.specs.Distance.{distance}
use Rattle.hmc_routes.specs.Route.{Goal, port_towards, home_of}
use Rattle.hmc_routes.specs.Route.Goal.{ToHost, ToCube}
use Rattle.hmc_routes.specs.WellFormed.{is_host_of}
use Rattle.hmc_hops.specs.Map.{Map, End}
use Rattle.hmc_hops.specs.Map.End.{Host, Cube}

-- A host, or the cube of a port. A port of a cube that isn't there counts as a host that no graph
-- has.
abbrev pub end_at : GraphFields → Place → End
end_at graph (places.Host host) = Host host
end_at graph (places.Port cube port) =
    if nat_lt cube graph.cubes then Cube cube else Host most_hosts

-- the direction from a cube to a goal: it starts at the port towards the goal
abbrev pub direction_towards : GraphFields → Goal → (cube : ℕ) → Option ℕ
direction_towards graph goal cube =
    option_and_then (λ port. direction_from graph.joins (places.Port cube port))
    (port_towards graph goal cube)

-- the hops between cubes from a cube to a goal
abbrev pub hops_to : GraphFields → Goal → (cube : ℕ) → ℕ
hops_to graph (ToCube goal) cube = distance graph goal cube
hops_to graph (ToHost host) cube =
    option_map_or (λ home. distance graph home cube) (home_of graph host) 0

-- the graph has this cube or host
abbrev pub has_goal : GraphFields → Goal → Bool
has_goal graph (ToCube cube) = nat_lt cube graph.cubes
has_goal graph (ToHost host) = is_host_of graph host

-- the map of a graph
abbrev pub map_of : GraphFields → Map
map_of graph = record {
  start_of = λ d. end_at graph (start_of graph.joins d);
  end_of = λ d. end_at graph (end_of graph.joins d);
  from_host = λ host. option_map_or (λ d. d) (direction_from graph.joins (places.Host host)) 0;
  next = direction_towards graph;
  hops = hops_to graph;
  is_cube = λ cube. nat_lt cube graph.cubes;
  is_goal = has_goal graph;
}
