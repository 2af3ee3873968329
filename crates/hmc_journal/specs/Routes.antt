-- The routes of packets, as the directions that they take.
use Rattle.std.specs.Prelude.{ℕ, List, Option}
use Rattle.std.specs.List.{filter_map}
use Rattle.hmc_codes.specs.declared.place.Place.{Place}
use Rattle.hmc_routes.specs.Ports.{port_to_host}
use Rattle.hmc_routes.specs.Route.{route_from_cube, route_from_host}
use Rattle.hmc_routes.specs.Route.Goal.{ToCube, ToHost}
use Rattle.hmc_journal.specs.Setup.{Topology, graph_of, direction_from}

-- the port by which an answer leaves a cube towards a host
abbrev pub port_towards : Topology → (cube host : ℕ) → Option ℕ
port_towards topology cube host = port_to_host (graph_of topology) host cube

-- the directions that start at these places
abbrev pub directions_from : Topology → List Place → List ℕ
directions_from topology hops = filter_map (direction_from topology) hops

-- the directions of the route from a host to a cube
unfoldable pub route_to_cube : Topology → (host cube : ℕ) → List ℕ
route_to_cube topology host cube =
    directions_from topology (route_from_host (graph_of topology) (ToCube cube) host)

-- the directions of the route from a cube to a host
unfoldable pub route_to_host : Topology → (cube host : ℕ) → List ℕ
route_to_host topology cube host =
    directions_from topology (route_from_cube (graph_of topology) (ToHost host) cube)
