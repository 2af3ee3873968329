-- The port through which a packet leaves a cube.
use Rattle.std.specs.Prelude.{ℕ, ◌+◌, Bool, false, ◌==◌, if◌then◌else◌, Option, Some, None, option_and_then}
use Rattle.std.specs.Option.{option_map_or}
use Rattle.std.specs.List.{find}
use Rattle.hmc_codes.specs.Graph.{GraphFields}
use Rattle.hmc_codes.specs.Limits.{ports}
use Rattle.hmc_codes.specs.Numbers.{upto}
use Rattle.hmc_codes.specs.declared.place.Place.{Place}
use Rattle.hmc_codes.specs.declared.place.Place.TheVariants.{Host, Port}
use Rattle.hmc_routes.specs.Distance.{distance}
use Rattle.hmc_routes.specs.Neighbours.{joined_to, neighbour}

-- the neighbour at this port is one hop nearer to the goal
abbrev pub is_nearer : GraphFields → (goal cube port : ℕ) → Bool
is_nearer graph goal cube port =
    option_map_or (λ next. distance graph goal next + 1 == distance graph goal cube)
    (neighbour graph cube port) false

-- the port towards a cube: the lowest whose neighbour is one hop nearer; none at the goal
unfoldable pub port_to_cube : GraphFields → (goal cube : ℕ) → Option ℕ
port_to_cube graph goal cube = find (is_nearer graph goal cube) (upto ports)

-- the port towards a port of some cube: at that cube it is the port, elsewhere the one towards the
-- cube
abbrev pub port_to_place : GraphFields → Place → (cube : ℕ) → Option ℕ
port_to_place graph (Host host) cube = None
port_to_place graph (Port home port) cube =
    if cube == home then Some port else port_to_cube graph home cube

-- the port towards a host: that towards the port which the host is joined to
unfoldable pub port_to_host : GraphFields → (host cube : ℕ) → Option ℕ
port_to_host graph host cube =
    option_and_then (λ place. port_to_place graph place cube) (joined_to graph.joins (Host host))
