-- What the wiring of a network keeps.
use Rattle.std.specs.Prelude.{◌≡◌, ◌≤◌, ◌<◌, ◌*◌, ◌/◌, ◌%◌, ℕ, nat_lt, List, length, slice_index_or, Option, None, option_and_then}
use Rattle.hmc_codes.specs.Limits.{most_cubes, most_hosts, most_links, ports}
use Rattle.hmc_codes.specs.Graph.{GraphFields}
use Rattle.hmc_codes.specs.declared.place.Join.{Join}
use Rattle.hmc_codes.specs.declared.place.Place.TheVariants as places
use Rattle.hmc_routes.specs.Directions.{direction_from}
use Rattle.hmc_routes.specs.Parted.{InOnePart}
use Rattle.hmc_routes.specs.WellFormed.{IsGraph, is_host_of}
use Rattle.hmc_routes.specs.Ports.{port_to_cube, port_to_host}
use Rattle.hmc_journal.specs.Setup.{Topology, graph_of, cubes_in, hosts_in, joins_of}
use Rattle.hmc_journal.specs.ThroughSteps.{if_below}

-- what is asked of a topology: routes lead everywhere, and hosts are numbered from 0
pub record IsLaidOut (topology : Topology) : Type 0 where
  pub few_links : length topology.links ≤ most_links
  pub graph : IsGraph (graph_of topology)
  pub one_part : InOnePart (graph_of topology)
  pub hosts : (host : ℕ) →
      is_host_of (graph_of topology) host ≡ nat_lt host (hosts_in topology)

-- the direction that starts at each host
abbrev pub AreHostStarts : List Join → List (Option ℕ) → Type 0
AreHostStarts joins starts = (host : ℕ) → host < most_hosts →
    slice_index_or starts host None ≡ direction_from joins (places.Host host)

-- the direction that starts at each port: four places for each cube
abbrev pub ArePortStarts : List Join → List (Option ℕ) → Type 0
ArePortStarts joins starts = (place : ℕ) → place < most_cubes * ports →
    slice_index_or starts place None
    ≡ direction_from joins (places.Port (place / ports) (place % ports))

-- what the wiring of each network keeps: the directions that start at places, and the routes
pub record IsWiring (topology : Topology) (hosts : List (Option ℕ))
    (ports : List (Option ℕ)) (routes : GraphFields) : Type 0 where
  pub laid_out : IsLaidOut topology
  pub host_starts : AreHostStarts (joins_of topology) hosts
  pub port_starts : ArePortStarts (joins_of topology) ports
  pub same_routes : routes ≡ graph_of topology

-- the port towards another cube, and towards a host, if they are there
abbrev pub towards_cube : Topology → (cube goal : ℕ) → Option ℕ
towards_cube topology cube goal =
    option_and_then (λ number. port_to_cube (graph_of topology) number cube)
    (if_below (cubes_in topology) goal)

abbrev pub towards_host : Topology → (cube host : ℕ) → Option ℕ
towards_host topology cube host =
    option_and_then (λ number. port_to_host (graph_of topology) number cube)
    (if_below (hosts_in topology) host)
