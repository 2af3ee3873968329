-- Distances, ports and routes of small graphs. Of a larger graph the certificate of the distances is
-- computed; the ports are those by these distances.
use Rattle.std.proofs.Common.{◌≡◌, ℕ, true, false, [], ◌∷◌, slice_index_or, Some, None, refl, lit<, lit≤}
use Rattle.std.specs.List.{list_all}
use Rattle.hmc_codes.specs.Graph.{GraphFields}
use Rattle.hmc_codes.specs.declared.place.Join.{Join}
use Rattle.hmc_codes.specs.declared.place.Place.TheVariants.{Host, Port}
use Rattle.hmc_routes.proofs.Certificate.{certified-port}
use Rattle.hmc_routes.specs.Directions.{direction_among, direction_from, end_of, other}
use Rattle.hmc_routes.specs.Distance.{within, distance, certifies}
use Rattle.hmc_routes.specs.Neighbours.{joined_to}
use Rattle.hmc_routes.specs.Parted.{parted}
use Rattle.hmc_routes.specs.Ports.{port_to_cube, port_to_host}
use Rattle.hmc_routes.specs.Route.{hops_from, route_from_host}
use Rattle.hmc_routes.specs.Route.Goal.{ToCube, ToHost}
use Rattle.hmc_routes.specs.WellFormed.{ends_of, is_there, are_distinct, may_be_joined, has_no_gap, IsGraph}

-- a join of two ports
abbrev pub ports_joined : (cube port other other_port : ℕ) → Join
ports_joined cube port other other_port = record { a = Port cube port; b = Port other other_port }

-- two joins between two cubes, from port 1 to port 0 and from port 2 to port 1: the route takes the
-- lower port
abbrev pub twice : GraphFields
twice = record { cubes = 2; joins = ports_joined 0 1 1 0 ∷ ports_joined 0 2 1 1 ∷ [] }

twice-port : port_to_cube twice 1 0 ≡ Some 1
unfolding joined_to within distance port_to_cube
twice-port = refl

twice-back : port_to_cube twice 0 1 ≡ Some 0
unfolding joined_to within distance port_to_cube
twice-back = refl

twice-here : port_to_cube twice 1 1 ≡ None
unfolding joined_to within distance port_to_cube
twice-here = refl

twice-distance : distance twice 1 0 ≡ 1
unfolding joined_to within distance
twice-distance = refl

twice-whole : parted twice ≡ None
unfolding joined_to within parted
twice-whole = refl

-- the direction from port 2 of cube 0 is the third, and it ends at port 1 of cube 1
twice-direction : direction_from twice.joins (Port 0 2) ≡ Some 2
unfolding direction_among
twice-direction = refl

twice-end : end_of twice.joins 2 ≡ Port 1 1
twice-end = refl

twice-backwards : direction_from twice.joins (Port 1 1) ≡ Some (other 2)
unfolding direction_among
twice-backwards = refl

twice-free : direction_from twice.joins (Port 1 3) ≡ None
unfolding direction_among
twice-free = refl

-- two cubes without a join: the first pair is 0 and 1
abbrev pub apart : GraphFields
apart = record { cubes = 2; joins = [] }

apart-parted : parted apart ≡ Some (0, 1)
unfolding joined_to within parted
apart-parted = refl

-- three cubes of which the last is joined to none: it isn't reached from the first
abbrev pub cut_off : GraphFields
cut_off = record { cubes = 3; joins = ports_joined 0 0 1 0 ∷ [] }

cut_off-parted : parted cut_off ≡ Some (0, 2)
unfolding joined_to within parted
cut_off-parted = refl

-- a host at cube 0 and one at cube 1, and a join between the cubes
abbrev pub row : GraphFields
row = record { cubes = 2; joins = record { a = Host 0; b = Port 0 3 } ∷ ports_joined 0 1 1 2 ∷ record { a = Port 1 0; b = Host 1 } ∷ [] }

pub row-is_graph : IsGraph row
unfolding joined_to has_no_gap
row-is_graph = record { some_cubes = lit≤ tt; few_cubes = lit≤ tt; ends_exist = refl; joined_once = refl; ends_apart = refl; no_gap = refl }

-- at the host's own cube its port, elsewhere the port towards its cube
row-home : port_to_host row 0 0 ≡ Some 3
unfolding joined_to port_to_host
row-home = refl

row-away : port_to_host row 0 1 ≡ Some 2
unfolding joined_to within distance port_to_cube port_to_host
row-away = refl

-- there is no third host
row-nobody : port_to_host row 2 0 ≡ None
unfolding joined_to port_to_host
row-nobody = refl

-- from host 0 over both cubes to host 1
row-route : route_from_host row (ToHost 1) 0 ≡ Host 0 ∷ Port 0 1 ∷ Port 1 0 ∷ []
unfolding joined_to within distance port_to_cube port_to_host hops_from
row-route = refl

row-to_cube : route_from_host row (ToCube 1) 0 ≡ Host 0 ∷ Port 0 1 ∷ []
unfolding joined_to within distance port_to_cube port_to_host hops_from
row-to_cube = refl

-- no graphs: two hosts that are joined, two ports of one cube, and a port that is joined twice
two_hosts-unfit : may_be_joined (Host 0) (Host 1) ≡ false
two_hosts-unfit = refl

one_cube-unfit : may_be_joined (Port 1 0) (Port 1 2) ≡ false
one_cube-unfit = refl

again-unfit : are_distinct (ends_of (ports_joined 0 0 1 0 ∷ ports_joined 1 0 2 0 ∷ [])) ≡ false
again-unfit = refl

-- and port 4, cube 2 of two cubes, host 8, and a host 1 where there is no host 0
port-unfit : list_all (is_there 2) (ends_of (ports_joined 0 4 1 0 ∷ [])) ≡ false
port-unfit = refl

cube-unfit : list_all (is_there 2) (ends_of (ports_joined 0 0 2 0 ∷ [])) ≡ false
cube-unfit = refl

host-unfit : list_all (is_there 2) (ends_of (record { a = Host 8; b = Port 0 0 } ∷ [])) ≡ false
host-unfit = refl

gap-unfit : has_no_gap (record { cubes = 1; joins = record { a = Host 1; b = Port 0 0 } ∷ [] }) ≡ false
unfolding joined_to has_no_gap
gap-unfit = refl

-- eight cubes in a row, each joined by its port 1 to port 0 of the next
abbrev pub chain : GraphFields
chain = record {
  cubes = 8;
  joins = ports_joined 0 1 1 0 ∷ ports_joined 1 1 2 0 ∷ ports_joined 2 1 3 0 ∷ ports_joined 3 1 4 0 ∷ ports_joined 4 1 5 0 ∷ ports_joined 5 1 6 0 ∷ ports_joined 6 1 7 0 ∷ [];
}

pub chain-is_graph : IsGraph chain
unfolding joined_to has_no_gap
chain-is_graph = record { some_cubes = lit≤ tt; few_cubes = lit≤ tt; ends_exist = refl; joined_once = refl; ends_apart = refl; no_gap = refl }

abbrev pub chain-hops : ℕ → ℕ
chain-hops cube = slice_index_or (7 ∷ 6 ∷ 5 ∷ 4 ∷ 3 ∷ 2 ∷ 1 ∷ 0 ∷ []) cube 0

chain-distances : certifies chain 7 chain-hops ≡ true
unfolding joined_to
chain-distances = refl

chain-port : port_to_cube chain 7 3 ≡ Some 1
unfolding joined_to
chain-port = certified-port chain 7 3 chain-hops chain-is_graph (lit< tt) (lit< tt) chain-distances

-- numbers of which one is one too great aren't the distances
chain-wrong : certifies chain 7 (λ cube. slice_index_or (8 ∷ 6 ∷ 5 ∷ 4 ∷ 3 ∷ 2 ∷ 1 ∷ 0 ∷ []) cube 0) ≡ false
unfolding joined_to
chain-wrong = refl

-- eight cubes in a ring, each joined by its port 1 to port 0 of the next: from 0 to 4 both ways are
-- equally short, and the route takes port 0; back from 4 it takes port 0, too
abbrev pub ring : GraphFields
ring = record {
  cubes = 8;
  joins = ports_joined 0 1 1 0 ∷ ports_joined 1 1 2 0 ∷ ports_joined 2 1 3 0 ∷ ports_joined 3 1 4 0 ∷ ports_joined 4 1 5 0 ∷ ports_joined 5 1 6 0 ∷ ports_joined 6 1 7 0 ∷ ports_joined 7 1 0 0 ∷ [];
}

pub ring-is_graph : IsGraph ring
unfolding joined_to has_no_gap
ring-is_graph = record { some_cubes = lit≤ tt; few_cubes = lit≤ tt; ends_exist = refl; joined_once = refl; ends_apart = refl; no_gap = refl }

abbrev pub ring-hops : ℕ → ℕ
ring-hops cube = slice_index_or (4 ∷ 3 ∷ 2 ∷ 1 ∷ 0 ∷ 1 ∷ 2 ∷ 3 ∷ []) cube 0

ring-distances : certifies ring 4 ring-hops ≡ true
unfolding joined_to
ring-distances = refl

ring-port : port_to_cube ring 4 0 ≡ Some 0
unfolding joined_to
ring-port = certified-port ring 4 0 ring-hops ring-is_graph (lit< tt) (lit< tt) ring-distances

ring-nearer : port_to_cube ring 4 1 ≡ Some 1
unfolding joined_to
ring-nearer = certified-port ring 4 1 ring-hops ring-is_graph (lit< tt) (lit< tt) ring-distances

-- a star: cubes 1 to 4 are joined to the ports 0 to 3 of cube 0
abbrev pub star : GraphFields
star = record {
  cubes = 5;
  joins = ports_joined 0 0 1 0 ∷ ports_joined 0 1 2 0 ∷ ports_joined 3 2 0 2 ∷ ports_joined 0 3 4 3 ∷ [];
}

pub star-is_graph : IsGraph star
unfolding joined_to has_no_gap
star-is_graph = record { some_cubes = lit≤ tt; few_cubes = lit≤ tt; ends_exist = refl; joined_once = refl; ends_apart = refl; no_gap = refl }

abbrev pub star-hops : ℕ → ℕ
star-hops cube = slice_index_or (1 ∷ 2 ∷ 2 ∷ 0 ∷ 2 ∷ []) cube 0

star-distances : certifies star 3 star-hops ≡ true
unfolding joined_to
star-distances = refl

star-port : port_to_cube star 3 0 ≡ Some 2
unfolding joined_to
star-port = certified-port star 3 0 star-hops star-is_graph (lit< tt) (lit< tt) star-distances

star-in : port_to_cube star 3 4 ≡ Some 3
unfolding joined_to
star-in = certified-port star 3 4 star-hops star-is_graph (lit< tt) (lit< tt) star-distances
