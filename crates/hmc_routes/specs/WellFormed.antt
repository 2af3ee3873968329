-- The graphs for which there are routes, apart from that all cubes have to be reached.
use Rattle.std.specs.Prelude.{◌≡◌, ◌≤◌, ◌==◌, ◌&&◌, ◌||◌, nat_lt, ℕ, Bool, true, false, not, is_some, List, [], ◌∷◌}
use Rattle.std.specs.List.{list_any, list_all}
use Rattle.hmc_codes.specs.Graph.{GraphFields}
use Rattle.hmc_codes.specs.Limits.{most_cubes, most_hosts, ports}
use Rattle.hmc_codes.specs.Numbers.{upto}
use Rattle.hmc_codes.specs.Places.{same_place}
use Rattle.hmc_codes.specs.declared.place.Join.{Join}
use Rattle.hmc_codes.specs.declared.place.Place.{Place}
use Rattle.hmc_codes.specs.declared.place.Place.TheVariants.{Host, Port}
use Rattle.hmc_routes.specs.Neighbours.{joined_to}

-- the places at which joins end
abbrev pub ends_of : List Join → List Place
ends_of [] = []
ends_of (join ∷ joins) = join.a ∷ join.b ∷ ends_of joins

-- there is such a host, or such a port of one of this many cubes
abbrev pub is_there : (cubes : ℕ) → Place → Bool
is_there cubes (Host host) = nat_lt host most_hosts
is_there cubes (Port cube port) = nat_lt cube cubes && nat_lt port ports

-- no place is in the list twice
abbrev pub are_distinct : List Place → Bool
are_distinct [] = true
are_distinct (place ∷ places) = not (list_any (same_place place) places) && are_distinct places

-- the two are neither two hosts nor two ports of one cube
abbrev pub may_be_joined : Place → Place → Bool
may_be_joined (Host host) (Host other) = false
may_be_joined (Port cube port) (Port other other_port) = not (cube == other)
may_be_joined _ _ = true

-- the host is joined to something
abbrev pub is_host_of : GraphFields → (host : ℕ) → Bool
is_host_of graph host = is_some (joined_to graph.joins (Host host))

-- each number below that of a host is a host's
unfoldable pub has_no_gap : GraphFields → Bool
has_no_gap graph =
    list_all (λ host. not (is_host_of graph host) || list_all (is_host_of graph) (upto host))
    (upto most_hosts)

-- What a graph has to be: 1 to 8 cubes; every end exists and is joined once; no join has two hosts
-- or two ports of one cube; and hosts are numbered from 0 without a gap.
pub record IsGraph (graph : GraphFields) : Type 0 where
  pub some_cubes : 1 ≤ graph.cubes
  pub few_cubes : graph.cubes ≤ most_cubes
  pub ends_exist : list_all (is_there graph.cubes) (ends_of graph.joins) ≡ true
  pub joined_once : are_distinct (ends_of graph.joins) ≡ true
  pub ends_apart : list_all (λ join. may_be_joined join.a join.b) graph.joins ≡ true
  pub no_gap : has_no_gap graph ≡ true
