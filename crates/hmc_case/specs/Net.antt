-- The cubes and links of a case.
use Rattle.std.specs.Prelude.{◌≡◌, ◌≤◌, ℕ, nat_lt, List, length, Result, Ok}
use Rattle.std.specs.List.{All}
use Rattle.toml.specs.Data.{Items}
use Rattle.hmc_codes.specs.Limits.{most_memory, most_hosts, most_links}
use Rattle.hmc_codes.specs.Link.{IsLinkSetup}
use Rattle.hmc_codes.specs.declared.profile.Profile.{Profile}
use Rattle.hmc_routes.specs.Parted.{InOnePart}
use Rattle.hmc_routes.specs.WellFormed.{IsGraph, is_host_of}
use Rattle.hmc_text.specs.Reading.{◌>>=◌}
use Rattle.hmc_case.specs.Cubes.{cubes_of}
use Rattle.hmc_case.specs.Graph.{graph_of, in_one_part}
use Rattle.hmc_case.specs.Links.{links_of}
use Rattle.hmc_case.specs.Reading.{Fault, in_section}
use Rattle.hmc_case.specs.Setup.{CubeSetupFields, IsCubeSetup}
use Rattle.hmc_case.specs.Together.{total_capacity, in_capacity, hosts_of, host_count, count_from_zero}
use Rattle.hmc_case.specs.declared.fault.Section.TheVariants.{Net}
use Rattle.hmc_case.specs.declared.setup.LinkRow.{LinkRow}

-- the cubes and links, and the number of hosts
pub record NetFields : Type 0 where
  pub cubes : List CubeSetupFields
  pub links : List LinkRow
  pub hosts : ℕ

-- these cubes and links, with the hosts that the links join
abbrev pub net_with : List CubeSetupFields → List LinkRow → NetFields
net_with cubes links = record { cubes = cubes; links = links; hosts = host_count links }

-- The cubes come first, then what they are together, then the links and what these are together.
unfoldable pub net_of : Profile → Items → Items → Result NetFields Fault
net_of profile cube_values link_values = do
  cubes ← cubes_of profile cube_values
  capacity ← in_section Net 0 (in_capacity cubes)
  links ← links_of profile (length cubes) link_values
  hosts ← in_section Net 0 (count_from_zero (hosts_of links))
  one_part ← in_section Net 0 (in_one_part (graph_of (length cubes) links))
  Ok (record { cubes = cubes; links = links; hosts = hosts })

-- What the cubes and links of every case keep. `graph` has 1 to 8 cubes; every end exists and ends
-- one link alone; no link joins two hosts or two ports of one cube.
pub record IsNet (net : NetFields) : Type 0 where
  pub cubes : All IsCubeSetup net.cubes
  pub capacity : total_capacity net.cubes ≤ most_memory
  pub some_links : 1 ≤ length net.links
  pub few_links : length net.links ≤ most_links
  pub sizes : All (λ link. IsLinkSetup link.setup) net.links
  pub graph : IsGraph (graph_of (length net.cubes) net.links)
  pub one_part : InOnePart (graph_of (length net.cubes) net.links)
  -- the hosts are numbered from 0, and each has a link
  pub some_hosts : 1 ≤ net.hosts
  pub few_hosts : net.hosts ≤ most_hosts
  pub all_hosts : net.hosts ≡ host_count net.links
  pub hosts : (host : ℕ) →
      is_host_of (graph_of (length net.cubes) net.links) host ≡ nat_lt host net.hosts
