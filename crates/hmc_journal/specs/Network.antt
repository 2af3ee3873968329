-- What the laws of journals presume of a case: a network whose parts fit one another.
use Rattle.std.specs.Prelude.{◌≡◌, ◌≤◌, ℕ, nat_lt, All, length}
use Rattle.hmc_codes.specs.Limits.{most_links, most_hosts}
use Rattle.hmc_codes.specs.Link.{IsLinkSetup}
use Rattle.hmc_codes.specs.Request.{IsRequest}
use Rattle.hmc_routes.specs.Parted.{InOnePart}
use Rattle.hmc_routes.specs.WellFormed.{IsGraph, is_host_of}
use Rattle.hmc_script.specs.Items.{ItemFields, IsWithin}
use Rattle.hmc_schedule.specs.Plan.{HasFlit}
use Rattle.hmc_case.specs.Setup.{IsCubeSetup}
use Rattle.hmc_journal.specs.Setup.{Setup, cubes_in, hosts_in, graph_of}

-- a good request of one of so many hosts to one of so many cubes
pub record IsItemOf (hosts cubes : ℕ) (item : ItemFields) : Type 0 where
  pub within : IsWithin hosts cubes item
  pub request : IsRequest item.request

-- what every case keeps, whatever its topology
pub record IsNetwork (setup : Setup) : Type 0 where
  pub some_hosts : 1 ≤ hosts_in setup.topology
  pub few_hosts : hosts_in setup.topology ≤ most_hosts
  pub few_links : length setup.topology.links ≤ most_links
  -- the cubes and hosts, what the links join, and that walks lead from each cube to each
  pub graph : IsGraph (graph_of setup.topology)
  pub one_part : InOnePart (graph_of setup.topology)
  -- a host has a link exactly where its number is below that of the hosts
  pub hosts : (host : ℕ) →
      is_host_of (graph_of setup.topology) host ≡ nat_lt host (hosts_in setup.topology)
  -- the sizes of cubes and links, the requests of the script, and the masks of the schedule
  pub cubes : All IsCubeSetup setup.topology.cubes
  pub sizes : All (λ link. IsLinkSetup link.setup) setup.topology.links
  pub items : All (IsItemOf (hosts_in setup.topology) (cubes_in setup.topology)) setup.script
  pub masks : All HasFlit setup.schedule
