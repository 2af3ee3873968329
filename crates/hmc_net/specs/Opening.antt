-- The network of a case at first.
use Rattle.std.specs.Prelude.{◌≡◌, ◌<◌, ℕ, List, [], length, slice_index_or, Option}
use Rattle.hmc_script.specs.Items.{ItemFields}
use Rattle.hmc_case.specs.Setup.{CubeSetupFields}
use Rattle.hmc_units.specs.Unit.{UnitFields}
use Rattle.hmc_cube.specs.Cube.{CubeFields, opening_cube}
use Rattle.hmc_journal.specs.Setup.{Topology, hosts_in, directions_in}
use Rattle.hmc_links.specs.LinkList.{LinksStandFor}
use Rattle.hmc_kept.specs.Pipes.{AreCounted, AreUnused}
use Rattle.hmc_net.specs.NetState.{NetState}
use Rattle.hmc_tally.specs.Tally.{opening_tally}
use Rattle.hmc_kept.specs.Hosts.{AreNewHosts}

-- empty cubes with these setups, numbered from 0
pub record AreNewCubes (setups : List CubeSetupFields) (cubes : List CubeFields) : Type 0 where
  pub counted : length cubes ≡ length setups
  pub each : (cube : ℕ) (d : CubeSetupFields) (e : CubeFields) → cube < length setups →
      slice_index_or cubes cube e
      ≡ opening_cube cube (slice_index_or setups cube d).shape (slice_index_or setups cube d).queue

-- Nothing happened: the cubes and the hosts are new, the logic units are those that were handed in,
-- no packet is forwarded, the links stand for no entries, and nothing is counted.
pub record IsOpening (net : NetState) (topology : Topology) (slots : List (Option UnitFields))
    (script : List ItemFields) : Type 0 where
  pub same_topology : net.topology ≡ topology
  pub same_slots : net.slots ≡ slots
  pub cubes : AreNewCubes topology.cubes net.cubes
  pub piped : AreCounted (directions_in topology) net.piped
  pub unused : AreUnused net.piped
  pub hosts : AreNewHosts (hosts_in topology) script net.hosts
  pub links : LinksStandFor topology.links net.links (λ link. [])
  pub tally : net.tally ≡ opening_tally topology
