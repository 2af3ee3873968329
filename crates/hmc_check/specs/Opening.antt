-- What is kept before the first line.
use Rattle.std.specs.Prelude.{◌≡◌, ◌^◌, List, [], Option, map}
use Rattle.hmc_case.specs.Setup.{CubeSetupFields}
use Rattle.hmc_codes.specs.Shape.{ShapeFields}
use Rattle.hmc_queues.specs.Queues.{CubeQueuesFields, opening_queues}
use Rattle.hmc_queues.specs.declared.queues.QueuesSetup.{QueuesSetup}
use Rattle.hmc_script.specs.Items.{ItemFields}
use Rattle.hmc_serial.specs.Machine.{openings_from}
use Rattle.hmc_units.specs.Unit.{UnitFields}
use Rattle.hmc_journal.specs.Setup.{Topology, hosts_in, directions_in}
use Rattle.hmc_kept.specs.Hosts.{AreNewHosts}
use Rattle.hmc_kept.specs.Pipes.{AreCounted, AreUnused}
use Rattle.hmc_directions.specs.Ends.{EndsHold}
use Rattle.hmc_tally.specs.Tally.{opening_tally}
use Rattle.hmc_check.specs.Past.{PastFields}

-- how many queues a cube has
abbrev pub queues_setup : CubeSetupFields → QueuesSetup
queues_setup setup = record {
  vaults = 2 ^ setup.shape.vault_bits;
  banks = 2 ^ setup.shape.bank_bits;
  size = setup.queue;
}

-- the numbers of queues of cubes, and their shapes
abbrev pub sizes_of : List CubeSetupFields → List QueuesSetup
sizes_of setups = map (λ setup. queues_setup setup) setups

abbrev pub shapes_of : List CubeSetupFields → List ShapeFields
shapes_of setups = map (λ setup. setup.shape) setups

-- the queues of cubes, in which no packet waits
abbrev pub new_queues : List CubeSetupFields → List CubeQueuesFields
new_queues setups = map opening_queues (sizes_of setups)

-- Nothing happened: no packet waits, the machine and the hosts are new, the logic units are those
-- that were handed in, no packet is forwarded, the ends stand for no entries, and nothing is
-- counted.
pub record IsOpening (p : PastFields) (topology : Topology) (slots : List (Option UnitFields))
    (script : List ItemFields) : Type 0 where
  pub same_topology : p.topology ≡ topology
  pub queues : p.queues ≡ new_queues topology.cubes
  pub cubes : p.cubes ≡ openings_from 0 (shapes_of topology.cubes)
  pub same_slots : p.slots ≡ slots
  pub hosts : AreNewHosts (hosts_in topology) script p.hosts
  pub ends : EndsHold topology.links p.ends (λ link. [])
  pub piped : AreCounted (directions_in topology) p.piped
  pub unused : AreUnused p.piped
  pub tally : p.tally ≡ opening_tally topology
