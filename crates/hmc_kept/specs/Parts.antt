-- What is kept of a case before its first step.
use Rattle.std.specs.Prelude.{◌≡◌, List}
use Rattle.hmc_case.specs.Case.{CaseFields}
use Rattle.hmc_host.specs.Host.{HostFields}
use Rattle.hmc_script.specs.Items.{ItemFields}
use Rattle.hmc_journal.specs.Setup.{Topology, hosts_in, directions_in}
use Rattle.hmc_tally.specs.Tally.{TallyFields, opening_tally}
use Rattle.hmc_kept.specs.Hosts.{AreNewHosts}
use Rattle.hmc_kept.specs.Pipes.{PipesHeld, AreCounted, AreUnused}

-- the cubes and links of a case
abbrev pub topology_in : CaseFields → Topology
topology_in case = record { cubes = case.net.cubes; links = case.net.links }

-- nothing happened yet: the hosts are new, no packet is forwarded, and nothing is counted
pub record AreNewParts (topology : Topology) (script : List ItemFields) (own : Topology)
    (hosts : List HostFields) (piped : PipesHeld) (tally : TallyFields) : Type 0 where
  pub same_topology : own ≡ topology
  pub new_hosts : AreNewHosts (hosts_in topology) script hosts
  pub counted : AreCounted (directions_in topology) piped
  pub unused : AreUnused piped
  pub uncounted : tally ≡ opening_tally topology
