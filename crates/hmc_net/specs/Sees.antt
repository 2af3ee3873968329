-- What a step sees of a network.
use Rattle.std.specs.Prelude.{◌≡◌, ◌<◌, ℕ, length}
use Rattle.hmc_case.specs.Setup.{CubeSetupFields}
use Rattle.hmc_cube.specs.Cube.{CubeFields}
use Rattle.hmc_journal.specs.Queues.{QueueId}
use Rattle.hmc_journal.specs.Setup.{cubes_in, hosts_in, directions_in, cube_setup}
use Rattle.hmc_journal.specs.StepView.{StepView}
use Rattle.hmc_links.specs.LinkList.{LinksStandFor}
use Rattle.hmc_kept.specs.Pipes.{AreCounted, forwarded_at, pipe_at}
use Rattle.hmc_net.specs.NetState.{NetState, cube_in, inside, machine_in}
use Rattle.hmc_kept.specs.InCubes.{IsCubeQueue}
use Rattle.hmc_kept.specs.Hosts.{host_in}
use Rattle.hmc_kept.specs.Shown.{KeepsLaws}

-- a cube is as large as its setup says
pub record CubeFits (setup : CubeSetupFields) (cube : CubeFields) : Type 0 where
  pub shape : cube.state.shape ≡ setup.shape
  pub queue : cube.size ≡ setup.queue

-- the parts of a network are as many and as large as its topology says
pub record IsSized (net : NetState) : Type 0 where
  pub cubes : length net.cubes ≡ cubes_in net.topology
  pub hosts : length net.hosts ≡ hosts_in net.topology
  pub fits : (cube : ℕ) → cube < length net.cubes →
      CubeFits (cube_setup net.topology cube) (cube_in net.cubes cube)
  pub piped : AreCounted (directions_in net.topology) net.piped

-- the packets in the queues of a network's cubes, its memories, registers and logic units, its
-- hosts, what its links did, and the packets that are forwarded, are those of a view
pub record Shows (net : NetState) (view : StepView) : Type 0 where
  pub queues : (queue : QueueId) → IsCubeQueue queue →
      inside net.cubes queue ≡ view.inside queue
  pub state : machine_in net.cubes net.slots ≡ view.state
  pub hosts : (host : ℕ) → host < length net.hosts →
      host_in net.hosts host ≡ view.host host
  pub links : LinksStandFor net.topology.links net.links view.entries
  pub forwarded : (direction : ℕ) → direction < directions_in net.topology →
      forwarded_at net.piped direction ≡ view.forwarded direction
  pub pipes : (direction : ℕ) → direction < directions_in net.topology →
      pipe_at net.piped direction ≡ view.pipe direction

-- a step sees this of a network
pub record Sees (net : NetState) (view : StepView) : Type 0 where
  pub shows : Shows net view
  pub laws : KeepsLaws net.topology view

-- what a step may rely on: the sizes of the parts, and what it sees, whatever that is
pub record IsReady (net : NetState) : Type 0 where
  pub sized : IsSized net
  pub view : StepView
  pub sees : Sees net view
