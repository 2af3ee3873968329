-- When nothing is on its way in a network.
use Rattle.std.specs.Prelude.{◌≡◌, All}
use Rattle.hmc_cube.specs.Cube.{CubeFields, held_in_cube}
use Rattle.hmc_net.specs.NetState.{NetState}
use Rattle.hmc_links.specs.Quiet.{IsQuietLink}

-- no queue of a cube holds a packet
abbrev pub IsEmptyCube : CubeFields → Type 0
IsEmptyCube cube = held_in_cube cube ≡ 0

-- nothing is on its way in any part
pub record IsQuiescent (net : NetState) : Type 0 where
  pub links : All IsQuietLink net.links
  pub cubes : All IsEmptyCube net.cubes
