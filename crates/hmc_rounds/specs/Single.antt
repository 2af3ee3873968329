-- A case of one cube and one link.
use Rattle.std.specs.Prelude.{◌≡◌, length}
use Rattle.hmc_journal.specs.Setup.{Topology}

pub record IsSingle (topology : Topology) : Type 0 where
  pub cubes : length topology.cubes ≡ 1
  pub links : length topology.links ≡ 1
