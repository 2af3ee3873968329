-- The cubes so far.
use Rattle.std.proofs.Common.{◌<◌, ℕ}
use Rattle.std.specs.Prelude.{slice_index_or}
use Rattle.hmc_cube.specs.Cube.{CubeFields}
use Rattle.hmc_cube.specs.Parts.{AreParts}
use Rattle.hmc_net.proofs.network.are_cubes.Given as goal

abbrev pub invariant-loop-cube : goal.invariant-loop-cube
invariant-loop-cube l = (k : ℕ) (d : CubeFields) → k < l.cube-index → AreParts (slice_index_or l.cubes k d)
