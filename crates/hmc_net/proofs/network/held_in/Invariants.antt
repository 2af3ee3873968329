-- The packets so far, fewer than 2 ^ 21 a cube.
use Rattle.std.proofs.Common.{◌≡◌, ◌≤◌, ◌*◌, take, sum_by}
use Rattle.hmc_cube.specs.Cube.{held_in_cube}
use Rattle.hmc_net.proofs.network.held_in.Given as goal

abbrev pub invariant-loop-cube : goal.invariant-loop-cube
invariant-loop-cube l = l.cube-index ≤ 8 → (l.held ≡ sum_by held_in_cube (take l.cube-index l.cubes)) × (l.held ≤ 2097152 * l.cube-index)
