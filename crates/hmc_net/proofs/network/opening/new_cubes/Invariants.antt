use Rattle.std.proofs.Common.{◌≡◌, length}
use Rattle.hmc_net.proofs.NewCubes.{AreFirstCubes}
use Rattle.hmc_net.proofs.network.opening.new_cubes.Given as goal

abbrev pub invariant-loop-i : goal.invariant-loop-i
invariant-loop-i l = record {
  counted : length l.cubes.items ≡ l.i;
  new : AreFirstCubes l.setups l.cubes.items;
}
