use Rattle.std.proofs.Common.{◌≡◌, ◌++◌, drop, vec_len}
use Rattle.hmc_case.specs.Plan.{plans_of}
use Rattle.hmc_case.proofs.plan.plans_of.Given as goal

abbrev pub invariant-cubes : goal.invariant-cubes
invariant-cubes l = record {
  count : vec_len l.plans ≡ l.cube-index;
  so_far : l.plans.items ++ plans_of l.links l.cube-index (drop l.cube-index l.cubes) ≡ plans_of l.links 0 l.cubes;
}
