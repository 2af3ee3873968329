use Rattle.hmc_make.proofs.ChainLemmas.{same-list, cubes-alike}
use Rattle.hmc_make.proofs.chain.cubes_of.Goals as goal
use Rattle.hmc_make.specs.Chain.{cube}

pub returns : goal.returns
returns c = same-list (λ v. v.items) c.cube_each.result _ _ (cubes-alike cube 0 c.args.cubes) c.cube_each.ensures
