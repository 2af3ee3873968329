use Rattle.hmc_make.proofs.ChainLemmas.{chain-plan, is-plan}
use Rattle.hmc_make.proofs.plan.plan_of.Goals as goal

pub invariant_of-result : goal.invariant_of-result
invariant_of-result c = is-plan c.args.cubes c.in_ok-plans.plans.items c.requires.some c.requires.few c.in_ok-plans.ensures

pub returns : goal.returns
returns c = chain-plan c.args.cubes c.in_ok-plans.plans.items c.requires.some c.requires.few c.in_ok-plans.ensures
