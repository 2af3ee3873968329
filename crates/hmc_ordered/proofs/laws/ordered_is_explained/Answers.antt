use Rattle.hmc_ordered.proofs.Relabelled.{ordered_is_explained}
use Rattle.hmc_ordered.proofs.laws.ordered_is_explained.Goals as goal

pub returns : goal.returns
returns c = λ topology other opening log x. ordered_is_explained other topology opening log x
