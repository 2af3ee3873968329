-- By the cases of the step.
use Rattle.hmc_growing.proofs.HostEnds.{end_is_give, give_is_end}
use Rattle.hmc_growing.proofs.laws.only_a_give_ends_a_host.Goals as goal

pub returns : goal.returns
returns c = λ setup past step host. (end_is_give setup past step host, give_is_end setup past step host)
