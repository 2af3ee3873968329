use Rattle.hmc_packet.proofs.FrontLemmas.{front-same, SameHead-refl}
use Rattle.hmc_packet.proofs.laws.front_flits_do_not_depend_on_the_tail.Goals as goal

pub returns-clause-pointer : goal.returns-clause-pointer
returns-clause-pointer c = λ profile p r s is. front-same profile p p r s is is (SameHead-refl p)

pub returns-clause-tail : goal.returns-clause-tail
returns-clause-tail c = front-same
