use Rattle.hmc_packet.proofs.PacketLemmas.{flits_of-few}
use Rattle.hmc_packet.proofs.LinkLemmas.{length-spelling, AreFlits-spelling}
use Rattle.hmc_packet.proofs.laws.spelling_is_as_long_as_its_packet.Goals as goal

pub returns-clause-length : goal.returns-clause-length
returns-clause-length c = length-spelling

pub returns-clause-some : goal.returns-clause-some
returns-clause-some c = λ p is. (flits_of-few p is).0

pub returns-clause-few : goal.returns-clause-few
returns-clause-few c = λ p is. (flits_of-few p is).1

pub returns-clause-flits : goal.returns-clause-flits
returns-clause-flits c = λ profile p rrp k is lt. AreFlits-spelling profile p rrp is k lt
