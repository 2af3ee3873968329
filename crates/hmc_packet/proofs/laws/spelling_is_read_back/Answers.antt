use Rattle.hmc_packet.proofs.ReadOf.{read_of-spelling}
use Rattle.hmc_packet.proofs.LinkLemmas.{spelling-injective}
use Rattle.hmc_packet.proofs.laws.spelling_is_read_back.Goals as goal

pub returns-clause-read : goal.returns-clause-read
returns-clause-read c = read_of-spelling

pub returns-clause-packet : goal.returns-clause-packet
returns-clause-packet c = λ profile p q r s is-p pointer-p is-q pointer-q same. (spelling-injective profile p q r s is-p pointer-p is-q pointer-q same).0

pub returns-clause-pointer : goal.returns-clause-pointer
returns-clause-pointer c = λ profile p q r s is-p pointer-p is-q pointer-q same. (spelling-injective profile p q r s is-p pointer-p is-q pointer-q same).1
