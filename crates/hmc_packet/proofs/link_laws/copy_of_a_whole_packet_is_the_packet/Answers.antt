use Rattle.hmc_packet.proofs.CopyLemmas.{flits-front, copied-same}
use Rattle.hmc_packet.proofs.link_laws.copy_of_a_whole_packet_is_the_packet.Goals as goal

pub returns-clause-bytes : goal.returns-clause-bytes
returns-clause-bytes c = flits-front

pub returns-clause-same : goal.returns-clause-same
returns-clause-same c = copied-same
