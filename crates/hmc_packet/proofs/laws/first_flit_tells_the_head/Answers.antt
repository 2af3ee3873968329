use Rattle.hmc_packet.proofs.LawLemmas.{sent-head}
use Rattle.hmc_packet.proofs.laws.first_flit_tells_the_head.Goals as goal

pub returns : goal.returns
returns c = sent-head
