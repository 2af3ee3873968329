use Rattle.hmc_packet.proofs.LinkLemmas.{flow-alone}
use Rattle.hmc_packet.proofs.laws.flow_packet_is_one_flit.Goals as goal

pub returns : goal.returns
returns c = flow-alone
