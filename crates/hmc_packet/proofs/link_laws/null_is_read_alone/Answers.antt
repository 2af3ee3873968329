use Rattle.hmc_packet.proofs.AloneLemmas.{read_of-null}
use Rattle.hmc_packet.proofs.link_laws.null_is_read_alone.Goals as goal

pub returns : goal.returns
returns c = read_of-null
