use Rattle.hmc_forwarded.proofs.Sending.{filled}
use Rattle.hmc_forwarded.proofs.laws.networks_send_copies.Goals as goal

pub returns : goal.returns
returns c = filled
