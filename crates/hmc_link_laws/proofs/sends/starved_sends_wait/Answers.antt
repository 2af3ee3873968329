use Rattle.hmc_link_laws.proofs.Choosing.{starved-where}
use Rattle.hmc_link_laws.proofs.sends.starved_sends_wait.Goals as goal

pub returns : goal.returns
returns c = starved-where
