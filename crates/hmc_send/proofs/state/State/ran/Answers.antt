use Rattle.hmc_send.proofs.Parts.{stands-ran}
use Rattle.hmc_send.proofs.state.State.ran.Goals as goal

pub returns-clause-stands : goal.returns-clause-stands
returns-clause-stands c = λ past stands. stands-ran c.args.self.now past stands
