use Rattle.hmc_step_text.proofs.Printed.{printed_steps_are_read}
use Rattle.hmc_step_text.proofs.laws.printed_steps_are_read.Goals as goal

pub returns : goal.returns
returns c = printed_steps_are_read
