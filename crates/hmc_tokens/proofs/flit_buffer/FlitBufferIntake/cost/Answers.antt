use Rattle.std.proofs.Common.{◌∙◌}
use Rattle.hmc_tokens.proofs.flit_buffer.FlitBufferIntake.cost.Goals as goal

pub returns : goal.returns
returns c = c.from.ensures ∙ c.flits.ensures.value
