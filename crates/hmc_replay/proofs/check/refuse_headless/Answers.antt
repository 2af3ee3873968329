-- The line as it is written is that of the definition.
use Rattle.hmc_replay.specs.CheckAnswer.{no_head_line}
use Rattle.hmc_replay.proofs.check.refuse_headless.Goals as goal

pub returns : goal.returns
unfolding no_head_line
returns g c = c.refuse_line.ensures
