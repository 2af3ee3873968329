-- The line ends with a line feed.
use Rattle.hmc_log.proofs.Writing.{state_ends}
use Rattle.hmc_log.proofs.end_read.is_state_line.Goals as goal

pub is_line-requires : goal.is_line-requires
is_line-requires c = rw c.state_line.ensures.text (state_ends c.args.drained)
