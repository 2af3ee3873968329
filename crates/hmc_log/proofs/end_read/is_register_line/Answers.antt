-- The line ends with a line feed.
use Rattle.hmc_log.proofs.Writing.{register_ends}
use Rattle.hmc_log.proofs.end_read.is_register_line.Goals as goal

pub is_line-requires : goal.is_line-requires
is_line-requires c = rw c.register_line.ensures.text (register_ends _ _ _)
