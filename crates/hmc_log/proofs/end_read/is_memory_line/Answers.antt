-- The line ends with a line feed.
use Rattle.hmc_log.proofs.Writing.{memory_ends}
use Rattle.hmc_log.proofs.end_read.is_memory_line.Goals as goal

pub is_line-requires : goal.is_line-requires
is_line-requires c = rw c.memory_line.ensures.text (memory_ends _ _ _)
