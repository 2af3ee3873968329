-- Line by line.
use Rattle.hmc_accesses.proofs.Sound.{trace_kept}
use Rattle.hmc_accesses.proofs.laws.read_is_trace.Goals as goal

pub returns : goal.returns
returns c = trace_kept
