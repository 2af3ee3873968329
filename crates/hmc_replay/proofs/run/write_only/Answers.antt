use Rattle.hmc_replay.proofs.Writing.{ended_early}
use Rattle.hmc_replay.proofs.run.write_only.Goals as goal

pub returns-in_err-write_line : goal.returns-in_err-write_line
returns-in_err-write_line g c = ended_early _ _ _ c.in_err-write_line.field-0.0 c.from_residual.result c.from_residual.ensures.1 c.in_err-write_line.ensures
