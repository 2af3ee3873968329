-- A line broke off.
use Rattle.hmc_replay.proofs.Writing.{ended_early}
use Rattle.hmc_replay.proofs.trace.write_script.Goals as goal

pub returns-in_err-write_items : goal.returns-in_err-write_items
returns-in_err-write_items g c =
    ended_early _ _ _ c.in_err-write_items.field-0.0 c.from_residual.result
    c.from_residual.ensures.1 c.in_err-write_items.ensures
