use Rattle.hmc_send.proofs.SendRows.{choice_rows}
use Rattle.hmc_send.proofs.laws.sends_are_by_rows.Goals as goal

pub returns : goal.returns
returns c = choice_rows
