-- By induction on the entries.
use Rattle.hmc_entries.proofs.InOrder.{lines_of-reverse}
use Rattle.hmc_entries.proofs.laws.lines_are_in_order.Goals as goal

pub returns : goal.returns
returns c = lines_of-reverse
