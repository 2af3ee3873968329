use Rattle.hmc_link_laws.proofs.Gathered.{gathered-as}
use Rattle.hmc_link_laws.proofs.PieceItems.{line-items}
use Rattle.hmc_link_laws.proofs.runs.items_are_of_flits.Goals as goal

pub returns-clause-line : goal.returns-clause-line
returns-clause-line c = line-items

pub returns-clause-far : goal.returns-clause-far
returns-clause-far c = gathered-as
