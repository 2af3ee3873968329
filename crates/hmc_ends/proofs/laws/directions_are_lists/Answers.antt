use Rattle.hmc_ends.proofs.ListLaws.{list-handed, list-through, list-sent, list-gives, list-over}
use Rattle.hmc_ends.proofs.laws.directions_are_lists.Goals as goal

pub returns-clause-handed : goal.returns-clause-handed
returns-clause-handed c = list-handed

pub returns-clause-begun : goal.returns-clause-begun
returns-clause-begun c = list-through

pub returns-clause-sent : goal.returns-clause-sent
returns-clause-sent c = list-sent

pub returns-clause-landed : goal.returns-clause-landed
returns-clause-landed c = list-gives

pub returns-clause-left : goal.returns-clause-left
returns-clause-left c = list-over
