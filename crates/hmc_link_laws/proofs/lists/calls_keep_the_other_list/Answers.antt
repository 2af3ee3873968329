use Rattle.hmc_link_laws.proofs.CallLists.{other-list}
use Rattle.hmc_link_laws.proofs.lists.calls_keep_the_other_list.Goals as goal

pub returns : goal.returns
returns c = other-list
