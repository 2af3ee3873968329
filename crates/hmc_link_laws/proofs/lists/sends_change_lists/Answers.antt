use Rattle.hmc_link_laws.proofs.CallLists.{send-list}
use Rattle.hmc_link_laws.proofs.lists.sends_change_lists.Goals as goal

pub returns : goal.returns
returns c = send-list
