use Rattle.hmc_link_laws.proofs.Choosing.{null-last, null-sent}
use Rattle.hmc_link_laws.proofs.sends.nulls_come_last.Goals as goal

pub returns-clause-rows : goal.returns-clause-rows
returns-clause-rows c = null-last

pub returns-clause-null : goal.returns-clause-null
returns-clause-null c = null-sent
