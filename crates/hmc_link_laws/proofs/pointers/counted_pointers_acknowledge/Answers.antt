use Rattle.hmc_link_laws.proofs.Acknowledging.{acknowledges, all-acknowledge}
use Rattle.hmc_link_laws.proofs.pointers.counted_pointers_acknowledge.Goals as goal

pub returns-clause-one : goal.returns-clause-one
returns-clause-one c = acknowledges

pub returns-clause-each : goal.returns-clause-each
returns-clause-each c = all-acknowledge
