-- Each entry is that of its own step.
use Rattle.hmc_growing.proofs.AddedStep.{same_entry, lawful_with, goes_on_with, network_with}
use Rattle.hmc_growing.proofs.laws.a_step_may_be_added.Goals as goal

pub returns-clause-same : goal.returns-clause-same
returns-clause-same c = same_entry

pub returns-clause-lawful : goal.returns-clause-lawful
returns-clause-lawful c = lawful_with

pub returns-clause-goes_on : goal.returns-clause-goes_on
returns-clause-goes_on c = goes_on_with

pub returns-clause-network : goal.returns-clause-network
returns-clause-network c = network_with
