use Rattle.hmc_link_state.proofs.Keeps.{keeps}
use Rattle.hmc_link_state.proofs.Steady.{steadies, stays_steady}
use Rattle.hmc_link_state.proofs.Settled.{stays_settled}
use Rattle.hmc_link_state.proofs.Ready.{stays_ready}
use Rattle.hmc_link_state.proofs.each_round.Goals as goal

pub returns-clause-facts : goal.returns-clause-facts
returns-clause-facts c = keeps

pub returns-clause-steadies : goal.returns-clause-steadies
returns-clause-steadies c = steadies

pub returns-clause-steady : goal.returns-clause-steady
returns-clause-steady c = stays_steady

pub returns-clause-settled : goal.returns-clause-settled
returns-clause-settled c = stays_settled

pub returns-clause-ready : goal.returns-clause-ready
returns-clause-ready c = stays_ready
