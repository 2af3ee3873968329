use Rattle.hmc_link_state.proofs.StepFacts.{facts_after, same_ack}
use Rattle.hmc_link_state.proofs.Empty.{empty}
use Rattle.hmc_link_state.proofs.lawful.Goals as goal

pub returns-clause-facts : goal.returns-clause-facts
returns-clause-facts c = facts_after

pub returns-clause-shown : goal.returns-clause-shown
returns-clause-shown c = λ p s x y w a b. same_ack p s w x y (a, b)

pub returns-clause-empty : goal.returns-clause-empty
returns-clause-empty c = empty
