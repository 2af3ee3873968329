-- By what is known of a performed request.
use Rattle.hmc_serial.proofs.AnswerLemmas.{performed_is_carried}
use Rattle.hmc_serial.proofs.laws.answers_can_be_carried.Goals as goal

pub returns-clause-silent : goal.returns-clause-silent
returns-clause-silent c = λ cube slots request kept is. (performed_is_carried cube slots request kept is).silent

pub returns-clause-carried : goal.returns-clause-carried
returns-clause-carried c = λ cube slots request kept is. (performed_is_carried cube slots request kept is).carried

pub returns-clause-fits : goal.returns-clause-fits
returns-clause-fits c = λ cube slots request kept is. (performed_is_carried cube slots request kept is).fits
