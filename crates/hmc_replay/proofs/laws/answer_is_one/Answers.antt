-- Case by case, of the forms and of what is due.
use Rattle.hmc_replay.proofs.OneAnswer.{answer_status}
use Rattle.hmc_replay.proofs.OneAnswer as one
use Rattle.hmc_replay.proofs.laws.answer_is_one.Goals as goal

pub returns-clause-status : goal.returns-clause-status
returns-clause-status c = λ form slots input here there first second a b. (one.answer_is_one form slots input here there first second a b).0

pub returns-clause-lines : goal.returns-clause-lines
returns-clause-lines c = λ form slots input here there first second a b. (one.answer_is_one form slots input here there first second a b).1

pub returns-clause-own : goal.returns-clause-own
returns-clause-own c = λ form slots input status lines a. answer_status form slots input status lines a
