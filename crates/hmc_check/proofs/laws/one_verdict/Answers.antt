-- There is one whole journal.
use Rattle.hmc_check.proofs.SomeVerdict.{a_verdict}
use Rattle.hmc_check.proofs.Verdicts.{apart, one_count, one_least}
use Rattle.hmc_check.proofs.laws.one_verdict.Goals as goal

pub returns-clause-some : goal.returns-clause-some
returns-clause-some c = a_verdict

pub returns-clause-apart : goal.returns-clause-apart
returns-clause-apart c = apart

pub returns-clause-one : goal.returns-clause-one
returns-clause-one c = one_count

pub returns-clause-least : goal.returns-clause-least
returns-clause-least c = one_least
