-- By the law of tags.
use Rattle.hmc_delivery.proofs.Awaited.{awaits_answers}
use Rattle.hmc_delivery.proofs.laws.lawful_awaits_answers.Goals as goal

pub returns : goal.returns
returns c = awaits_answers
