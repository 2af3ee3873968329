-- By the law on answers.
use Rattle.hmc_vault.proofs.ExecuteLemmas.{answer_carried}
use Rattle.hmc_vault.proofs.execute.answer_to.Goals as goal

pub returns-clause-carried : goal.returns-clause-carried
returns-clause-carried g c = answer_carried _ _ _ _ _ _ _ _ c.invariant-2.ensures c.invariant-3.ensures c.invariant.ensures c.perform.ensures.outcome
