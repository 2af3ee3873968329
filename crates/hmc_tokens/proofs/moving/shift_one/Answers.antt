use Rattle.hmc_tokens.proofs.moving.shift_one.Goals as goal

pub returns-clause-out : goal.returns-clause-out
returns-clause-out g c = c.drop_front.ensures.rest
