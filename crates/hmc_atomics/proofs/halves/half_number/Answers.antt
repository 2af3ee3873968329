use Rattle.hmc_atomics.proofs.halves.half_number.Goals as goal

pub returns : goal.returns
returns c = cc
