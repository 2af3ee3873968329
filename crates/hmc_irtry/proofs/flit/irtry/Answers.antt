use Rattle.hmc_irtry.proofs.flit.irtry.Goals as goal

pub returns : goal.returns
returns c = c.irtry_flit.ensures
