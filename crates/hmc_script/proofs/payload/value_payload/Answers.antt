use Rattle.std.proofs.Common.{◌∙◌}
use Rattle.hmc_script.proofs.PayloadLemmas.{value_fits}
use Rattle.hmc_script.proofs.payload.value_payload.Goals as goal

pub returns-clause-fits : goal.returns-clause-fits
returns-clause-fits c =
    value_fits _ _ (c.copy_from_slice.ensures.after ∙ c.value_bytes.ensures) c.are_bytes.ensures
