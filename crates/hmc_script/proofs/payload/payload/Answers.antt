use Rattle.hmc_script.proofs.PayloadLemmas.{short_payload}
use Rattle.hmc_script.proofs.payload.payload.Goals as goal

pub made-requires : goal.made-requires
made-requires c =
    short_payload c.args.command c.in_ok-operand.field-0.now c.in_ok-operand.ensures.fits
