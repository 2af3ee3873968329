use Rattle.hmc_codes.proofs.BytesLemmas.{padded_by_copy}
use Rattle.hmc_serial.proofs.blocks.operand.Goals as goal

pub returns : goal.returns
returns c = padded_by_copy 16 c.args.payload.now _ c.copy_from_slice.ensures.after
