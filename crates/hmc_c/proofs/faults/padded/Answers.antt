-- The word is copied over zeros.
use Rattle.std.proofs.Common.{◌∙◌}
use Rattle.hmc_codes.proofs.BytesLemmas.{padded_by_copy}
use Rattle.hmc_c.proofs.faults.padded.Goals as goal

pub returns : goal.returns
returns c = padded_by_copy 16 c.args.word.now c.copy_from_slice.new.self (c.copy_from_slice.ensures.after ∙ c.as_bytes.ensures.value)
