use Rattle.std.proofs.Common.{refl}
use Rattle.hmc_atomics.proofs.halves.block_becomes.Goals as goal

pub returns : goal.returns
returns c = rw c.to_le_bytes.ensures refl
