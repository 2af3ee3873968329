use Rattle.std.proofs.Common.{arith}
use Rattle.hmc_ends.proofs.feed.slice_is_bytes.Goals as goal

pub returns : goal.returns
returns c = λ k. omega (arith, c.type_inv.bytes k)
