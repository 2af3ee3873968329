use Rattle.hmc_c.proofs.Bits.{kinds_by_bits}
use Rattle.hmc_c.proofs.laws.a_bit_stands_for_a_kind.Goals as goal

pub returns : goal.returns
returns c = kinds_by_bits
