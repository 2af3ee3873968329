-- The flits of short packets are counted in 32 bits.
use Rattle.std.proofs.Common.{arith}
use Rattle.hmc_tokens.proofs.PacketLemmas.{one_more_fits}
use Rattle.hmc_tokens.proofs.packets.PacketList.push_back.Goals as goal

pub overflow_add-self : goal.overflow_add-self
overflow_add-self c =
    omega (arith, c.from.ensures, c.flits.ensures.few, one_more_fits c.self.inside.packets.items c.self.inside.most c.self.inside.packets.capacity c.self.inside.flits c.flits.result c.self.invariant c.flits.ensures.few)
