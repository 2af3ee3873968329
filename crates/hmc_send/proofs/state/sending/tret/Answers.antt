use Rattle.std.proofs.Common.{arith}
use Rattle.hmc_packet.proofs.PacketLemmas.{IsPacket-tret}
use Rattle.hmc_send.proofs.state.sending.tret.Goals as goal

pub flow-requires : goal.flow-requires
flow-requires c = IsPacket-tret 0 0 0 (omega arith) (omega arith) (omega arith)
