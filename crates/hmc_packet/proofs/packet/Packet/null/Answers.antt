use Rattle.hmc_packet.proofs.PacketLemmas.{IsPacket-null}
use Rattle.hmc_packet.proofs.packet.Packet.null.Goals as goal

pub flow-requires : goal.flow-requires
flow-requires c = IsPacket-null
