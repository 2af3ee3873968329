use Rattle.hmc_packet.proofs.PacketLemmas.{IsPacket-pret, IsPacket-tret}
use Rattle.hmc_packet.proofs.AloneLemmas.{IsPacket-irtry_packet}
use Rattle.hmc_packet.proofs.link_laws.packets_of_an_end_are_packets.Goals as goal

pub returns-clause-pret : goal.returns-clause-pret
returns-clause-pret c = IsPacket-pret

pub returns-clause-tret : goal.returns-clause-tret
returns-clause-tret c = IsPacket-tret

pub returns-clause-irtry : goal.returns-clause-irtry
returns-clause-irtry c = IsPacket-irtry_packet
