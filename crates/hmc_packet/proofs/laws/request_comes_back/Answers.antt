use Rattle.hmc_packet.proofs.TransactionLemmas.{IsPacket-request_packet, request_in-request_packet}
use Rattle.hmc_packet.proofs.laws.request_comes_back.Goals as goal

pub returns-clause-packet : goal.returns-clause-packet
returns-clause-packet c = IsPacket-request_packet

pub returns-clause-request : goal.returns-clause-request
returns-clause-request c = request_in-request_packet
